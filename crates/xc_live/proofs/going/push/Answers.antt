use Rattle.std.proofs.Common.{◌≡◌, ◌+◌, ◌-◌, Some}
use Rattle.xc_station.specs.Stations.{now_of, setting_of}
use Rattle.xc_live.proofs.Settled.{asking_moved, entries_fall}
use Rattle.xc_live.proofs.Yielded.{asks_on, gave_way, gives_entry, gives_lives, gives_undoes, holder_there, journal_mid}
use Rattle.xc_live.proofs.going.push.Goals as goal

pub returns-in_default : goal.returns-in_default
returns-in_default g c =
    record {
      yielded = λ e. cc e;
      moved = λ e. asking_moved g.H.Host.model c.args.client c.requires.first c.args.station.now c.turn.new.self c.turn.result
          (c.turn.ensures.row, c.turn.ensures.same) c.in_default.not-Busy;
      falls = λ e. cc e;
    }

pub unreachable-requires : goal.unreachable-requires
unreachable-requires g c =
    let asks = c.requires.asks in
    let old = c.args.station.now in
    let mid = c.turn.new.self in
    let way = holder_there g.H.Host.model c.args.client c.requires.first old mid mid mid c.in-Busy.object c.in-Busy.holder
    (c.in-Busy.ensures.row, c.in-Busy.ensures.same) asks.0 asks.1 asks.2 in
    c.in_default-job_of.not-Some (way.0 + 1) (c.job_of.ensures.only way.0 way.1 way.2 way.3)

pub turn-requires-2 : goal.turn-requires-2
turn-requires-2 g c =
    let asks = c.requires.asks in
    let old = c.args.station.now in
    let mid = c.turn.new.self in
    gives_lives g.H.Host.model c.args.client c.requires.first old mid mid mid c.in-Busy.object c.in-Busy.holder
    (c.in-Busy.ensures.row, c.in-Busy.ensures.same) asks.0 asks.1 asks.2 c.in-Some.victim
    (λ at rival active is. let same : Some c.in-Some.victim ≡ Some (at + 1) = c.in-Some.ensures.only at rival active is in cc same)

pub finish_undo-requires : goal.finish_undo-requires
finish_undo-requires g c =
    let asks = c.requires.asks in
    let old = c.args.station.now in
    let mid = c.turn.new.self in
    let turned = c.turn-2.new.self in (
      _,
      gives_undoes g.H.Host.model c.args.client c.requires.first old mid turned turned c.in-Busy.object c.in-Busy.holder
          (c.in-Busy.ensures.row, c.in-Busy.ensures.same) asks.0 asks.1 asks.2 c.in-Some.victim
          (λ at rival active is. let same : Some c.in-Some.victim ≡ Some (at + 1) = c.in-Some.ensures.only at rival active is in cc same)
          c.turn-2.result (c.turn-2.ensures.row, c.turn-2.ensures.same),
    )

pub returns-clause-yielded : goal.returns-clause-yielded
returns-clause-yielded g c e tx asked asks =
    let model = g.H.Host.model in
    let client = c.args.client in
    let first = c.requires.first in
    let old = c.args.station.now in
    let mid = c.turn.new.self in
    let turned = c.turn-2.new.self in
    let new = c.finish_undo.new.self in (
      c.in-Some.victim,
      gave_way model client first old mid turned new c.in-Busy.object c.in-Busy.holder (c.in-Busy.ensures.row, c.in-Busy.ensures.same) tx asked asks
          c.in-Some.victim
          (λ at rival active is. let same : Some c.in-Some.victim ≡ Some (at + 1) = c.in-Some.ensures.only at rival active is in cc same)
          c.turn-2.result (c.turn-2.ensures.row, c.turn-2.ensures.same) c.finish_undo.ensures.entered c.finish_undo.ensures.turns,
      asks_on model client first old mid turned new c.in-Busy.object c.in-Busy.holder (c.in-Busy.ensures.row, c.in-Busy.ensures.same) tx asked asks
          c.in-Some.victim
          (λ at rival active is. let same : Some c.in-Some.victim ≡ Some (at + 1) = c.in-Some.ensures.only at rival active is in cc same)
          c.turn-2.result (c.turn-2.ensures.row, c.turn-2.ensures.same) c.finish_undo.ensures.entered c.finish_undo.ensures.turns,
    )

pub returns-clause-falls : goal.returns-clause-falls
returns-clause-falls g c e =
    let asks = c.requires.asks in
    let model = g.H.Host.model in
    let client = c.args.client in
    let old = c.args.station.now in
    let mid = c.turn.new.self in
    let turned = c.turn-2.new.self in
    let new = c.finish_undo.new.self in
    entries_fall c.in-Some.victim _ old.journal mid.journal new.journal
    (gives_entry model client c.requires.first old mid turned new c.in-Busy.object c.in-Busy.holder
    (c.in-Busy.ensures.row, c.in-Busy.ensures.same) asks.0 asks.1 asks.2 c.in-Some.victim
    (λ at rival active is. let same : Some c.in-Some.victim ≡ Some (at + 1) = c.in-Some.ensures.only at rival active is in cc same)
    c.turn-2.result (c.turn-2.ensures.row, c.turn-2.ensures.same) c.finish_undo.ensures.entered c.finish_undo.ensures.turns)
    (journal_mid (setting_of model old) (client - 1) asks.0 asks.1 (now_of model old) asks.2 (now_of model mid) c.in-Busy.object c.in-Busy.holder
    c.in-Busy.ensures.row)
    c.turn.ensures.event.few
