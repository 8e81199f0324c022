use Rattle.std.proofs.Common.{Some, length, ap, sym, ◌∙◌, subst}
use Rattle.xc_model.specs.declared.phase.Phase.TheVariants.{Committing, Undoing}
use Rattle.xc_live.specs.Ended.{IsEnteredBehind}
use Rattle.xc_live.proofs.Made.{begun_first, end_alone, end_asked, end_committed, end_journal, end_runs_not, end_some, end_undone}
use Rattle.xc_live.proofs.Made.{end_asks}
use Rattle.xc_live.proofs.Settled.{asking_lives}
use Rattle.xc_live.proofs.going.finish.Goals as goal

pub turn-requires : goal.turn-requires
turn-requires g c =
    let model = g.H.Host.model in
    let b = c.requires.begun in
    let old = c.args.station.now in
    let asks = end_asks model c.args.client b.0 old c.requires.desk b.1 c.args.ask c.requires.ends c.hand_in.new.self c.hand_in.ensures.same
    c.hand_in.ensures.handed in
    asking_lives model c.args.client (begun_first model c.args.client b.0 old c.requires.desk b.1) c.hand_in.new.self b.0 c.args.ask asks

pub roll_back-entry-requires-clause-asked : goal.roll_back-entry-requires-clause-asked
roll_back-entry-requires-clause-asked g c =
    let b = c.requires.begun in (
      b.0,
      c.args.ask,
      end_asked g.H.Host.model c.args.client b.0 c.args.station.now c.requires.desk b.1 c.args.ask c.requires.ends c.hand_in.new.self
          c.hand_in.ensures.same c.hand_in.ensures.handed c.turn.new.self c.turn.result (c.turn.ensures.row, c.turn.ensures.same),
    )

pub commit-entry-requires-clause-asked : goal.commit-entry-requires-clause-asked
commit-entry-requires-clause-asked g c =
    let b = c.requires.begun in (
      b.0,
      c.args.ask,
      end_asked g.H.Host.model c.args.client b.0 c.args.station.now c.requires.desk b.1 c.args.ask c.requires.ends c.hand_in.new.self
          c.hand_in.ensures.same c.hand_in.ensures.handed c.turn.new.self c.turn.result (c.turn.ensures.row, c.turn.ensures.same),
    )

pub unreachable-requires : goal.unreachable-requires
unreachable-requires g c =
    let b = c.requires.begun in
    end_runs_not g.H.Host.model c.args.client b.0 c.args.station.now c.requires.desk b.1 c.args.ask c.requires.ends c.hand_in.new.self
    c.hand_in.ensures.same c.hand_in.ensures.handed c.turn.new.self c.turn.result (c.turn.ensures.row, c.turn.ensures.same)
    (sym c.phase.ensures ∙ c.in-Some-Running.is ∙ ap Some c.in-Some-Running.field-0-is)

pub unreachable-requires-in-None : goal.unreachable-requires-in-None
unreachable-requires-in-None g c =
    let b = c.requires.begun in
    end_some g.H.Host.model c.args.client b.0 c.args.station.now c.requires.desk b.1 c.args.ask c.requires.ends c.hand_in.new.self
    c.hand_in.ensures.same c.hand_in.ensures.handed c.turn.new.self c.turn.result (c.turn.ensures.row, c.turn.ensures.same)
    (sym c.phase.ensures ∙ c.in-None.is)

pub returns-in-Some-Undoing-clause-ended : goal.returns-in-Some-Undoing-clause-ended
returns-in-Some-Undoing-clause-ended g c =
    let model = g.H.Host.model in
    let b = c.requires.begun in
    let old = c.args.station.now in
    let told = sym c.phase.ensures ∙ c.in-Some-Undoing.is ∙ ap Some c.in-Some-Undoing.field-0-is in
    let left = c.roll_back-entry.ensures.left in
    let same = end_journal model c.args.client b.0 old c.requires.desk b.1 c.args.ask c.requires.ends c.hand_in.new.self c.hand_in.ensures.same
    c.hand_in.ensures.handed c.turn.new.self c.turn.result (c.turn.ensures.row, c.turn.ensures.same) in (
      end_alone model c.args.client b.0 old c.requires.desk b.1 c.args.ask c.requires.ends c.hand_in.new.self c.hand_in.ensures.same
          c.hand_in.ensures.handed c.turn.new.self c.turn.result (c.turn.ensures.row, c.turn.ensures.same) left.turns c.roll_back-entry.new.station left.takes,
      end_undone model c.args.client b.0 old c.requires.desk b.1 c.args.ask c.requires.ends c.hand_in.new.self c.hand_in.ensures.same
          c.hand_in.ensures.handed c.turn.new.self c.turn.result (c.turn.ensures.row, c.turn.ensures.same) c.in-Some-Undoing.cause told,
      c.roll_back-entry.ensures.place ∙ ap length same,
      subst (λ j. IsEnteredBehind c.args.client (Undoing c.in-Some-Undoing.cause) j c.roll_back-entry.new.station) same left.entered,
    )

pub returns-in-Some-Committing-clause-ended : goal.returns-in-Some-Committing-clause-ended
returns-in-Some-Committing-clause-ended g c =
    let model = g.H.Host.model in
    let b = c.requires.begun in
    let old = c.args.station.now in
    let told = sym c.phase.ensures ∙ c.in-Some-Committing.is ∙ ap Some c.in-Some-Committing.field-0-is in
    let left = c.commit-entry.ensures.left in
    let same = end_journal model c.args.client b.0 old c.requires.desk b.1 c.args.ask c.requires.ends c.hand_in.new.self c.hand_in.ensures.same
    c.hand_in.ensures.handed c.turn.new.self c.turn.result (c.turn.ensures.row, c.turn.ensures.same) in (
      end_alone model c.args.client b.0 old c.requires.desk b.1 c.args.ask c.requires.ends c.hand_in.new.self c.hand_in.ensures.same
          c.hand_in.ensures.handed c.turn.new.self c.turn.result (c.turn.ensures.row, c.turn.ensures.same) left.turns c.commit-entry.new.station left.takes,
      end_committed model c.args.client b.0 old c.requires.desk b.1 c.args.ask c.requires.ends c.hand_in.new.self c.hand_in.ensures.same
          c.hand_in.ensures.handed c.turn.new.self c.turn.result (c.turn.ensures.row, c.turn.ensures.same) told,
      c.commit-entry.ensures.place ∙ ap length same,
      subst (λ j. IsEnteredBehind c.args.client Committing j c.commit-entry.new.station) same left.entered,
    )
