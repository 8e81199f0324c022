use Rattle.std.proofs.Common.{refl}
use Rattle.xc_live.proofs.Settled.{asked_lives, asked_on, turn_more, turns_fall}
use Rattle.xc_live.proofs.going.settle.Goals as goal

pub loop-station-init : goal.loop-station-init
loop-station-init g c = record { run = λ tx asked had. (0, refl, had) }

pub turn-requires : goal.turn-requires
turn-requires g c =
    let asked = c.requires.asked in
    let run = c.loop-station.invariant.run asked.0 asked.1 asked.2 in
    asked_lives g.H.Host.model c.args.client c.requires.first asked.0 asked.1 c.loop-station.station run.2

pub loop-station-preserved : goal.loop-station-preserved
loop-station-preserved g c =
    let model = g.H.Host.model in
    let told = c.is_backing.ensures.yes c.loop-station-test.true in
    record {
      run = λ tx asked had.
          let was = c.loop-station.invariant.run tx asked had in
          let at = c.loop-station.station in
          let more = turn_more model c.args.client c.requires.first tx asked at was.2 told c.turn.new.self c.turn.result
          (c.turn.ensures.row, c.turn.ensures.same) was.0 c.args.station.now was.1 in (
            more.0,
            more.1,
            asked_on model c.args.client c.requires.first tx asked at was.2 told c.turn.new.self c.turn.result (c.turn.ensures.row, c.turn.ensures.same),
          );
    }

pub loop-station-smaller : goal.loop-station-smaller
loop-station-smaller g c =
    let asked = c.requires.asked in
    let was = c.loop-station.invariant.run asked.0 asked.1 asked.2 in
    turns_fall g.H.Host.model c.args.client c.requires.first asked.0 asked.1 c.loop-station.station was.2 (c.is_backing.ensures.yes c.loop-station-test.true)
    c.turn.new.self c.turn.result (c.turn.ensures.row, c.turn.ensures.same)

pub returns-clause-settled : goal.returns-clause-settled
returns-clause-settled g c = c.loop-station.invariant.run
