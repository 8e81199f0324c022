use Rattle.std.proofs.Common.{◌-◌, ◌<◌, sym, subst, arith}
use Rattle.xc_model.specs.Rows.{IsTurn}
use Rattle.xc_station.specs.Stations.{ChangesOne, IsStepOf, KeepsOpening, StationView, TakeRound, now_of, setting_of, turns_of}
use Rattle.xc_model.specs.Live.{IsScripted}
use Rattle.xc_station.specs.declared.run_result.Opening.{Opening}
use Rattle.xc_station.proofs.Runs.{falls_further, goes_further, live_within, next_turned, round_over, turn_goes}
use Rattle.xc_station.proofs.schedule.round.Goals as goal

pub loop-job-preserved : goal.loop-job-preserved
loop-job-preserved g c =
    let model = g.H.Host.model in
    let first = c.args.station.now in
    let old = c.loop-job.station in
    let new = c.turn.new.self in
    let was = c.loop-job.invariant in
    let job = c.in-Some.job in
    let same = c.in-Some.ensures.same in
    let next = c.in-Some.ensures.next in
    let kept = subst (λ s. KeepsOpening s new) same c.turn.ensures.same in
    let changes = subst (λ s. ChangesOne (job - 1) (now_of model s) (now_of model new)) same c.turn.ensures.changes in
    let row = subst (λ s. IsTurn (setting_of model s) (job - 1) (now_of model s) c.turn.result (now_of model new)) same c.turn.ensures.row in
    let own = subst (λ (s : StationView g.row.H.Denot). IsScripted s.opening.script) (sym same) was.scripted in
    let fell = subst (λ s. turns_of model new < turns_of model s) same (c.turn.ensures.falls own) in
    let goes = turn_goes model job old new c.turn.result kept row changes in
    let step = subst (IsStepOf model job (record { old = old; new = new })) (sym next.live) (c.turn.result, (row, kept)) in
    let low = live_within old.jobs job next.live in
    let above = next.above in
    let count = goes.count in
    record {
      goes = goes_further first old new was.goes goes;
      scripted = subst (λ (o : Opening). IsScripted o.script) (sym goes.origin.opening) was.scripted;
      within = omega (arith, low, count);
      falls = λ _. falls_further model c.loop-job.at first old new was.falls was.same fell;
      same = λ none. absurd (omega (arith, above, none));
      turns = next_turned model c.loop-job.at job first old new next was.turns step;
    }

pub returns-clause-round : goal.returns-clause-round
returns-clause-round g c =
    let model = g.H.Host.model in
    let first = c.args.station.now in
    subst (TakeRound model first) (sym c.in_default.ensures.same)
    (round_over model c.loop-job.at first c.loop-job.station c.loop-job.invariant.within c.loop-job.invariant.turns c.in_default.ensures.next)
