use Rattle.std.proofs.Common.{◌≡◌, ◌≢◌, ◌+◌, ◌-◌, ◌<◌, length, subst, sym, ◌∙◌, arith}
use Rattle.xc_station.specs.Finishing.{job_left_at}
use Rattle.xc_station.specs.Jobs.{job_views}
use Rattle.xc_station.proofs.Finishing.{arrived, fewer_on_way, grown_further, lives_on_way, others_further, way_further, way_left}
use Rattle.xc_station.proofs.station.run_out.finish.Goals as goal

pub turn-requires : goal.turn-requires
turn-requires g c =
    let was = c.loop-station.invariant in
    let start = c.requires in
    let same : length c.loop-station.station.journal ≡ length c.args.station.now.journal =
    sym c.entries.ensures ∙ c.loop-station-test.true ∙ c.entries-place.ensures in
    lives_on_way g.H.Host.model c.args.job start.0 start.1 c.args.station.now c.loop-station.station
    (was.way start.0 start.1 start.2 start.3) same

pub loop-station-preserved : goal.loop-station-preserved
loop-station-preserved g c =
    let model = g.H.Host.model in
    let was = c.loop-station.invariant in
    let old = c.args.station.now in
    let mid = c.loop-station.station in
    let new = c.turn.new.self in
    let changes = c.turn.ensures.changes in
    let grown = grown_further c.args.job (job_views mid.jobs) (job_views new.jobs) changes.behind changes.started changes.jobs in
    let same : length mid.journal ≡ length old.journal = sym c.entries.ensures ∙ c.loop-station-test.true ∙ c.entries-place.ensures in
    record {
      place = was.place;
      grown = let first = was.grown in omega (arith, first, grown);
      others = others_further c.args.job (job_views old.jobs) (job_views mid.jobs) (job_views new.jobs) changes.behind changes.started
          changes.jobs was.grown was.others;
      way = λ phase left is does.
          let on = was.way phase left is does in
          way_further model c.args.job phase left old mid new c.turn.result (lives_on_way model c.args.job phase left old mid on same)
          c.turn.ensures.same c.turn.ensures.row on same;
    }

pub returns-clause-entered : goal.returns-clause-entered
returns-clause-entered g c phase is =
    let start = c.requires in
    let old = c.args.station.now in
    let now = c.loop-station.station in
    let on = c.loop-station.invariant.way phase start.1 start.2 is in
    let longer : length now.journal ≢ length old.journal =
    λ same. c.loop-station-test.false (c.entries.ensures ∙ same ∙ sym c.entries-place.ensures) in
    (arrived g.H.Host.model c.args.job phase start.1 old now on longer).0

pub returns-clause-turns : goal.returns-clause-turns
returns-clause-turns g c left is =
    let start = c.requires in
    let old = c.args.station.now in
    let now = c.loop-station.station in
    let on = c.loop-station.invariant.way start.0 left is start.3 in
    let longer : length now.journal ≢ length old.journal =
    λ same. c.loop-station-test.false (c.entries.ensures ∙ same ∙ sym c.entries-place.ensures) in
    (arrived g.H.Host.model c.args.job start.0 left old now on longer).1

pub loop-station-smaller : goal.loop-station-smaller
loop-station-smaller g c =
    let start = c.requires in
    let old = c.args.station.now in
    let mid = c.loop-station.station in
    let on = c.loop-station.invariant.way start.0 start.1 start.2 start.3 in
    let same : length mid.journal ≡ length old.journal = sym c.entries.ensures ∙ c.loop-station-test.true ∙ c.entries-place.ensures in
    subst (λ n. way_left (n + 1 - length c.turn.new.self.journal) (job_left_at (job_views c.turn.new.self.jobs) c.args.job)
    < way_left (n + 1 - length mid.journal) (job_left_at (job_views mid.jobs) c.args.job)) (sym c.entries-place.ensures)
    (fewer_on_way g.H.Host.model c.args.job start.0 start.1 old mid c.turn.new.self c.turn.result
    (lives_on_way g.H.Host.model c.args.job start.0 start.1 old mid on same) c.turn.ensures.same c.turn.ensures.row on same)
