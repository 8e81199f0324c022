use Rattle.std.proofs.Common.{◌≤◌, ap, length, subst, sym, ◌∙◌, arith}
use Rattle.std.proofs.Math.Decide.{dec_le}
use mathlib.Core.Logic.{dite}
use Rattle.xc_station.specs.Stations.{IsAhead}
use Rattle.xc_station.proofs.Ahead.{ahead_set, further_ahead, read_ahead}
use Rattle.xc_station.proofs.Runs.{none_past}
use Rattle.xc_station.proofs.station.Station.next_live.Goals as goal

pub loop-next-init : goal.loop-next-init
loop-next-init g c =
    let jobs = ap (λ v. v.jobs) c.self.view_is in
    let next = c.index-next.result.now in
    subst (λ js. IsAhead js c.args.above next) jobs
    (read_ahead c.self.inside.jobs.items c.self.inside.ahead.items c.args.above next c.self.invariant.ahead
    (subst (λ js. c.args.above ≤ length js) (sym jobs) c.requires) c.index-next.ensures)

pub loop-next-smaller : goal.loop-next-smaller
loop-next-smaller g c =
    let jobs = ap (λ v. v.jobs) c.self.view_is in
    let same = ap length jobs in
    let after = c.index-next-in-loop-next.result.now in
    let test = c.loop-next-test.true in
    let count = c.count.ensures.all in
    let low : c.loop-next.next ≤ length c.self.inside.jobs.items = omega (arith, same, test, count) in
    let far = read_ahead c.self.inside.jobs.items c.self.inside.ahead.items c.loop-next.next after c.self.invariant.ahead low
    c.index-next-in-loop-next.ensures in
    let above = far.above in
    omega (arith, above, low, same)

pub loop-next-preserved : goal.loop-next-preserved
loop-next-preserved g c =
    let jobs = ap (λ v. v.jobs) c.self.view_is in
    let same = ap length jobs in
    let after = c.index-next-in-loop-next.result.now in
    let test = c.loop-next-test.true in
    let count = c.count.ensures.all in
    further_ahead c.args.self.now.jobs c.args.above c.loop-next.next after c.loop-next.invariant (sym c.live.ensures ∙ c.if-not-live.true)
    (subst (λ js. IsAhead js c.loop-next.next after) jobs
    (read_ahead c.self.inside.jobs.items c.self.inside.ahead.items c.loop-next.next after c.self.invariant.ahead (omega (arith, same, test, count))
    c.index-next-in-loop-next.ensures))

pub invariant_of-self : goal.invariant_of-self
invariant_of-self g c =
    let jobs = ap (λ v. v.jobs) c.self.view_is in
    let same = ap length jobs in
    let count = c.self.invariant.ahead.count in
    let low = c.requires in record {
      steady = c.self.invariant.steady;
      rooms = c.self.invariant.rooms;
      ahead = ahead_set c.self.inside.jobs.items c.self.inside.ahead.items c.args.above c.loop-next.next (omega (arith, same, count, low))
          c.self.invariant.ahead
          (subst (λ js. IsAhead js c.args.above c.loop-next.next) (sym jobs) c.loop-next.invariant);
      taken = c.self.invariant.taken;
      plan = c.self.invariant.plan;
      backed = c.self.invariant.backed;
      unparted = c.self.invariant.unparted;
      indexed = c.self.invariant.indexed;
      starts = c.self.invariant.starts;
      undoable = c.self.invariant.undoable;
    }

pub returns-else-next-count-clause-next : goal.returns-else-next-count-clause-next
returns-else-next-count-clause-next g c number more =
    let same = ap length (ap (λ v. v.jobs) c.self.view_is) in
    let past = c.if-next-count.false in
    let count = c.count-2.ensures.all in
    dite (dec_le c.loop-next.next number)
    (λ up. none_past c.args.self.now.jobs number (omega (arith, up, past, count, same)))
    (λ down. c.loop-next.invariant.ended number more (omega (arith, down)))
