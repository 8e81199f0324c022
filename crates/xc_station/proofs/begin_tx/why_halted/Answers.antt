use Rattle.std.proofs.Common.{arith, refl, sym}
use Rattle.xc_model.specs.Live.{has_clients}
use Rattle.xc_model.specs.Setting.{setting}
use Rattle.xc_station.specs.Jobs.{job_view}
use Rattle.xc_model.specs.Moment.{begun_count}
use Rattle.xc_station.proofs.Begun.{free, left_so, not_over, over_so, room_left, waits_for_last}
use Rattle.xc_station.proofs.begin_tx.why_halted.Goals as goal

pub returns-then-is_over-clause-halts : goal.returns-then-is_over-clause-halts
returns-then-is_over-clause-halts c tells now begun sat =
    over_so (has_clients c.args.script.now) (setting c.args.script.now c.args.rules.now tells) (job_view c.args.job.now)
    (sym (c.if-is_over.ensures c.args.rules.now tells))

pub returns-in-Some-clause-halts : goal.returns-in-Some-clause-halts
returns-in-Some-clause-halts c tells now begun sat =
    let s = setting c.args.script.now c.args.rules.now tells in
    (left_so s (job_view c.args.job.now) (sym (c.if-is_over.ensures c.args.rules.now tells)), c.in-Some.ensures s refl)

pub returns-in-Some-waits_for-clause-halts : goal.returns-in-Some-waits_for-clause-halts
returns-in-Some-waits_for-clause-halts c tells now begun sat =
    let e = c.in-Some-waits_for.ensures in
    let s = setting c.args.script.now c.args.rules.now tells in
    waits_for_last s now (job_view c.args.job.now) c.args.sentinels.now.seats sat
    (left_so s (job_view c.args.job.now) (sym (c.if-is_over.ensures c.args.rules.now tells))) c.in_default.ensures c.in-Some-waits_for.object
    c.in-Some-waits_for.holder e.waits.0 e.waits.1 (e.patient refl).0

pub returns-then-is_full-clause-halts : goal.returns-then-is_full-clause-halts
returns-then-is_full-clause-halts c tells now begun sat =
    let full = c.if-is_full.ensures.full refl in
    let s = setting c.args.script.now c.args.rules.now tells in
    let left = left_so s (job_view c.args.job.now) (sym (c.if-is_over.ensures c.args.rules.now tells)) in (
      left,
      c.in_default.ensures,
      free s now (job_view c.args.job.now) c.args.sentinels.now.seats sat left c.in_default.ensures c.in_default-waits_for.ensures.waits,
      omega (arith, begun, full),
    )

pub returns-clause-halts : goal.returns-clause-halts
returns-clause-halts c tells now begun sat =
    let few = c.if-is_full.ensures.room refl in
    let s = setting c.args.script.now c.args.rules.now tells in
    let over = sym (c.if-is_over.ensures c.args.rules.now tells) in
    let left = left_so s (job_view c.args.job.now) over in
    record {
      left = left;
      more = not_over (has_clients c.args.script.now) s (job_view c.args.job.now) over;
      attempts = c.in_default.ensures;
      free = free s now (job_view c.args.job.now) c.args.sentinels.now.seats sat left c.in_default.ensures c.in_default-waits_for.ensures.waits;
      room = room_left c.args.script.now _ _ (begun_count now) begun c.requires.waiting.1 few;
    }
