use Rattle.std.proofs.Common.{List, map, subst, refl, arith}
use Rattle.std.proofs.lemmas.List.{drop_all}
use Rattle.xc_data.specs.Calls.{thread_asked}
use Rattle.xc_data.specs.declared.call.LateEnd.{LateEnd}
use Rattle.xc_script.specs.Blocks.{kept_calls}
use Rattle.xc_asked.proofs.Continuing.{Continues, behind_at, no_end}
use Rattle.xc_asked.proofs.starts.are_starts.Goals as goal

pub loop-end-preserved : goal.loop-end-preserved
loop-end-preserved c = λ was same.
    behind_at c.args.script.now was (map thread_asked (kept_calls c.args.calls.now c.args.replies.now)) c.args.ends.now c.loop-end.started
    c.in-Some-started_behind.after c.loop-end.end-index c.loop-end.kept c.take.new.self c.in-Some.call.now c.in-Some.ensures
    c.loop-end-test.true (c.loop-end.invariant was same) c.in-Some-started_behind.ensures

pub returns : goal.returns
returns c = λ was same.
    let l = c.loop-end in
    let calls = map thread_asked (kept_calls c.args.calls.now c.args.replies.now) in (
      λ _. no_end c.args.script.now was calls c.args.ends.now l.started (map thread_asked l.kept)
          (subst (λ (later : List LateEnd). Continues c.args.script.now was calls c.args.ends.now l.started (map thread_asked l.kept) later)
          (drop_all l.end-index c.args.ends.now (omega (arith, c.loop-end-test.false))) (l.invariant was same)),
      λ _. refl,
    )
