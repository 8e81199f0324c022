use Rattle.std.proofs.Common.{◌≡◌, ◌++◌, map, take}
use Rattle.xc_model.specs.Course.{standing_anew}
use Rattle.xc_judge.proofs.progress.push_jobs.Given as goal

-- those of the blocks so far
abbrev pub invariant-loop-block : goal.invariant-loop-block
invariant-loop-block l = l.jobs.items ≡ l.fn.jobs.items ++ map (λ block. standing_anew block l.since) (take l.block-index l.blocks)
