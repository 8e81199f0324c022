use Rattle.std.proofs.Common.{◌≡◌, ◌++◌, drop}
use Rattle.xc_model.specs.Progress.{started_blocks}
use Rattle.xc_script.specs.Blocks.{kept_calls}
use Rattle.xc_asked.proofs.kept.started.Given as goal

-- those so far and those that are left
abbrev pub invariant-loop-end : goal.invariant-loop-end
invariant-loop-end l =
    l.names ++ started_blocks l.kept (drop l.end-index l.ends) ≡ started_blocks (kept_calls l.fn.calls l.fn.replies) l.fn.ends
