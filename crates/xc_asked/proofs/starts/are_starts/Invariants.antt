use Rattle.std.proofs.Common.{◌≡◌, ℕ, List, length, map, drop}
use Rattle.xc_data.specs.Calls.{thread_asked}
use Rattle.xc_script.specs.Blocks.{kept_calls}
use Rattle.xc_asked.proofs.Continuing.{Continues}
use Rattle.xc_asked.proofs.starts.are_starts.Given as goal

-- what is left decides
abbrev pub invariant-loop-end : goal.invariant-loop-end
invariant-loop-end l =
    (was : List (List ℕ)) → length was ≡ l.fn.started
    → Continues l.script was (map thread_asked (kept_calls l.fn.calls l.fn.replies)) l.fn.ends l.started (map thread_asked l.kept)
    (drop l.end-index l.ends)
