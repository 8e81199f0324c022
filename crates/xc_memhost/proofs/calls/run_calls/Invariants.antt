use Rattle.std.proofs.Common.{◌≡◌, ◌++◌, take, drop}
use Rattle.xc_memhost.specs.Machine.{answers, after_all, AreAllowed}
use Rattle.xc_memhost.proofs.calls.run_calls.Given as goal

-- the answers so far, and then those of the calls that are left; a front of the calls was made
abbrev pub invariant-loop-call : goal.invariant-loop-call
invariant-loop-call l =
    let left = drop l.call-index l.calls in
    record {
      told : l.list ++ answers l.host left ≡ answers l.fn.host l.calls;
      made : l.host ≡ after_all l.fn.host (take l.call-index l.calls);
      allowed : AreAllowed l.host left;
    }
