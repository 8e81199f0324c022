use Rattle.std.proofs.Common.{◌≡◌, length}
use Rattle.xc_judge.proofs.holding.are_these.Given as goal

-- what is left decides
abbrev pub invariant-loop-held : goal.invariant-loop-held
invariant-loop-held l =
    record {
      to : l.initial.listed ≡ l.initial.held → l.listed ≡ l.held;
      from : l.listed ≡ l.held → l.initial.listed ≡ l.initial.held;
    }

abbrev pub decreases-loop-held : goal.decreases-loop-held
decreases-loop-held l = length l.held
