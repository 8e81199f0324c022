use Rattle.std.proofs.Common.{◌≡◌, ◌≤◌, ◌-◌, length, drop}
use Rattle.xc_script.specs.Blocks.{behind_keep}
use Rattle.xc_script.proofs.inner.pass_keep.Given as goal

-- none of those that are passed so far closes a block
abbrev pub invariant-loop-statement : goal.invariant-loop-statement
invariant-loop-statement l = record {
  behind : behind_keep (drop l.at l.body) ≡ behind_keep (drop l.fn.at l.body);
  at : l.fn.at ≤ l.at;
}

abbrev pub decreases-loop-statement : goal.decreases-loop-statement
decreases-loop-statement l = length l.body - l.at
