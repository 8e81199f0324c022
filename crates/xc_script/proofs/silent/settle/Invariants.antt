use Rattle.std.proofs.Common.{◌≡◌, ◌≤◌, ℕ, true, drop, ◌-◌, length}
use Rattle.xc_script.specs.Walks.{past_silent, none_silent_first}
use Rattle.xc_script.proofs.silent.settle.Given as goal

-- the walk is the same, and where it stood at first nothing was passed
abbrev pub invariant-loop-statement : goal.invariant-loop-statement
invariant-loop-statement l =
    record {
      walk : (stored : ℕ) → past_silent l.variables stored l.refused (drop l.at l.body) ≡ past_silent l.fn.variables stored l.refused (drop l.fn.at l.body);
      slots : l.variables.slots ≡ l.fn.variables.slots;
      at : l.fn.at ≤ l.at;
      stays : none_silent_first l.fn.variables l.refused (drop l.fn.at l.body) ≡ true → (l.variables ≡ l.fn.variables) × (l.at ≡ l.fn.at);
    }

abbrev pub decreases-loop-statement : goal.decreases-loop-statement
decreases-loop-statement l = length l.body - l.at
