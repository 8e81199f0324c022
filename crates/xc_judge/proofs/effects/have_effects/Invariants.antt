use Rattle.std.proofs.Common.{◌≡◌, length}
use Rattle.xc_shown.specs.Shown.{effects_shown}
use Rattle.xc_judge.proofs.effects.have_effects.Given as goal

-- what is left decides
abbrev pub invariant-loop-records : goal.invariant-loop-records
invariant-loop-records l =
    record {
      to : effects_shown l.initial.records ≡ l.initial.effects → effects_shown l.records ≡ l.effects;
      from : effects_shown l.records ≡ l.effects → effects_shown l.initial.records ≡ l.initial.effects;
    }

abbrev pub decreases-loop-records : goal.decreases-loop-records
decreases-loop-records l = length l.records
