use Rattle.std.proofs.Common.{◌≡◌, ◌++◌, ℕ, List, length, reverse}
use Rattle.xc_grounds.specs.Numbered.{AreNumbered}
use Rattle.xc_shown.specs.declared.shown.Shown.{Shown}
use Rattle.xc_check.specs.Fronts.{begins_shown}
use Rattle.xc_check.specs.Judging.{IsJudged}
use Rattle.xc_check.specs.TrueTexts.{telling}
use Rattle.xc_check.proofs.entries.judge_entries.Given as goal

-- those before are judged, the others are left, the first of them last
abbrev pub invariant-loop-shown : goal.invariant-loop-shown
invariant-loop-shown l =
    (before : List Shown) × (l.fn.entries.items ≡ before ++ reverse l.left.items) × (l.place ≡ length before)
    × ((count : ℕ) → AreNumbered count (begins_shown l.fn.entries.items) → IsJudged (telling l.script l.rules) count before l.judging)

abbrev pub decreases-loop-shown : goal.decreases-loop-shown
decreases-loop-shown l = length l.left.items
