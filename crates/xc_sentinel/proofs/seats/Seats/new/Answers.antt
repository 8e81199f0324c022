use Rattle.std.proofs.Common.{◌≡◌, None, Some, is_some, count_by, sym, ap, ◌∙◌}
use Rattle.std.specs.FinMap as map
use Rattle.std.specs.FinMap.{get-empty}
use Rattle.std.specs.Ordering.{nat_cmp}
use Rattle.xc_sentinel.proofs.Marks.{empty_unmarked}
use Rattle.xc_sentinel.proofs.seats.Seats.new.Goals as goal

pub invariant_of-result : goal.invariant_of-result
invariant_of-result c = (
  λ n key e.
      let no : None ≡ Some key = sym (get-empty nat_cmp n) ∙ ap (λ m. map.get m n) (sym c.new-2.ensures) ∙ e in
      absurd (let bad : ⊥ = cc no in bad),
  λ off. empty_unmarked c.new.result (ap (λ slots. count_by is_some slots) c.new.ensures.empty),
)
