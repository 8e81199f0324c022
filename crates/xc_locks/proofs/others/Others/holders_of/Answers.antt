use Rattle.std.proofs.Common.{◌≡◌, ℕ, Option, Some, None, IfSome, IfNone, Bor, List, ap, sym, ◌∙◌}
use Rattle.std.specs.Option.{option_copied}
use Rattle.std.specs.FinMap as map
use Rattle.xc_data.specs.declared.claim.Mode.{Mode}
use Rattle.xc_locks.specs.declared.key.Other.{Other}
use Rattle.xc_locks.specs.Keys.{holder_of, holder_cmp}
use Rattle.xc_locks.specs.Rows.{mode_among}
use Rattle.xc_locks.proofs.Rows.{held_in}
use Rattle.xc_locks.proofs.ByRow.{got}
use Rattle.xc_locks.proofs.others.Others.holders_of.Goals as goal

module _ (t : map.FinMap holder_cmp Mode) (o : Other) (row : Option (List (ℕ × Mode)))
    (is : (n : ℕ) → held_in row n ≡ map.get t (holder_of o n)) where
  -- the row has the object's holders
  some_row : (r : Option (Bor (List (ℕ × Mode)))) → option_copied r ≡ row → IfSome r (λ m. (n : ℕ) → map.get t (holder_of o n) ≡ mode_among m.now n)
  some_row None e = tt
  some_row (Some m) e = λ n. sym (ap (λ x. held_in x n) e ∙ is n)

  -- where there is none, nobody holds the object
  no_row : (r : Option (Bor (List (ℕ × Mode)))) → option_copied r ≡ row → IfNone r ((n : ℕ) → map.get t (holder_of o n) ≡ None)
  no_row None e = λ n. sym (ap (λ x. held_in x n) e ∙ is n)
  no_row (Some m) e = tt

pub returns-clause-some : goal.returns-clause-some
returns-clause-some c =
    some_row c.args.self.now c.args.object _ (got c.self.inside.rows.entries c.args.self.now c.self.view_is c.self.invariant c.args.object) c.get.result
    c.get.ensures.value

pub returns-clause-none : goal.returns-clause-none
returns-clause-none c =
    no_row c.args.self.now c.args.object _ (got c.self.inside.rows.entries c.args.self.now c.self.view_is c.self.invariant c.args.object) c.get.result
    c.get.ensures.value
