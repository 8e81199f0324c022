-- What is found among the holders of objects that are laid out as entries of a map.
use Rattle.std.proofs.Common.{◌≡◌, ◌≢◌, ℕ, Bool, true, false, cond, Option, Some, None, unwrap_or, List, [], ◌∷◌, ◌++◌, refl, ap, sym, ◌∙◌}
use Rattle.std.specs.declared.cmp.Ordering.{Ordering}
use Rattle.std.specs.declared.cmp.Ordering.TheVariants.{Less, Equal, Greater}
use Rattle.std.specs.Ordering.{nat_cmp, ordering_then, is_eq, eq_by_cmp}
use Rattle.std.specs.Cmp.{IsTotalOrder, tied_itself}
use Rattle.std.specs.BTreeMap.{is_at}
use Rattle.std.specs.Map.{lookup}
use Rattle.std.specs.FinMap as map
use Rattle.std.proofs.lemmas.Map.Lookups.{CmpEqualImpliesEq}
use Rattle.xc_data.specs.declared.claim.Mode.{Mode}
use Rattle.xc_maps.proofs.Laws.{tied}
use Rattle.xc_locks.specs.Rows.{mode_among, entries_at}

-- the mode of a transaction among an object's holders, if it has any
abbrev pub held_in : Option (List (ℕ × Mode)) → ℕ → Option Mode
held_in None n = None
held_in (Some m) n = mode_among m n

-- where there are none, nobody is among them
pub or_nobody : (row : Option (List (ℕ × Mode))) (n : ℕ) → mode_among (unwrap_or row []) n ≡ held_in row n
or_nobody None n = refl
or_nobody (Some m) n = refl

module _ {K : Type 0} (R : K → K → Ordering) where
  -- by object, and then by transaction
  abbrev pub both_cmp : K × ℕ → K × ℕ → Ordering
  both_cmp a b = ordering_then (R a.0 b.0) (nat_cmp a.1 b.1)

  -- the mode of a transaction for an object, in a list of entries
  abbrev pub found_in : K → ℕ → List ((K × ℕ) × Mode) → Option Mode
  found_in o n es = lookup (is_at (both_cmp (o, n))) es

  -- holders of two objects aren't one
  pub two_objects : CmpEqualImpliesEq R → (o p : K) (c r : Ordering) → R o p ≡ c → o ≢ p → is_eq (ordering_then c r) ≡ false
  two_objects exact o p Less r e ne = refl
  two_objects exact o p Equal r e ne = absurd (ne (exact o p e))
  two_objects exact o p Greater r e ne = refl

  -- holders of another object are passed over
  pub passed : CmpEqualImpliesEq R → (o p : K) (n : ℕ) (es : List (ℕ × Mode)) (rest : List ((K × ℕ) × Mode)) → o ≢ p
      → found_in o n (entries_at p es ++ rest) ≡ found_in o n rest
  passed exact o p n [] rest ne = refl
  passed exact o p n (e ∷ es) rest ne =
      ap (λ b. cond b (Some e.1) (found_in o n (entries_at p es ++ rest))) (two_objects exact o p (R o p) (nat_cmp n e.0) refl ne)
      ∙ passed exact o p n es rest ne

  -- holders of the object itself are found by their transactions
  pub own : IsTotalOrder R → (o : K) (n : ℕ) (es : List (ℕ × Mode)) (rest : List ((K × ℕ) × Mode)) → found_in o n rest ≡ None
      → found_in o n (entries_at o es ++ rest) ≡ mode_among es n
  own total o n [] rest none = none
  own total o n (e ∷ es) rest none =
      ap (λ r. cond (is_eq (ordering_then r (nat_cmp n e.0))) (Some e.1) (found_in o n (entries_at o es ++ rest))) (tied_itself total o)
      ∙ ap (cond (is_at (nat_cmp n) e.0) (Some e.1)) (own total o n es rest none)

-- ---- maps
-- what isn't there is taken out
none_at : {X : Type 0} (b : Bool) (o : Option X) → (b ≡ true → o ≡ None) → cond b None o ≡ o
none_at true o h = sym (h refl)
none_at false o h = refl

-- a map without an entry is the same without it
pub removed_absent : {K : Type 0} {R : K → K → Ordering} → IsTotalOrder R → CmpEqualImpliesEq R → (t : map.FinMap R Mode) (h : K) → map.get t h ≡ None
    → map.remove t h ≡ t
removed_absent {K} {R} total exact t h none =
    map.same_map total exact (map.remove t h) t
    (λ q. map.get-remove total t h q ∙ none_at (eq_by_cmp R q h) (map.get t q) (λ b. ap (map.get t) (tied total exact q h b) ∙ none))
