-- Lines and jobs at their places.
use Rattle.std.proofs.Common.{◌≡◌, ◌∙◌, ◌+◌, ◌<◌, ◌≤◌, ℕ, zero, suc, List, [], ◌∷◌, ◌++◌, length, map, take, refl, ap, sym, subst, arith, inl, inr}
use Rattle.std.specs.List.{AllZip}
use Rattle.std.specs.Prelude.{slice_get, unwrap_or}
use Rattle.std.specs.declared.option.Option.TheVariants.{Some}
use Rattle.std.proofs.lemmas.Bool.{cases_lt}
use Rattle.std.proofs.lemmas.List.{length-append}
use Rattle.xc_model.specs.Course.{Standing}
use Rattle.xc_model.specs.Progress.{Following}
use Rattle.xc_shown.specs.Shown.{lines_of_shown, shown_lines}
use Rattle.xc_shown.specs.declared.shown.Shown.{Shown}
use Rattle.xc_turns.proofs.Laws.{standing_in, get_front}
use Rattle.xc_check.proofs.Stepping.{get_behind}

-- a value is known by its option
some_is : {A : Type 0} (x y : A) → Some x ≡ Some y → y ≡ x
some_is x y h = sym (ap (λ o. unwrap_or o x) h)

-- ---- sums
add_apart : (a b c : ℕ) → a + (b + c) ≡ a + b + c
add_apart a b c = omega arith

more_on_both : (a b c x y : ℕ) → x ≡ a + b → y ≡ a + c → b ≤ c → x ≤ y
more_on_both a b c x y is are less = omega (arith, is, are, less)

-- ---- lines
-- the lines of entries, and of one more
pub lines_more : (entries : List Shown) (k : ℕ) (shown : Shown) → slice_get entries k ≡ Some shown
    → length (shown_lines (take (suc k) entries)) ≡ length (shown_lines (take k entries)) + length (lines_of_shown shown)
lines_more [] k shown h = cc
lines_more (x ∷ entries) zero shown h =
    let same : shown ≡ x = some_is x shown h in
    length-append (lines_of_shown x) (shown_lines (take 0 entries)) ∙ omega arith ∙ ap (λ (y : Shown). 0 + length (lines_of_shown y)) (sym same)
lines_more (x ∷ entries) (suc k) shown h =
    length-append (lines_of_shown x) (shown_lines (take (suc k) entries))
    ∙ ap (λ n. length (lines_of_shown x) + n) (lines_more entries k shown h)
    ∙ add_apart (length (lines_of_shown x)) (length (shown_lines (take k entries))) (length (lines_of_shown shown))
    ∙ ap (λ n. n + length (lines_of_shown shown)) (sym (length-append (lines_of_shown x) (shown_lines (take k entries))))

-- the same of the place behind
pub lines_more_at : (entries : List Shown) (k : ℕ) (shown : Shown) → slice_get entries k ≡ Some shown
    → length (shown_lines (take (k + 1) entries)) ≡ length (shown_lines (take k entries)) + length (lines_of_shown shown)
lines_more_at entries k shown there =
    let next : k + 1 ≡ suc k = omega arith in
    ap (λ n. length (shown_lines (take n entries))) next ∙ lines_more entries k shown there

-- a front has no more lines than all
pub front_lines : (entries : List Shown) (k : ℕ) → length (shown_lines (take k entries)) ≤ length (shown_lines entries)
front_lines [] zero = omega arith
front_lines [] (suc k) = omega arith
front_lines (x ∷ entries) zero = omega arith
front_lines (x ∷ entries) (suc k) =
    more_on_both (length (lines_of_shown x)) (length (shown_lines (take k entries))) (length (shown_lines entries))
    (length (lines_of_shown x ++ shown_lines (take k entries))) (length (lines_of_shown x ++ shown_lines entries))
    (length-append (lines_of_shown x) (shown_lines (take k entries))) (length-append (lines_of_shown x) (shown_lines entries)) (front_lines entries k)

-- a list whose elements are those of a function, with one more
pub pushed_at : {A : Type 0} (f : ℕ → A) (xs : List A) (k : ℕ) (x : A) → length xs ≡ k
    → ((j : ℕ) → j < k → slice_get xs j ≡ Some (f j)) → x ≡ f k → (j : ℕ) → j < k + 1 → slice_get (xs ++ x ∷ []) j ≡ Some (f j)
pushed_at f xs k x size each last j low =
    elim (cases_lt j k) [
      | inl before ↦ get_front xs (x ∷ []) j (f j) (each j before)
      | inr behind ↦
          let same : j ≡ length xs = omega (arith, behind, low, size) in
          let same_k : k ≡ j = omega (arith, behind, low) in
          subst (λ i. slice_get (xs ++ x ∷ []) i ≡ Some (f j)) (sym same) (get_behind xs [] x ∙ ap Some (last ∙ ap f same_k))
    ]

-- ---- jobs
-- what is told of each job, and of one more
pub told_more : {A B : Type 0} (R : A → B → Type 0) (told : List A) (left : List B) (k : ℕ) (f : A) (j : B) → AllZip R (take k told) left
    → slice_get told k ≡ Some f → R f j → AllZip R (take (suc k) told) (left ++ j ∷ [])
told_more R [] left k f j all there one = cc
told_more R (x ∷ told) [] zero f j all there one = (subst (λ y. R y j) (some_is x f there) one, tt)
told_more R (x ∷ told) (y ∷ left) zero f j all there one = absurd all
told_more R (x ∷ told) [] (suc k) f j all there one = absurd all
told_more R (x ∷ told) (y ∷ left) (suc k) f j all there one = (all.0, told_more R told left k f j all.1 there one)

-- the same of the place behind
pub told_more_at : {A B : Type 0} (R : A → B → Type 0) (told : List A) (left : List B) (k : ℕ) (f : A) (j : B) → AllZip R (take k told) left
    → slice_get told k ≡ Some f → R f j → AllZip R (take (k + 1) told) (left ++ j ∷ [])
told_more_at {A} {B} R told left k f j all there one =
    let next : suc k ≡ k + 1 = omega arith in
    subst (λ n. AllZip R (take n told) (left ++ j ∷ [])) next (told_more R told left k f j all there one)

-- the job that stands so
pub record IsJobAt (told : List Following) (k : ℕ) (standing : Standing) : Type 0 where
  pub f : Following
  pub there : slice_get told k ≡ Some f
  pub is : standing_in f ≡ standing

-- where a standing is read, a job stands so
pub job_at : (told : List Following) (k : ℕ) (standing : Standing) → slice_get (map standing_in told) k ≡ Some standing → IsJobAt told k standing
job_at [] k standing h = cc
job_at (f ∷ told) zero standing h = record { f = f; there = refl; is = sym (some_is (standing_in f) standing h) }
job_at (f ∷ told) (suc k) standing h = let rest = job_at told k standing h in record { f = rest.f; there = rest.there; is = rest.is }
