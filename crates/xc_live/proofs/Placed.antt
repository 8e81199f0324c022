-- What stands in the places of a list in which one element was set, with others behind; and the calm of clients.
use Rattle.std.proofs.Common.{◌≡◌, ◌≢◌, ◌⊎◌, inl, inr, ℕ, zero, suc, true, List, [], ◌∷◌, ◌++◌, refl, ap, sym, ◌∙◌, subst, arith}
use Rattle.std.specs.Prelude.{slice_get, slice_set}
use Rattle.std.specs.declared.option.Option.TheVariants.{None, Some}
use Rattle.xc_data.proofs.Laws.{get_set_other}
use Rattle.xc_model.specs.Live.{has_clients}
use Rattle.xc_model.specs.Moment.{JobView, Moment}
use Rattle.xc_model.specs.Setting.{Setting}
use Rattle.xc_live.specs.Calm.{AreCalmBut, IsCalmJob, IsDesk}

-- ---- lists
-- what is there stands in the first list, or in the other one
pub get_either : {A : Type 0} (xs ys : List A) (k : ℕ) (x : A) → slice_get (xs ++ ys) k ≡ Some x
    → (slice_get xs k ≡ Some x) ⊎ ((j : ℕ) × (slice_get ys j ≡ Some x))
get_either [] ys k x e = inr (k, e)
get_either (y ∷ xs) ys zero x e = inl e
get_either (y ∷ xs) ys (suc k) x e = get_either xs ys k x e

-- what is there was set, or stands elsewhere
pub set_either : {A : Type 0} (xs : List A) (i k : ℕ) (y x : A) → slice_get (slice_set xs i y) k ≡ Some x
    → ((k ≡ i) × (y ≡ x)) ⊎ ((k ≢ i) × (slice_get xs k ≡ Some x))
set_either [] i k y x e = cc e
set_either (z ∷ zs) zero zero y x e = inl (refl, cc e)
set_either (z ∷ zs) zero (suc k) y x e = inr ((λ same. omega (arith, same)), e)
set_either (z ∷ zs) (suc i) zero y x e = inr ((λ same. omega (arith, same)), e)
set_either (z ∷ zs) (suc i) (suc k) y x e =
    elim (set_either zs i k y x e)
    [ inl same ↦ inl (ap suc same.0, same.1) | inr other ↦ inr ((λ same. other.0 (omega (arith, same))), other.1) ]

-- what stands elsewhere was there
pub elsewhere_was : {A : Type 0} (xs new : List A) (i k : ℕ) (y x : A) → new ≡ slice_set xs i y → k ≢ i → slice_get new k ≡ Some x
    → slice_get xs k ≡ Some x
elsewhere_was xs new i k y x is away e = sym (get_set_other xs i k y away) ∙ sym (ap (λ l. slice_get l k) is) ∙ e

-- and still is
pub elsewhere_is : {A : Type 0} (xs new : List A) (i k : ℕ) (y x : A) → new ≡ slice_set xs i y → k ≢ i → slice_get xs k ≡ Some x
    → slice_get new k ≡ Some x
elsewhere_is xs new i k y x is away e = ap (λ l. slice_get l k) is ∙ get_set_other xs i k y away ∙ e

-- ---- clients
-- one client is calm again, and so are those that joined: all are
pub all_calm : (s : Setting) (at : ℕ) (old new : Moment) (after was : JobView) (more : List JobView) → has_clients s.script ≡ true
    → slice_get old.jobs at ≡ Some was
    → ((other : ℕ) (job : JobView) → other ≢ at → slice_get old.jobs other ≡ Some job → IsCalmJob job)
    → new.jobs ≡ slice_set old.jobs at after ++ more → IsCalmJob after
    → ((j : ℕ) (job : JobView) → slice_get more j ≡ Some job → IsCalmJob job)
    → ((n : ℕ) → new.marks n ≡ None) → IsDesk s new
all_calm s at old new after was more clients there others jobs calm joined unmarked =
    record {
      clients = clients;
      calm = λ k job got.
          elim (get_either (slice_set old.jobs at after) more k job (sym (ap (λ l. slice_get l k) jobs) ∙ got)) [
            | inl e ↦ elim (set_either old.jobs at k after job e)
                [ inl same ↦ subst IsCalmJob same.1 calm | inr away ↦ others k job away.0 away.1 ]
            | inr e ↦ joined e.0 job e.1
          ];
      unmarked = unmarked;
    }

-- all but one are
pub calm_but : (s : Setting) (at : ℕ) (now : Moment) → IsDesk s now → AreCalmBut at now
calm_but s at now desk = record { others = λ other job away got. desk.calm other job got; unmarked = desk.unmarked }

-- and still, where that one changes
pub calm_but_set : (at : ℕ) (old new : Moment) (after : JobView) → AreCalmBut at old → new.jobs ≡ slice_set old.jobs at after
    → ((n : ℕ) → new.marks n ≡ None) → AreCalmBut at new
calm_but_set at old new after calm jobs unmarked =
    record {
      others = λ other job away got. calm.others other job away (elsewhere_was old.jobs new.jobs at other after job jobs away got);
      unmarked = unmarked;
    }
