-- The handles of jobs after a commit: a world that is open to a transaction's number stays so.
use Rattle.std.proofs.Common.{◌≡◌, ℕ, zero, suc, ◌+◌, ◌-◌, List, [], ◌∷◌, ◌++◌, length, get_or, replicate, refl, sym, ◌∙◌, subst, arith}
use Rattle.std.specs.Prelude.{slice_set, slice_get, unwrap_or}
use Rattle.std.proofs.lemmas.Option.{unwrap_or-slice_get}
use Rattle.std.proofs.lemmas.List.{get_or_past}
use Rattle.xc_data.specs.declared.private.Place.{Place}
use Rattle.xc_data.specs.declared.private.Place.TheVariants.{Vacant}
use Rattle.xc_data.specs.declared.private.Private.{Private}
use Rattle.xc_world.specs.Sound.{IsKnown, IsSound}
use Rattle.xc_world.specs.World.{World, beginning, no_handles}

-- ---- one of a list
module _ {X : Type 0} (P : X → Type 0) (p d : X) (at_p : P p) (at_d : P d) where
  -- each of so many copies is so
  copied : (n i : ℕ) → P (get_or (replicate n p) i d)
  copied zero i = at_d
  copied (suc n) zero = at_p
  copied (suc n) (suc i) = copied n i

  -- and each of a list of which one is so now
  changed : (xs : List X) (at i : ℕ) → ((k : ℕ) → P (get_or xs k d)) → P (get_or (slice_set xs at p) i d)
  changed [] at i old = at_d
  changed (x ∷ xs) zero zero old = at_p
  changed (x ∷ xs) zero (suc i) old = old (suc i)
  changed (x ∷ xs) (suc at) zero old = old zero
  changed (x ∷ xs) (suc at) (suc i) old = changed xs at i (λ k. old (suc k))

  -- and each of two lists one behind the other
  behind : (xs ys : List X) (i : ℕ) → ((k : ℕ) → P (get_or xs k d)) → ((k : ℕ) → P (get_or ys k d)) → P (get_or (xs ++ ys) i d)
  behind [] ys i front back = back i
  behind (x ∷ xs) ys zero front back = front zero
  behind (x ∷ xs) ys (suc i) front back = behind xs ys i (λ k. front (suc k)) back

  -- after a change in one place, with copies behind
  pub handed : (xs : List X) (at n i : ℕ) → ((k : ℕ) → P (get_or xs k d)) → P (get_or (slice_set xs at p ++ replicate n p) i d)
  handed xs at n i old = behind (slice_set xs at p) (replicate n p) i (λ k. changed xs at k old) (λ k. copied n k)

-- ---- open to a number
-- a number of a job more than there are is that of no job
abbrev OpenWith : World → ℕ → List Place → Type 0
OpenWith w ty places = IsSound w (beginning places) ty

-- what an open state says of each place of its handles
pub open_at : (w : World) (ty : ℕ) (hs : List (List Place)) → ((job : ℕ) → IsSound w (beginning (unwrap_or (slice_get hs (job - 1)) no_handles)) ty)
    → (k : ℕ) → OpenWith w ty (get_or hs k no_handles)
open_at w ty hs opens k =
    let at : k + 1 - 1 ≡ k = omega arith in
    subst (λ i. OpenWith w ty (get_or hs i no_handles)) at
    (subst (OpenWith w ty) (unwrap_or-slice_get hs (k + 1 - 1) no_handles) (opens (k + 1)))

-- and the other way round
pub open_from : (w : World) (ty : ℕ) (hs : List (List Place)) → ((k : ℕ) → OpenWith w ty (get_or hs k no_handles))
    → (job : ℕ) → IsSound w (beginning (unwrap_or (slice_get hs (job - 1)) no_handles)) ty
open_from w ty hs each job = subst (OpenWith w ty) (sym (unwrap_or-slice_get hs (job - 1) no_handles)) (each (job - 1))

-- no handle at all, where any list of handles is open
pub open_none : (w : World) (ty : ℕ) (hs : List (List Place)) → ((k : ℕ) → OpenWith w ty (get_or hs k no_handles)) → OpenWith w ty no_handles
open_none w ty hs each = subst (OpenWith w ty) (get_or_past hs (length hs) no_handles (omega arith)) (each (length hs))

-- a transaction's handles at its end serve the next one, of another number that may begin without a handle
pub next_begin : (w : World) (me : Private) (tx ty : ℕ) → IsSound w me tx → OpenWith w ty no_handles → OpenWith w ty me.places
next_begin w me tx ty mine none = record { world = none.world; made = none.made; stored = none.stored; new = none.new; handles = mine.handles }

-- after a commit that leaves others sound, and its own handles known
pub open_handed : (w v : World) (me : Private) (tx ty at n : ℕ) (hs : List (List Place))
    → ((you : Private) → IsSound w you ty → IsSound v you ty) → IsSound v me tx
    → ((job : ℕ) → IsSound w (beginning (unwrap_or (slice_get hs (job - 1)) no_handles)) ty)
    → (job : ℕ) → IsSound v (beginning (unwrap_or (slice_get (slice_set hs at me.places ++ replicate n me.places) (job - 1)) no_handles)) ty
open_handed w v me tx ty at n hs keeps mine opens =
    let old = open_at w ty hs opens in
    let now : (k : ℕ) → OpenWith v ty (get_or hs k no_handles) = λ k. keeps (beginning (get_or hs k no_handles)) (old k) in
    let none = open_none v ty hs now in
    open_from v ty (slice_set hs at me.places ++ replicate n me.places)
    (λ k. handed (OpenWith v ty) me.places no_handles (next_begin v me tx ty mine none) none hs at n k now)

-- where all have the same handles
pub open_copies : (w : World) (ty n : ℕ) (places : List Place) → OpenWith w ty places → OpenWith w ty no_handles
    → (job : ℕ) → IsSound w (beginning (unwrap_or (slice_get (replicate n places) (job - 1)) no_handles)) ty
open_copies w ty n places one none = open_from w ty (replicate n places) (λ k. copied (OpenWith w ty) places no_handles one none n k)

-- no handle is open among vacant ones
vacant_each : (n h : ℕ) → get_or (replicate n Vacant) h Vacant ≡ Vacant
vacant_each n h = copied (λ p. p ≡ Vacant) Vacant Vacant refl refl n h

-- whoever may begin with some handles may with none
pub without_handles : (w : World) (places : List Place) (ty : ℕ) → OpenWith w ty places → OpenWith w ty no_handles
without_handles w places ty s =
    record {
      world = s.world;
      made = s.made;
      stored = s.stored;
      new = s.new;
      handles = λ h. subst (IsKnown w) (sym (unwrap_or-slice_get no_handles h Vacant ∙ vacant_each 256 h)) tt;
    }
