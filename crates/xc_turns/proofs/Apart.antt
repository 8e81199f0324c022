-- A turn keeps what active transactions hold apart.
use Rattle.std.proofs.Common.{◌≡◌, ◌≢◌, inl, inr, ℕ, Bool, true, false, List, [], refl, sym, ◌∙◌, subst, arith}
use Rattle.std.specs.Prelude.{All, Contains, Option, slice_get, slice_set}
use Rattle.std.specs.declared.option.Option.TheVariants.{None, Some}
use Rattle.std.proofs.lemmas.List.Elements.{All-nil, All-contains, All-contains_itself, All-weaker}
use mathlib.Core.Logic.{dite}
use native.Mathlib.Decide.{ℕ_discrete}
use Rattle.xc_data.specs.Claims.{compatible, objects, holding, AreOnceAtMost}
use Rattle.xc_data.specs.declared.claim.Claim.{Claim}
use Rattle.xc_data.specs.declared.entry.Turn.{Turn}
use Rattle.xc_model.specs.Setting.{Setting}
use Rattle.xc_model.specs.Moment.{TxView, JobView, Moment, active_of}
use Rattle.xc_model.specs.Holding.{AreApart}
use Rattle.xc_model.specs.Rows.{IsTurn}
use Rattle.xc_model.specs.Movers.{IsActiveAt}
use Rattle.xc_model.specs.Rivals.{HasNoRival}
use Rattle.xc_turns.proofs.Jobs.{active_is, active_before}
use Rattle.xc_turns.proofs.HeldClaims.{GoesWith, either_way, goes_all, once_all}
use Rattle.xc_turns.proofs.Grown.{apart_grown}
use Rattle.xc_turns.proofs.KindsOfTurns.{HoldsOn, Kind, rests, begins, moves, stays, enters}
use Rattle.xc_turns.proofs.TurnKinds.{row_kind}

-- ---- one job changed
-- its transaction may stand in this place beside the others
record IsApart (jobs : List JobView) (at : ℕ) (held : List Claim) : Type 0 where
  together : (j : ℕ) (u : TxView) → j ≢ at → IsActiveAt jobs j u → All (GoesWith u.held) held
  once : AreOnceAtMost (objects held)

module _ (jobs : List JobView) (at : ℕ) (job behind : JobView) (stands : slice_get jobs at ≡ Some job) (apart : AreApart jobs)
    (new : (t : TxView) → active_of behind ≡ Some t → IsApart jobs at t.held) where
  new_with : (t u : TxView) (j : ℕ) → j ≢ at → active_of behind ≡ Some t → IsActiveAt (slice_set jobs at behind) j u
      → (c d : Claim) → Contains t.held c → Contains u.held d → c.object ≡ d.object → compatible c.mode d.mode ≡ true
  new_with t u j ne is b c d has other same =
      (All-contains (GoesWith u.held) t.held c ((new t is).together j u ne (active_before jobs at j behind u ne b)) has).each d other same

  set_together : (i j : ℕ) (t u : TxView) → i ≢ j → IsActiveAt (slice_set jobs at behind) i t → IsActiveAt (slice_set jobs at behind) j u
      → (c d : Claim) → Contains t.held c → Contains u.held d → c.object ≡ d.object → compatible c.mode d.mode ≡ true
  set_together i j t u ne a b c d has other same = dite (ℕ_discrete i at)
      (λ (here : i ≡ at).
      let is = active_is jobs at job stands behind t (subst (λ k. IsActiveAt (slice_set jobs at behind) k t) here a) in
      new_with t u j (λ e. ne (here ∙ sym e)) is b c d has other same)
      (λ (away : i ≢ at). dite (ℕ_discrete j at)
      (λ (here : j ≡ at).
      let is = active_is jobs at job stands behind u (subst (λ k. IsActiveAt (slice_set jobs at behind) k u) here b) in
      either_way c.mode d.mode ∙ new_with u t i away is a d c other has (sym same))
      (λ (off : j ≢ at).
      apart.together i j t u ne (active_before jobs at i behind t away a) (active_before jobs at j behind u off b) c d has other same))

  set_once : (i : ℕ) (t : TxView) → IsActiveAt (slice_set jobs at behind) i t → AreOnceAtMost (objects t.held)
  set_once i t a = dite (ℕ_discrete i at)
      (λ (here : i ≡ at). (new t (active_is jobs at job stands behind t (subst (λ k. IsActiveAt (slice_set jobs at behind) k t) here a))).once)
      (λ (away : i ≢ at). apart.once i t (active_before jobs at i behind t away a))

  -- with such a transaction in its place the others stay apart
  apart_set : AreApart (slice_set jobs at behind)
  apart_set = record { together = set_together; once = set_once }

-- ---- what the transaction in this place may hold
nothing_held : (jobs : List JobView) (at : ℕ) → IsApart jobs at []
nothing_held jobs at = record { together = λ j u ne b. All-nil (GoesWith u.held); once = λ o. omega arith }

as_held : (jobs : List JobView) (at : ℕ) (was : TxView) → AreApart jobs → IsActiveAt jobs at was → IsApart jobs at was.held
as_held jobs at was apart a = record { together = together; once = apart.once at was a }
  where
    together : (j : ℕ) (u : TxView) → j ≢ at → IsActiveAt jobs j u → All (GoesWith u.held) was.held
    together j u ne b =
        All-weaker (Contains was.held) (GoesWith u.held)
        (λ c has. record { each = λ d other same. apart.together at j was u (λ e. ne (sym e)) a b c d has other same }) was.held
        (All-contains_itself was.held)

free_goes : (jobs : List JobView) (at j : ℕ) (u : TxView) (c : Claim) → j ≢ at → IsActiveAt jobs j u → HasNoRival jobs at c → GoesWith u.held c
free_goes jobs at j u c ne b free = record { each = λ d other same. by_test d other same (compatible c.mode d.mode) refl }
  where
    by_test : (d : Claim) → Contains u.held d → c.object ≡ d.object → (t : Bool) → compatible c.mode d.mode ≡ t → compatible c.mode d.mode ≡ true
    by_test d other same true e = e
    by_test d other same false e = absurd (free j u ne b (d, other, (sym same, e)))

more_held : (jobs : List JobView) (at : ℕ) (was claims : List Claim) → IsApart jobs at was → All (HasNoRival jobs at) claims
    → IsApart jobs at (holding was claims)
more_held jobs at was claims apart free = record { together = together; once = once_all was claims apart.once }
  where
    together : (j : ℕ) (u : TxView) → j ≢ at → IsActiveAt jobs j u → All (GoesWith u.held) (holding was claims)
    together j u ne b =
        goes_all u.held was claims (apart.together j u ne b)
        (All-weaker (HasNoRival jobs at) (GoesWith u.held) (λ c. free_goes jobs at j u c ne b) claims free)

held_on : (jobs : List JobView) (at : ℕ) (was held : List Claim) → IsApart jobs at was → HoldsOn jobs at was held → IsApart jobs at held
held_on jobs at was held apart (inl same) = subst (IsApart jobs at) (sym same) apart
held_on jobs at was held apart (inr more) = subst (IsApart jobs at) (sym more.2) (more_held jobs at was more.0 apart more.1)

-- ---- each kind of turn
none_new : (jobs : List JobView) (at : ℕ) (o : Option TxView) → o ≡ None → (t : TxView) → o ≡ Some t → IsApart jobs at t.held
none_new jobs at o none t some = cc

one_new : (jobs : List JobView) (at : ℕ) (o : Option TxView) (tx : TxView) → o ≡ Some tx → IsApart jobs at tx.held → (t : TxView) → o ≡ Some t
    → IsApart jobs at t.held
one_new jobs at o tx is apart t some = let same : tx ≡ t = cc in subst (λ (u : TxView). IsApart jobs at u.held) same apart

kind_apart : (s : Setting) (at : ℕ) (old new : Moment) (job : JobView) → slice_get old.jobs at ≡ Some job → AreApart old.jobs → Kind s at old job new
    → AreApart new.jobs
kind_apart s at old new job stands apart (rests k) =
    subst AreApart (sym k.sets.jobs) (apart_set old.jobs at job k.behind stands apart (none_new old.jobs at (active_of k.behind) k.after))
kind_apart s at old new job stands apart (begins k) =
    subst AreApart (sym k.sets.jobs)
    (apart_set old.jobs at job k.behind stands apart
    (one_new old.jobs at (active_of k.behind) k.tx k.after (subst (IsApart old.jobs at) (sym k.none) (nothing_held old.jobs at))))
kind_apart s at old new job stands apart (moves k) =
    subst AreApart (sym k.sets.jobs)
    (apart_set old.jobs at job k.behind stands apart
    (one_new old.jobs at (active_of k.behind) k.tx k.after
    (held_on old.jobs at k.was.held k.tx.held (as_held old.jobs at k.was apart (job, stands, k.before)) k.held)))
kind_apart s at old new job stands apart (stays k) =
    subst AreApart (sym k.sets.jobs)
    (apart_set old.jobs at job k.behind stands apart
    (one_new old.jobs at (active_of k.behind) k.tx k.after (as_held old.jobs at k.tx apart (job, stands, k.before))))
kind_apart s at old new job stands apart (enters k) =
    subst AreApart (sym k.jobs) (apart_grown (slice_set old.jobs at k.behind) k.more k.idle
    (apart_set old.jobs at job k.behind stands apart (none_new old.jobs at (active_of k.behind) k.after)))

-- a turn keeps apart what active transactions hold
pub apart_kept : (s : Setting) (at : ℕ) (old new : Moment) (answer : Turn) → IsTurn s at old answer new → AreApart old.jobs → AreApart new.jobs
apart_kept s at old new answer t apart = kind_apart s at old new t.job t.there apart (row_kind s at old new answer t)
