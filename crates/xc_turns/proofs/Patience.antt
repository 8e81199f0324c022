-- Where no job may wait, a turn revokes nothing.
use Rattle.std.proofs.Common.{◌≡◌, ◌≢◌, ◌<◌, ℕ, Bool, true, false, List, [], ◌∷◌, refl, ap, sym, ◌∙◌, subst, arith}
use Rattle.std.specs.Prelude.{Option, nat_eq, slice_get, slice_set, if◌then◌else◌}
use Rattle.std.specs.declared.option.Option.TheVariants.{None, Some}
use Rattle.std.proofs.lemmas.List.Elements.{All-nil, All-cons, All-append}
use mathlib.Core.Logic.{dite}
use native.Mathlib.Decide.{ℕ_discrete}
use Rattle.xc_data.specs.declared.entry.Cause.{Cause}
use Rattle.xc_data.specs.declared.entry.Cause.TheVariants as cause
use Rattle.xc_data.specs.declared.entry.Entry.{Entry}
use Rattle.xc_data.specs.declared.entry.Mark.{Mark}
use Rattle.xc_data.specs.declared.entry.Turn.{Turn}
use Rattle.xc_model.specs.declared.phase.Phase.{Phase}
use Rattle.xc_model.specs.declared.phase.Phase.TheVariants.{Undoing}
use Rattle.xc_model.specs.EntryEnds.{AreUnrevoked, IsUnrevoked, cause_in}
use Rattle.xc_model.specs.Entering.{entry_of}
use Rattle.xc_model.specs.Moment.{TxView, JobView, Moment, active_of, unmarked}
use Rattle.xc_model.specs.Movers.{IsActiveAt, mover}
use Rattle.xc_model.specs.Patience.{NoneIsRevoked}
use Rattle.xc_model.specs.Rows.{IsTurn}
use Rattle.xc_model.specs.Setting.{Setting}
use Rattle.xc_model.specs.Stories.{cause_of_phase}
use Rattle.xc_turns.proofs.Grown.{grown_active}
use Rattle.xc_turns.proofs.Jobs.{active_before, active_is}
use Rattle.xc_turns.proofs.KindsOfTurns.{CauseOn, IsNoConflict, Kind, begins, cause_on, enters, free, meets, moves, rests, same, stays}
use Rattle.xc_turns.proofs.TurnKinds.{row_kind}

-- what undoes for a cause has it, marked or not
undoing_has : (mark : Option Mark) (c : Cause) → cause_of_phase mark (Undoing c) ≡ Some c
undoing_has None c = refl
undoing_has (Some m) c = refl

-- what names no holder wasn't revoked
free_unrevoked : (c : Option Cause) → IsNoConflict c → IsUnrevoked c
free_unrevoked None is = tt
free_unrevoked (Some cause.Asked) is = tt
free_unrevoked (Some (cause.Conflict object holder at)) is = absurd is
free_unrevoked (Some (cause.Revoked object by at)) is = absurd is
free_unrevoked (Some cause.NoMemory) is = tt
free_unrevoked (Some (cause.Stuck failed)) is = tt

-- a mark is taken away where there was none
still_unmarked : (marks : ℕ → Option Mark) (number n : ℕ) → marks n ≡ None → unmarked marks number n ≡ None
still_unmarked marks number n none = by_test (nat_eq n number)
  where
    by_test : (b : Bool) → (if b then None else marks n) ≡ None
    by_test true = refl
    by_test false = none

module _ (s : Setting) (at : ℕ) (old new : Moment) (job : JobView) (stands : slice_get old.jobs at ≡ Some job) (none : NoneIsRevoked old) where
  -- the transaction in this place is not, nor are the others
  set_active : (behind : JobView) → ((tx : TxView) → active_of behind ≡ Some tx → IsUnrevoked (cause_of_phase None tx.phase))
      → (j : ℕ) (tx : TxView) → IsActiveAt (slice_set old.jobs at behind) j tx → IsUnrevoked (cause_of_phase None tx.phase)
  set_active behind here j tx a = dite (ℕ_discrete j at)
      (λ (e : j ≡ at). here tx (active_is old.jobs at job stands behind tx (subst (λ k. IsActiveAt (slice_set old.jobs at behind) k tx) e a)))
      (λ (ne : j ≢ at). none.active j tx (active_before old.jobs at j behind tx ne a))

  -- its cause, with its mark
  on_phase : (tx : TxView) → IsUnrevoked (cause_on old tx) → IsUnrevoked (cause_of_phase None tx.phase)
  on_phase tx is = subst (λ (m : Option Mark). IsUnrevoked (cause_of_phase m tx.phase)) (none.marks tx.number) is

  -- and the other way
  on_mark : (tx : TxView) → IsUnrevoked (cause_of_phase None tx.phase) → IsUnrevoked (cause_on old tx)
  on_mark tx is = subst (λ (m : Option Mark). IsUnrevoked (cause_of_phase m tx.phase)) (sym (none.marks tx.number)) is

  -- a transaction that goes on for such a cause
  goes_on : (behind : JobView) (was tx : TxView) → IsUnrevoked (cause_of_phase None was.phase) → CauseOn (mover s at old job) behind was tx
      → IsUnrevoked (cause_of_phase None tx.phase)
  goes_on behind was tx before (same e) = on_phase tx (subst IsUnrevoked (sym e.cause) (on_mark was before))
  goes_on behind was tx before (free e) = on_phase tx (free_unrevoked (cause_on old tx) e)
  goes_on behind was tx before (meets e) = subst (λ (p : Phase). IsUnrevoked (cause_of_phase None p)) (sym e.phase) tt

  -- no such one in this place
  nothing_here : (behind : JobView) → active_of behind ≡ None → (tx : TxView) → active_of behind ≡ Some tx → IsUnrevoked (cause_of_phase None tx.phase)
  nothing_here behind gone tx is = cc

  -- this one
  one_here : (behind : JobView) (tx : TxView) → active_of behind ≡ Some tx → IsUnrevoked (cause_of_phase None tx.phase)
      → (u : TxView) → active_of behind ≡ Some u → IsUnrevoked (cause_of_phase None u.phase)
  one_here behind tx is has u also =
      let one : tx ≡ u = cc in subst (λ (t : TxView). IsUnrevoked (cause_of_phase None t.phase)) one has

  kind_revokes_none : s.rules.patience ≡ 0 → Kind s at old job new → NoneIsRevoked new
  kind_revokes_none zero (rests k) =
      record {
        entries = subst AreUnrevoked (sym k.journal) none.entries;
        active = subst (λ (jobs : List JobView). (j : ℕ) (tx : TxView) → IsActiveAt jobs j tx → IsUnrevoked (cause_of_phase None tx.phase))
            (sym k.sets.jobs) (set_active k.behind (nothing_here k.behind k.after));
        marks = λ n. ap (λ marks. marks n) k.marks ∙ none.marks n;
      }
  kind_revokes_none zero (begins k) =
      record {
        entries = subst AreUnrevoked (sym k.journal) none.entries;
        active = subst (λ (jobs : List JobView). (j : ℕ) (tx : TxView) → IsActiveAt jobs j tx → IsUnrevoked (cause_of_phase None tx.phase))
            (sym k.sets.jobs) (set_active k.behind (one_here k.behind k.tx k.after
            (subst (λ (p : Phase). IsUnrevoked (cause_of_phase None p)) (sym k.running) tt)));
        marks = λ n. ap (λ marks. marks n) k.marks ∙ still_unmarked old.marks k.tx.number n (none.marks n);
      }
  kind_revokes_none zero (moves k) =
      record {
        entries = subst AreUnrevoked (sym k.journal) none.entries;
        active = subst (λ (jobs : List JobView). (j : ℕ) (tx : TxView) → IsActiveAt jobs j tx → IsUnrevoked (cause_of_phase None tx.phase))
            (sym k.sets.jobs) (set_active k.behind (one_here k.behind k.tx k.after
            (goes_on k.behind k.was k.tx (none.active at k.was (job, stands, k.before)) k.why)));
        marks = λ n. ap (λ marks. marks n) k.marks ∙ none.marks n;
      }
  kind_revokes_none zero (stays k) =
      let less : job.busy < s.rules.patience = k.waits.patient in
      let never : job.busy < 0 = subst (λ n. job.busy < n) zero less in
      absurd (omega arith)
  kind_revokes_none zero (enters k) =
      let was = none.active at k.tx (job, stands, k.before) in
      let entered : IsUnrevoked (cause_in k.outcome) = subst IsUnrevoked (sym k.why) (on_mark k.tx was) in
      record {
        entries = subst AreUnrevoked (sym k.journal)
            (All-append (λ (e : Entry). IsUnrevoked (cause_in e.outcome)) old.journal (entry_of k.tx at k.outcome ∷ []) none.entries
            (All-cons (λ (e : Entry). IsUnrevoked (cause_in e.outcome)) (entry_of k.tx at k.outcome) [] entered
            (All-nil (λ (e : Entry). IsUnrevoked (cause_in e.outcome)))));
        active = subst (λ (jobs : List JobView). (j : ℕ) (tx : TxView) → IsActiveAt jobs j tx → IsUnrevoked (cause_of_phase None tx.phase))
            (sym k.jobs) (λ j tx a. set_active k.behind (nothing_here k.behind k.after) j tx
            (grown_active (slice_set old.jobs at k.behind) k.more k.idle j tx a));
        marks = λ n. ap (λ marks. marks n) k.marks ∙ still_unmarked old.marks k.tx.number n (none.marks n);
      }

-- a turn revokes nothing where no job may wait
pub turn_revokes_none : (s : Setting) (at : ℕ) (old new : Moment) (answer : Turn) → IsTurn s at old answer new → s.rules.patience ≡ 0
    → NoneIsRevoked old → NoneIsRevoked new
turn_revokes_none s at old new answer turned zero none =
    kind_revokes_none s at old new turned.job turned.there none zero (row_kind s at old new answer turned)
