-- Seats and marks after a turn.
use Rattle.std.proofs.Common.{◌≡◌, ◌≢◌, ℕ, Bool, true, false, Some, None, refl, ap, sym, ◌∙◌}
use Rattle.std.specs.Prelude.{nat_eq, Option, if◌then◌else◌}
use borrow.Author.Tests.{eq-eqb, ne_eqb}
use mathlib.Core.Logic.{dite}
use native.Mathlib.Decide.{ℕ_discrete}
use Rattle.xc_data.specs.declared.entry.Mark.{Mark}
use Rattle.xc_sentinel.specs.declared.seat.Seat.{Seat}
use Rattle.xc_sentinel.specs.Seated.{Seats}
use Rattle.xc_sentinel.specs.Seating.{KeepsSeats, SetsSeat, seat_in}
use Rattle.xc_sentinel.specs.Asking.{changed, mark_of, marked_seat}
use Rattle.xc_sentinel.specs.Asking as asking
use Rattle.xc_model.specs.declared.phase.Phase.{Phase}
use Rattle.xc_model.specs.declared.phase.Phase.TheVariants.{Running, Committing, Undoing, Backing}
use Rattle.xc_model.specs.Moment.{TxView, unmarked}
use Rattle.xc_model.specs.RunningRows.{mark_behind, marks_with}
use Rattle.xc_station.specs.Moments.{marks_of, runs, seated_as}

-- ---- one seat changes
module _ (old new : Seats) (number : ℕ) (seat : Option Seat) (sets : SetsSeat old new number seat) where
  -- it is this one
  pub seat_there : seat_in new number ≡ seat
  seat_there = sets number ∙ ap (λ (b : Bool). if b then seat else seat_in old number) (eq-eqb number number refl)

  -- all others stay
  pub seat_elsewhere : (n : ℕ) → n ≢ number → seat_in new n ≡ seat_in old n
  seat_elsewhere n ne = sets n ∙ ap (λ (b : Bool). if b then seat else seat_in old n) (ne_eqb n number ne)

  -- the marks are as before but for its own, which there is none
  pub marks_unmarked : mark_of seat ≡ None → marks_of new ≡ unmarked (marks_of old) number
  marks_unmarked none = λ i n. at_number n i
    where
      by_test : (b : Bool) (was : Option Seat) → mark_of (if b then seat else was) ≡ (if b then None else mark_of was)
      by_test true was = none
      by_test false was = refl

      at_number : (n : ℕ) → marks_of new n ≡ unmarked (marks_of old) number n
      at_number n = ap mark_of (sets n) ∙ by_test (nat_eq n number) (seat_in old n)

-- all seats stay, and so do the marks
pub marks_kept : (old new : Seats) → KeepsSeats old new → marks_of new ≡ marks_of old
marks_kept old new kept = λ i n. mark_of (kept n i)

-- ---- a transaction that is marked

same_rule : (phase : Phase) (running : Bool) → running ≡ runs phase → (kept : Option Mark) (m : Mark)
    → asking.mark_taken running kept m ≡ mark_behind phase kept m
same_rule phase running is kept m = ap (λ (b : Bool). asking.mark_taken b kept m) is ∙ by_phase phase kept
  where
    by_phase : (phase : Phase) (kept : Option Mark) → asking.mark_taken (runs phase) kept m ≡ mark_behind phase kept m
    by_phase Running None = refl
    by_phase Running (Some k) = refl
    by_phase Backing None = refl
    by_phase Backing (Some k) = refl
    by_phase Committing None = refl
    by_phase Committing (Some k) = refl
    by_phase (Undoing c) None = refl
    by_phase (Undoing c) (Some k) = refl

mark_there : (m : Mark) (o : Option Seat) (tx : TxView) → seated_as o ≡ Some (tx.rank, runs tx.phase)
    → mark_of (changed (λ seat. marked_seat seat m) o) ≡ mark_behind tx.phase (mark_of o) m
mark_there m None tx is = absurd (let bad : ⊥ = cc is in bad)
mark_there m (Some seat) tx is =
    let both : ◌≡◌ {A = ℕ × Bool} (seat.rank, seat.running) (tx.rank, runs tx.phase) = cc is in
    same_rule tx.phase seat.running (ap (λ (p : ℕ × Bool). p.1) both) seat.mark m

module _ (old new : Seats) (holder : ℕ) (m : Mark) (sets : SetsSeat old new holder (changed (λ seat. marked_seat seat m) (seat_in old holder))) where
  -- the marks are as before but for the holder's, which takes this one if it runs and has none
  pub marks_marked : (tx : TxView) → tx.number ≡ holder → seated_as (seat_in old holder) ≡ Some (tx.rank, runs tx.phase)
      → marks_of new ≡ marks_with (marks_of old) tx m
  marks_marked tx number seated = λ i n. at_number n i
    where
      at_number : (n : ℕ) → marks_of new n ≡ marks_with (marks_of old) tx m n
      at_number n = dite (ℕ_discrete n tx.number)
          (λ (here : n ≡ tx.number). ap (marks_of new) (here ∙ number)
          ∙ ap mark_of (seat_there old new holder (changed (λ seat. marked_seat seat m) (seat_in old holder)) sets)
          ∙ mark_there m (seat_in old holder) tx seated
          ∙ ap (λ k. mark_behind tx.phase (marks_of old k) m) (sym (here ∙ number))
          ∙ sym (ap (λ (b : Bool). if b then mark_behind tx.phase (marks_of old n) m else marks_of old n) (eq-eqb n tx.number here)))
          (λ (ne : n ≢ tx.number). ap mark_of
          (seat_elsewhere old new holder (changed (λ seat. marked_seat seat m) (seat_in old holder)) sets n (λ e. ne (e ∙ sym number)))
          ∙ sym (ap (λ (b : Bool). if b then mark_behind tx.phase (marks_of old n) m else marks_of old n) (ne_eqb n tx.number ne)))
