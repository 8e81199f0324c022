-- What becomes of claims, and of marks.
use Rattle.std.specs.Prelude.{◌≡◌, ℕ, ◌<◌, Bool, true, false, All, List, Option, Some, None}
use Rattle.xc_data.specs.declared.claim.Claim.{Claim}
use Rattle.xc_data.specs.declared.object.Object.{Object}
use Rattle.xc_data.specs.Claims.{holding}
use Rattle.xc_data.specs.Step.{Step}
use Rattle.xc_locks.specs.Table.{KeepsOthers, claimed, held_mode}
use Rattle.xc_locks.specs.Met.{IsFirstMet, IsNotMet}
use Rattle.xc_data.specs.declared.entry.Mark.{Mark}
use Rattle.xc_sentinel.specs.declared.seat.Seat.{Seat}
use Rattle.xc_sentinel.specs.declared.seat.ClaimVerdict.{ClaimVerdict}
use Rattle.xc_sentinel.specs.declared.seat.ClaimVerdict.TheVariants as verdict
use Rattle.xc_sentinel.specs.declared.sentinels.Sentinels.{Sentinels}
use Rattle.xc_sentinel.specs.Seating.{seat_in, SetsSeat, KeepsSeats}

-- ---- a mark
-- what becomes of a mark: a running transaction without one takes this one
abbrev pub mark_taken : Bool → Option Mark → Mark → Option Mark
mark_taken true None new = Some new
mark_taken running kept new = kept

-- the seat after it
abbrev pub marked_seat : Seat → Mark → Seat
marked_seat seat new = record seat { mark = mark_taken seat.running seat.mark new }

-- the mark of a seat
abbrev pub mark_of : Option Seat → Option Mark
mark_of None = None
mark_of (Some seat) = seat.mark

-- the seat of a transaction that commits or undoes
abbrev pub settled : Seat → Seat
settled seat = record seat { running = false }

-- one seat after a change, where there is one
abbrev pub changed : (Seat → Seat) → Option Seat → Option Seat
changed f None = None
changed f (Some seat) = Some (f seat)

-- ---- claims
-- both are active, and the second is younger
abbrev pub IsYounger : Option Seat → Option Seat → Type 0
IsYounger (Some mine) (Some its) = mine.rank < its.rank
IsYounger (Some mine) None = ⊥
IsYounger None its = ⊥

-- what a transaction claims, whether it may wait for a younger holder, and how long the journal is
pub record Claiming : Type 0 where
  pub claims : List Claim
  pub patient : Bool
  pub at : ℕ

-- no claim is met, and all is claimed
pub record AreGranted (step : Step Sentinels) (tx : ℕ) (claims : List Claim) : Type 0 where
  pub free : All (IsNotMet step.old.claims tx) claims
  pub held : (o : Object) → held_mode step.new.claims tx o ≡ claimed (held_mode step.old.claims tx o) claims o
  pub others : KeepsOthers tx step.old.claims step.new.claims
  pub seats : KeepsSeats step.old.seats step.new.seats

module _ (step : Step Sentinels) (tx : ℕ) (c : Claiming) where
  -- the first claim that is met meets a younger holder, and there is patience: that one is marked
  pub record IsBusy (object : Object) (holder : ℕ) : Type 0 where
    pub met : IsFirstMet step.old.claims c.claims tx object holder
    pub patience : c.patient ≡ true
    pub younger : IsYounger (seat_in step.old.seats tx) (seat_in step.old.seats holder)
    pub table : step.new.claims ≡ step.old.claims
    pub mark : SetsSeat step.old.seats step.new.seats holder
        (changed (λ seat. marked_seat seat (record { object = object; by = tx; at = c.at })) (seat_in step.old.seats holder))

  -- it meets a holder that isn't younger, or there is no patience: nothing changes
  pub record IsConflict (object : Object) (holder : ℕ) : Type 0 where
    pub met : IsFirstMet step.old.claims c.claims tx object holder
    pub stops : c.patient ≡ true → IsYounger (seat_in step.old.seats tx) (seat_in step.old.seats holder) → ⊥
    pub same : step.new ≡ step.old

  -- the answer, and what changed
  abbrev pub IsAnswer : ClaimVerdict → Type 0
  IsAnswer verdict.Granted = AreGranted step tx c.claims
  IsAnswer (verdict.Busy object holder) = IsBusy object holder
  IsAnswer (verdict.Conflict object holder) = IsConflict object holder
  IsAnswer verdict.NoMemory = All (IsNotMet step.old.claims tx) c.claims × (step.new ≡ step.old)

-- what a transaction holds after its answer: what it claimed too, where that is granted
abbrev pub held_after : ClaimVerdict → List Claim → List Claim → List Claim
held_after verdict.Granted held claims = holding held claims
held_after (verdict.Busy object holder) held claims = held
held_after (verdict.Conflict object holder) held claims = held
held_after verdict.NoMemory held claims = held
