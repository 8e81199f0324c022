-- Active transactions in slots, by their numbers.
use Rattle.std.specs.Prelude.{◌≡◌, ℕ, refl, Option, Some, None}
use Rattle.std.specs.Coded.{Coded, code_by, coded×, coded_ℕ}
use Rattle.std.specs.Ordering.{nat_cmp}
use Rattle.std.specs.FinMap as map
use Rattle.slab.specs.Slab.{Slab, slab_code, get as slot_at}
use Rattle.xc_sentinel.specs.contracts.seat.Slot as slot_row
use Rattle.xc_sentinel.specs.declared.seat.Seat.{Seat}
use Rattle.xc_sentinel.specs.declared.seat.Slot.{Slot}

-- active transactions: in slots, each with its number, and at which key each number is
pub record Seats : Type 0 where
  pub slots : Slab Slot
  pub keys : map.FinMap nat_cmp ℕ

-- how a proof stores them
abbrev pub coded_seats : Coded Seats
coded_seats =
    code_by (Slab Slot × map.FinMap nat_cmp ℕ) (coded× (slab_code slot_row.the_row.coded) (map.code coded_ℕ coded_ℕ))
    (λ s. (s.slots, s.keys)) (λ p. record { slots = p.0; keys = p.1 }) (λ _. refl)

-- the seat in a slot
abbrev pub seat_of : Option Slot → Option Seat
seat_of None = None
seat_of (Some slot) = Some slot.seat

-- and its number
abbrev pub seat_number : Option Slot → Option ℕ
seat_number None = None
seat_number (Some slot) = Some slot.tx

-- and at a key, where there is one
abbrev pub seat_at : Slab Slot → Option ℕ → Option Seat
seat_at slots None = None
seat_at slots (Some key) = seat_of (slot_at slots key)

-- the seat of the transaction of this number
abbrev pub seat_by : map.FinMap nat_cmp ℕ → Slab Slot → ℕ → Option Seat
seat_by keys slots n = seat_at slots (map.get keys n)

-- at each number's key is a seat of that number
abbrev pub AreSeated : map.FinMap nat_cmp ℕ → Slab Slot → Type 0
AreSeated keys slots = (n key : ℕ) → map.get keys n ≡ Some key → seat_number (slot_at slots key) ≡ Some n

-- no seat has a mark
abbrev pub AreUnmarked : Slab Slot → Type 0
AreUnmarked slots = (key : ℕ) (slot : Slot) → slot_at slots key ≡ Some slot → slot.seat.mark ≡ None
