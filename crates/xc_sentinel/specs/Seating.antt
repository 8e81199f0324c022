-- What contracts see of active transactions: each by its number.
use Rattle.std.specs.Prelude.{◌≡◌, ℕ, nat_eq, Option, if◌then◌else◌}
use Rattle.xc_sentinel.specs.declared.seat.Seat.{Seat}
use Rattle.xc_sentinel.specs.Seated.{Seats, seat_by}

-- the seat of the transaction of this number
abbrev pub seat_in : Seats → ℕ → Option Seat
seat_in seats n = seat_by seats.keys seats.slots n

-- at this number is this seat, or nothing, and all others stay
abbrev pub SetsSeat : Seats → Seats → ℕ → Option Seat → Type 0
SetsSeat old new number seat = (n : ℕ) → seat_in new n ≡ (if nat_eq n number then seat else seat_in old n)

-- all stay
abbrev pub KeepsSeats : Seats → Seats → Type 0
KeepsSeats old new = (n : ℕ) → seat_in new n ≡ seat_in old n
