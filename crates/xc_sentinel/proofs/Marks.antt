-- No seat has a mark: what makes it so, and what keeps it so.
use Rattle.std.proofs.Common.{◌≡◌, ◌≢◌, ℕ, false, Some, None, is_some, refl, ap, sym, ◌∙◌, arith}
use Rattle.std.specs.Prelude.{Option}
use mathlib.Core.Logic.{dite}
use native.Mathlib.Decide.{ℕ_discrete}
use Rattle.slab.specs.Slab.{Slab, get as slot_at, slab_len, Updates as SlotUpdates}
use Rattle.slab.proofs.SlabLemmas.{Contains-entries, length-entries}
use Rattle.xc_data.specs.declared.entry.Mark.{Mark}
use Rattle.xc_sentinel.specs.declared.seat.Slot.{Slot}
use Rattle.xc_sentinel.specs.Asking.{mark_of}
use Rattle.xc_sentinel.specs.Seated.{seat_of, AreUnmarked}

-- a mark that isn't there is none
pub is_none : (mark : Option Mark) → is_some mark ≡ false → mark ≡ None
is_none None e = refl
is_none (Some mark) e = absurd (cc)

-- where no seat is, none has a mark
pub empty_unmarked : (slots : Slab Slot) → slab_len slots ≡ 0 → AreUnmarked slots
empty_unmarked slots none key slot at =
    let listed = (Contains-entries slots key slot).1 at in absurd (omega (arith, listed.1, length-entries slots, none))

-- one slot changes to nothing, or to a seat without a mark
pub stays_unmarked : (slots slots' : Slab Slot) (key : ℕ) (new : Option Slot) → SlotUpdates slots slots' key new → mark_of (seat_of new) ≡ None
    → AreUnmarked slots → AreUnmarked slots'
stays_unmarked slots slots' key new s none all k slot at = dite (ℕ_discrete k key)
    (λ (here : k ≡ key).
    let is : new ≡ Some slot = sym s.changed ∙ ap (slot_at slots') (sym here) ∙ at in
    ap (λ o. mark_of (seat_of o)) (sym is) ∙ none)
    (λ (ne : k ≢ key). all k slot (sym (s.others k ne) ∙ at))

-- room is made
pub room_unmarked : (slots room : Slab Slot) → room ≡ record slots { capacity = room.capacity } → AreUnmarked slots → AreUnmarked room
room_unmarked slots room same all key slot at = all key slot (sym (ap (λ (r : Slab Slot). slot_at r key) same) ∙ at)
