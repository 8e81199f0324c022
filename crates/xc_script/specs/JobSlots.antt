-- Slots: how the last late call with each of them ended.
use mathlib.Core.Logic.{inl, inr}
use Rattle.std.specs.Prelude.{◌≡◌, ◌⊎◌, ℕ, Bool, true, false, List, [], length, nat_eq, position, replicate, slice_get}
use Rattle.std.specs.Prelude.{slice_set, refl, Option}
use Rattle.std.specs.Cmp.Lexicographic.{pointwise}
use Rattle.std.specs.Coded.{Coded, code_by, coded×, coded⊎, coded_ℕ, coded_bool, coded_list}
use Rattle.std.specs.declared.option.Option.TheVariants.{None, Some}
use Rattle.xc_data.specs.declared.call.LateEnd.{LateEnd}
use Rattle.xc_data.specs.declared.call.LateEnd.TheVariants as end
use Rattle.xc_maps.specs.Keys.{coded_name}

-- the slots of a job by their places: their names, and how the last late call with each of them ended; an unset one is
-- as one that was done
pub record Slots : Type 0 where
  pub names : List (List ℕ)
  pub ends : List LateEnd

-- these slots, each unset
abbrev pub unset : List (List ℕ) → Slots
unset names = record { names = names; ends = replicate (length names) end.Done }

-- no slot at all
abbrev pub no_slots : Slots
no_slots = record { names = []; ends = [] }

-- the slot at a place takes an end; where there is no place nothing is changed
abbrev pub with_end_at : Slots → Option ℕ → LateEnd → Slots
with_end_at slots None e = slots
with_end_at slots (Some at) e = record slots { ends = slice_set slots.ends at e }

-- the place of a slot
abbrev pub slot_place : Slots → List ℕ → Option ℕ
slot_place slots name = position (λ other. pointwise nat_eq other name) slots.names

-- a slot takes an end; nothing is changed where no such slot is there
abbrev pub with_slot : Slots → List ℕ → LateEnd → Slots
with_slot slots name e = with_end_at slots (slot_place slots name) e

-- an end as a number
abbrev pub end_number : LateEnd → ℕ
end_number end.Done = 0
end_number (end.Full n) = 1
end_number end.NoName = 2
end_number end.NoScript = 3
end_number (end.Fault n) = 4
end_number (end.NoMemory n) = 5
end_number end.Shut = 6

-- what an end counts as: 0 where there is none
abbrev pub slot_end_number : Option LateEnd → ℕ
slot_end_number None = 0
slot_end_number (Some e) = end_number e

-- what the slot at a place counts as
abbrev pub slot_number : Slots → ℕ → ℕ
slot_number slots at = slot_end_number (slice_get slots.ends at)

-- the name of the slot at a place
abbrev pub slot_name : Slots → ℕ → Option (List ℕ)
slot_name slots at = slice_get slots.names at

-- ---- codes of ends and of slots
-- the parts of an end: two truth values where it has no number, else the number by its kind
abbrev pub end_parts : LateEnd → (Bool × Bool) ⊎ (ℕ ⊎ (ℕ ⊎ ℕ))
end_parts end.Done = inl (false, false)
end_parts end.NoName = inl (false, true)
end_parts end.NoScript = inl (true, false)
end_parts end.Shut = inl (true, true)
end_parts (end.Full n) = inr (inl n)
end_parts (end.Fault n) = inr (inr (inl n))
end_parts (end.NoMemory n) = inr (inr (inr n))

-- the end of these parts
abbrev pub of_end_parts : (Bool × Bool) ⊎ (ℕ ⊎ (ℕ ⊎ ℕ)) → LateEnd
of_end_parts (inl (false, false)) = end.Done
of_end_parts (inl (false, true)) = end.NoName
of_end_parts (inl (true, false)) = end.NoScript
of_end_parts (inl (true, true)) = end.Shut
of_end_parts (inr (inl n)) = end.Full n
of_end_parts (inr (inr (inl n))) = end.Fault n
of_end_parts (inr (inr (inr n))) = end.NoMemory n

-- an end is that of its parts
abbrev pub same_end : (e : LateEnd) → of_end_parts (end_parts e) ≡ e
same_end end.Done = refl
same_end end.NoName = refl
same_end end.NoScript = refl
same_end end.Shut = refl
same_end (end.Full n) = refl
same_end (end.Fault n) = refl
same_end (end.NoMemory n) = refl

-- an end's code, that of its parts
abbrev pub coded_end : Coded LateEnd
coded_end =
    code_by ((Bool × Bool) ⊎ (ℕ ⊎ (ℕ ⊎ ℕ))) (coded⊎ (coded× coded_bool coded_bool) (coded⊎ coded_ℕ (coded⊎ coded_ℕ coded_ℕ)))
    end_parts of_end_parts same_end

-- the slots' code, that of their names and their ends
abbrev pub coded_slots : Coded Slots
coded_slots =
    code_by (List (List ℕ) × List LateEnd) (coded× (coded_list coded_name) (coded_list coded_end))
    (λ s. (s.names, s.ends)) (λ p. record { names = p.0; ends = p.1 }) (λ _. refl)
