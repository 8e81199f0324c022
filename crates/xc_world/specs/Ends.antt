-- How the compensations of an aborted transaction may end, and what then stands.
use Rattle.std.specs.Prelude.{◌≡◌, ℕ, ◌+◌, ◌<◌, Bool, true, false, Option, List, [], ◌∷◌, if◌then◌else◌}
use Rattle.std.specs.declared.option.Option.TheVariants.{None, Some}
use Rattle.std.specs.List.{list_any, filter_map}
use Rattle.xc_data.specs.declared.undo.Undo.{Undo}
use Rattle.xc_data.specs.declared.undo.Undo.TheVariants.{Overwrite, Append, Create, Rename, NewPipe, NewPair}
use Rattle.xc_data.specs.declared.undo.UndoEnd.{UndoEnd}
use Rattle.xc_data.specs.declared.undo.UndoEnd.TheVariants.{Undone, Failed, Blocked}
use Rattle.xc_data.specs.Remaining.{objects_of, remains_from}
use Rattle.xc_world.specs.World.{World}
use Rattle.xc_data.specs.Claims.{is_object}
use Rattle.xc_world.specs.Trail.{with_effect}

-- a record with its end
abbrev pub Ending : Type 0
Ending = Undo × UndoEnd

-- two records speak of one object
abbrev pub share_object : Undo → Undo → Bool
share_object a b = list_any (λ o. list_any (is_object o) (objects_of b)) (objects_of a)

-- whether a compensation undid its record
abbrev pub is_undone : UndoEnd → Bool
is_undone (Undone faults) = true
is_undone (Failed done faults) = false
is_undone (Blocked by) = false

-- a newer record that stands in the way of an older one
abbrev pub stands_in_way : Undo → Ending → Bool
stands_in_way older (newer, end) = if is_undone end then false else share_object older newer

-- the smallest number of a newer record in the way, the first of them having the number `from`
abbrev pub blocker : ℕ → Undo → List Ending → Option ℕ
blocker from older [] = None
blocker from older (r ∷ newer) = if stands_in_way older r then Some from else blocker (from + 1) older newer

-- how many bytes a failed compensation may have restored: fewer than are covered, none but of an overwrite
abbrev pub RestoredFits : Undo → ℕ → Type 0
RestoredFits (Overwrite file at before after n) done = done < n
RestoredFits (Append file from after n) done = done ≡ 0
RestoredFits (Create name num) done = done ≡ 0
RestoredFits (Rename from to) done = done ≡ 0
RestoredFits (NewPipe num) done = done ≡ 0
RestoredFits (NewPair num) done = done ≡ 0

-- an end is legal for a number of tries and what stands in the way
abbrev pub IsLegalEnd : ℕ → Undo → UndoEnd → Option ℕ → Type 0
IsLegalEnd tries u (Blocked by) way = way ≡ Some by
IsLegalEnd tries u (Undone faults) way = (way ≡ None) × (faults < tries)
IsLegalEnd tries u (Failed done faults) way = (way ≡ None) × (faults ≡ tries) × RestoredFits u done

-- the ends of records in the order of the calls, the first of them having the number `from`
abbrev pub AreLegal : ℕ → ℕ → List Ending → Type 0
AreLegal tries from [] = Unit {0}
AreLegal tries from ((u, end) ∷ newer) = IsLegalEnd tries u end (blocker (from + 1) u newer) × AreLegal tries (from + 1) newer

-- ---- what remains, in the order of the calls: each record that stands, and from which byte on
abbrev pub standing_part : Undo → Option ℕ → Option (Undo × ℕ)
standing_part u None = None
standing_part u (Some k) = Some (u, k)

-- the records that stand, each with the byte from which it does
abbrev pub remains : List Ending → List (Undo × ℕ)
remains records = filter_map (λ r. standing_part r.0 (remains_from r.0 r.1)) records

-- the world with what remains
abbrev pub with_remains : World → List (Undo × ℕ) → World
with_remains w [] = w
with_remains w ((u, k) ∷ rest) = with_remains (with_effect w u k) rest
