-- Stored compensations: the records that a transaction's calls left, and how undoing them ends.
use Rattle.std.specs.Prelude.{◌≡◌, ◌≢◌, ℕ, ◌+◌, ◌≤◌, ◌<◌, ◌^◌, ◌==◌, Bool, true, false, Option, IsTrue}
use Rattle.std.specs.Prelude.{List, [], ◌∷◌, ◌++◌, length, map, take, drop, if◌then◌else◌}
use Rattle.std.specs.List.{All, list_any}
use Rattle.std.specs.declared.option.Option.TheVariants.{None}
use Rattle.xc_data.specs.Counts.{RisesBy}
use Rattle.xc_data.specs.Faults.{end_faults}
use Rattle.xc_data.specs.declared.undo.Undo.{Undo}
use Rattle.xc_data.specs.declared.undo.Undo.TheVariants.{Overwrite, Append, Create, Rename, NewPipe, NewPair}
use Rattle.xc_data.specs.declared.undo.UndoEnd.{UndoEnd}
use Rattle.xc_world.specs.Ends.{Ending, blocker, IsLegalEnd}
use Rattle.xc_world.specs.Effects.{undone_to, IsCovered}
use Rattle.xc_host.specs.Contents.{Contents, contents_of, world_of}
use Rattle.xc_host.specs.Model.{HostModel}
use Rattle.xc_host.specs.Uses.{Uses, BacksFor}
use Rattle.xc_compensate.specs.Hindered.{hinders}

-- what contracts see of a stack; together the two lists are in the order of the calls
pub record Records : Type 0 where
  -- the records that have no end yet
  pub pending : List Undo
  -- the newer ones, with their ends
  pub ended : List Ending

-- a record that is stored: it covers a front of the new bytes, whose places in the file are a u32's; an overwrite has as many
-- old ones
abbrev pub IsRecord : Undo → Type 0
IsRecord (Overwrite file at before after n) = (1 ≤ n) × (n ≤ length after) × (length before ≡ length after) × (at + length after < 2 ^ 32)
IsRecord (Append file from after n) = (1 ≤ n) × (n ≤ length after) × (from + length after < 2 ^ 32)
IsRecord (Create name num) = Unit {0}
IsRecord (Rename from to) = Unit {0}
IsRecord (NewPipe num) = Unit {0}
IsRecord (NewPair num) = Unit {0}

-- whether the host puts a record's bytes back piece by piece; one call undoes each other kind
abbrev pub is_overwrite : Undo → Bool
is_overwrite (Overwrite file at before after n) = true
is_overwrite (Append file from after n) = false
is_overwrite (Create name num) = false
is_overwrite (Rename from to) = false
is_overwrite (NewPipe num) = false
is_overwrite (NewPair num) = false

-- what contracts see of records in the order of the calls, of which the first so many have no end yet
abbrev pub split_records : List Ending → ℕ → Records
split_records records pending = record { pending = map (λ r. r.0) (take pending records); ended = drop pending records }

-- what is kept of them: numbers are a u32's, and it is known whether one failed or was blocked
pub record IsStack (records : List Ending) (pending : ℕ) (hindered : Bool) : Type 0 where
  pub within : pending ≤ length records
  pub few : length records < 2 ^ 32
  pub kinds : All IsRecord (split_records records pending).pending
  pub known : hindered ≡ list_any hinders (drop pending records)

-- how many bytes a record covers
abbrev pub covers : Undo → ℕ
covers (Overwrite file at before after n) = n
covers (Append file from after n) = n
covers (Create name num) = 0
covers (Rename from to) = 0
covers (NewPipe num) = 0
covers (NewPair num) = 0

-- the record, covering its first n bytes
abbrev pub covered : Undo → ℕ → Undo
covered (Overwrite file at before after m) n = Overwrite file at before after n
covered (Append file from after m) n = Append file from after n
covered u n = u

-- what is left of a record that covers its first n bytes; none where n is 0
abbrev pub cut_to : ℕ → Undo → List Undo
cut_to n u = if n == 0 then [] else covered u n ∷ []

-- ---- the rollback
-- a host, and the records of one transaction at it
pub record AtHost (H : Type 0) : Type 0 where
  pub host : H
  pub undo : Records

-- the number of the record after these
abbrev pub number_behind : List Undo → ℕ
number_behind older = length older + 1

-- what stands in the way of the newest record without an end, after the older ones
abbrev pub way_of : List Undo → Undo → Records → Option ℕ
way_of older u undo = blocker (number_behind older + 1) u undo.ended

-- what the newest record without an end tells of is there, if nothing stands in its way
abbrev pub NextIsCovered : Contents → Records → Type 0
NextIsCovered c undo = (older : List Undo) (u : Undo) → undo.pending ≡ older ++ u ∷ [] → way_of older u undo ≡ None
    → IsCovered (world_of c) u

-- the newest record without an end was tried
pub record IsTried {H : Type 0} (model : HostModel H) (tries : ℕ) (old new : AtHost H) : Type 0 where
  pub older : List Undo
  pub tried : Undo
  pub end : UndoEnd
  pub was : old.undo.pending ≡ older ++ tried ∷ []
  pub stack : new.undo ≡ record { pending = older; ended = (tried, end) ∷ old.undo.ended }
  -- blocked exactly where a newer record stands in the way; failed exactly after so many tries
  pub legal : IsLegalEnd tries tried end (way_of older tried old.undo)
  pub faults : RisesBy (end_faults end) (model.fault_count old.host) (model.fault_count new.host)
  -- the host isn't called for a blocked one
  pub still : way_of older tried old.undo ≢ None → new.host ≡ old.host
  -- it was called once for each fault and for each part that was restored, and for nothing else
  pub uses : Uses model (record { old = old.host; new = new.host }) (BacksFor tried end)
  -- it did what the end says
  pub effect : IsTrue model.tells → model.contents new.host ≡ contents_of (undone_to (world_of (model.contents old.host)) tried end)
