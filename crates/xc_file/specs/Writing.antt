-- What an overwrite does, where the host tells.
use Rattle.std.specs.Prelude.{Result, Ok, Option, ◌≡◌, ◌⊎◌, ℕ, ◌+◌, ◌<◌, ◌≤◌, ◌==◌, List, ◌++◌, length, take, if◌then◌else◌}
use Rattle.std.specs.declared.option.Option.TheVariants.{Some}
use Rattle.xc_data.specs.declared.object.Num.{Num}
use Rattle.xc_data.specs.declared.call.Call.{Call}
use Rattle.xc_data.specs.declared.call.Reply.{Reply}
use Rattle.xc_data.specs.declared.call.Reply.TheVariants.{Done, PastEnd, Fault}
use Rattle.xc_data.specs.declared.private.Place.TheVariants.{File}
use Rattle.xc_data.specs.declared.private.Private.{Private}
use Rattle.xc_data.specs.declared.script.HostCallKind.{HostCallKind}
use Rattle.xc_data.specs.declared.undo.Undo.{Undo}
use Rattle.xc_data.specs.Private.{with_place}
use Rattle.xc_data.specs.Step.{Step}
use Rattle.xc_world.specs.RecordOf.{AreRecordsOf, left_by}
use Rattle.xc_host.specs.Contents.{Contents, file_in, wrote_front}
use Rattle.xc_host.specs.Uses.{MayMove, overwrites}
use Rattle.xc_host.specs.declared.errors.HostErr.{HostErr}
use Rattle.xc_compensate.specs.Records.{Records}

-- the bytes fit into a file from `at` on
abbrev pub FitsInFile : Contents → Num → ℕ → List ℕ → Type 0
FitsInFile c file at bytes = at + length bytes ≤ length (file_in c file)

-- what an overwrite with this reply did: past the end nothing, else all the bytes, or with a fault a front
abbrev pub Overwrote : Step Contents → Num → ℕ → List ℕ → Reply → Type 0
Overwrote c file at bytes PastEnd = (c.new ≡ c.old) × (length (file_in c.old file) < at + length bytes)
Overwrote c file at bytes Done = (c.new ≡ wrote_front c.old file at bytes) × FitsInFile c.old file at bytes
Overwrote c file at bytes (Fault n) = (c.new ≡ wrote_front c.old file at (take n bytes))
    × ((n ≡ 0) ⊎ ((n < length bytes) × FitsInFile c.old file at bytes))
-- it has no other reply
Overwrote c file at bytes _ = ⊥

-- the position of an open file is after what was done
abbrev pub moved_on : Private → ℕ → Num → ℕ → ℕ → Private
moved_on me h file at done = if done == 0 then me else with_place me h (File file (at + done))

-- the older records stay, and one comes after them exactly where the call with its reply leaves one, which is of this call
pub record AddsFor (call : Call) (reply : Reply) (old new : Records) : Type 0 where
  pub made : List Undo
  pub kinds : AreRecordsOf (left_by call reply) made
  pub undo : new ≡ record old { pending = old.pending ++ made }

-- the calls that look for n bytes which are there: at the length, and then at the bytes
abbrev pub LooksThere : ℕ → List HostCallKind → Type 0
LooksThere n made = (reads : ℕ) × MayMove n reads × (made ≡ overwrites reads 0)

-- those that look for n bytes, and stop where they aren't there or one fails
abbrev pub LooksFor : {T : Type 0} → ℕ → Result (Option T) HostErr → List HostCallKind → Type 0
LooksFor n (Ok (Some before)) made = LooksThere n made
LooksFor n _ made = (reads : ℕ) × (reads ≤ n) × (made ≡ overwrites reads 0)
