-- What an append does.
use Rattle.std.specs.Prelude.{◌≡◌, ◌⊎◌, ℕ, ◌+◌, ◌<◌, ◌≤◌, ◌==◌, IsTrue, List, [], ◌∷◌, ◌++◌, length, take, replicate}
use Rattle.std.specs.Prelude.{Result, Ok, Err, OnOk, OnErr, if◌then◌else◌}
use Rattle.xc_data.specs.Counts.{CountsFault}
use Rattle.xc_data.specs.Step.{Step}
use Rattle.xc_data.specs.declared.object.Num.{Num}
use Rattle.xc_data.specs.declared.call.Reply.{Reply}
use Rattle.xc_data.specs.declared.call.Reply.TheVariants.{Done, TooBig, Fault}
use Rattle.xc_data.specs.declared.script.HostCallKind.{HostCallKind}
use Rattle.xc_data.specs.declared.script.HostCallKind.TheVariants as kind
use Rattle.xc_data.specs.declared.undo.Undo.{Undo}
use Rattle.xc_data.specs.declared.undo.Undo.TheVariants.{Append}
use Rattle.xc_host.specs.Cause.{is_fault}
use Rattle.xc_host.specs.Contents.{Contents, file_in, appended_front}
use Rattle.xc_host.specs.Model.{HostModel}
use Rattle.xc_host.specs.Uses.{Uses, MovesBy}
use Rattle.xc_host.specs.declared.errors.HostErr.{HostErr}
use Rattle.xc_host.specs.declared.errors.HostErr.TheVariants as host_err
use Rattle.xc_compensate.specs.Records.{AtHost}
use Rattle.xc_file.specs.declared.appending.Appended.{Appended}

-- a file has room for more bytes
abbrev pub HasFileRoom : Contents → Num → List ℕ → Type 0
HasFileRoom c file bytes = length (file_in c file) + length bytes ≤ 65536

-- what an append with this reply did: without room nothing, else all the bytes, or with a fault a front
abbrev pub Appends : Contents → Contents → Num → List ℕ → Reply → Type 0
Appends was is file bytes TooBig = (is ≡ was) × (65536 < length (file_in was file) + length bytes)
Appends was is file bytes Done = (is ≡ appended_front was file bytes) × HasFileRoom was file bytes
Appends was is file bytes (Fault n) = (is ≡ appended_front was file (take n bytes))
    × ((n ≡ 0) ⊎ ((n < length bytes) × HasFileRoom was file bytes))
-- it has no other reply
Appends was is file bytes _ = ⊥

-- the record of n bytes that were appended to a file of `from` bytes; none where n is 0
abbrev pub appended_record : Num → ℕ → List ℕ → ℕ → List Undo
appended_record file from bytes n = if n == 0 then [] else Append file from bytes n ∷ []

-- the calls of an append of n bytes that did so many, by what ended it
abbrev pub AppendsUntil : ℕ → ℕ → Result (Unit {0}) HostErr → List HostCallKind → Type 0
AppendsUntil n done (Ok x) made = MovesBy kind.Append done 0 made
AppendsUntil n done (Err host_err.Fault) made = MovesBy kind.Append done 1 made
AppendsUntil n done (Err host_err.NoMemory) made = (count : ℕ) × (count ≤ n) × (made ≡ replicate count kind.Append)

-- so much of the bytes is appended at the host: all, or a front and what stopped it
pub record IsAppended {H : Type 0} (model : HostModel H) (file : Num) (bytes : List ℕ) (step : Step H) (appended : Appended)
    : Type 0 where
  pub whole : OnOk appended.end (appended.done ≡ length bytes)
  pub short : OnErr appended.end (appended.done < length bytes)
  pub uses : Uses model step (AppendsUntil (length bytes) appended.done appended.end)
  pub contents : IsTrue model.tells
      → model.contents step.new ≡ appended_front (model.contents step.old) file (take appended.done bytes)
  pub cause : CountsFault (is_fault appended.end) (model.fault_count step.old) (model.fault_count step.new)

-- an append that wanted memory after a front, which a record tells of
pub record StopsShort {H : Type 0} (model : HostModel H) (file : Num) (bytes : List ℕ) (old new : AtHost H) : Type 0 where
  pub from : ℕ
  pub done : ℕ
  pub undo : new.undo ≡ record { pending = old.undo.pending ++ appended_record file from bytes done; ended = [] }
  pub end : IsTrue model.tells → from ≡ length (file_in (model.contents old.host) file)
  pub told : IsTrue model.tells → Appends (model.contents old.host) (model.contents new.host) file bytes (Fault done)
