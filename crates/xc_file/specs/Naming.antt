-- What calls on names do, where the host tells.
use Rattle.std.specs.Prelude.{◌≡◌, ◌⊎◌, ℕ, ◌++◌, true, false, is_some, List, [], ◌∷◌, Result, Ok, Err, IfOk, OnErr, IsTrue}
use Rattle.std.specs.declared.option.Option.TheVariants.{None}
use Rattle.std.specs.FinMap as map
use Rattle.xc_data.specs.Counts.{CountsFault}
use Rattle.xc_data.specs.Step.{Step}
use Rattle.xc_data.specs.declared.memory.NoMemory.{NoMemory}
use Rattle.xc_data.specs.declared.object.Num.{Num}
use Rattle.xc_data.specs.declared.call.Call.TheVariants.{XCreate, XRename}
use Rattle.xc_data.specs.declared.call.Reply.{Reply}
use Rattle.xc_data.specs.declared.call.Reply.TheVariants.{Made, Done, NoName, Exists, Fault}
use Rattle.xc_data.specs.declared.script.HostCallKind.{HostCallKind}
use Rattle.xc_data.specs.declared.script.HostCallKind.TheVariants as kind
use Rattle.xc_data.specs.declared.private.Place.TheVariants.{File}
use Rattle.xc_data.specs.declared.private.Private.{Private}
use Rattle.xc_data.specs.Private.{with_place}
use Rattle.xc_world.specs.Act.Names.{making, next_num}
use Rattle.xc_world.specs.After.{bytes_in}
use Rattle.xc_world.specs.Replies.{may_reply}
use Rattle.xc_data.specs.Calls.{is_late}
use Rattle.xc_world.specs.Trail.{create_record, rename_record}
use Rattle.xc_host.specs.Contents.{Contents, created, renamed}
use Rattle.xc_host.specs.Model.{HostModel}
use Rattle.xc_host.specs.Uses.{CreatesFor, RenamesFor}
use Rattle.xc_compensate.specs.Records.{AtHost}
use Rattle.xc_calls.specs.Calls.{CallState, IsPassedReply, replies_fault}
use Rattle.xc_calls.specs.Passing.{IsAsBefore, at_host}

-- a name has a file
abbrev pub NamesFile : Contents → List ℕ → Type 0
NamesFile c name = is_some (map.get c.names name) ≡ true

-- a name has none
abbrev pub IsAbsent : Contents → List ℕ → Type 0
IsAbsent c name = map.get c.names name ≡ None

-- what a create of a file of this number did with this reply: the file is made under an absent name, or nothing changed
abbrev pub Creates : Contents → Contents → List ℕ → Num → Reply → Type 0
Creates was is name num (Made h) = (is ≡ created was name num) × IsAbsent was name
Creates was is name num Exists = (is ≡ was) × NamesFile was name
Creates was is name num (Fault n) = (is ≡ was) × (n ≡ 0)
-- it has no other reply
Creates was is name num _ = ⊥

-- what a rename with this reply did: the file has the other name, or nothing changed
abbrev pub Renames : Contents → Contents → List ℕ → List ℕ → Reply → Type 0
Renames was is from to Done = (is ≡ renamed was from to) × NamesFile was from × IsAbsent was to
Renames was is from to NoName = (is ≡ was) × IsAbsent was from
Renames was is from to Exists = (is ≡ was) × NamesFile was from × NamesFile was to
Renames was is from to (Fault n) = (is ≡ was) × (n ≡ 0)
-- it has no other reply
Renames was is from to _ = ⊥

-- a new file's handle is this one, and no other reply brings bytes
abbrev pub IsFileMadeAt : ℕ → Reply → Type 0
IsFileMadeAt h (Made k) = k ≡ h
IsFileMadeAt h reply = bytes_in reply ≡ 0

-- where a file was made, it stands at its handle, and one object more is made
abbrev pub with_file_made : Private → ℕ → Num → Reply → Private
with_file_made me h num (Made k) = making (with_place me h (File num 0))
-- with any other reply nothing was made
with_file_made me h num _ = me

-- the one call that makes a file, after a look for its name; where memory ran out, it may not have come to it
abbrev pub CreatesOnce : Result Reply NoMemory → List HostCallKind → Type 0
CreatesOnce (Ok reply) made = (made ≡ kind.Create ∷ []) × CreatesFor reply (kind.Lookup ∷ kind.Create ∷ [])
CreatesOnce (Err e) made = (made ≡ []) ⊎ (made ≡ kind.Create ∷ [])

-- the one call that gives another name, after two looks; it takes no memory
abbrev pub RenamesOnce : Result Reply NoMemory → List HostCallKind → Type 0
RenamesOnce (Ok reply) made = (made ≡ kind.Rename ∷ []) × RenamesFor reply (kind.Lookup ∷ kind.Lookup ∷ kind.Rename ∷ [])
RenamesOnce (Err e) made = made ≡ []

-- a create whose new handle is this one: what it replies, does and records; where memory ran out, all is as before
pub record IsCreate {H : Type 0} (model : HostModel H) (name : List ℕ) (h : ℕ) (step : Step (CallState H))
    (result : Result Reply NoMemory) : Type 0 where
  pub made : IfOk result (IsFileMadeAt h)
  pub reply : IfOk result (λ reply. may_reply (XCreate name) reply ≡ true)
  pub now : IfOk result (λ reply. is_late reply ≡ false)
  pub told : IsTrue model.tells → IfOk result (Creates (model.contents step.old.host) (model.contents step.new.host) name
      (next_num step.old.me step.old.number))
  pub records : IfOk result (λ reply. step.new.undo ≡ record {
    pending = step.old.undo.pending ++ create_record step.old.me step.old.number name reply;
    ended = [];
  })
  pub err : OnErr result (IsAsBefore model (at_host step))
  pub cause : CountsFault (replies_fault result) (model.fault_count step.old.host) (model.fault_count step.new.host)

-- a rename, likewise
pub record IsRename {H : Type 0} (model : HostModel H) (from to : List ℕ) (step : Step (AtHost H))
    (result : Result Reply NoMemory) : Type 0 where
  pub reply : IfOk result (IsPassedReply (XRename from to))
  pub now : IfOk result (λ reply. is_late reply ≡ false)
  pub told : IsTrue model.tells → IfOk result (Renames (model.contents step.old.host) (model.contents step.new.host) from to)
  pub records : IfOk result (λ reply. step.new.undo
      ≡ record { pending = step.old.undo.pending ++ rename_record from to reply; ended = [] })
  pub err : OnErr result (IsAsBefore model step)
  pub cause : CountsFault (replies_fault result) (model.fault_count step.old.host) (model.fault_count step.new.host)
