-- What is true between two turns of the stories of all jobs.
use Rattle.std.specs.Prelude.{◌≡◌, ℕ, ◌+◌, ◌<◌, ◌≤◌, true, false, List, [], ◌∷◌, ◌++◌, length, map, slice_get, unwrap_or}
use Rattle.std.specs.Prelude.{All, IsSome, IsPermutation, Contains, is_some}
use Rattle.std.specs.Prelude.{Option}
use Rattle.std.specs.declared.option.Option.TheVariants.{None, Some}
use Rattle.xc_data.specs.declared.claim.Claim.{Claim}
use Rattle.xc_data.specs.declared.undo.Undo.{Undo}
use Rattle.xc_data.specs.declared.entry.Cause.{Cause}
use Rattle.xc_data.specs.declared.entry.Entry.{Entry}
use Rattle.xc_script.specs.declared.ask.Ask.{Ask}
use Rattle.xc_script.specs.declared.ask.Ask.TheVariants as ask
use Rattle.xc_script.specs.Blocks.{KeptCalls, all_replied, ask_fits, block_from, none_kept, all_kept}
use Rattle.xc_data.specs.declared.call.Call.{Call}
use Rattle.xc_data.specs.declared.call.Call.TheVariants as call
use Rattle.xc_data.specs.declared.call.LateCall.{LateCall}
use Rattle.xc_data.specs.declared.call.Reply.{Reply}
use Rattle.xc_script.specs.Ask.{next_body}
use Rattle.xc_script.specs.Values.{Values}
use Rattle.xc_script.specs.Position.{Position, at_begin, walk_of, IsPastSilent}
use Rattle.xc_world.specs.World.{beginning}
use Rattle.xc_world.specs.Ends.{AreLegal, is_undone}
use Rattle.xc_world.specs.Modes.{claims_of}
use Rattle.xc_world.specs.RecordOf.{AreRecordsOf}
use Rattle.xc_model.specs.declared.phase.Attempts.{Attempts}
use Rattle.xc_data.specs.declared.entry.Mark.{Mark}
use Rattle.xc_model.specs.declared.phase.Phase.{Phase}
use Rattle.xc_model.specs.declared.phase.Phase.TheVariants.{Running, Committing, Undoing, Backing}
use Rattle.xc_model.specs.Setting.{Setting}
use Rattle.xc_model.specs.Grounds.{Part, AreGrounded, Scene, scene_of}
use Rattle.xc_model.specs.Progress.{Following, opening_progress, progress_of}
use Rattle.xc_model.specs.Asked.{AsksEach}
use Rattle.xc_model.specs.EntryEnds.{IsCauseOf}
use Rattle.xc_model.specs.Joint.{AreTrue, entry_parts}
use Rattle.xc_model.specs.Machine.{counting}
use Rattle.xc_model.specs.Ending.{IsEnd}
use Rattle.xc_model.specs.InTime.{AreInTime}
use Rattle.xc_model.specs.Recorded.{Recorded, no_records, all_records, AreFewFaults, HasRecords, IsStuckIn, saved_records}
use Rattle.xc_data.specs.Calls.{thread_asked, thread_in}
use Rattle.xc_data.specs.Private.{IsSided}
use Rattle.xc_model.specs.Moment.{TxView, SavedView, JobView, Doing, Idle, Active, Starved, Ended, actives, active_of, revoked}
use Rattle.xc_model.specs.Live.{GoesOn, IsScripted, has_clients, most_entries}
use Rattle.xc_model.specs.Movers.{asked_at}

-- ---- an active transaction, as a part of its job's story
-- the job stands in its next transaction, and keeps the variables of its begin
pub record IsInNextTx (f : Following) (place : Position) : Type 0 where
  pub block : place.block ≡ f.job.block
  pub next : place.next ≡ f.job.next
  pub begun : place.begun ≡ f.job.variables

-- the job stands after its transaction's replies
abbrev pub StandsAfterReplies : Setting → Following → Position → TxView → Type 0
StandsAfterReplies s f place tx =
    record { walk = walk_of s.script place; saved = place.saved } ≡ all_replied (block_from s.script f.job) tx.replies

-- the records at an open block's save are among those that have no end
abbrev pub IsWithinSave : Option SavedView → List Undo → Type 0
IsWithinSave None pending = Unit {0}
IsWithinSave (Some kept) pending = length kept.trail ≤ length pending

-- its handles of pairs are open at one of two sides
abbrev pub IsSidedSave : Option SavedView → Type 0
IsSidedSave None = Unit {0}
IsSidedSave (Some kept) = All IsSided kept.places

-- a running one: no compensation was tried
pub record IsRunning (tx : TxView) : Type 0 where
  pub none : tx.undo.ended ≡ []
  pub no_ends : tx.ends ≡ []
  pub within : IsWithinSave tx.saved tx.undo.pending

-- a committing one: its commit was asked, and the job stands where its walk does
pub record IsCommitting (s : Setting) (place : Position) (last : Ask) (tx : TxView) : Type 0 where
  pub asked : last ≡ ask.Commit
  pub settled : IsPastSilent s.script place
  pub none : tx.undo.ended ≡ []
  pub few_ends : length tx.ends ≤ length tx.late

-- an undoing one: where the job stands what led to it was asked, and the compensations so far have legal ends
pub record IsUndoing (s : Setting) (last : Ask) (tx : TxView) (c : Cause) : Type 0 where
  pub caused : IsCauseOf c last
  pub legal : AreLegal s.rules.undo_tries (length tx.undo.pending + 1) tx.undo.ended
  pub stuck : IsStuckIn (saved_records (all_records no_records tx.calls tx.replies)) (length tx.undo.pending + 1) tx.undo.ended c
  pub no_ends : tx.ends ≡ []

-- as many records as at the save have no end yet, or more
abbrev pub IsAboveSave : Option SavedView → List Undo → Type 0
IsAboveSave None pending = ⊥
IsAboveSave (Some kept) pending = length kept.trail ≤ length pending

-- one whose block goes back: the back is asked, and each compensation so far undid its record
pub record IsBacking (s : Setting) (place : Position) (last : Ask) (tx : TxView) : Type 0 where
  pub asked : last ≡ ask.Call call.Back
  pub settled : IsPastSilent s.script place
  pub legal : AreLegal s.rules.undo_tries (length tx.undo.pending + 1) tx.undo.ended
  pub undone : All (λ e. is_undone e.1 ≡ true) tx.undo.ended
  -- none of the records before the save was tried
  pub within : IsAboveSave tx.saved tx.undo.pending
  pub no_ends : tx.ends ≡ []

-- by its phase
abbrev pub IsInPhase : Setting → Position → Ask → TxView → Phase → Type 0
IsInPhase s place last tx Running = IsRunning tx
IsInPhase s place last tx Committing = IsCommitting s place last tx
IsInPhase s place last tx (Undoing c) = IsUndoing s last tx c
IsInPhase s place last tx Backing = IsBacking s place last tx

-- those at a save start the same blocks as the calls that were kept there
abbrev pub AreKeptAtSave : Option SavedView → Option (List Call) → Type 0
AreKeptAtSave None None = Unit {0}
AreKeptAtSave (Some saved) (Some kept) = map thread_in saved.late ≡ map thread_asked kept
AreKeptAtSave _ _ = ⊥

-- the late calls, and those at an open block's save, start the same blocks as the calls that were kept
abbrev pub AreKeptSo : List LateCall → Option SavedView → KeptCalls → Type 0
AreKeptSo late saved k = (map thread_in late ≡ map thread_asked k.kept) × AreKeptAtSave saved k.saved

-- the records at an open block's save are as many as the calls before it left
abbrev pub IsCountedSave : Option SavedView → Option (List (Call × Reply)) → Type 0
IsCountedSave None None = Unit {0}
IsCountedSave (Some kept) (Some calls) = length kept.trail ≡ length calls
IsCountedSave _ _ = ⊥

-- its records are those that its calls left; without memory one of the next call may stand last
abbrev pub HasRecordsIn : Recorded → Phase → List Undo → Type 0
HasRecordsIn k Running records = AreRecordsOf k.now records
HasRecordsIn k Committing records = AreRecordsOf k.now records
HasRecordsIn k Backing records = AreRecordsOf k.now records
HasRecordsIn k (Undoing c) records = HasRecords k c records

-- the records of a transaction, without an end and with one, are those of its calls, and as many were there at its save
pub record IsCounted (tx : TxView) (k : Recorded) : Type 0 where
  pub now : HasRecordsIn k tx.phase (tx.undo.pending ++ map (λ r. r.0) tx.undo.ended)
  pub saved : IsCountedSave tx.saved k.saved

-- what an open block's save keeps is this
abbrev pub IsKeptSo : Option Values → Values → Type 0
IsKeptSo None values = Unit {0}
IsKeptSo (Some kept) values = kept ≡ values

-- where clients ask no reply is kept in a variable, nor at a save
pub record IsOfClient (s : Setting) (f : Following) (place : Position) : Type 0 where
  pub variables : (walk_of s.script place).variables ≡ f.job.variables
  pub saved : IsKeptSo place.saved f.job.variables.values

-- a running one is asked what fits its open block: no save in one, and a keep and a back in one alone
abbrev pub FitsWhereItRuns : Phase → Option SavedView → Ask → Type 0
FitsWhereItRuns Running saved last = ask_fits (is_some saved) last ≡ true
-- in any other phase its calls are over, or its block goes back
FitsWhereItRuns _ saved last = Unit {0}

-- the active transaction of a job that the journal tells so far as f; `last` is asked where it stands
pub record IsUnderway (s : Setting) (f : Following) (place : Position) (last : Ask) (tx : TxView) : Type 0 where
  pub goes_on : GoesOn s.script f.starved
  pub left : IsSome (next_body s.script f.job)
  pub attempts : length f.failed < s.rules.attempts
  pub rank : tx.rank ≡ unwrap_or f.first tx.number
  -- it began after its job's entry before
  pub since : f.since ≤ tx.began
  pub standing : IsInNextTx f place
  -- of a script its calls are the script's, and its job stands after its replies
  pub asked : IsScripted s.script → AsksEach (block_from s.script f.job) tx.calls tx.replies
  pub ahead : IsScripted s.script → StandsAfterReplies s f place tx
  pub client : has_clients s.script ≡ true → IsOfClient s f place
  pub fits : has_clients s.script ≡ true → FitsWhereItRuns tx.phase tx.saved last
  -- its late calls are as many as were kept for the commit, and start the same blocks
  pub kept : AreKeptSo tx.late tx.saved (all_kept none_kept tx.calls tx.replies)
  -- those replied late, and no others
  pub in_time : AreInTime tx.calls tx.replies
  pub stored : tx.me.stored ≤ 16384
  -- a pair is open at one of its two sides
  pub sided : All IsSided tx.me.places
  pub saved_sided : IsSidedSave tx.saved
  -- a block is open in the script just where it is in the transaction
  pub together : is_some place.saved ≡ is_some tx.saved
  pub counted : IsCounted tx (all_records no_records tx.calls tx.replies)
  pub faults : AreFewFaults s.rules.undo_tries no_records tx.calls tx.replies
  pub phase : IsInPhase s place last tx tx.phase

-- ---- a job
-- the attempts are those that the journal tells
abbrev pub AreAttempts : Following → Option Attempts → Type 0
AreAttempts f None = (f.first ≡ None) × (f.failed ≡ [])
AreAttempts f (Some a) =
    (f.first ≡ Some a.first) × (length f.failed ≡ a.failed) × (1 ≤ a.failed) × (before : List Cause) × (f.failed ≡ before ++ a.last ∷ [])

-- what it does; `begun` transactions have begun in all
abbrev pub IsDoing : Setting → ℕ → Following → JobView → Doing → Type 0
IsDoing s begun f job Idle = GoesOn s.script f.starved × (job.place ≡ at_begin f.job)
IsDoing s begun f job (Active tx) = IsUnderway s f job.place (asked_at s job) tx
IsDoing s begun f job Starved = (f.starved ≡ true) × IsSome (next_body s.script f.job) × (job.place ≡ at_begin f.job)
IsDoing s begun f job (Ended end) = IsEnd s begun f end

-- a job goes on with its story
pub record StoryHolds (s : Setting) (begun entered : ℕ) (f : Following) (job : JobView) : Type 0 where
  pub block : f.block ≡ job.block
  pub fresh : job.me ≡ beginning job.me.places
  pub sided : All IsSided job.me.places
  pub since : f.since ≤ entered
  pub attempts : AreAttempts f job.attempts
  pub few : length f.failed ≤ s.rules.attempts
  pub doing : IsDoing s begun f job job.doing

-- ---- numbers and begins, over entries and active transactions
-- a number, and the length that the journal had at that begin
abbrev pub entry_begin : Entry → ℕ × ℕ
entry_begin e = (e.tx, e.began)

-- the same of an active transaction
abbrev pub active_begin : TxView → ℕ × ℕ
active_begin tx = (tx.number, tx.began)

-- of all
abbrev pub begins_of : List Entry → List JobView → List (ℕ × ℕ)
begins_of journal jobs = map entry_begin journal ++ map active_begin (actives jobs)

-- a greater number didn't begin earlier, and none later than now
pub record AreBegins (journal : List Entry) (begins : List (ℕ × ℕ)) : Type 0 where
  pub numbers : IsPermutation (map (λ b. b.0) begins) (counting 1 (length begins))
  pub order : (a b : ℕ × ℕ) → Contains begins a → Contains begins b → a.0 < b.0 → a.1 ≤ b.1
  pub by_now : (a : ℕ × ℕ) → Contains begins a → a.1 ≤ length journal

-- ---- what conflicts and revocations are judged by, of active transactions
-- what the call claims that it is asked next
abbrev pub wanted_by : ℕ → TxView → Ask → List Claim
wanted_by words tx (ask.Call call) = claims_of call tx.me words
wanted_by words tx _ = []

-- why it undoes, or will at its next turn where it is marked
abbrev pub cause_of_phase : Option Mark → Phase → Option Cause
cause_of_phase (Some m) Running = Some (revoked m)
cause_of_phase (Some m) Backing = Some (revoked m)
cause_of_phase mark (Undoing c) = Some c
cause_of_phase None Running = None
cause_of_phase None Backing = None
cause_of_phase mark Committing = None

-- what they are read by: the setting, the number of words, and the marks
pub record Reading : Type 0 where
  pub setting : Setting
  pub words : ℕ
  pub marks : ℕ → Option Mark

-- these
abbrev pub reading : Setting → ℕ → (ℕ → Option Mark) → Reading
reading s words marks = record { setting = s; words = words; marks = marks }

module _ (r : Reading) where
  -- an active transaction of this job, of this number
  abbrev pub part_under_way : ℕ → JobView → TxView → Part
  part_under_way number job tx =
      record {
        number = tx.number;
        job = number;
        rank = tx.rank;
        began = tx.began;
        held = tx.held;
        wanted = wanted_by r.words tx (asked_at r.setting job);
        cause = cause_of_phase (r.marks tx.number) tx.phase;
      }

  -- a job's active transaction, where it has one
  abbrev pub active_part : ℕ → JobView → Option TxView → Option Part
  active_part number job None = None
  active_part number job (Some tx) = Some (part_under_way number job tx)

  -- of each job, from this number on
  abbrev pub active_parts : ℕ → List JobView → List (Option Part)
  active_parts number [] = []
  active_parts number (job ∷ jobs) = active_part number job (active_of job) ∷ active_parts (number + 1) jobs

-- what they are judged against, after this journal
abbrev pub scene_at : Reading → List Ask → List Entry → List JobView → Scene
scene_at r lasts journal jobs = scene_of r.setting.tells (entry_parts r.setting lasts journal) (active_parts r 1 jobs)

-- ---- all together
-- `words` is the number of words
pub record StoriesHold (s : Setting) (words : ℕ) (marks : ℕ → Option Mark) (journal : List Entry) (jobs : List JobView) : Type 0 where
  -- what was asked last, entry by entry
  pub lasts : List Ask
  pub entries : AreTrue s (opening_progress s.script) lasts journal
  -- the jobs are those that the journal tells
  pub count : length (progress_of s.script journal).jobs ≡ length jobs
  pub jobs_told : (at : ℕ) (f : Following) (job : JobView)
      → slice_get (progress_of s.script journal).jobs at ≡ Some f → slice_get jobs at ≡ Some job
      → StoryHolds s (length journal + length (actives jobs)) (length journal) f job
  pub begins : AreBegins journal (begins_of journal jobs)
  pub few : length journal + length (actives jobs) ≤ most_entries s.script
  pub grounded : AreGrounded (scene_at (reading s words marks) lasts journal jobs)
