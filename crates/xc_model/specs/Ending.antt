-- How jobs end, and what a whole run ends in.
use Rattle.std.specs.Prelude.{◌≡◌, ℕ, ◌+◌, ◌<◌, ◌≤◌, Bool, true, false, ◌||◌, List, [], ◌∷◌, ◌++◌, length, map, count_by, slice_get}
use Rattle.std.specs.Prelude.{All, IsSome, IsTrue, Option}
use Rattle.std.specs.List.{list_all, list_any}
use Rattle.std.specs.declared.option.Option.TheVariants.{None, Some}
use Rattle.xc_data.specs.declared.call.LateEnd.{LateEnd}
use Rattle.xc_data.specs.declared.call.LateEnd.TheVariants as late_end
use Rattle.xc_data.specs.declared.entry.Cause.{Cause}
use Rattle.xc_data.specs.declared.entry.Outcome.{Outcome}
use Rattle.xc_data.specs.declared.entry.Outcome.TheVariants.{Committed, Aborted}
use Rattle.xc_data.specs.declared.entry.JobEnd.{JobEnd}
use Rattle.xc_data.specs.declared.entry.JobEnd.TheVariants as job_end
use Rattle.xc_data.specs.declared.entry.JobLine.{JobLine}
use Rattle.xc_data.specs.declared.entry.Entry.{Entry}
use Rattle.xc_host.specs.Contents.{Contents, contents_of}
use Rattle.xc_text.specs.declared.script.Script.{Script}
use Rattle.xc_script.specs.Ask.{next_body, transactions_at}
use Rattle.xc_world.specs.World.{State}
use Rattle.xc_model.specs.Live.{GoesOn, IsScripted, most_entries}
use Rattle.xc_model.specs.Setting.{Setting}
use Rattle.xc_model.specs.Progress.{Following, Progress, opening_progress, after_entry, following_of, progress_of}
use Rattle.xc_model.specs.EntryEnds.{AreUnrevoked, is_tried_again}
use Rattle.xc_model.specs.Truth.{IsTrueJournal}
use Rattle.xc_model.specs.Serial.{is_final, is_asked}

-- as often as the rules allow an attempt at its next transaction ended in a conflict, the last one by this cause
abbrev pub HasGivenUp : Setting → Following → Cause → Type 0
HasGivenUp s f c = (s.rules.attempts ≤ length f.failed) × (before : List Cause) × (f.failed ≡ before ++ c ∷ [])

-- done where no transaction of a script is left, or where its client says so; given up after so many attempts as the rules allow;
-- ended by a full journal where an attempt was left, and so many entries there are; without memory wherever a transaction of a script is
-- left
abbrev pub IsEnd : Setting → ℕ → Following → JobEnd → Type 0
IsEnd s entries f job_end.Done = GoesOn s.script f.starved × (IsScripted s.script → next_body s.script f.job ≡ None)
IsEnd s entries f (job_end.GaveUp c) = GoesOn s.script f.starved × IsSome (next_body s.script f.job) × HasGivenUp s f c
IsEnd s entries f job_end.JournalFull =
    GoesOn s.script f.starved × IsSome (next_body s.script f.job) × (length f.failed < s.rules.attempts) × (10000 ≤ entries)
IsEnd s entries f job_end.NoMemory = IsScripted s.script × IsSome (next_body s.script f.job)

-- a job's line has its block's name, and its end
pub record IsLine (s : Setting) (entries : ℕ) (f : Following) (line : JobLine) : Type 0 where
  pub block : line.block ≡ f.block
  pub end : IsEnd s entries f line.end

-- each job has its line
abbrev pub AreEnds : Setting → ℕ → List Following → List JobLine → Type 0
AreEnds s entries [] lines = lines ≡ []
AreEnds s entries (f ∷ jobs) [] = ⊥
AreEnds s entries (f ∷ jobs) (line ∷ lines) = IsLine s entries f line × AreEnds s entries jobs lines

-- a job had no transaction left
abbrev pub is_done_end : JobEnd → Bool
is_done_end job_end.Done = true
is_done_end _ = false

-- no job ended but by its last transaction
abbrev pub all_done : List JobLine → Bool
all_done lines = list_all (λ (line : JobLine). is_done_end line.end) lines

-- a job ended for lack of memory
abbrev pub is_memory : JobEnd → Bool
is_memory job_end.NoMemory = true
is_memory _ = false

-- the line of a job that ended for lack of memory
abbrev pub is_starved : JobLine → Bool
is_starved line = is_memory line.end

-- a late call ended for lack of memory
abbrev pub is_memory_end : LateEnd → Bool
is_memory_end (late_end.NoMemory n) = true
-- no other end is, nor one yet to come
is_memory_end _ = false

-- some late call of a transaction did
abbrev pub has_memory_end : Outcome → Bool
has_memory_end (Committed late) = list_any is_memory_end late
has_memory_end (Aborted report) = false

-- some late call of some transaction did
abbrev pub some_late_starved : List Entry → Bool
some_late_starved entries = list_any (λ (e : Entry). has_memory_end e.outcome) entries

-- some job ended for lack of memory, or some late call did
abbrev pub wanted_memory : List JobLine → List Entry → Bool
wanted_memory lines entries = list_any is_starved lines || some_late_starved entries

-- no entry is of a job after one that found the journal full
abbrev pub StopWhereFull : List JobLine → List Entry → Type 0
StopWhereFull lines entries =
    (at : ℕ) (line : JobLine) → slice_get lines at ≡ Some line → line.end ≡ job_end.JournalFull
    → All (λ (e : Entry). e.job ≤ at + 1) entries

-- how many transactions the started jobs have
abbrev pub transactions_of_jobs : Script → List Following → ℕ
transactions_of_jobs script [] = 0
transactions_of_jobs script (f ∷ jobs) = length (transactions_at script f.job.block) + transactions_of_jobs script jobs

-- a transaction that was done with, or an attempt that was tried again
abbrev pub is_final_or_tried_again : Outcome → Bool
is_final_or_tried_again (Committed late) = true
is_final_or_tried_again (Aborted report) = is_asked report.cause || is_tried_again report.cause

-- each transaction of each started job has one entry by which it was done with: a commit, but where it aborted itself;
-- every other entry is an attempt that was tried again
pub record IsComplete (script : Script) (entries : List Entry) : Type 0 where
  pub others : list_all (λ (e : Entry). is_final_or_tried_again e.outcome) entries ≡ true
  pub count : count_by (λ (e : Entry). is_final e.outcome) entries ≡ transactions_of_jobs script (progress_of script entries).jobs

-- an attempt was left to a job at its next transaction: fewer failed than the rules allow
abbrev pub HasAttemptLeft : Setting → Option Following → Type 0
HasAttemptLeft s None = ⊥
HasAttemptLeft s (Some f) = length f.failed < s.rules.attempts

-- to the job of each entry, by the entries before it
abbrev pub HaveAttemptsLeft : Setting → Progress → List Entry → Type 0
HaveAttemptsLeft s p [] = Unit {0}
HaveAttemptsLeft s p (e ∷ entries) = HasAttemptLeft s (following_of p e) × HaveAttemptsLeft s (after_entry s.script p e) entries

-- what a run leaves beside its journal: the words, what the host tells, and the jobs' lines
pub record Final : Type 0 where
  pub words : List ℕ
  pub contents : Contents
  pub lines : List JobLine

-- over a host that tells, the journal leads to the words, to the host's contents and to the started jobs
pub record IsFinalState (state : State) (final : Final) : Type 0 where
  pub words : final.words ≡ state.world.words
  pub host : final.contents ≡ contents_of state.world
  pub blocks : map (λ (line : JobLine). line.block) final.lines ≡ state.world.started

-- what a run ends in: a true journal, what it leads to, and each started job's end
pub record IsTrueEnd (s : Setting) (entries : List Entry) (final : Final) : Type 0 where
  pub journal : IsTrueJournal s entries
  -- it has no more entries than it may, and none that follows as many failed attempts of its transaction as the rules allow
  pub few : length entries ≤ most_entries s.script
  pub attempts : HaveAttemptsLeft s (opening_progress s.script) entries
  -- where nobody may wait, nothing was revoked
  pub patience : s.rules.patience ≡ 0 → AreUnrevoked entries
  -- the words are those that the stores of committed transactions left, over every host
  pub words : final.words ≡ (progress_of s.script entries).words
  pub state : IsTrue s.tells → IsFinalState (progress_of s.script entries).state final
  pub ends : AreEnds s (length entries) (progress_of s.script entries).jobs final.lines
  pub complete : IsScripted s.script → all_done final.lines ≡ true → IsComplete s.script entries
