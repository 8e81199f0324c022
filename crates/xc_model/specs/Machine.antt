-- A journal that is true of the plain machine, whoever asked its transactions. No script is named.
use Rattle.std.specs.Prelude.{◌≡◌, ℕ, zero, suc, ◌+◌, ◌<◌, ◌≤◌, Bool, false, List, [], ◌∷◌, length, map, slice_get, unwrap_or}
use Rattle.std.specs.Prelude.{IsTrue, IsPermutation}
use Rattle.std.specs.declared.option.Option.TheVariants.{Some}
use Rattle.xc_data.specs.declared.call.LateEnd.{LateEnd}
use Rattle.xc_data.specs.declared.entry.Entry.{Entry}
use Rattle.xc_data.specs.declared.entry.Outcome.{Outcome}
use Rattle.xc_data.specs.declared.entry.Outcome.TheVariants.{Committed, Aborted}
use Rattle.xc_data.specs.declared.entry.Report.{Report}
use Rattle.xc_data.specs.declared.script.Outline.{Outline}
use Rattle.xc_script.specs.declared.ask.Ask.{Ask}
use Rattle.xc_script.specs.declared.ask.Ask.TheVariants as ask
use Rattle.xc_script.specs.Blocks.{kept_calls}
use Rattle.xc_world.specs.Run.{body_fits, asked_of}
use Rattle.xc_world.specs.World.{State}
use Rattle.xc_model.specs.declared.rules.Rules.{Rules}
use Rattle.xc_model.specs.Course.{Course, Standing, after_course, opening_course, standing_of}
use Rattle.xc_model.specs.EntryEnds.{AreRecords, HasAbortCause, IsCommit, IsHeld, IsReport, cause_in, failures_with, next_claims}
use Rattle.xc_model.specs.Grounds.{Part, AreGrounded, scene_of}
use Rattle.xc_model.specs.Handles.{IsHandledJournal}
use Rattle.xc_model.specs.InTime.{AreInTime}
use Rattle.xc_model.specs.Progress.{body_of, private_of}
use Rattle.xc_model.specs.Recorded.{no_records, all_records, AreFewFaults}
use Rattle.xc_model.specs.WordCalls.{AreWordReplies}

-- the rules, whether the host tells its contents, and whether clients ask the transactions
pub record Terms : Type 0 where
  pub rules : Rules
  pub tells : Bool
  pub clients : Bool

-- ---- one entry, by the reasons for which it may be false
-- numbers: it began after its job's entry before, and before its own place
pub record IsBegunInTurn (c : Course) (f : Standing) (e : Entry) : Type 0 where
  pub since : f.since ≤ e.began
  pub began : e.began ≤ c.entered

-- story: its job goes on, where no client asks it; its rank is the number of the first attempt, and so many attempts may fail
pub record IsAttempt (t : Terms) (f : Standing) (e : Entry) : Type 0 where
  pub goes_on : t.clients ≡ false → f.starved ≡ false
  pub rank : e.rank ≡ unwrap_or f.first e.tx
  pub failures : failures_with f.failed e.outcome ≤ t.rules.attempts

-- on this state the replies are the plain machine's with the recorded faults
pub record IsPlayedBody (state : State) (e : Entry) : Type 0 where
  pub fits : IsTrue (body_fits state.world (private_of state e.job) e.tx (asked_of e.calls e.replies))
  pub replies : (body_of state e).replies ≡ e.replies

-- replies: over every host those of calls on words, of calls that are kept for the commit, and of ways back; over a host that
-- tells all of them
pub record HasReplies (t : Terms) (c : Course) (e : Entry) : Type 0 where
  pub words : AreWordReplies c.words e.calls e.replies
  pub in_time : AreInTime e.calls e.replies
  pub faults : AreFewFaults t.rules.undo_tries no_records e.calls e.replies
  pub played : IsTrue t.tells → IsPlayedBody c.state e

-- of a commit: each call that was kept has an end, over a host that tells the plain machine's
pub record HasLateEnds (t : Terms) (c : Course) (e : Entry) (late : List LateEnd) : Type 0 where
  pub count : length late ≡ length (kept_calls e.calls e.replies)
  pub played : IsTrue t.tells → IsCommit c.state e late

-- lates: only a commit has them
abbrev pub HasLates : Terms → Course → Entry → Outcome → Type 0
HasLates t c e (Committed late) = HasLateEnds t c e late
HasLates t c e (Aborted report) = Unit {0}

-- of an abort: its report says of each call's record how it ended, over a host that tells of the plain machine's records
pub record HasReport (t : Terms) (c : Course) (last : Ask) (e : Entry) (report : Report) : Type 0 where
  pub counted : IsReport t.rules.undo_tries (all_records no_records e.calls e.replies) report
  pub played : IsTrue t.tells → AreRecords (body_of c.state e) e.tx last report.cause (map (λ r. r.0) report.records)

-- records: only an abort's report has them
abbrev pub HasRecordsOf : Terms → Course → Ask → Entry → Outcome → Type 0
HasRecordsOf t c last e (Committed late) = Unit {0}
HasRecordsOf t c last e (Aborted report) = HasReport t c last e report

-- asked: a committed transaction's commit, or what led to the abort
abbrev pub IsEndAsked : Ask → Entry → Outcome → Type 0
IsEndAsked last e (Committed late) = last ≡ ask.Commit
IsEndAsked last e (Aborted report) = HasAbortCause (all_records no_records e.calls e.replies) last report

-- an entry of the job that stands so; `last` was asked after its replies
pub record IsMachineEntry (t : Terms) (c : Course) (last : Ask) (f : Standing) (e : Entry) : Type 0 where
  pub numbers : IsBegunInTurn c f e
  pub story : IsAttempt t f e
  pub replies : HasReplies t c e
  pub lates : HasLates t c e e.outcome
  pub records : HasRecordsOf t c last e e.outcome
  pub held : IsTrue t.tells → IsHeld (body_of c.state e) last e.outcome e.held
  pub asked : IsEndAsked last e e.outcome

-- its job is started
pub record IsMachineTrue (t : Terms) (c : Course) (last : Ask) (e : Entry) : Type 0 where
  pub standing : Standing
  pub numbered : 1 ≤ e.job
  pub started : standing_of c e ≡ Some standing
  pub entry : IsMachineEntry t c last standing e

-- each entry of a journal, after those before it; `lasts` has what was asked last, entry by entry
abbrev pub AreMachineTrue : Terms → Course → List Ask → List Entry → Type 0
AreMachineTrue t c lasts [] = lasts ≡ []
AreMachineTrue t c [] (e ∷ journal) = ⊥
AreMachineTrue t c (last ∷ lasts) (e ∷ journal) = IsMachineTrue t c last e × AreMachineTrue t (after_course c e) lasts journal

-- ---- conflicts and revocations
-- what an entry on this state is judged by
abbrev pub machine_part : State → Ask → Entry → Part
machine_part state last e =
    record {
      number = e.tx;
      job = e.job;
      rank = e.rank;
      began = e.began;
      held = e.held;
      wanted = next_claims (body_of state e) last;
      cause = cause_in e.outcome;
    }

-- the same of each entry
abbrev pub machine_parts : Course → List Ask → List Entry → List Part
machine_parts c lasts [] = []
machine_parts c [] (e ∷ journal) = []
machine_parts c (last ∷ lasts) (e ∷ journal) = machine_part c.state last e ∷ machine_parts (after_course c e) lasts journal

-- ---- a whole journal
-- the numbers from one on, so many
abbrev pub counting : ℕ → ℕ → List ℕ
counting from zero = []
counting from (suc count) = from ∷ counting (from + 1) count

-- the numbers of entries
abbrev pub numbers_of : List Entry → List ℕ
numbers_of journal = map (λ (e : Entry). e.tx) journal

-- a greater number didn't begin earlier
abbrev pub BeginInOrder : List Entry → Type 0
BeginInOrder journal =
    (i j : ℕ) (a b : Entry) → slice_get journal i ≡ Some a → slice_get journal j ≡ Some b → a.tx < b.tx → a.began ≤ b.began

-- of a machine that was opened by this outline; `lasts` has what was asked last, entry by entry
pub record IsTrueOfMachine (t : Terms) (outline : Outline) (lasts : List Ask) (journal : List Entry) : Type 0 where
  pub entries : AreMachineTrue t (opening_course outline) lasts journal
  pub numbers : IsPermutation (numbers_of journal) (counting 1 (length journal))
  pub begins : BeginInOrder journal
  -- each conflict names a holder, and each revocation an older transaction
  pub grounded : AreGrounded (scene_of t.tells (machine_parts (opening_course outline) lasts journal) [])
  -- over a host that doesn't tell: each call is refused exactly where a private check refuses it, from the opening's handles on
  pub handled : t.tells ≡ false → IsHandledJournal outline lasts journal
