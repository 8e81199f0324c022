-- A journal that is true of a script, both parts of an entry at once: so a station at work keeps it, for which a job stands in one
-- place. What was asked last of each entry stands beside it. A law says that it is the truth of Truth.antt, and that this is it.
use Rattle.std.specs.Prelude.{◌≡◌, ℕ, ◌≤◌, false, List, [], ◌∷◌, length, map, unwrap_or, IsSome, IsTrue, IsPermutation}
use Rattle.std.specs.declared.option.Option.TheVariants.{Some}
use Rattle.xc_data.specs.declared.entry.Entry.{Entry}
use Rattle.xc_data.specs.declared.entry.Outcome.{Outcome}
use Rattle.xc_data.specs.declared.entry.Outcome.TheVariants.{Committed, Aborted}
use Rattle.xc_script.specs.declared.ask.Ask.{Ask}
use Rattle.xc_script.specs.declared.ask.Ask.TheVariants as ask
use Rattle.xc_script.specs.Ask.{next_body}
use Rattle.xc_script.specs.Blocks.{kept_calls}
use Rattle.xc_world.specs.Run.{body_fits, asked_of}
use Rattle.xc_model.specs.Asked.{IsOfBlock, StartsJobs}
use Rattle.xc_model.specs.EntryEnds.{AreRecords, HasAbortCause, IsCommit, IsHeld, IsReport, failures_with}
use Rattle.xc_model.specs.Grounds.{Part, AreGrounded, scene_of}
use Rattle.xc_model.specs.Handles.{IsHandledJournal}
use Rattle.xc_model.specs.InTime.{AreInTime}
use Rattle.xc_model.specs.Live.{GoesOn, IsScripted}
use Rattle.xc_model.specs.Machine.{BeginInOrder, counting, machine_part, numbers_of}
use Rattle.xc_model.specs.Progress.{Following, Progress, opening_progress, private_of}
use Rattle.xc_model.specs.Progress.{body_of, following_of, after_entry}
use Rattle.xc_model.specs.Recorded.{no_records, all_records, AreFewFaults}
use Rattle.xc_model.specs.Setting.{Setting}
use Rattle.xc_model.specs.WordCalls.{AreWordReplies}

-- ---- an entry's part in its job's story
-- what is asked after the last reply: a committed transaction's commit, with an end for each call that was
-- kept; or what led to the abort
abbrev pub IsAskedFor : ℕ → Entry → Ask → Outcome → Type 0
IsAskedFor tries e next (Committed late) = (next ≡ ask.Commit) × (length late ≡ length (kept_calls e.calls e.replies))
IsAskedFor tries e next (Aborted report) =
    let k = all_records no_records e.calls e.replies in
    HasAbortCause k next report × IsReport tries k report

-- one entry's part in the story of its job f, after the entries before it; `last` was asked after its replies
pub record IsStory (s : Setting) (p : Progress) (f : Following) (last : Ask) (e : Entry) : Type 0 where
  -- the job goes on, and a transaction of it is left
  pub goes_on : GoesOn s.script f.starved
  pub left : IsSome (next_body s.script f.job)
  -- it began after its job's entry before, and before its own place
  pub since : f.since ≤ e.began
  pub began : e.began ≤ p.entered
  -- the rank is the number of the first attempt, and so many attempts may fail
  pub rank : e.rank ≡ unwrap_or f.first e.tx
  pub failures : failures_with f.failed e.outcome ≤ s.rules.attempts
  -- of a script its calls and what was asked last are the script's
  pub scripted : IsScripted s.script → IsOfBlock s.script f.job last e
  pub asked : IsAskedFor s.rules.undo_tries e last e.outcome
  -- a way back tells of no more faults than its block's records can have met
  pub faults : AreFewFaults s.rules.undo_tries no_records e.calls e.replies

-- ---- an entry on the plain machine
-- what an entry did at its end
abbrev pub IsPlayedOutcome : Progress → Ask → Entry → Outcome → Type 0
IsPlayedOutcome p next e (Committed late) = IsCommit p.state e late
IsPlayedOutcome p next e (Aborted report) = AreRecords (body_of p.state e) e.tx next report.cause (map (λ r. r.0) report.records)

-- one entry on the plain machine, after the entries before it; `next` is asked after its replies
pub record IsPlayed (p : Progress) (next : Ask) (e : Entry) : Type 0 where
  -- its replies are the plain machine's with the recorded faults
  pub fits : IsTrue (body_fits p.state.world (private_of p.state e.job) e.tx (asked_of e.calls e.replies))
  pub replies : (body_of p.state e).replies ≡ e.replies
  -- it held what its calls touched, each object once, where it was first touched
  pub held : IsHeld (body_of p.state e) next e.outcome e.held
  pub outcome : IsPlayedOutcome p next e e.outcome

-- ---- a whole journal
-- one entry over a host that tells its contents or doesn't; f is its job
pub record IsEntry (s : Setting) (p : Progress) (f : Following) (last : Ask) (e : Entry) : Type 0 where
  pub story : IsStory s p f last e
  -- its calls on words reply what the stores before them left, over every host
  pub words : AreWordReplies p.words e.calls e.replies
  -- so do those that are kept for the commit, and no other one replies late
  pub in_time : AreInTime e.calls e.replies
  -- and so do those that start jobs, at the end
  pub starts : StartsJobs s.script (map (λ (g : Following). g.block) p.jobs) e e.outcome
  pub played : IsTrue s.tells → IsPlayed p last e

-- its job is started
pub record IsTrueEntry (s : Setting) (p : Progress) (last : Ask) (e : Entry) : Type 0 where
  pub following : Following
  pub numbered : 1 ≤ e.job
  pub started : following_of p e ≡ Some following
  pub entry : IsEntry s p following last e

-- each entry of a journal, after those before it; `lasts` has what was asked last, entry by entry
abbrev pub AreTrue : Setting → Progress → List Ask → List Entry → Type 0
AreTrue s p lasts [] = lasts ≡ []
AreTrue s p [] (e ∷ journal) = ⊥
AreTrue s p (last ∷ lasts) (e ∷ journal) = IsTrueEntry s p last e × AreTrue s (after_entry s.script p e) lasts journal

-- ---- conflicts and revocations
-- what it is judged by, of an entry after those before it
abbrev pub part_of : Progress → Ask → Entry → Part
part_of p last e = machine_part p.state last e

-- the same of each entry
abbrev pub parts_from : Setting → Progress → List Ask → List Entry → List Part
parts_from s p lasts [] = []
parts_from s p [] (e ∷ journal) = []
parts_from s p (last ∷ lasts) (e ∷ journal) = part_of p last e ∷ parts_from s (after_entry s.script p e) lasts journal

-- the same of a whole journal
abbrev pub entry_parts : Setting → List Ask → List Entry → List Part
entry_parts s lasts journal = parts_from s (opening_progress s.script) lasts journal

-- the whole journal
pub record IsJointJournal (s : Setting) (journal : List Entry) : Type 0 where
  pub lasts : List Ask
  pub entries : AreTrue s (opening_progress s.script) lasts journal
  pub numbers : IsPermutation (numbers_of journal) (counting 1 (length journal))
  pub begins : BeginInOrder journal
  pub grounded : AreGrounded (scene_of s.tells (entry_parts s lasts journal) [])
  pub handled : s.tells ≡ false → IsHandledJournal s.script.outline lasts journal
