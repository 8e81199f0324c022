-- To each entry's job an attempt was left, turn by turn.
use Rattle.std.proofs.Common.{◌≡◌, ◌<◌, ℕ, List, [], ◌∷◌, ◌++◌, length, sym, subst}
use Rattle.std.specs.List.{fold}
use Rattle.std.specs.Prelude.{slice_get}
use Rattle.std.specs.declared.option.Option.TheVariants.{Some}
use Rattle.xc_data.specs.declared.entry.Entry.{Entry}
use Rattle.xc_data.specs.declared.entry.Turn.{Turn}
use Rattle.xc_model.specs.Ending.{HasAttemptLeft, HaveAttemptsLeft}
use Rattle.xc_model.specs.Progress.{Progress, after_entry, following_of, opening_progress, progress_of}
use Rattle.xc_model.specs.Rows.{IsTurn}
use Rattle.xc_model.specs.Entering.{entry_of}
use Rattle.xc_model.specs.Moment.{TxView, JobView, Doing, Idle, Active, Starved, Ended, Moment, active_in, begun_count}
use Rattle.xc_model.specs.Setting.{Setting}
use Rattle.xc_model.specs.Stories.{StoriesHold, IsDoing}
use Rattle.xc_model.specs.Progress.{Following}
use Rattle.xc_turns.proofs.Lists.{get_beside}
use Rattle.xc_turns.proofs.StoryEntries.{entry_following}
use Rattle.xc_turns.proofs.KindsOfTurns.{EntersJournal, Kind, enters, begins, moves, rests, stays}
use Rattle.xc_turns.proofs.TurnKinds.{row_kind}

left_from : (s : Setting) (p : Progress) (journal : List Entry) (e : Entry) → HaveAttemptsLeft s p journal
    → HasAttemptLeft s (following_of (fold (after_entry s.script) p journal) e) → HaveAttemptsLeft s p (journal ++ e ∷ [])
left_from s p [] e have one = (one, tt)
left_from s p (d ∷ journal) e have one = (have.0, left_from s (after_entry s.script p d) journal e have.1 one)

-- a job with an active transaction has it by an attempt that was left
doing_left : (s : Setting) (begun : ℕ) (f : Following) (job : JobView) (d : Doing) (tx : TxView) → active_in d ≡ Some tx → IsDoing s begun f job d
    → length f.failed < s.rules.attempts
doing_left s begun f job Idle tx active doing = cc
doing_left s begun f job (Active t) tx active doing = doing.attempts
doing_left s begun f job Starved tx active doing = cc
doing_left s begun f job (Ended end) tx active doing = cc

enters_left : (s : Setting) (at : ℕ) (old new : Moment) (job : JobView) → slice_get old.jobs at ≡ Some job → EntersJournal at old job new
    → StoriesHold s (length old.words) old.marks old.journal old.jobs
    → HaveAttemptsLeft s (opening_progress s.script) old.journal → HaveAttemptsLeft s (opening_progress s.script) new.journal
enters_left s at old new job stands e told have =
    let p = progress_of s.script old.journal in
    let (f, got) = get_beside p.jobs old.jobs at job told.count stands in
    let left = doing_left s (begun_count old) f job job.doing e.tx e.before (told.jobs_told at f job got stands).doing in
    let one : HasAttemptLeft s (following_of p (entry_of e.tx at e.outcome)) =
    subst (HasAttemptLeft s) (sym (entry_following p at e.tx e.outcome f got)) left in
    subst (HaveAttemptsLeft s (opening_progress s.script)) (sym e.journal)
    (left_from s (opening_progress s.script) old.journal (entry_of e.tx at e.outcome) have one)

kind_left : (s : Setting) (at : ℕ) (old new : Moment) (job : JobView) → slice_get old.jobs at ≡ Some job → Kind s at old job new
    → StoriesHold s (length old.words) old.marks old.journal old.jobs
    → HaveAttemptsLeft s (opening_progress s.script) old.journal → HaveAttemptsLeft s (opening_progress s.script) new.journal
kind_left s at old new job stands (rests k) told have = subst (HaveAttemptsLeft s (opening_progress s.script)) (sym k.journal) have
kind_left s at old new job stands (begins k) told have = subst (HaveAttemptsLeft s (opening_progress s.script)) (sym k.journal) have
kind_left s at old new job stands (moves k) told have = subst (HaveAttemptsLeft s (opening_progress s.script)) (sym k.journal) have
kind_left s at old new job stands (stays k) told have = subst (HaveAttemptsLeft s (opening_progress s.script)) (sym k.journal) have
kind_left s at old new job stands (enters k) told have = enters_left s at old new job stands k told have

-- what enters had an attempt left
pub turn_leaves_attempts : (s : Setting) (at : ℕ) (old new : Moment) (answer : Turn) → IsTurn s at old answer new
    → StoriesHold s (length old.words) old.marks old.journal old.jobs
    → HaveAttemptsLeft s (opening_progress s.script) old.journal → HaveAttemptsLeft s (opening_progress s.script) new.journal
turn_leaves_attempts s at old new answer turned told have =
    kind_left s at old new turned.job turned.there (row_kind s at old new answer turned) told have
