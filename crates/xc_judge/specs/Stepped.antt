-- An entry as its text shows it, judged and entered.
use Rattle.std.specs.Prelude.{◌≡◌, ◌<◌}
use Rattle.xc_data.specs.declared.entry.Entry.{Entry}
use Rattle.xc_script.specs.declared.ask.Ask.{Ask}
use Rattle.xc_shown.specs.Shown.{Shows}
use Rattle.xc_shown.specs.declared.shown.Shown.{Shown}
use Rattle.xc_judge.specs.declared.basis.Basis.{Basis}
use Rattle.xc_model.specs.Course.{Course, after_course}
use Rattle.xc_model.specs.EntryEnds.{next_claims}
use Rattle.xc_model.specs.Machine.{HasRecordsOf, IsMachineTrue}
use Rattle.xc_model.specs.Progress.{body_of}
use Rattle.xc_judge.specs.Judged.{MeetsReason, place_of_reason, telling_terms}
use Rattle.xc_judge.specs.declared.reason.Reason.{Reason}
use Rattle.xc_judge.specs.declared.reason.Reason.TheVariants as reason
use Rattle.xc_judge.specs.declared.stepped.Step.{Step}
use Rattle.xc_judge.specs.declared.stepped.Step.TheVariants as step
use Rattle.xc_judge.specs.declared.stepped.Stepped.{Stepped}

-- what a reason denies of an entry as its text shows it: records are those of some entry that is shown so, and its story looks at
-- them too; nothing else does
abbrev pub MeetsSo : Basis → Course → Ask → Shown → Reason → Type 0
MeetsSo basis c last shown reason.Records = (e : Entry) × Shows shown e × HasRecordsOf (telling_terms basis) c last e e.outcome
MeetsSo basis c last shown reason.Numbers = MeetsReason basis c last shown.entry reason.Numbers
MeetsSo basis c last shown reason.Reply = MeetsReason basis c last shown.entry reason.Reply
MeetsSo basis c last shown reason.Late = MeetsReason basis c last shown.entry reason.Late
MeetsSo basis c last shown reason.Held = MeetsReason basis c last shown.entry reason.Held
MeetsSo basis c last shown reason.Story = (e : Entry) × Shows shown e × MeetsReason basis c last e reason.Story

-- it doesn't meet this, but all that comes before it
pub record IsRefusedSo (basis : Basis) (c : Course) (last : Ask) (shown : Shown) (why : Reason) : Type 0 where
  pub fails : MeetsSo basis c last shown why → ⊥
  pub before : (other : Reason) → place_of_reason other < place_of_reason why → MeetsSo basis c last shown other

-- an entry that is shown so is true, and led here; so much the next call would claim
pub record IsSteppedTo (basis : Basis) (c : Course) (last : Ask) (shown : Shown) (to : Stepped) : Type 0 where
  pub shows : Shows shown to.entry
  pub true : IsMachineTrue (telling_terms basis) c last to.entry
  pub after : to.progress ≡ after_course c to.entry
  pub wanted : to.wanted.items ≡ next_claims (body_of c.state to.entry) last

-- ---- of what became of it
-- this is so of where it led, if it was entered
abbrev pub WhereEntered : Step → (Stepped → Type 0) → Type 0
WhereEntered (step.Entered to) P = P to
WhereEntered (step.Refused why) P = Unit {0}

-- this is so of the reason, if it was refused
abbrev pub WhereRefused : Step → (Reason → Type 0) → Type 0
WhereRefused (step.Entered to) P = Unit {0}
WhereRefused (step.Refused why) P = P why
