-- How an entry is judged, part by part.
use Rattle.std.specs.Prelude.{◌≡◌, Option}
use Rattle.xc_data.specs.declared.entry.Entry.{Entry}
use Rattle.xc_script.specs.declared.ask.Ask.{Ask}
use Rattle.xc_shown.specs.Shown.{Shows}
use Rattle.xc_shown.specs.declared.shown.Shown.{Shown}
use Rattle.xc_judge.specs.declared.basis.Basis.{Basis}
use Rattle.xc_model.specs.Course.{Course}
use Rattle.xc_model.specs.EntryEnds.{next_claims}
use Rattle.xc_model.specs.Machine.{HasLates, HasRecordsOf, HasReplies, IsMachineTrue}
use Rattle.xc_model.specs.Progress.{body_of}
use Rattle.xc_judge.specs.Judged.{IsInSomeTurn, telling_terms}
use Rattle.xc_judge.specs.Ran.{IsKept, IsRan}
use Rattle.xc_judge.specs.declared.ran.Ran.{Ran}
use Rattle.xc_judge.specs.declared.reason.Reason.{Reason}
use Rattle.xc_judge.specs.declared.reason.Reason.TheVariants as reason
use Rattle.xc_judge.specs.declared.step.Judged.{Judged}

-- its job is started, its replies are true, and its body left and gave this
pub record IsRunSo (basis : Basis) (c : Course) (e : Entry) (ran : Ran) : Type 0 where
  pub numbered : IsInSomeTurn c e
  pub replies : HasReplies (telling_terms basis) c e
  pub body : IsRan ran (body_of c.state e) e.tx

-- the first of these that it denies
abbrev pub FailsToRun : Basis → Course → Entry → Reason → Type 0
FailsToRun basis c e reason.Numbers = IsInSomeTurn c e → ⊥
FailsToRun basis c e reason.Reply = IsInSomeTurn c e × (HasReplies (telling_terms basis) c e → ⊥)
FailsToRun basis c e reason.Late =
    IsInSomeTurn c e × HasReplies (telling_terms basis) c e × (HasLates (telling_terms basis) c e e.outcome → ⊥)
FailsToRun basis c e reason.Records = ⊥
FailsToRun basis c e reason.Held = ⊥
FailsToRun basis c e reason.Story = ⊥

-- no entry that is shown so has true records
abbrev pub HasNoRecords : Basis → Course → Ask → Shown → Type 0
HasNoRecords basis c last shown = (e : Entry) → Shows shown e → HasRecordsOf (telling_terms basis) c last e e.outcome → ⊥

-- an entry that is shown so has true ones, and if it committed it is kept where its calls led
pub record IsFoundSo (basis : Basis) (c : Course) (last : Ask) (shown : Shown) (found : Entry × Option Ran) : Type 0 where
  pub shows : Shows shown found.0
  pub records : HasRecordsOf (telling_terms basis) c last found.0 found.0.outcome
  pub kept : IsKept found.1 (body_of c.state found.0) found.0.outcome

-- an entry that is shown so is true, its calls led there if it committed, and so much the next call claims
pub record IsJudgedSo (basis : Basis) (c : Course) (last : Ask) (shown : Shown) (to : Judged) : Type 0 where
  pub shows : Shows shown to.entry
  pub true : IsMachineTrue (telling_terms basis) c last to.entry
  pub kept : IsKept to.kept (body_of c.state to.entry) to.entry.outcome
  pub wanted : to.wanted.items ≡ next_claims (body_of c.state to.entry) last
