-- What is asked of one entry, by the reasons for which it may be false, over a host that tells.
use Rattle.std.specs.Prelude.{◌≡◌, ℕ, ◌≤◌, true, false}
use Rattle.std.specs.declared.option.Option.TheVariants.{Some}
use Rattle.xc_data.specs.declared.entry.Entry.{Entry}
use Rattle.xc_script.specs.declared.ask.Ask.{Ask}
use Rattle.xc_world.specs.Sound.{IsSound}
use Rattle.xc_judge.specs.declared.basis.Basis.{Basis}
use Rattle.xc_model.specs.Course.{Course, Standing, standing_of}
use Rattle.xc_model.specs.EntryEnds.{IsHeld}
use Rattle.xc_model.specs.Machine.{Terms, IsBegunInTurn, IsAttempt, HasReplies, HasLates, HasRecordsOf, IsEndAsked}
use Rattle.xc_model.specs.Progress.{body_of, private_of}
use Rattle.xc_judge.specs.declared.reason.Reason.{Reason}
use Rattle.xc_judge.specs.declared.reason.Reason.TheVariants as reason

-- a transaction of this number may begin in each job: no object has its number, and the object of each handle is there
abbrev pub IsOpenTo : Course → ℕ → Type 0
IsOpenTo c tx = (job : ℕ) → IsSound c.state.world (private_of c.state job) tx

-- numbers: the job that stands so is that of the entry, which began in its turn
pub record IsInTurn (c : Course) (e : Entry) (f : Standing) : Type 0 where
  pub numbered : 1 ≤ e.job
  pub started : standing_of c e ≡ Some f
  pub begun : IsBegunInTurn c f e

-- the same of some job
pub record IsInSomeTurn (c : Course) (e : Entry) : Type 0 where
  pub standing : Standing
  pub in_turn : IsInTurn c e standing

-- the terms of a basis, over a host that tells
abbrev pub telling_terms : Basis → Terms
telling_terms basis = record { rules = basis.rules; tells = true; clients = basis.clients }

-- story: its job goes on with this attempt, whose end was asked
pub record IsToldBy (basis : Basis) (c : Course) (last : Ask) (e : Entry) : Type 0 where
  pub attempt : (f : Standing) → standing_of c e ≡ Some f → IsAttempt (telling_terms basis) f e
  pub asked : IsEndAsked last e e.outcome

-- what each reason denies
abbrev pub MeetsReason : Basis → Course → Ask → Entry → Reason → Type 0
MeetsReason basis c last e reason.Numbers = IsInSomeTurn c e
MeetsReason basis c last e reason.Reply = HasReplies (telling_terms basis) c e
MeetsReason basis c last e reason.Late = HasLates (telling_terms basis) c e e.outcome
MeetsReason basis c last e reason.Records = HasRecordsOf (telling_terms basis) c last e e.outcome
MeetsReason basis c last e reason.Held = IsHeld (body_of c.state e) last e.outcome e.held
MeetsReason basis c last e reason.Story = IsToldBy basis c last e

-- the place of a reason in their order
abbrev pub place_of_reason : Reason → ℕ
place_of_reason reason.Numbers = 0
place_of_reason reason.Reply = 1
place_of_reason reason.Late = 2
place_of_reason reason.Records = 3
place_of_reason reason.Held = 4
place_of_reason reason.Story = 5
