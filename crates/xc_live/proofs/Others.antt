-- What a client leaves of the others.
use Rattle.std.proofs.Common.{ℕ, zero, suc, ◌-◌, Bool, true, false, List, [], ◌∷◌, ap, ◌∙◌}
use Rattle.std.specs.Prelude.{replicate, slice_get}
use Rattle.std.proofs.lemmas.Option.{slice_get_within}
use Rattle.xc_data.specs.Step.{Step}
use Rattle.xc_data.specs.declared.call.Call.{Call}
use Rattle.xc_data.specs.declared.entry.Turn.{Turn}
use Rattle.xc_host.specs.Model.{HostModel}
use Rattle.xc_script.specs.declared.ask.Ask.{Ask}
use Rattle.xc_model.specs.Moment.{Moment}
use Rattle.xc_data.proofs.Laws.{get_set_other}
use Rattle.xc_turns.proofs.Laws.{others_kept}
use Rattle.xc_station.specs.Jobs.{job_views}
use Rattle.xc_station.specs.Stations.{HasTurned, IsStepOf, StationView, TakeTurns, live_at, now_of, setting_of}
use Rattle.xc_live.specs.Called.{MakesItsCall}
use Rattle.xc_live.specs.Ended.{AsksAlone, HandsIn}
use Rattle.xc_live.specs.GivingWay.{GiveWay}
use Rattle.xc_live.specs.Others.{LeavesAllBut}

module _ {H : Type 0} (model : HostModel H) (client : ℕ) where
  -- a turn leaves them
  pub client_leaves : (answer : Turn) (old new : StationView H) → HasTurned model client (record { old = old; new = new }) answer
      → LeavesAllBut (client ∷ []) (job_views old.jobs) (job_views new.jobs)
  client_leaves answer old new turned place job away got =
      others_kept (setting_of model old) (client - 1) place (now_of model old) (now_of model new) answer turned.0 away.0
      (slice_get_within (job_views old.jobs) place job got)
      ∙ got

  step_leaves : (b : Bool) (old new : StationView H) → IsStepOf model client (record { old = old; new = new }) b
      → LeavesAllBut (client ∷ []) (job_views old.jobs) (job_views new.jobs)
  step_leaves true old new step place job away got = client_leaves step.0 old new step.1 place job away got
  step_leaves false old new step place job away got = ap (λ (s : StationView H). slice_get (job_views s.jobs) place) step ∙ got

  -- so do several
  pub turns_leave : (n : ℕ) (old new : StationView H) → TakeTurns model (replicate n client) old new
      → LeavesAllBut (client ∷ []) (job_views old.jobs) (job_views new.jobs)
  turns_leave zero old new turns place job away got = ap (λ (s : StationView H). slice_get (job_views s.jobs) place) turns ∙ got
  turns_leave (suc n) old new turns place job away got =
      turns_leave n turns.0 new turns.2 place job away (step_leaves (live_at old.jobs client) old turns.0 turns.1 place job away got)

  -- and what is handed in
  pub hands_leave : (asked : Ask) (old new : StationView H) → HandsIn model client asked (record { old = old; new = new })
      → LeavesAllBut (client ∷ []) (job_views old.jobs) (job_views new.jobs)
  hands_leave asked old new hands place job away got =
      ap (λ (n : Moment). slice_get n.jobs place) hands.handed.behind ∙ get_set_other (job_views old.jobs) (client - 1) place _ away.0 ∙ got

  -- an end leaves them
  pub alone_leaves : (asked : Ask) (old new : StationView H) → AsksAlone model client asked (record { old = old; new = new })
      → LeavesAllBut (client ∷ []) (job_views old.jobs) (job_views new.jobs)
  alone_leaves asked old new alone place job away got =
      turns_leave alone.turns alone.handed new alone.takes place job away (hands_leave asked old alone.handed alone.hands place job away got)

-- those that give way change beside
pub way_leaves : {H : Type 0} (model : HostModel H) (client : ℕ) (victims : List ℕ) (old new : StationView H)
    → GiveWay model client victims (record { old = old; new = new })
    → LeavesAllBut (client ∷ victims) (job_views old.jobs) (job_views new.jobs)
way_leaves {H = H} model client [] old new way place job away got = ap (λ (s : StationView H). slice_get (job_views s.jobs) place) way ∙ got
way_leaves model client (victim ∷ before) old new (last, first, gives) place job away got =
    turns_leave model victim gives.turns gives.waited new gives.rolled place job (away.1.0, tt)
    (client_leaves model client _ last gives.waited gives.told place job (away.0, tt)
    (way_leaves model client before old last first place job (away.0, away.1.1) got))

-- a call leaves all but these
pub call_leaves : {H : Type 0} (model : HostModel H) (client : ℕ) (c : Call) (desk : Step (StationView H)) (made : MakesItsCall model client c desk)
    → LeavesAllBut (client ∷ made.victims) (job_views desk.old.jobs) (job_views desk.new.jobs)
call_leaves model client c desk made place job away got =
    turns_leave model client made.turns made.free desk.new made.takes place job (away.0, tt)
    (way_leaves model client made.victims made.handed made.free made.way place job away
    (hands_leave model client _ desk.old made.handed made.hands place job (away.0, tt) got))
