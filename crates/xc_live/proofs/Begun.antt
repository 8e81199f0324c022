-- A begin of a client that has no transaction, and the end of one that has said so.
use Rattle.std.proofs.Common.{◌≡◌, ℕ, zero, suc, ◌+◌, ◌-◌, ◌<◌, true, List, [], ◌∷◌, map, refl, ap, sym, ◌∙◌, subst, append-nil}
use Rattle.std.specs.Prelude.{slice_get, slice_set}
use Rattle.std.specs.declared.option.Option.TheVariants.{None, Some}
use Rattle.xc_data.specs.declared.entry.Turn.{Turn}
use Rattle.xc_data.specs.declared.entry.Turn.TheVariants as turn
use Rattle.xc_host.specs.Model.{HostModel}
use Rattle.xc_model.specs.IdleRows.{IdleTurn, beginning_job}
use Rattle.xc_model.specs.Live.{has_clients}
use Rattle.xc_model.specs.Moment.{JobView, Doing, Idle, Active, Starved, Ended, Moment, active_in, asked_to_wait, begun_count}
use Rattle.xc_model.specs.Movers.{mover}
use Rattle.xc_model.specs.Opened.{IsOpening, opened_job}
use Rattle.xc_model.specs.Rows.{IsTurn, TurnOf}
use Rattle.xc_model.specs.Setting.{Setting}
use Rattle.xc_text.specs.declared.script.Script.{Script}
use Rattle.xc_live.specs.Told.{tx_at}
use Rattle.xc_station.specs.Jobs.{goes_on, job_views, stage_of}
use Rattle.xc_station.specs.Stations.{HasTurned, StationView, live_at, now_of, setting_of}
use Rattle.xc_live.specs.Calm.{IsCalm, IsCalmJob, IsDesk}
use Rattle.xc_live.proofs.Numbered.{live_placed, live_told, setting_kept, told_placed}
use Rattle.xc_live.proofs.Placed.{all_calm, calm_but}
use Rattle.xc_live.proofs.Handed.{none_still}

-- ---- one client's turn between two calls
module _ (s : Setting) (at : ℕ) (old new : Moment) (job : JobView) (desk : IsDesk s old) (there : slice_get old.jobs at ≡ Some job) where
  -- where its job changes alone and is calm, all are
  job_calm : (behind : JobView) → new.jobs ≡ slice_set old.jobs at behind → ((n : ℕ) → new.marks n ≡ None) → IsCalmJob behind → IsDesk s new
  job_calm behind jobs marks calm =
      all_calm s at old new behind job [] desk.clients there (calm_but s at old desk).others
      (jobs ∙ sym (append-nil (slice_set old.jobs at behind))) calm (λ j joined got. cc got) marks

  none : job.handed ≡ None
  none = (desk.calm at job there).none

  by_row : job.doing ≡ Idle → (answer : Turn) → IdleTurn (mover s at old job) answer new → IsDesk s new
  by_row idle turn.Went row =
      job_calm (beginning_job old job) (ap (λ (n : Moment). n.jobs) row.1)
      (λ n. ap (λ (k : Moment). k.marks n) row.1 ∙ none_still old.marks (begun_count old + 1) n (desk.unmarked n))
      (record { none = refl; calm = refl })
  by_row idle (turn.Busy object number) row =
      job_calm (asked_to_wait job) (ap (λ (n : Moment). n.jobs) row.1) (λ n. ap (λ (k : Moment). k.marks n) row.1 ∙ desk.unmarked n)
      (record { none = none; calm = subst IsCalm (sym idle) tt })
  by_row idle (turn.Ended end) row =
      job_calm (record job { doing = Ended end }) (ap (λ (n : Moment). n.jobs) row.1) (λ n. ap (λ (k : Moment). k.marks n) row.1 ∙ desk.unmarked n)
      (record { none = none; calm = tt })
  by_row idle turn.NoMemory row = subst (IsDesk s) (sym row.2) desk

  -- after the turn of an idle one all are calm
  pub idle_calm : job.doing ≡ Idle → (answer : Turn) → IsTurn s at old answer new → IsDesk s new
  idle_calm idle answer t = by_row idle answer (idle_row idle answer t)
    where
      idle_row : job.doing ≡ Idle → (answer : Turn) → IsTurn s at old answer new → IdleTurn (mover s at old job) answer new
      idle_row idle answer t =
          let same : t.job ≡ job = cc (t.there, there) in
          let row : TurnOf (mover s at old job) job.doing answer new =
          subst (λ (j : JobView). TurnOf (mover s at old j) j.doing answer new) same t.row in
          subst (λ d. TurnOf (mover s at old job) d answer new) idle row

  -- without memory nothing changes
  pub idle_stays : job.doing ≡ Idle → IsTurn s at old turn.NoMemory new → new ≡ old
  idle_stays idle t =
      let same : t.job ≡ job = cc (t.there, there) in
      let row : TurnOf (mover s at old job) job.doing turn.NoMemory new =
      subst (λ (j : JobView). TurnOf (mover s at old j) j.doing turn.NoMemory new) same t.row in
      (subst (λ d. TurnOf (mover s at old job) d turn.NoMemory new) idle row).2

-- ---- a client that lives and has none is idle
does_idle : (d : Doing) → IsCalm d → goes_on (stage_of d) ≡ true → active_in d ≡ None → d ≡ Idle
does_idle Idle calm live none = refl
does_idle (Active tx) calm live none = cc none
does_idle Starved calm live none = absurd calm
does_idle (Ended end) calm live none = cc live

-- so it is there, and idle
pub is_idle : {H : Type 0} (model : HostModel H) (client : ℕ) (desk : StationView H) → IsDesk (setting_of model desk) (now_of model desk)
    → live_at desk.jobs client ≡ true → tx_at (job_views desk.jobs) client ≡ None
    → (0 < client) × (job : JobView) × (slice_get (job_views desk.jobs) (client - 1) ≡ Some job) × (job.doing ≡ Idle)
is_idle model client desk is live none =
    let found = live_placed desk.jobs client live in
    let job = found.1 in
    let calm = is.calm (client - 1) job found.2 in (
      found.0,
      job,
      found.2,
      does_idle job.doing calm.calm (sym (live_told desk.jobs client job found.0 found.2) ∙ live)
          (sym (told_placed active_in (job_views desk.jobs) client job found.0 found.2) ∙ none),
    )

-- after its turn the desk is between two calls
pub begun_calm : {H : Type 0} (model : HostModel H) (client : ℕ) (old new : StationView H) (answer : Turn) → IsDesk (setting_of model old) (now_of model old)
    → live_at old.jobs client ≡ true → tx_at (job_views old.jobs) client ≡ None → HasTurned model client (record { old = old; new = new }) answer
    → IsDesk (setting_of model new) (now_of model new)
begun_calm model client old new answer desk live none turned =
    let idle = is_idle model client old desk live none in
    subst (λ s. IsDesk s (now_of model new)) (sym (setting_kept model client old new turned.1))
    (idle_calm (setting_of model old) (client - 1) (now_of model old) (now_of model new) idle.1 desk idle.2 idle.3 answer turned.0)

-- and where there is no memory for a transaction it is as before
pub begun_stays : {H : Type 0} (model : HostModel H) (client : ℕ) (old new : StationView H) → IsDesk (setting_of model old) (now_of model old)
    → live_at old.jobs client ≡ true → tx_at (job_views old.jobs) client ≡ None
    → IsTurn (setting_of model old) (client - 1) (now_of model old) turn.NoMemory (now_of model new) → now_of model new ≡ now_of model old
begun_stays model client old new desk live none t =
    let idle = is_idle model client old desk live none in
    idle_stays (setting_of model old) (client - 1) (now_of model old) (now_of model new) idle.1 desk idle.2 idle.3 t

-- ---- a desk before its first call
-- its clients are idle, and have handed in nothing
opened_calm : (script : Script) (names : List (List ℕ)) (at : ℕ) (job : JobView) → slice_get (map (opened_job script) names) at ≡ Some job → IsCalmJob job
opened_calm script [] at job e = cc e
opened_calm script (name ∷ names) zero job e =
    let is : opened_job script name ≡ job = cc e in
    subst IsCalmJob is (record { none = refl; calm = tt })
opened_calm script (name ∷ names) (suc at) job e = opened_calm script names at job e

-- so nobody is half-way
pub opened_desk : {H : Type 0} (model : HostModel H) (script : Script) (desk : StationView H) → desk.opening.script ≡ script → script.clients ≡ true
    → IsOpening script (now_of model desk) → IsDesk (setting_of model desk) (now_of model desk)
opened_desk model script desk same clients opening =
    record {
      clients = ap has_clients same ∙ clients;
      calm = λ at job there. opened_calm script script.outline.jobs at job (ap (λ jobs. slice_get jobs at) (sym opening.jobs) ∙ there);
      unmarked = opening.marks;
    }
