-- A client that has no transaction hands in its end, and ends in its next turn.
use Rattle.std.proofs.Common.{◌≡◌, ◌≢◌, ℕ, suc, ◌-◌, ◌<◌, true, false, length, refl, ap, sym, ◌∙◌, subst, arith}
use Rattle.std.specs.Prelude.{Option, slice_get, slice_set}
use Rattle.std.proofs.lemmas.List.{length-map}
use Rattle.std.specs.declared.option.Option.TheVariants.{None, Some}
use Rattle.xc_data.specs.declared.entry.JobEnd.{JobEnd}
use Rattle.xc_data.specs.declared.entry.Turn.{Turn}
use Rattle.xc_data.specs.declared.entry.Turn.TheVariants as turn
use Rattle.xc_data.proofs.Laws.{get_set_same, get_set_other, length_set}
use Rattle.xc_host.specs.Model.{HostModel}
use Rattle.xc_script.specs.declared.ask.Ask.{Ask}
use Rattle.xc_script.specs.declared.ask.Ask.TheVariants as ask
use mathlib.Core.Logic.{dite}
use native.Mathlib.Decide.{ℕ_discrete}
use Rattle.xc_model.specs.HandedIn.{IsHandedIn, MayHand, MayHandIn}
use Rattle.xc_model.specs.IdleRows.{IdleTurn, IsOver}
use Rattle.xc_model.specs.Live.{has_clients}
use Rattle.xc_model.specs.Moment.{TxView, JobView, Doing, Idle, Active, Starved, Ended, Moment, active_in, with_job}
use Rattle.xc_model.specs.Movers.{IsActiveAt, mover}
use Rattle.xc_model.specs.Rows.{TurnOf}
use Rattle.xc_model.specs.Setting.{Setting}
use Rattle.xc_station.specs.Jobs.{goes_on, job_view, job_views, stage_of}
use Rattle.xc_station.specs.Stations.{HasTurned, KeepsOpening, StationView, live_at, now_of, setting_of}
use Rattle.xc_live.specs.Calm.{IsCalm, IsDesk}
use Rattle.xc_live.specs.Closing.{AreQuiet, HasDismissed, IsAtRest, NobodyIsActive}
use Rattle.xc_live.proofs.Numbered.{live_as, live_placed, live_told, setting_kept, told_placed}
use Rattle.xc_live.proofs.Placed.{elsewhere_was}

-- ---- all are quiet
quiet_one : (d : Doing) (handed : Option Ask) → IsCalm d → handed ≡ None → active_in d ≡ None → IsAtRest d handed
quiet_one Idle handed calm none idle = none
quiet_one (Active tx) handed calm none idle = cc idle
quiet_one Starved handed calm none idle = absurd calm
quiet_one (Ended end) handed calm none idle = tt

-- where nobody has a transaction
pub desk_quiet : {H : Type 0} (model : HostModel H) (desk : StationView H) → IsDesk (setting_of model desk) (now_of model desk) → NobodyIsActive desk
    → AreQuiet (setting_of model desk) (now_of model desk)
desk_quiet model desk is nobody =
    record {
      clients = is.clients;
      quiet = λ at job there.
          let calm = is.calm at job there in
          let place : suc at - 1 ≡ at = omega arith in
          let stands : slice_get (job_views desk.jobs) (suc at - 1) ≡ Some job =
          subst (λ k. slice_get (job_views desk.jobs) k ≡ Some job) (sym place) there in
          let none : active_in job.doing ≡ None = sym (told_placed active_in (job_views desk.jobs) (suc at) job (omega arith) stands) ∙ nobody (suc at) in
          quiet_one job.doing job.handed calm.calm calm.none none;
    }

-- ---- one of them ends
quiet_idle : (d : Doing) (handed : Option Ask) → IsAtRest d handed → goes_on (stage_of d) ≡ true → (d ≡ Idle) × (handed ≡ None)
quiet_idle Idle handed quiet live = (refl, quiet)
quiet_idle (Ended end) handed quiet live = cc live
quiet_idle (Active tx) handed quiet live = absurd quiet
quiet_idle Starved handed quiet live = absurd quiet

quiet_inactive : (d : Doing) (handed : Option Ask) (tx : TxView) → IsAtRest d handed → active_in d ≡ Some tx → ⊥
quiet_inactive Idle handed tx quiet e = cc e
quiet_inactive (Ended end) handed tx quiet e = cc e
quiet_inactive (Active u) handed tx quiet e = absurd quiet
quiet_inactive Starved handed tx quiet e = absurd quiet

module _ {H : Type 0} (model : HostModel H) (client : ℕ) (old : StationView H) (quiet : AreQuiet (setting_of model old) (now_of model old))
    (live : live_at old.jobs client ≡ true) where
  found : (0 < client) × (job : JobView) × (slice_get (job_views old.jobs) (client - 1) ≡ Some job)
  found = live_placed old.jobs client live

  abbrev job : JobView
  job = found.1

  idle : (job.doing ≡ Idle) × (job.handed ≡ None)
  idle = quiet_idle job.doing job.handed (quiet.quiet (client - 1) job found.2) (sym (live_told old.jobs client job found.0 found.2) ∙ live)

  -- its end may be handed in
  pub end_of_client : MayHandIn (setting_of model old) (client - 1) ask.End (now_of model old)
  end_of_client =
      record {
        clients = quiet.clients;
        job = job;
        is = found.2;
        none = idle.1;
        may = subst (λ d. MayHand d ask.End) (sym idle.0) tt;
      }

  module _ (mid : StationView H) (same : KeepsOpening old mid)
      (handed : IsHandedIn (setting_of model old) (client - 1) ask.End (now_of model old) (now_of model mid)) where
    abbrev its : JobView
    its = record handed.job { handed = Some ask.End }

    is_job : handed.job ≡ job
    is_job = cc (handed.is, found.2)

    jobs_mid : job_views mid.jobs ≡ slice_set (job_views old.jobs) (client - 1) its
    jobs_mid = ap (λ (n : Moment). n.jobs) handed.behind

    mid_there : slice_get (job_views mid.jobs) (client - 1) ≡ Some its
    mid_there = ap (λ js. slice_get js (client - 1)) jobs_mid ∙ get_set_same (job_views old.jobs) (client - 1) handed.job its handed.is

    mid_idle : its.doing ≡ Idle
    mid_idle = ap (λ (j : JobView). j.doing) is_job ∙ idle.0

    -- it lives yet
    pub mid_lives : live_at mid.jobs client ≡ true
    mid_lives = live_told mid.jobs client its found.0 mid_there ∙ ap (λ d. goes_on (stage_of d)) mid_idle

    nobody_active : (j : ℕ) (tx : TxView) → IsActiveAt (job_views mid.jobs) j tx → ⊥
    nobody_active j tx (other, there, active) =
        dite (ℕ_discrete j (client - 1))
        (λ here.
        let one : slice_get (job_views mid.jobs) (client - 1) ≡ Some other = subst (λ k. slice_get (job_views mid.jobs) k ≡ Some other) here there in
        let is : its ≡ other = cc (mid_there, one) in
        let both : ◌≡◌ {A = Option TxView} None (Some tx) = sym (ap active_in mid_idle) ∙ ap (λ (k : JobView). active_in k.doing) is ∙ active in cc both)
        (λ away. quiet_inactive other.doing other.handed tx
        (quiet.quiet j other (elsewhere_was (job_views old.jobs) (job_views mid.jobs) (client - 1) j its other jobs_mid away there)) active)

    module _ (new : StationView H) (answer : Turn) (turned : HasTurned model client (record { old = mid; new = new }) answer) where
      abbrev s : Setting
      s = setting_of model mid

      clients_mid : has_clients s.script ≡ true
      clients_mid = subst (λ (z : Setting). has_clients z.script ≡ true) (sym (setting_kept model client old mid same)) quiet.clients

      row : IdleTurn (mover s (client - 1) (now_of model mid) its) answer (now_of model new)
      row =
          let t = turned.0 in
          let one : t.job ≡ its = cc (t.there, mid_there) in
          let r : TurnOf (mover s (client - 1) (now_of model mid) its) its.doing answer (now_of model new) =
          subst (λ (j : JobView). TurnOf (mover s (client - 1) (now_of model mid) j) j.doing answer (now_of model new)) one t.row in
          subst (λ d. TurnOf (mover s (client - 1) (now_of model mid) its) d answer (now_of model new)) mid_idle r

      ended_so : (answer : Turn) → IdleTurn (mover s (client - 1) (now_of model mid) its) answer (now_of model new)
          → (end : JobEnd) × (now_of model new ≡ with_job (now_of model mid) (client - 1) (record its { doing = Ended end }))
      ended_so (turn.Ended end) row = (end, row.1)
      ended_so turn.Went row = absurd (row.0.more (subst (λ b. IsOver b s its) (sym clients_mid) refl))
      ended_so (turn.Busy object number) row = let active = row.0.active in absurd (nobody_active active.0 active.1 active.2)
      ended_so turn.NoMemory row = absurd (row.1.more (subst (λ b. IsOver b s its) (sym clients_mid) refl))

      ends : (end : JobEnd) × (now_of model new ≡ with_job (now_of model mid) (client - 1) (record its { doing = Ended end }))
      ends = ended_so answer row

      abbrev gone : JobView
      gone = record its { doing = Ended ends.0 }

      jobs_new : job_views new.jobs ≡ slice_set (job_views mid.jobs) (client - 1) gone
      jobs_new = ap (λ (n : Moment). n.jobs) ends.1

      new_there : slice_get (job_views new.jobs) (client - 1) ≡ Some gone
      new_there = ap (λ js. slice_get js (client - 1)) jobs_new ∙ get_set_same (job_views mid.jobs) (client - 1) its gone mid_there

      elsewhere : (k : ℕ) → k ≢ client - 1 → slice_get (job_views new.jobs) k ≡ slice_get (job_views old.jobs) k
      elsewhere k away =
          ap (λ js. slice_get js k) jobs_new ∙ get_set_other (job_views mid.jobs) (client - 1) k gone away
          ∙ ap (λ js. slice_get js k) jobs_mid ∙ get_set_other (job_views old.jobs) (client - 1) k its away

      place_of_other : (other : ℕ) → other ≢ client → 0 < other → other - 1 ≢ client - 1
      place_of_other other ne some same = let positive = found.0 in ne (omega (arith, same, some, positive))

      count_new : length new.jobs ≡ length old.jobs
      count_new =
          let a = length-map new.jobs job_view in let b = length-map old.jobs job_view in
          let c = ap length jobs_new in let d = length_set (job_views mid.jobs) (client - 1) gone in
          let e = ap length jobs_mid in let f = length_set (job_views old.jobs) (client - 1) its in
          omega (arith, a, b, c, d, e, f)

      -- so it ended, and the others stay
      pub dismissed_so : HasDismissed client (record { old = old; new = new })
      dismissed_so =
          record {
            ended = live_told new.jobs client gone found.0 new_there;
            others = λ other ne. live_as new.jobs old.jobs other (λ some. elsewhere (other - 1) (place_of_other other ne some));
            count = count_new;
            journal = ap (λ (n : Moment). n.journal) ends.1 ∙ ap (λ (n : Moment). n.journal) handed.behind;
            gone = turned.1.gone ∙ same.gone;
            words = ap (λ (n : Moment). n.words) ends.1 ∙ ap (λ (n : Moment). n.words) handed.behind;
            opening = turned.1.opening ∙ same.opening;
            rules = turned.1.rules ∙ same.rules;
          }

      -- and all are quiet
      pub dismissed_quiet : AreQuiet (setting_of model new) (now_of model new)
      dismissed_quiet =
          record {
            clients = subst (λ (z : Setting). has_clients z.script ≡ true) (sym (setting_kept model client mid new turned.1)) clients_mid;
            quiet = λ at other got.
                dite (ℕ_discrete at (client - 1))
                (λ here. let one : slice_get (job_views new.jobs) (client - 1) ≡ Some other
                = subst (λ k. slice_get (job_views new.jobs) k ≡ Some other) here got in
                let is : gone ≡ other = cc (new_there, one) in subst (λ (k : JobView). IsAtRest k.doing k.handed) is tt)
                (λ away. quiet.quiet at other (sym (elsewhere at away) ∙ got));
          }

-- ---- one that has ended
-- nothing is done
pub dismissed_still : {H : Type 0} (client : ℕ) (old : StationView H) → live_at old.jobs client ≡ false → HasDismissed client (record { old = old; new = old })
dismissed_still client old ended =
    record { ended = ended; others = λ other ne. refl; count = refl; journal = refl; gone = refl; words = refl; opening = refl; rules = refl }
