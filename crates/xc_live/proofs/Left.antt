-- A client's transaction comes to its entry, and the desk is between two calls again.
use Rattle.std.proofs.Common.{◌≡◌, ℕ, suc, ◌+◌, ◌-◌, ◌<◌, true, false, refl, ap, sym, ◌∙◌, subst, arith}
use Rattle.std.specs.Prelude.{replicate, slice_get}
use Rattle.std.specs.declared.option.Option.TheVariants.{Some}
use Rattle.xc_data.specs.declared.entry.Cause.{Cause}
use Rattle.xc_data.specs.declared.entry.Cause.TheVariants as cause
use Rattle.xc_data.specs.declared.entry.Turn.{Turn}
use Rattle.xc_host.specs.Model.{HostModel}
use Rattle.xc_script.specs.declared.ask.Ask.{Ask}
use Rattle.xc_model.specs.declared.phase.Phase.{Phase}
use Rattle.xc_model.specs.declared.phase.Phase.TheVariants.{Running, Committing, Undoing, Backing}
use Rattle.xc_model.specs.Moment.{TxView, JobView, Idle, Starved, Moment, active_in, with_job}
use Rattle.xc_model.specs.Rows.{IsTurn}
use Rattle.xc_data.proofs.Laws.{get_set_same}
use Rattle.xc_station.specs.Finishing.{AddsEntry, job_left_at, left_in, left_of, phase_at}
use Rattle.xc_station.specs.Jobs.{job_views}
use Rattle.xc_station.specs.Stations.{HasTurned, StationView, TakeTurns, live_at, now_of, setting_of}
use Rattle.xc_live.specs.Calm.{IsCalm, IsDesk}
use Rattle.xc_live.specs.Moving.{AskedAt, HasLeft, is_want}
use Rattle.xc_live.proofs.Handed.{entered_calm, entered_there, starved_calm, starved_so}
use Rattle.xc_live.proofs.Numbered.{doing_lives, turns_taken, turn_taken, phase_told, setting_kept, settings_kept, told_placed}
use Rattle.xc_live.proofs.Rolled.{IsBehindEntry, IsEndingPhase, before_entry, comes_to_entry, doing_after, doing_behind}

-- ---- causes
want_is : (c : Cause) → is_want c ≡ true → doing_after c ≡ Starved
want_is cause.NoMemory e = refl
want_is cause.Asked e = cc e
want_is (cause.Conflict object holder when) e = cc e
want_is (cause.Revoked object by when) e = cc e
want_is (cause.Stuck failed) e = cc e

other_is : (c : Cause) → is_want c ≡ false → doing_after c ≡ Idle
other_is cause.NoMemory e = cc e
other_is cause.Asked e = refl
other_is (cause.Conflict object holder when) e = refl
other_is (cause.Revoked object by when) e = refl
other_is (cause.Stuck failed) e = refl

-- a phase has its turns left
left_in_phase : (tx : TxView) (phase : Phase) → IsEndingPhase phase → left_in tx phase ≡ Some (before_entry tx phase)
left_in_phase tx (Undoing c) ends = refl
left_in_phase tx Committing ends = refl
left_in_phase tx Running ends = absurd ends
left_in_phase tx Backing ends = absurd ends

module _ {H : Type 0} (model : HostModel H) (client : ℕ) (some : 0 < client) (was : TxView) (asked : Ask) (old : StationView H)
    (had : AskedAt model client was asked old) (phase : Phase) (ends : IsEndingPhase phase) (is : phase_at (job_views old.jobs) client ≡ Some phase) where
  -- its transaction is in the phase that is told
  pub phase_is : had.is.phase ≡ phase
  phase_is =
      let told : phase_at (job_views old.jobs) client ≡ Some had.is.phase =
      phase_told (job_views old.jobs) client had.job had.is some had.there had.active in
      let both : Some had.is.phase ≡ Some phase = sym told ∙ is in cc both

  abbrev count : ℕ
  count = before_entry had.is phase

  counted : job_left_at (job_views old.jobs) client ≡ Some count
  counted =
      told_placed left_of (job_views old.jobs) client had.job some had.there ∙ ap left_of had.active
      ∙ ap (left_in had.is) phase_is ∙ left_in_phase had.is phase ends

  module _ (mid : StationView H) (entered : AddsEntry client phase old.journal mid.journal)
      (rolls : (left : ℕ) → job_left_at (job_views old.jobs) client ≡ Some left → TakeTurns model (replicate (left + 1) client) old mid) where
    rolled : TakeTurns model (replicate (count + 1) client) old mid
    rolled = rolls count counted

    behind : IsBehindEntry (client - 1) had.is.number phase (now_of model old) (now_of model mid)
    behind =
        let more : count + 1 ≡ suc count = omega arith in
        comes_to_entry model client some phase ends count old mid had.job had.is had.there had.active phase_is refl
        (subst (λ k. TakeTurns model (replicate k client) old mid) more rolled)

    there : slice_get (job_views mid.jobs) (client - 1) ≡ Some behind.after
    there = entered_there (setting_of model old) (client - 1) was asked (now_of model old) had phase (now_of model mid) behind

    -- it has left, where its job goes on
    pub has_left : doing_behind phase ≡ Idle → HasLeft model client phase (record { old = old; new = mid })
    has_left idle =
        record {
          turns = count + 1;
          takes = rolled;
          entered = record {
            entered = entered;
            none = told_placed active_in (job_views mid.jobs) client behind.after some there ∙ ap active_in (behind.does ∙ idle);
            lives = doing_lives mid.jobs client behind.after Idle some there (behind.does ∙ idle) refl;
          };
          calm = subst (λ s. IsDesk s (now_of model mid)) (sym (settings_kept model client (count + 1) old mid rolled))
              (entered_calm (setting_of model old) (client - 1) was asked (now_of model old) had phase (now_of model mid) behind
              (subst IsCalm (sym idle) tt));
        }

    -- a starved one lives yet
    pub left_lives : doing_behind phase ≡ Starved → live_at mid.jobs client ≡ true
    left_lives starved = doing_lives mid.jobs client behind.after Starved some there (behind.does ∙ starved) refl

    module _ (starved : doing_behind phase ≡ Starved) (new : StationView H) (answer : Turn)
        (turned : HasTurned model client (record { old = mid; new = new }) answer) where
      kept_mid : setting_of model mid ≡ setting_of model old
      kept_mid = settings_kept model client (count + 1) old mid rolled

      abbrev fed : JobView
      fed = record behind.after { doing = Idle }

      now_fed : now_of model new ≡ with_job (now_of model mid) (client - 1) fed
      now_fed =
          starved_so (setting_of model old) (client - 1) was asked (now_of model old) had phase (now_of model mid) behind (now_of model new) answer
          (behind.does ∙ starved) (subst (λ s. IsTurn s (client - 1) (now_of model mid) answer (now_of model new)) kept_mid turned.0)

      fed_there : slice_get (job_views new.jobs) (client - 1) ≡ Some fed
      fed_there =
          ap (λ (n : Moment). slice_get n.jobs (client - 1)) now_fed
          ∙ get_set_same (job_views mid.jobs) (client - 1) behind.after fed there

      -- and is idle with one turn more
      pub has_starved : HasLeft model client phase (record { old = old; new = new })
      has_starved =
          let all = turns_taken model client (count + 1) 1 old mid new rolled (turn_taken model client answer mid new (left_lives starved) turned) in
          let same : new.journal ≡ mid.journal = ap (λ (n : Moment). n.journal) now_fed in
          record {
            turns = all.0;
            takes = all.1;
            entered = record {
              entered = subst (λ j. AddsEntry client phase old.journal j) (sym same) entered;
              none = told_placed active_in (job_views new.jobs) client fed some fed_there;
              lives = doing_lives new.jobs client fed Idle some fed_there refl refl;
            };
            calm = subst (λ s. IsDesk s (now_of model new)) (sym (setting_kept model client mid new turned.1 ∙ kept_mid))
                (starved_calm (setting_of model old) (client - 1) was asked (now_of model old) had phase (now_of model mid) behind (now_of model new)
                now_fed);
          }

-- ---- by the cause
-- a rollback for another cause leaves the client idle
pub undone_idle : (c : Cause) → is_want c ≡ false → doing_behind (Undoing c) ≡ Idle
undone_idle c e = other_is c e

-- for want of memory it starves
pub undone_starved : (c : Cause) → is_want c ≡ true → doing_behind (Undoing c) ≡ Starved
undone_starved c e = want_is c e
