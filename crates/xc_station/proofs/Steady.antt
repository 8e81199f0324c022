-- What is true of a station between two turns is kept by each.
use Rattle.std.proofs.Common.{◌≡◌, ◌<◌, ℕ, length, subst, sym}
use Rattle.std.specs.Prelude.{IsTrue}
use Rattle.xc_data.specs.declared.entry.Turn.{Turn}
use Rattle.xc_host.specs.Model.{HostModel}
use Rattle.xc_model.specs.Handling.{HandlesAgree}
use Rattle.xc_model.specs.Measure.{turns_left}
use Rattle.xc_model.specs.Setting.{Setting, setting}
use Rattle.xc_model.specs.Progress.{progress_of}
use Rattle.xc_model.specs.Played.{IsPlayedSoFar}
use Rattle.xc_model.specs.Moment.{TxView, Moment}
use Rattle.xc_model.specs.Live.{IsScripted}
use Rattle.xc_model.specs.Movers.{IsActiveAt, asked_at}
use Rattle.xc_model.specs.Rows.{IsTurn}
use Rattle.xc_turns.proofs.Laws.{apart_kept, turn_leaves_attempts, turn_keeps_count, grounds_kept, turn_keeps_handles, leaves_fewer, turn_revokes_none}
use Rattle.xc_turns.proofs.Laws.{turn_keeps_started, turn_keeps_words, a_turn_keeps_the_stories_but}
use Rattle.xc_refines.proofs.Laws.{played_there, turn_flies}
use Rattle.xc_station.specs.Stations.{IsSteady, KeepsOpening, StationView, now_of, setting_of}

-- a turn keeps it
pub steady_kept : (s : Setting) (faults at : ℕ) (old new : Moment) (answer : Turn) → IsSteady s faults old → IsTurn s at old answer new
    → IsSteady s faults new
steady_kept s faults at old new answer steady turned =
    let told = steady.kept.told in
    let played : IsTrue s.tells → (tx : TxView) → (is : IsActiveAt old.jobs at tx)
    → IsPlayedSoFar (asked_at s is.0) (length old.words) (progress_of s.script old.journal) at tx =
    λ tells tx is. played_there s old told (steady.flying tells) at is.0 tx is.1 is.2 in
    let (stories, asked) = a_turn_keeps_the_stories_but s at old new answer turned steady.kept.spoken played steady.kept.started told
    (grounds_kept s at old new answer turned played told) in
    record {
      set = steady.set;
      kept = record {
        told = stories;
        attempts = turn_leaves_attempts s at old new answer turned told steady.kept.attempts;
        patience = λ zero. turn_revokes_none s at old new answer turned zero (steady.kept.patience zero);
        spoken = turn_keeps_words s at old new answer turned steady.kept.apart steady.kept.spoken;
        apart = apart_kept s at old new answer turned steady.kept.apart;
        counted = turn_keeps_count s at faults old new answer turned told steady.kept.counted;
        started = turn_keeps_started s at old new answer turned told steady.kept.apart steady.kept.started;
        handled = subst (λ lasts. HandlesAgree s lasts new.journal new.jobs new.calls) (sym asked)
            (turn_keeps_handles s at old new answer told.lasts turned told steady.kept.handled);
      };
      flying = λ tells. turn_flies s at old new answer tells turned told (steady.flying tells);
    }

-- ---- turns that are left
-- of a station that keeps what it was started with, fewer are left after a turn
pub fewer_left : {H : Type 0} (model : HostModel H) (old new : StationView H) (at : ℕ) (answer : Turn) → KeepsOpening old new
    → IsScripted old.opening.script → IsTurn (setting_of model old) at (now_of model old) answer (now_of model new)
    → turns_left (setting_of model new) (now_of model new) < turns_left (setting_of model old) (now_of model old)
fewer_left model old new at answer same own row =
    let opening : old.opening ≡ new.opening = sym same.opening in
    let rules : old.rules ≡ new.rules = sym same.rules in
    subst (λ (s : Setting). turns_left s (now_of model new) < turns_left (setting_of model old) (now_of model old))
    (λ i. setting ((opening i).script) (rules i) model.tells) (leaves_fewer (setting_of model old) at (now_of model old) (now_of model new) answer own row)
