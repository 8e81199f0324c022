-- What the words of a command line choose for a run, and what the run promises then.
use Rattle.std.specs.Prelude.{◌≡◌, ◌≢◌, ℕ, ◌==◌, ◌&&◌, Bool, not, List, IfSome, IsTrue, Option, is_none, Ok}
use Rattle.std.specs.declared.option.Option.TheVariants.{None, Some}
use Rattle.std.specs.Option.{option_map}
use Rattle.xc_data.specs.Step.{Step}
use Rattle.xc_edge.specs.View.{StreamView}
use Rattle.xc_host.specs.Model.{HostModel}
use Rattle.xc_outcome.specs.declared.choice.Choice.{Choice}
use Rattle.xc_outcome.specs.declared.finish.Finish.{Finish}
use Rattle.xc_outcome.specs.declared.finish.Status.TheVariants as status
use Rattle.xc_outcome.specs.Runs.{IsEndOver, IsInput, IsSerialRun, chosen_seed}
use Rattle.xc_outcome.specs.Said.{Edges, IsAnswered, IsFullRun, IsOneOf, IsSaidPlainly, IsUndisturbed}
use Rattle.xc_settings.specs.declared.chosen.Chosen.{Chosen}
use Rattle.xc_settings.specs.Options.{settings_of, KeepsBounds}
use Rattle.xc_station.specs.declared.run_result.End.{End}
use Rattle.xc_text.specs.Scripts.{parse_of}
use Rattle.xc_app.specs.Lines.{usage_line}

-- ---- what the words choose
-- what a run needs of a choice, but for who takes its turns
abbrev pub choice_in : Chosen → Choice
choice_in chosen = record { rules = chosen.rules; seed = chosen.seed }

-- the same of the words, and nothing where they are refused
abbrev pub choice_of : List (List ℕ) → Option Choice
choice_of words = option_map choice_in (settings_of words)

-- the seed that the words choose, if they choose one
abbrev pub seed_of : List (List ℕ) → Option ℕ
seed_of words = chosen_seed (choice_of words)

-- one worker, and neither a schedule nor a seed: jobs run one after another
pub record RunsAlone (chosen : Chosen) : Type 0 where
  pub schedule : chosen.schedule ≡ None
  pub seed : chosen.seed ≡ None
  pub workers : chosen.workers ≡ 1

-- several workers take the turns: there is neither a schedule nor a seed, and more than one
abbrev pub needs_threads : Chosen → Bool
needs_threads chosen = is_none chosen.schedule && is_none chosen.seed && not (chosen.workers == 1)

-- ---- the run
module _ {H : Type 0} (model : HostModel H) where
  -- the end of a run that chose this, over the host that was handed in
  pub record IsRunOver (chosen : Chosen) (host : H) (end : End H) : Type 0 where
    pub bounds : KeepsBounds chosen
    -- it is true of the script by the chosen rules, whoever took the turns
    pub over : IsEndOver model chosen.rules host end
    -- with one worker and no schedule its transactions ran one after another
    pub alone : RunsAlone chosen → IsSerialRun model end

  -- the bytes are a script, and this is the end of its run
  abbrev pub IsChosenRunOf : List ℕ → Chosen → H → End H → Type 0
  IsChosenRunOf bytes chosen host end = (parse_of bytes ≡ Ok end.opening.script) × IsRunOver chosen host end

  -- the words chose something, bytes were read from the source or generated, and this is the end of their run
  abbrev pub IsChosenRun : List (List ℕ) → Step StreamView → H → End H → Type 0
  IsChosenRun words source host end =
      (chosen : Chosen) × (settings_of words ≡ Some chosen) × (bytes : List ℕ) × IsInput chosen.seed source bytes
      × IsChosenRunOf bytes chosen host end

-- with one worker and neither a schedule nor a seed, the run's text was written; and, where no fault is recorded, its lines but those on
-- kept data are the text of the script alone
abbrev pub IsSaidAlone : {H : Type 0} → List (List ℕ) → StreamView → StreamView → End H → Type 0
IsSaidAlone words old new end = (chosen : Chosen) → settings_of words ≡ Some chosen → RunsAlone chosen → IsSaidPlainly old new end

-- ---- all that a finished run promises
-- of the host that was handed in
pub record IsFinished {H : Type 0} (model : HostModel H) (words : List (List ℕ)) (edges : Edges) (handed : H) (finish : Finish H)
    : Type 0 where
  pub answered : IsAnswered (choice_of words) usage_line model.takes_scripts edges finish
  pub run : IfSome finish.end (IsChosenRun model words edges.source handed)
  pub complete : IfSome finish.end (λ end. IsUndisturbed end → IsFullRun finish.status end)
  pub plain : IsTrue model.tells → finish.status ≢ status.NoMemory → finish.status ≢ status.WriteFault
      → IfSome finish.end (IsSaidAlone words edges.sink.old edges.sink.new)
  pub host : IfSome finish.host (λ back. back ≡ handed)
  pub one : IsOneOf finish.end finish.host
