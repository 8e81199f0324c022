-- What a pass gains for a line.
use Rattle.std.specs.Prelude.{◌≡◌, ◌≢◌, ℕ, Bool, true, false, List, [], ◌∷◌, ◌++◌, All, IfSome, Option, Result, Ok, Err, length}
use Rattle.std.specs.declared.option.Option.TheVariants.{None, Some}
use Rattle.xc_data.specs.Step.{Step}
use Rattle.xc_data.specs.declared.entry.Entry.{Entry}
use Rattle.xc_data.specs.declared.entry.Event.{Event}
use Rattle.xc_data.specs.declared.entry.Event.TheVariants.{Turned}
use Rattle.xc_data.specs.declared.entry.Turn.{Turn}
use Rattle.xc_text.specs.declared.script.Script.{Script}
use Rattle.xc_model.specs.Live.{IsScripted}
use Rattle.xc_model.specs.declared.origin.Origin.{Origin}
use Rattle.xc_turnstile.specs.Insides.{Gains}
use Rattle.xc_station.specs.Passes.{StationPass}
use Rattle.xc_turnstile.specs.Views.{added}
use Rattle.xc_runner.specs.Walks.{is_last}
use Rattle.xc_data.specs.declared.memory.NoMemory.{NoMemory}
use Rattle.xc_serve.specs.declared.answer.ServeAnswer.{ServeAnswer}
use Rattle.xc_serve.specs.declared.answer.ServeAnswer.TheVariants as answer
use Rattle.xc_serve.specs.declared.order.Order.{Order}
use Rattle.xc_serve.specs.declared.order.Order.TheVariants as order
use Rattle.xc_serve.specs.Answers.{IsServeAnswer, IsOwnBlock, IsOwnIn, answer_bytes, job_closing, entry_texts, turn_events}

-- the station that a pass is for is one of a script, so nothing of its journal was handed out
abbrev pub IsOfScript : StationPass → Type 0
IsOfScript pass = (o : Origin) → pass.view.origin ≡ Some o → IsScripted o.script

-- a text is this one, or was lost for lack of memory
abbrev pub IsText : Option (List ℕ) → List ℕ → Type 0
IsText told text = IfSome told (λ (t : List ℕ). t ≡ text)

-- a text grows by this one, or is lost
abbrev pub Grows : Option (List ℕ) → Option (List ℕ) → List ℕ → Type 0
Grows old new more = (text : List ℕ) → IsText old text → IsText new (text ++ more)

-- what stands behind the entries of a turn: nothing where the job goes on
abbrev pub closing_if : Bool → ℕ → List ℕ → Option Turn → List ℕ
closing_if false job block last = []
closing_if true job block last = job_closing job block last

-- a text before and after
abbrev pub Texts : Type 0
Texts = Step (Option (List ℕ))

-- what a turn of a job did to a text: that of the entries behind the first so many came, and how the job ended
pub record TellsTurn (script : Script) (journal : Step (List Entry)) (job : ℕ) (answer : Option Turn) (text : Texts) : Type 0 where
  pub block : List ℕ
  pub own : IsOwnBlock script journal.new job block answer
  pub grows : Grows text.old text.new
      (entry_texts (added (length journal.old) journal.new) ++ closing_if (is_last answer) job block answer)

-- one turn of a job, with the text of the entries that it made and of how the job ended
pub record IsToldTurn (old new : StationPass) (job : ℕ) (answer : Option Turn) (text : Texts) : Type 0 where
  pub entries : List (ℕ × Entry)
  pub block : List ℕ
  pub gains : Gains old new (Turned job answer ∷ []) entries
  pub own : IsOwnIn new.view job block answer
  pub grows : Grows text.old text.new (entry_texts entries ++ closing_if (is_last answer) job block answer)

-- all turns of a job, with their text
pub record IsToldJob (old new : StationPass) (job : ℕ) (told : Option (List ℕ)) : Type 0 where
  pub before : List (Option Turn)
  pub last : Option Turn
  pub block : List ℕ
  pub entries : List (ℕ × Entry)
  pub gains : Gains old new (turn_events job (before ++ last ∷ [])) entries
  pub went_on : All (λ turn. is_last turn ≡ false) before
  pub ends : is_last last ≡ true
  pub own : IsOwnIn new.view job block last
  pub text : IsText told (entry_texts entries ++ job_closing job block last)

-- turns of a job that goes on, with the text of their entries
pub record HasGone (old new : StationPass) (job : ℕ) (told : Option (List ℕ)) : Type 0 where
  pub before : List (Option Turn)
  pub entries : List (ℕ × Entry)
  pub gains : Gains old new (turn_events job before) entries
  pub went_on : All (λ turn. is_last turn ≡ false) before
  pub text : IsText told (entry_texts entries)

-- what an order was answered, where there was memory for it
abbrev pub IsTold : Option ServeAnswer → List ℕ → Type 0
IsTold told answer = IfSome told (λ (a : ServeAnswer). answer_bytes a ≡ answer)

-- the text was made, or not
abbrev pub IsMade : Result (List ℕ) NoMemory → Option ServeAnswer → Type 0
IsMade (Ok text) told = told ≡ Some (answer.Told text)
IsMade (Err e) told = told ≡ None

-- an order was followed
pub record IsOrderFollowed (old new : StationPass) (asked : Order) (told : Option ServeAnswer) : Type 0 where
  pub events : List Event
  pub entries : List (ℕ × Entry)
  pub answer : List ℕ
  pub gains : Gains old new events entries
  pub is : IsServeAnswer new.view asked events entries answer
  pub told_is : IsTold told answer
  pub starved : told ≡ None → (asked ≢ order.Quit) × (asked ≢ order.TooLong)
