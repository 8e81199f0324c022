-- What a step that doesn't wait gives.
use Rattle.std.specs.Prelude.{◌≡◌, ℕ, ◌+◌, ◌%◌, List, ◌∷◌, []}
use Rattle.xc_data.specs.declared.entry.Entry.{Entry}
use Rattle.xc_data.specs.declared.entry.Event.{Event}
use Rattle.xc_turnstile.specs.Insides.{Gains}
use Rattle.xc_station.specs.Passes.{StationPass}
use Rattle.xc_turnstile.specs.Views.{lost_view}
use Rattle.xc_runner.specs.declared.tries.Tried.{Tried}
use Rattle.xc_runner.specs.declared.tries.Tried.TheVariants.{Answered, Held}

-- a pass behind an entering with one event, where nobody else was found inside
pub record GainsOnce (old new : StationPass) (event : Event) : Type 0 where
  pub entries : List (ℕ × Entry)
  pub gains : Gains old new (event ∷ []) entries
  pub won : new.view.won ≡ old.view.won + 1
  pub lost : new.view.lost ≡ old.view.lost

-- another was inside: the word was odd, and the pass lost once more
pub record IsHeldOff (old new : StationPass) (word : ℕ) : Type 0 where
  pub table : new.table ≡ old.table
  pub odd : word % 2 ≡ 1
  pub view : new.view ≡ lost_view old.view

-- it entered and gained the answer's event, or another was inside
abbrev pub HasTried : {A : Type 0} → (A → Event) → StationPass → StationPass → Tried A → Type 0
HasTried event old new (Answered answer) = GainsOnce old new (event answer)
HasTried event old new (Held word) = IsHeldOff old new word
