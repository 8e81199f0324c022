-- The record that a call without memory left, by what a text shows of it: of one that was undone neither bytes nor length.
use Rattle.std.specs.Prelude.{◌≡◌, ℕ, ◌+◌, ◌≤◌, List, [], ◌∷◌, length, Option}
use Rattle.std.specs.declared.option.Option.TheVariants.{None, Some}
use Rattle.xc_data.specs.Remaining.{objects_of, remains_from}
use Rattle.xc_data.specs.declared.call.Answer.TheVariants as answer
use Rattle.xc_data.specs.declared.call.Call.{Call}
use Rattle.xc_data.specs.declared.private.Private.{Private}
use Rattle.xc_data.specs.declared.undo.Undo.{Undo}
use Rattle.xc_data.specs.declared.undo.Undo.TheVariants.{Overwrite, Append, Create, Rename, NewPipe, NewPair}
use Rattle.xc_data.specs.declared.undo.UndoEnd.{UndoEnd}
use Rattle.xc_lines.specs.declared.shown.EffectShown.{EffectShown}
use Rattle.xc_lines.specs.declared.shown.EffectShown.TheVariants as standing
use Rattle.xc_script.specs.declared.ask.Ask.{Ask}
use Rattle.xc_sheet.specs.Ends.{effect_shown, kind_shown}
use Rattle.xc_shown.specs.Shown.{effect_from}
use Rattle.xc_world.specs.Act.{act}
use Rattle.xc_world.specs.Ends.{IsLegalEnd}
use Rattle.xc_world.specs.Run.{BodyResult}
use Rattle.xc_world.specs.Trail.{recorded}
use Rattle.xc_world.specs.World.{World}
use Rattle.xc_model.specs.EntryEnds.{AreLeft}

-- ---- its bytes
-- what a call leaves whole
abbrev pub whole_records : World → Private → ℕ → Call → List Undo
whole_records w me tx c = recorded w me tx c (act w me tx c answer.Fine).reply

-- so many bytes are some of those of a write, perhaps all
abbrev pub IsWriteFront : ℕ → Undo → Type 0
IsWriteFront k (Overwrite file at before after n) = (1 ≤ k) × (k ≤ n)
IsWriteFront k (Append file from after n) = (1 ≤ k) × (k ≤ n)
IsWriteFront k (Create name num) = Unit {0}
IsWriteFront k (Rename from to) = Unit {0}
IsWriteFront k (NewPipe num) = Unit {0}
IsWriteFront k (NewPair num) = Unit {0}

-- the bytes that an effect has
abbrev pub effect_bytes : EffectShown → List ℕ
effect_bytes (standing.Bytes file at bytes) = bytes
effect_bytes (standing.Tail file from bytes) = bytes
effect_bytes (standing.Made name num) = []
effect_bytes (standing.Moved from to) = []
effect_bytes (standing.Pipe num) = []
effect_bytes (standing.Pair num) = []

-- how many bytes a record covers of which so many are restored and these stand
abbrev pub count_shown : ℕ → Option EffectShown → ℕ
count_shown done None = done
count_shown done (Some effect) = done + length (effect_bytes effect)

-- ---- what is shown of it
-- how its compensation ended, and the effect that is shown last
pub record NewestShown : Type 0 where
  pub end : UndoEnd
  pub effect : Option EffectShown

-- the newest record may have ended so, and where its effect stands it is that one
pub record IsShownLast (u : Undo) (seen : NewestShown) : Type 0 where
  pub tries : ℕ
  pub legal : IsLegalEnd tries u seen.end None
  pub stands : (k : ℕ) → remains_from u seen.end ≡ Some k → seen.effect ≡ Some (effect_shown u k)

-- two records that ended so show alike, and one may end so if the other may
pub record AreAlike (u v : Undo) (end : UndoEnd) : Type 0 where
  pub objects : objects_of u ≡ objects_of v
  pub kinds : kind_shown u ≡ kind_shown v
  pub effects : effect_from u (remains_from u end) ≡ effect_from v (remains_from v end)
  pub legal : (tries : ℕ) (way : Option ℕ) → IsLegalEnd tries u end way → IsLegalEnd tries v end way

-- this record may have been left, and each that may have been and is shown so is like it
pub record IsLeftLast (b : BodyResult) (tx : ℕ) (last : Ask) (seen : NewestShown) (v : Undo) : Type 0 where
  pub left : AreLeft b tx last (v ∷ [])
  pub alike : (u : Undo) → AreLeft b tx last (u ∷ []) → IsShownLast u seen → AreAlike u v seen.end

-- no record may have been left that is shown so
abbrev pub IsNotLeft : BodyResult → ℕ → Ask → NewestShown → Type 0
IsNotLeft b tx last seen = (u : Undo) → AreLeft b tx last (u ∷ []) → IsShownLast u seen → ⊥
