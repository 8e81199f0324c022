-- Of a record with a legal end something is left exactly where its effect stands.
use Rattle.std.proofs.Common.{◌≡◌, ℕ, ◌+◌, ◌<◌, true, List, [], ◌∷◌, ◌||◌, Option, refl, ap₂, arith}
use Rattle.std.specs.Prelude.{nat_lt}
use Rattle.std.specs.List.{list_any}
use Rattle.std.proofs.lemmas.Bool.Decides.{nat_tests}
use Rattle.xc_data.specs.Remaining.{leaves}
use Rattle.xc_data.specs.declared.undo.Undo.{Undo}
use Rattle.xc_data.specs.declared.undo.Undo.TheVariants.{Overwrite, Append, Create, Rename, NewPipe, NewPair}
use Rattle.xc_data.specs.declared.undo.UndoEnd.{UndoEnd}
use Rattle.xc_data.specs.declared.undo.UndoEnd.TheVariants.{Undone, Failed, Blocked}
use Rattle.xc_world.specs.Ends.{AreLegal, Ending, IsLegalEnd}
use Rattle.xc_world.specs.Remains.{effect_remains}

is_below : (m n : ℕ) → m < n → nat_lt m n ≡ true
is_below m n less = grind (arith, nat_tests)

left_of : (tries : ℕ) (u : Undo) (end : UndoEnd) (way : Option ℕ) → IsLegalEnd tries u end way → leaves (u, end) ≡ effect_remains (u, end)
left_of tries u (Undone faults) way legal = refl
left_of tries u (Blocked by) way legal = refl
left_of tries (Overwrite file at before after n) (Failed done faults) way legal = is_below done n legal.2
left_of tries (Append file from after n) (Failed done faults) way legal = refl
left_of tries (Create name num) (Failed done faults) way legal = refl
left_of tries (Rename from to) (Failed done faults) way legal = refl
left_of tries (NewPipe num) (Failed done faults) way legal = refl
left_of tries (NewPair num) (Failed done faults) way legal = refl

-- of records with legal ends something is left exactly where the effect of one stands
pub something_left : (tries from : ℕ) (records : List Ending) → AreLegal tries from records → list_any leaves records ≡ list_any effect_remains records
something_left tries from [] legal = refl
something_left tries from ((u, end) ∷ newer) legal =
    ap₂ (λ a b. a || b) (left_of tries u end _ legal.0) (something_left tries (from + 1) newer legal.1)
