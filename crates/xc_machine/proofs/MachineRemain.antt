-- What remains of records, one after another.
use Rattle.std.proofs.Common.{◌≡◌, ℕ, List, [], ◌∷◌, refl, ap}
use Rattle.xc_data.specs.declared.undo.Undo.{Undo}
use Rattle.xc_data.specs.declared.undo.UndoEnd.{UndoEnd}
use Rattle.xc_data.specs.declared.undo.UndoEnd.TheVariants.{Undone, Failed, Blocked}
use Rattle.xc_world.specs.World.{World}
use Rattle.xc_world.specs.Ends.{remains, with_remains}
use Rattle.xc_world.proofs.Laws.{remains-words}

-- what remains of the first record, and then of the others
pub remains_first : (w : World) (u : Undo) (end : UndoEnd) (rest : List (Undo × UndoEnd))
    → with_remains w (remains ((u, end) ∷ rest)) ≡ with_remains (with_remains w (remains ((u, end) ∷ []))) (remains rest)
remains_first w u (Undone faults) rest = refl
remains_first w u (Failed done faults) rest = refl
remains_first w u (Blocked by) rest = refl

-- what remains leaves the words
pub remains_words : (w : World) (us : List (Undo × ℕ)) → (with_remains w us).words ≡ w.words
remains_words w us = ap (λ (v : World). v.words) (remains-words w w.words us)
