-- What stands of records is what a text shows of them.
use Rattle.std.proofs.Common.{◌≡◌, ℕ, List, [], ◌∷◌, ◌++◌, refl, ap, ◌∙◌}
use Rattle.std.specs.FinMap as map
use Rattle.xc_data.specs.Remaining.{stopped_at}
use Rattle.xc_data.specs.declared.undo.Undo.{Undo}
use Rattle.xc_data.specs.declared.undo.Undo.TheVariants.{Overwrite, Append, Create, Rename, NewPipe, NewPair}
use Rattle.xc_data.specs.declared.undo.UndoEnd.{UndoEnd}
use Rattle.xc_data.specs.declared.undo.UndoEnd.TheVariants.{Undone, Failed, Blocked}
use Rattle.xc_lines.specs.declared.shown.EffectShown.{EffectShown}
use Rattle.xc_lines.specs.declared.shown.EffectShown.TheVariants as standing
use Rattle.xc_sheet.specs.Ends.{effect_shown}
use Rattle.xc_shown.specs.Shown.{effects_shown}
use Rattle.xc_world.specs.Act.Files.{overwritten}
use Rattle.xc_world.specs.Act.Names.{with_new_file}
use Rattle.xc_world.specs.Ends.{remains, with_remains}
use Rattle.xc_world.specs.Trail.{move_name, with_effect}
use Rattle.xc_world.specs.World.{World, file_of, with_file, with_pipe, with_pair, empty_pipe, empty_pair}

-- the world with an effect that a text shows
abbrev pub with_standing : World → EffectShown → World
with_standing w (standing.Bytes file at bytes) = with_file w file (overwritten at bytes (file_of w file))
with_standing w (standing.Tail file from bytes) = with_file w file (file_of w file ++ bytes)
with_standing w (standing.Made name num) = with_new_file w name num
with_standing w (standing.Moved from to) = move_name w from to (map.get w.names from)
with_standing w (standing.Pipe num) = with_pipe w num empty_pipe
with_standing w (standing.Pair num) = with_pair w num empty_pair

-- the same with several
abbrev pub with_all_standing : World → List EffectShown → World
with_all_standing w [] = w
with_all_standing w (effect ∷ effects) = with_all_standing (with_standing w effect) effects

-- of a record that was blocked all stands
blocked_stands : (w : World) (undo : Undo) → with_effect w undo 0 ≡ with_standing w (effect_shown undo 0)
blocked_stands w (Overwrite file at before after n) = refl
blocked_stands w (Append file from after n) = refl
blocked_stands w (Create name num) = refl
blocked_stands w (Rename from to) = refl
blocked_stands w (NewPipe num) = refl
blocked_stands w (NewPair num) = refl

-- of one that failed what stands from its place on
failed_stands : (w : World) (undo : Undo) (done : ℕ)
    → with_effect w undo (stopped_at undo done) ≡ with_standing w (effect_shown undo (stopped_at undo done))
failed_stands w (Overwrite file at before after n) done = refl
failed_stands w (Append file from after n) done = refl
failed_stands w (Create name num) done = refl
failed_stands w (Rename from to) done = refl
failed_stands w (NewPipe num) done = refl
failed_stands w (NewPair num) done = refl

-- the world with what remains of records is that with the effects that are shown
pub remains_shown : (records : List (Undo × UndoEnd)) (w : World) → with_remains w (remains records) ≡ with_all_standing w (effects_shown records)
remains_shown [] w = refl
remains_shown ((undo, Undone faults) ∷ records) w = remains_shown records w
remains_shown ((undo, Failed done faults) ∷ records) w =
    ap (λ v. with_remains v (remains records)) (failed_stands w undo done)
    ∙ remains_shown records (with_standing w (effect_shown undo (stopped_at undo done)))
remains_shown ((undo, Blocked by) ∷ records) w =
    ap (λ v. with_remains v (remains records)) (blocked_stands w undo) ∙ remains_shown records (with_standing w (effect_shown undo 0))
