-- The first newer record in the way of an older one.
use Rattle.std.proofs.Common.{◌≡◌, ℕ, ◌+◌, Bool, true, false, cond, Option, Some, List, [], ◌∷◌, ap, refl, sym, ◌∙◌, arith}
use Rattle.std.specs.Prelude.{not}
use Rattle.std.specs.List.{list_any, position, position_from}
use Rattle.std.proofs.lemmas.Bool.{or_parts}
use Rattle.std.specs.Option.{option_map}
use Rattle.std.proofs.lemmas.Iterator.Adapters.{position_from-zero}
use Rattle.xc_data.specs.declared.undo.Undo.{Undo}
use Rattle.xc_data.specs.declared.undo.UndoEnd.{UndoEnd}
use Rattle.xc_data.specs.declared.undo.UndoEnd.TheVariants.{Undone, Failed, Blocked}
use Rattle.xc_world.specs.Ends.{Ending, stands_in_way, blocker, is_undone}
use Rattle.xc_compensate.specs.Hindered.{hinders}

-- numbers from another start
shifted_by : (b : Bool) (from i : ℕ) (o : Option ℕ) → cond b (Some (from + i)) (option_map (λ k. from + k) o) ≡ option_map (λ k. from + k) (cond b (Some i) o)
shifted_by true from i o = refl
shifted_by false from i o = refl

shifted : (from i : ℕ) (u : Undo) (rs : List Ending) → blocker (from + i) u rs ≡ option_map (λ k. from + k) (position_from (stands_in_way u) i rs)
shifted from i u [] = refl
shifted from i u (r ∷ rs) =
    let next : from + i + 1 ≡ from + (i + 1) = omega arith in
    ap (λ n. cond (stands_in_way u r) (Some (from + i)) (blocker n u rs)) next
    ∙ (ap (cond (stands_in_way u r) (Some (from + i))) (shifted from (i + 1) u rs)
    ∙ shifted_by (stands_in_way u r) from i (position_from (stands_in_way u) (i + 1) rs))

-- the blocker, from the place of the first that stands in the way
pub blocker_is : (from : ℕ) (u : Undo) (rs : List Ending) (o : Option ℕ) → o ≡ position (stands_in_way u) rs → option_map (λ k. from + k) o ≡ blocker from u rs
blocker_is from u rs o e =
    let start : from + 0 ≡ from = omega arith in
    ap (option_map (λ k. from + k)) (e ∙ position_from-zero (stands_in_way u) rs) ∙ (sym (shifted from 0 u rs) ∙ ap (λ n. blocker n u rs) start)

blocks_none : (u : Undo) (newer : Undo) (end : UndoEnd) → not (is_undone end) ≡ false → stands_in_way u (newer, end) ≡ false
blocks_none u newer (Undone faults) none = refl
blocks_none u newer (Failed done faults) none = cc none
blocks_none u newer (Blocked by) none = cc none

-- where none failed or was blocked, nothing stands in the way
pub unhindered : (from : ℕ) (u : Undo) (rs : List Ending) → list_any hinders rs ≡ false → blocker from u [] ≡ blocker from u rs
unhindered from u [] none = refl
unhindered from u ((newer, end) ∷ rs) none =
    let both = or_parts (not (is_undone end)) (list_any hinders rs) none in
    unhindered (from + 1) u rs both.1 ∙ ap (λ b. cond b (Some from) (blocker (from + 1) u rs)) (sym (blocks_none u newer end both.0))
