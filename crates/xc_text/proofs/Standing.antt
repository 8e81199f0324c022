-- Statements that stand where they may, before and after one more.
use Rattle.std.proofs.Common.{◌≡◌, Bool, true, false, List, [], ◌∷◌, ◌++◌, refl, ap}
use Rattle.std.specs.Prelude.{not, ◌&&◌, fold}
use Rattle.std.proofs.lemmas.Bool.{and_parts, and_from}
use Rattle.xc_text.specs.Inner.{open_behind, may_stand, are_inner}
use Rattle.xc_text.specs.Stated.{Statement}

-- each of the statements may stand where it is; a block may be open behind them
abbrev pub all_stand : Bool → List Statement → Bool
all_stand within [] = true
all_stand within (s ∷ rest) = may_stand within s && all_stand (open_behind within s) rest

-- one more that may stand behind them
pub stand-push : (within : Bool) (body : List Statement) (s : Statement) → all_stand within body ≡ true →
    may_stand (fold open_behind within body) s ≡ true → all_stand within (body ++ s ∷ []) ≡ true
stand-push within [] s stand may = and_from (may_stand within s) true may refl
stand-push within (t ∷ body) s stand may =
    let parts = and_parts (may_stand within t) (all_stand (open_behind within t) body) stand in
    and_from (may_stand within t) (all_stand (open_behind within t) (body ++ s ∷ [])) parts.0
    (stand-push (open_behind within t) body s parts.1 may)

-- where no block is open behind them the blocks are closed
pub inner_where_closed : (within : Bool) (body : List Statement) → all_stand within body ≡ true →
    fold open_behind within body ≡ false → are_inner within body ≡ true
inner_where_closed within [] stand closed = ap not closed
inner_where_closed within (s ∷ body) stand closed =
    let parts = and_parts (may_stand within s) (all_stand (open_behind within s) body) stand in
    and_from (may_stand within s) (are_inner (open_behind within s) body) parts.0
    (inner_where_closed (open_behind within s) body parts.1 closed)
