use Rattle.std.proofs.Common.{◌≡◌, map, drop}
use Rattle.xc_tokens.specs.Answers.{seen}
use Rattle.xc_text.specs.Pieces.{items_of}
use Rattle.xc_text.specs.Places.{placed_data}
use Rattle.xc_tokens.specs.Views.{lexeme}
use Rattle.xc_text.proofs.PlacedItems.{placed_behind}
use Rattle.xc_text.proofs.pieces.items.Given as goal

-- the names and the items so far, and the items that are left
abbrev pub invariant-loop-token : goal.invariant-loop-token
invariant-loop-token l =
    seen (placed_behind l.names l.items) (items_of (map lexeme (drop l.token-index l.tokens)))
    ≡ seen (placed_data l.fn.names) (items_of (map lexeme l.tokens))
