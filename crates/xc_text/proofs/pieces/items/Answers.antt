use Rattle.std.proofs.Common.{rules}
use Rattle.xc_text.specs.Places.{placed_data}
use Rattle.xc_text.proofs.Checked.{item_stops}
use Rattle.xc_text.proofs.PlacedItems.{placed_behind}
use Rattle.xc_text.proofs.pieces.items.Goals as goal

pub returns-in_err-item : goal.returns-in_err-item
returns-in_err-item c =
    search (
      rules,
      item_stops c.in_err-item.field-0.0 (placed_behind c.loop-token.names c.loop-token.items) (placed_data c.args.names.now) c.token-item.result
          c.args.tokens.now c.loop-token.token-index c.loop-token-test.true c.token-item.is c.loop-token.invariant c.requires.good c.in_err-item.ensures,
    )
