use Rattle.std.proofs.Common.{rules}
use Rattle.xc_text.proofs.PlacedParts.{store_kept}
use Rattle.xc_text.proofs.draft.Draft.store.Goals as goal

pub returns : goal.returns
returns c =
    search (
      rules,
      store_kept c.args.self.now c.in_ok-at.at c.in_ok-at.value c.place_term.new.names c.place_expression.new.names c.in_ok-at-2.at c.in_ok-value.value
          (search rules) (search rules) (search rules) (search rules),
    )
