use Rattle.std.proofs.Common.{◌≡◌, false, map, rules}
use Rattle.std.specs.Prelude.{codes}
use Rattle.xc_text.specs.Statements.{outer_statement}
use Rattle.xc_tokens.specs.Views.{lexeme}
use Rattle.xc_tokens.specs.Words.{spells}
use Rattle.xc_text.proofs.PlacedParts.{statement_says}
use Rattle.xc_text.proofs.draft.Draft.read_outer.Goals as goal

pub returns : goal.returns
returns c =
    let goes_on : spells c.args.word.now (codes "commit") ≡ false = search rules in
    rw (goes_on, statement_says c.args.self.now (outer_statement c.args.word.now (map lexeme c.args.rest.now))) c.read_outer_statement.ensures
