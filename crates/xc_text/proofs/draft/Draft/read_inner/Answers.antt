use Rattle.std.proofs.Common.{map}
use Rattle.xc_text.specs.Statements.{inner_statement}
use Rattle.xc_tokens.specs.Views.{lexeme}
use Rattle.xc_text.proofs.PlacedParts.{statement_says}
use Rattle.xc_text.proofs.draft.Draft.read_inner.Goals as goal

pub returns : goal.returns
returns c = rw (statement_says c.args.self.now (inner_statement c.args.word.now (map lexeme c.args.rest.now))) c.read_inner_statement.ensures
