use Rattle.std.proofs.Common.{◌≡◌, map, ap, rules}
use Rattle.xc_text.specs.declared.line.Section.TheVariants.{Prologue, Transaction}
use Rattle.xc_text.specs.Grammar.{prologue_line, transaction_line, worded_line}
use Rattle.xc_text.specs.Inner.{is_open}
use Rattle.xc_tokens.specs.Views.{lexeme}
use Rattle.xc_text.proofs.draft.Draft.read_word.Goals as goal

pub returns-in-Prologue : goal.returns-in-Prologue
returns-in-Prologue c =
    let is : c.args.self.now.section ≡ Prologue = search rules in
    let line : worded_line c.args.self.now.section (is_open c.args.self.now.body) c.args.word.now (map lexeme c.args.rest.now)
    ≡ prologue_line c.args.word.now (map lexeme c.args.rest.now) =
    ap (λ s. worded_line s (is_open c.args.self.now.body) c.args.word.now (map lexeme c.args.rest.now)) is in
    rw line c.read_in_prologue.ensures

pub returns-in-Transaction : goal.returns-in-Transaction
returns-in-Transaction c =
    let is : c.args.self.now.section ≡ Transaction c.in-Transaction.field-0 = search rules in
    let line : worded_line c.args.self.now.section (is_open c.args.self.now.body) c.args.word.now (map lexeme c.args.rest.now)
    ≡ transaction_line (is_open c.args.self.now.body) c.args.word.now (map lexeme c.args.rest.now) =
    ap (λ s. worded_line s (is_open c.args.self.now.body) c.args.word.now (map lexeme c.args.rest.now)) is in
    rw line c.read_in_transaction.ensures
