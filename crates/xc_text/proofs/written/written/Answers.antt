use Rattle.std.proofs.Common.{◌≡◌, Err, length, map, ◌<◌, arith, rules}
use Rattle.xc_text.specs.Pieces.{data_of}
use Rattle.xc_text.specs.Shapes.{led}
use Rattle.xc_tokens.specs.Words.{ident}
use Rattle.xc_tokens.specs.Views.{lexeme}
use Rattle.xc_text.proofs.Checked.{written_refused}
use Rattle.xc_text.proofs.written.written.Goals as goal

pub returns-in_err-handle-in-len1-up : goal.returns-in_err-handle-in-len1-up
returns-in_err-handle-in-len1-up c =
    let some : 0 < length c.args.tokens.now = omega (arith, c.in-len1-up.len_at_least) in
    let refused : led ident data_of (map lexeme c.args.tokens.now) ≡ Err c.in_err-handle-in-len1-up.field-0.0 =
    written_refused c.handle-item.result c.args.tokens.now c.in_err-handle-in-len1-up.field-0.0 c.handle-item.is some (search rules) in
    search (rules, refused)
