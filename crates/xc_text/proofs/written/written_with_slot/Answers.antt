use Rattle.std.proofs.Common.{◌≡◌, Err, length, map, ◌<◌, arith, rules}
use Rattle.xc_text.specs.Pieces.{data_of}
use Rattle.xc_text.specs.Shapes.{led, before_slot}
use Rattle.xc_tokens.specs.Words.{ident}
use Rattle.xc_tokens.specs.Views.{lexeme}
use Rattle.xc_text.proofs.Parted.{data_slot_refused, slot_written}
use Rattle.xc_text.proofs.written.written_with_slot.Goals as goal

pub returns-in_err-handle-in-len1-up : goal.returns-in_err-handle-in-len1-up
returns-in_err-handle-in-len1-up c =
    let some : 0 < length c.args.tokens.now = omega (arith, c.in-len1-up.len_at_least) in
    let refused : led ident (before_slot data_of) (map lexeme c.args.tokens.now) ≡ Err c.in_err-handle-in-len1-up.field-0.0 =
    data_slot_refused c.handle-item.result c.args.tokens.now c.parted.result.0.now c.parted.result.1.now c.in_err-handle-in-len1-up.field-0.0
    c.handle-item.is some c.parted.ensures.front c.parted.ensures.ending (search rules) in
    search (rules, refused)

pub returns-in_ok-slot-in-len1-up : goal.returns-in_ok-slot-in-len1-up
returns-in_ok-slot-in-len1-up c =
    let some : 0 < length c.args.tokens.now = omega (arith, c.in-len1-up.len_at_least) in
    search (
      rules,
      slot_written c.args.names.now c.handle-item.result c.args.tokens.now c.parted.result.0.now c.parted.result.1.now c.in_ok-handle-in-len1-up.handle
          c.in_ok-handle-in-len1-up.slot c.variable.new.self c.data.new.names c.in_ok-data-in-len1-up.data c.handle-item.is some c.parted.ensures.front
          c.parted.ensures.ending (search rules) (search rules) (search rules),
    )
