use Rattle.std.proofs.Common.{map, refl, rules}
use Rattle.xc_text.specs.declared.script.CallForm.TheVariants as form
use Rattle.xc_text.specs.Calls.{HandleDataSlot}
use Rattle.xc_text.specs.Pieces.{data_of}
use Rattle.xc_text.specs.Places.{written_with_slot_of}
use Rattle.xc_text.specs.Shapes.{led, before_slot}
use Rattle.xc_tokens.specs.Words.{ident}
use Rattle.xc_tokens.specs.Views.{lexeme}
use Rattle.xc_text.proofs.PlacedParts.{parts_kept, parts_stop}
use Rattle.xc_text.proofs.draft.Draft.x_sendmsg.Goals as goal

pub returns-in_err-handle : goal.returns-in_err-handle
returns-in_err-handle c =
    search (
      rules,
      parts_stop c.args.self.now (λ (p : HandleDataSlot). form.XSendmsg p.0 p.1.0 p.1.1) (written_with_slot_of c.self.inside.names)
          (led ident (before_slot data_of) (map lexeme c.args.rest.now)) c.in_err-handle.field-0.0 c.in_err-handle.ensures,
    )

pub returns : goal.returns
returns c =
    search (
      rules,
      parts_kept c.args.self.now (λ (p : HandleDataSlot). form.XSendmsg p.0 p.1.0 p.1.1) (λ w. form.XSendmsg w.0.0 w.0.1 w.1)
          (written_with_slot_of c.args.self.now.names) (led ident (before_slot data_of) (map lexeme c.args.rest.now)) c.written_with_slot.new.names
          ((c.in_ok-handle.handle, c.in_ok-handle.data), c.in_ok-handle.slot) (λ p. refl) (search rules),
    )
