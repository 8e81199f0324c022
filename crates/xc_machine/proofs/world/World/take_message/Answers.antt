use Rattle.std.proofs.Common.{◌<◌, length, ap, sym, subst, ◌∙◌}
use Rattle.std.specs.Prelude.{nat_eq}
use Rattle.std.specs.Cmp.Lexicographic.{pointwise, same_text}
use Rattle.std.proofs.lemmas.Bool.{not-true, not-false}
use Rattle.xc_data.specs.declared.entry.KeptItem.TheVariants.{Message}
use Rattle.xc_world.specs.World.{pair_of, with_pair, with_waiting}
use Rattle.xc_machine.specs.Taking.{Takes}
use Rattle.xc_machine.proofs.MachineTaking.{parted_first, takes_first_message, no_message, other_message}
use Rattle.xc_machine.proofs.world.World.take_message.Goals as goal

pub returns-in_default-clause-taken : goal.returns-in_default-clause-taken
returns-in_default-clause-taken c =
    no_message c.args.self.now c.args.pair c.args.side c.args.bytes.now
    (subst (λ ms. length ms < 1) c.waiting.ensures c.in_default.len_below)

pub returns-then-ne-clause-taken : goal.returns-then-ne-clause-taken
returns-then-ne-clause-taken c =
    let bytes = c.args.bytes.now in
    let apart = not-true (pointwise nat_eq c.as_slice.result.now bytes) (sym c.ne.ensures ∙ c.if-ne.true) in
    other_message c.args.self.now c.args.pair c.args.side bytes c.first-item.result _
    (sym c.waiting.ensures ∙ parted_first c.waiting.result.now c.first-item.result c.in-len1-up.len_at_least c.first-item.is)
    (ap (λ m. pointwise nat_eq m bytes) (sym c.as_slice.ensures) ∙ apart)

pub returns-clause-taken : goal.returns-clause-taken
returns-clause-taken c =
    let w = c.args.self.now in
    let pair = c.args.pair in
    let side = c.args.side in
    let first = c.first-item.result in
    let bytes = c.args.bytes.now in
    let alike = not-false (pointwise nat_eq c.as_slice.result.now bytes) (sym c.ne.ensures ∙ c.if-ne.false) in
    subst (λ m. Takes (Message pair side m) w c.set_waiting.new.self) (sym c.as_slice.ensures ∙ same_text c.as_slice.result.now bytes (sym alike))
    (subst (Takes (Message pair side first) w)
    (ap (λ rest. with_pair w pair (with_waiting (pair_of w pair) side rest)) (sym c.in_ok-rest.ensures) ∙ sym c.in_ok-set_waiting.ensures.ok)
    (takes_first_message w pair side first _
    (sym c.waiting.ensures ∙ parted_first c.waiting.result.now first c.in-len1-up.len_at_least c.first-item.is)))
