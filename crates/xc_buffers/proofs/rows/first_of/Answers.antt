use Rattle.std.proofs.Common.{arith, ap, sym, ◌∙◌}
use Rattle.xc_buffers.specs.Sources.{is_before}
use Rattle.xc_buffers.proofs.Takes.{none_first, none_from_source}
use Rattle.xc_buffers.proofs.rows.first_of.Goals as goal

pub returns-then-behind-eq0 : goal.returns-then-behind-eq0
returns-then-behind-eq0 c =
    none_first c.args.source c.args.items.now c.place_of-behind.result c.place_of-behind.ensures.place (omega (arith, c.if-behind-eq0.true))

pub returns-then-is_before : goal.returns-then-is_before
returns-then-is_before c =
    none_from_source c.args.source c.args.items.now c.place_of-behind.result c.index-items-behind.result c.requires c.place_of-behind.ensures.place
    (omega (arith, c.if-behind-eq0.false)) c.place_of-behind.ensures.within c.index-items-behind.is
    (ap (is_before c.args.source) (sym c.of.ensures) ∙ sym c.is_before.ensures ∙ c.if-is_before.true)
