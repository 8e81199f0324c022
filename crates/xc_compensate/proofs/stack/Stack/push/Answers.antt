use Rattle.std.proofs.Common.{◌∙◌, arith, ap, length, ◌<◌, ◌^◌}
use Rattle.std.proofs.lemmas.List.{length_push}
use Rattle.xc_data.specs.declared.undo.UndoEnd.TheVariants.{Undone}
use Rattle.xc_compensate.proofs.Listing.{none_ended}
use Rattle.xc_compensate.proofs.Keeping.{stack_keeps_more}
use Rattle.xc_compensate.proofs.stack.Stack.push.Goals as goal

pub invariant_of-self-2 : goal.invariant_of-self-2
invariant_of-self-2 c =
    let few : length c.push.new.self.items < 2 ^ 32 = omega (
      arith,
      ap length c.in_ok-push.ensures.items,
      length_push c.self.inside.records.items (c.args.undo, Undone 0),
      c.if-len.false,
      c.len.ensures,
      c.self.inside.records.ok.0,
    ) in
    stack_keeps_more _ _ _ _ _ _ c.self.invariant (none_ended _ _ c.args.self.now c.self.view_is c.self.invariant.within c.requires.none) c.requires.record
    c.in_ok-push.ensures.items (c.len-self-inside.ensures ∙ c.push.new.self.ok.0) few
