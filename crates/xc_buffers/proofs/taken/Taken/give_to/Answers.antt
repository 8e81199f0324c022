use Rattle.std.proofs.Common.{◌≡◌, ◌++◌, ◌∷◌, [], length, take, drop, ap, sym, ◌∙◌, subst, arith}
use Rattle.std.proofs.lemmas.List.{length_push, take-append-le, drop-append-le}
use Rattle.std.specs.Prelude.{List}
use Rattle.xc_data.specs.declared.entry.KeptItem.{KeptItem}
use Rattle.xc_buffers.proofs.Gathered.{Pending, pending_more}
use Rattle.xc_buffers.proofs.taken.Taken.give_to.Goals as goal

pub loop-item-preserved : goal.loop-item-preserved
loop-item-preserved c =
    let was = c.loop-item.invariant in
    let left = c.pop_above.new.self.items in
    let item = c.in-Some.item in
    let popped : c.loop-item.self.items ≡ left ++ item ∷ [] = c.in-Some.ensures.0 in
    let above : drop c.args.mark c.loop-item.self.items ≡ drop c.args.mark left ++ item ∷ []
    = ap (λ (items : List KeptItem). drop c.args.mark items) popped ∙ drop-append-le c.args.mark left (item ∷ []) c.in-Some.ensures.1 in
    let under : take c.args.mark c.loop-item.self.items ≡ take c.args.mark left
    = ap (λ (items : List KeptItem). take c.args.mark items) popped ∙ take-append-le c.args.mark left (item ∷ []) c.in-Some.ensures.1 in
    let size = ap (λ (items : List KeptItem). length items) above ∙ length_push (drop c.args.mark left) item in
    record {
      pending = pending_more _ _ (drop c.args.mark left) c.loop-item.kept.items c.give.new.self.items item
          (subst (λ (items : List KeptItem). Pending
          (drop c.args.mark c.args.self.now.items) c.args.kept.now.items items c.loop-item.kept.items) above was.pending)
          c.give.ensures.given;
      under = sym under ∙ was.under;
      in_order = λ kept. c.give.ensures.in_order (was.in_order kept);
      room = omega (arith, size, was.room, c.give.ensures.spare);
      spare = omega (arith, size, was.spare, c.give.ensures.spare);
    }
