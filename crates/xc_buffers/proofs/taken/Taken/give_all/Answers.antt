use Rattle.std.proofs.Common.{◌≡◌, ◌+◌, ◌++◌, ◌∷◌, [], true, length, ap, ◌∙◌, subst, arith}
use Rattle.std.proofs.lemmas.List.{length_push}
use Rattle.std.specs.Prelude.{All, List}
use Rattle.xc_data.specs.declared.entry.KeptItem.{KeptItem}
use Rattle.xc_buffers.specs.Items.{is_fit}
use Rattle.xc_buffers.proofs.Gathered.{Pending, pending_more}
use Rattle.xc_buffers.proofs.Splits.{All-first}
use Rattle.xc_buffers.proofs.taken.Taken.give_all.Goals as goal

pub loop-item-preserved : goal.loop-item-preserved
loop-item-preserved c =
    let P : KeptItem → Type 0 = λ t. is_fit t ≡ true in
    let was = c.loop-item.invariant in
    let left = c.pop.new.self.items in
    let popped : c.loop-item.self-inside.notes.items ≡ left ++ c.in-Some.item ∷ [] = c.in-Some.ensures.items in
    let size : length c.loop-item.self-inside.notes.items ≡ length left + 1 = ap (λ (items : List KeptItem). length items) popped
    ∙ length_push left c.in-Some.item in
    record {
      pending = pending_more _ _ left c.loop-item.kept.items c.give.new.self.items c.in-Some.item
          (subst (λ (items : List KeptItem). Pending c.args.self.now.items c.args.kept.now.items items c.loop-item.kept.items) popped was.pending)
          c.give.ensures.given;
      fit = All-first P left (c.in-Some.item ∷ []) (subst (λ (items : List KeptItem). All P items) popped was.fit);
      in_order = λ kept. c.give.ensures.in_order (was.in_order kept);
      room = omega (arith, size, was.room, c.give.ensures.spare);
      spare = omega (arith, size, was.spare, c.give.ensures.spare);
    }
