use Rattle.std.proofs.Common.{◌≤◌, Bool, false, List, [], ◌∷◌, length, ap, arith}
use Rattle.std.proofs.lemmas.Bool.{cond_both}
use Rattle.std.specs.Prelude.{not, ◌&&◌}
use Rattle.xc_data.specs.declared.call.Call.{Call}
use Rattle.xc_data.specs.declared.call.Call.TheVariants as call
use Rattle.xc_data.specs.declared.call.Reply.{Reply}
use Rattle.xc_data.specs.Calls.{is_late}
use Rattle.xc_script.specs.Slots.{goes_back, kept_behind}
use Rattle.xc_script.proofs.Laws.{kept_ahead}
use Rattle.xc_asked.proofs.kept.kept_count.Goals as goal

-- no more calls are kept than are made
few_behind : (dropped : Bool) (calls : List Call) (replies : List Reply) → length (kept_behind dropped calls replies) ≤ length calls
few_behind dropped [] replies = omega arith
few_behind dropped (c ∷ calls) [] = omega arith
few_behind dropped (call.Save ∷ calls) (reply ∷ replies) = let few = few_behind (goes_back calls replies) calls replies in omega (arith, few)
few_behind dropped (call.Keep ∷ calls) (reply ∷ replies) = let few = few_behind false calls replies in omega (arith, few)
few_behind dropped (call.Back ∷ calls) (reply ∷ replies) = let few = few_behind false calls replies in omega (arith, few)
few_behind dropped (c ∷ calls) (reply ∷ replies) =
    let few = few_behind dropped calls replies in
    cond_both (is_late reply && not dropped) (c ∷ kept_behind dropped calls replies) (kept_behind dropped calls replies)
    (λ (kept : List Call). length kept ≤ length (c ∷ calls)) (λ _. omega (arith, few))
    (λ _. omega (arith, few))

pub overflow_add-count : goal.overflow_add-count
overflow_add-count c =
    let few = few_behind false c.args.calls.now c.args.replies.now in
    let all = ap length (kept_ahead c.args.calls.now c.args.replies.now) in
    let left = ap length c.in-Some.ensures in
    omega (arith, few, all, left, c.loop-call.invariant)
