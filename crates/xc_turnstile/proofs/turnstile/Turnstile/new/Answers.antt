use Rattle.std.proofs.Common.{◌≡◌, ◌*◌, arith, length, ap, sym, ◌∙◌, Some, [], ◌∷◌}
use Rattle.xc_turnstile.proofs.Entering.{new_ruled}
use Rattle.xc_turnstile.proofs.turnstile.Turnstile.new.Goals as goal

pub new-requires : goal.new-requires
new-requires g c =
    let x = c.of-about.result.value in
    let same : x ≡ c.args.value = c.of-about.ensures in
    new_ruled g.V.Chronicle.meaning x (c.len-word.result * 2) c.in_ok-slots.slots.items
    (omega (arith, c.len-word.ensures, ap (λ y. length (g.V.Chronicle.meaning.journal y)) same)) (c.in_ok-slots.ensures.ok
    ∙ ap (λ y. Some y ∷ []) (sym same))
