use Rattle.std.proofs.Common.{arith, ap, ◌∙◌}
use Rattle.xc_turnstile.specs.Known.{Known}
use Rattle.xc_turnstile.proofs.Sharing.{may_split}
use Rattle.xc_turnstile.proofs.turnstile.Turnstile.split.Goals as goal

pub split_seat-seat-requires : goal.split_seat-seat-requires
split_seat-seat-requires g c =
    let i = c.pass.invariant in (
      ap (λ (k : Known _ _ _). k.table) c.pass.view_is ∙ c.requires.table,
      omega (arith, c.args.self.now.sized.0),
      may_split g.V.Chronicle.meaning c.pass.inside.seat.id c.pass.inside.seat.me.0 i.2
          (omega (arith, c.requires.shares, ap (λ (k : Known _ _ _). k.view.shares) c.pass.view_is)),
    )
