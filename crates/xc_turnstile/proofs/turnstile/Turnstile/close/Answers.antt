use Rattle.std.proofs.Common.{◌≡◌, Some, sym, ap, ◌∙◌, subst}
use Rattle.xc_turnstile.specs.declared.view.View.{View}
use Rattle.xc_turnstile.specs.Known.{Known}
use Rattle.xc_turnstile.specs.Views.{BeginsWith}
use Rattle.xc_turnstile.proofs.Sharing.{last_slot}
use Rattle.xc_turnstile.proofs.turnstile.Turnstile.close.Goals as goal

pub unreachable-requires : goal.unreachable-requires
unreachable-requires g c =
    let r = last_slot g.V.Chronicle.meaning _ _ c.pass.inside.seat.id c.pass.inside.seat.me.0 c.take-slot.result c.close_with-closed.ensures.values.2
    c.pass.invariant.2 (ap (λ (k : Known _ _ _). k.view.shares) c.pass.view_is ∙ c.requires.shares) c.take-slot.ensures.value in
    c.in_default.not-Some r.0 r.1

pub returns : goal.returns
returns g c =
    let r = last_slot g.V.Chronicle.meaning _ _ c.pass.inside.seat.id c.pass.inside.seat.me.0 c.take-slot.result c.close_with-closed.ensures.values.2
    c.pass.invariant.2 (ap (λ (k : Known _ _ _). k.view.shares) c.pass.view_is ∙ c.requires.shares) c.take-slot.ensures.value in
    let is : r.0 ≡ c.in-Some.value = (let q : Some r.0 ≡ Some c.in-Some.value = sym r.1 ∙ c.in-Some.is in cc) in
    let view = ap (λ (k : Known _ _ _). k.view) c.pass.view_is in (
      subst (BeginsWith (g.V.Chronicle.meaning.journal c.in-Some.value)) (ap (λ (v : View _ _ _). v.seen) view)
          (subst (λ (x : g.row.V.Denot). BeginsWith (g.V.Chronicle.meaning.journal x) c.pass.inside.seat.me.0.seen) is r.2),
      sym (ap (λ (v : View _ _ _). v.origin) view) ∙ (r.3 ∙ ap (λ (x : g.row.V.Denot). Some (g.V.Chronicle.meaning.origin x)) is),
    )
