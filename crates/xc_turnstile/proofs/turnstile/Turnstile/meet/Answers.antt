use Rattle.std.proofs.Common.{◌≡◌, Option, rules, arith, ap, sym, ◌∙◌, subst}
use Rattle.atomic_table.specs.Table.{Me}
use Rattle.xc_turnstile.specs.declared.view.View.{View}
use Rattle.xc_turnstile.specs.Known.{Known}
use Rattle.xc_turnstile.specs.Views.{HasPlace, PlacesRise, views_met}
use Rattle.xc_turnstile.proofs.Fronts.{all_placed_apart, all_placed_has, has_all_placed}
use Rattle.xc_turnstile.proofs.Sharing.{may_join, may_look}
use Rattle.xc_turnstile.proofs.turnstile.Turnstile.meet.Goals as goal

pub join_seat-requires : goal.join_seat-requires
join_seat-requires g c =
    let i = c.a.invariant in
    let j = c.b.invariant in (
      ap (λ (k : Known _ _ _). k.table) c.a.view_is ∙ c.requires.table.0,
      ap (λ (k : Known _ _ _). k.table) c.b.view_is ∙ c.requires.table.1,
      j.3,
      omega (arith, c.args.self.now.sized.0),
      may_join g.V.Chronicle.meaning c.a.inside.seat.id c.b.inside.seat.id c.a.inside.seat.me.0 c.b.inside.seat.me.0 i.2 j.2 (omega (arith, i.0, i.1))
          (omega (arith, j.0, j.1)),
    )

pub load-requires : goal.load-requires
load-requires g c =
    let i = c.a.invariant in
    let alive = ap (λ (m : Me (Option g.row.V.Denot) (View _ _ _)). m.0.shares) c.join_seat.ensures.2 in (
      c.join_seat.ensures.0 ∙ (ap (λ (k : Known _ _ _). k.table) c.a.view_is ∙ c.requires.table.0),
      omega (arith, c.args.self.now.sized.0),
      may_look g.V.Chronicle.meaning _ _ c.join_seat.new.seat.me (omega (arith, i.0, i.1, alive)),
    )

pub returns-clause-apart : goal.returns-clause-apart
returns-clause-apart g c =
    let view : c.load.new.seat.me.0 ≡ views_met c.args.a.view c.args.b.view = search rules in
    let rises : PlacesRise 0 c.load.new.seat.me.0.mine = search rules in
    all_placed_apart c.args.a.view.mine c.args.b.view.mine (subst (λ (v : View _ _ _). PlacesRise 0 v.mine) view rises)

pub returns-clause-places : goal.returns-clause-places
returns-clause-places g c = λ k.
    let view : c.load.new.seat.me.0 ≡ views_met c.args.a.view c.args.b.view = search rules in
    let mine = ap (λ (v : View _ _ _). v.mine) view in (
      λ h. all_placed_has c.args.a.view.mine c.args.b.view.mine k (subst (HasPlace k) mine h),
      λ h. subst (HasPlace k) (sym mine) (has_all_placed c.args.a.view.mine c.args.b.view.mine k h),
    )
