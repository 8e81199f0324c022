use Rattle.std.proofs.Common.{arith, not, refl, ap, sym, subst, ◌∙◌, None, nat_eq, if◌then◌else◌}
use Rattle.xc_sentinel.specs.Seating.{SetsSeat, seat_in}
use Rattle.xc_sentinel.proofs.Marks.{empty_unmarked, stays_unmarked}
use Rattle.xc_sentinel.proofs.Seatings.{absent_seated, absent_sets, key_removed, removed_seated, removed_sets}
use Rattle.xc_sentinel.proofs.seats.Seats.remove.Goals as goal
use Rattle.xc_sentinel.proofs.seats.Seats.remove.Goals.{then-self, else-self}

pub invariant_of-self : goal.invariant_of-self
invariant_of-self c =
    let was = c.self.inside in (
      removed_seated was.keys c.remove.new.self was.slots c.try_remove.new.self c.args.tx c.in-Some.key (sym c.remove.ensures.value ∙ c.in-Some.is)
          (key_removed was.keys c.remove.new.self c.args.tx c.remove.ensures.removed) c.try_remove.ensures.updates c.self.invariant.0,
      λ off. elim c.if-self.branch [
        | then-self w ↦
            let gone = ap not (sym w.is_empty.ensures) ∙ sym w.self-is ∙ off in
            empty_unmarked c.try_remove.new.self (grind (arith, gone))
        | else-self w ↦ stays_unmarked was.slots _ c.in-Some.key _ c.try_remove.ensures.updates refl (c.self.invariant.1 w.if-self.false)
      ],
    )

pub returns-after-self : goal.returns-after-self
returns-after-self c =
    let was = c.self.inside in
    subst (λ v. SetsSeat v (record { slots = c.try_remove.new.self; keys = c.remove.new.self }) c.args.tx None) c.self.view_is
    (removed_sets was.keys c.remove.new.self was.slots c.try_remove.new.self c.args.tx c.in-Some.key (sym c.remove.ensures.value ∙ c.in-Some.is)
    (key_removed was.keys c.remove.new.self c.args.tx c.remove.ensures.removed) c.try_remove.ensures.updates c.self.invariant.0)

pub invariant_of-self-in_default : goal.invariant_of-self-in_default
invariant_of-self-in_default c =
    let was = c.self.inside in (
      absent_seated was.keys c.remove.new.self was.slots c.args.tx (key_removed was.keys c.remove.new.self c.args.tx c.remove.ensures.removed)
          c.self.invariant.0,
      c.self.invariant.1,
    )

pub returns-in_default : goal.returns-in_default
returns-in_default c n =
    let was = c.self.inside in
    absent_sets was.keys c.remove.new.self was.slots c.args.tx (key_removed was.keys c.remove.new.self c.args.tx c.remove.ensures.removed) c.self.invariant.0 n
    ∙ ap (λ v. if nat_eq n c.args.tx then None else seat_in v n) c.self.view_is
