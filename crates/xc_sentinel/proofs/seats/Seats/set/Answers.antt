use Rattle.std.proofs.Common.{ap, sym, ◌∙◌, Some, nat_eq, if◌then◌else◌}
use Rattle.xc_sentinel.specs.Seating.{seat_in}
use Rattle.xc_sentinel.proofs.Marks.{is_none, stays_unmarked}
use Rattle.xc_sentinel.proofs.Seatings.{set_seated, set_sets, seat_written}
use Rattle.xc_sentinel.proofs.seats.Seats.set.Goals as goal
use Rattle.xc_sentinel.proofs.seats.Seats.set.Goals.{then-self, else-self}

pub invariant_of-self : goal.invariant_of-self
invariant_of-self c =
    let was = c.self.inside in
    let key = c.in-Some.key in
    let has = sym c.get.ensures ∙ c.in-Some.is in
    let wrote = seat_written was.keys was.slots c.args.tx key c.args.seat c.in-Some-get_mut.slot.now c.self.invariant.0 has c.in-Some-get_mut.ensures.value in (
      set_seated was.keys was.slots _ c.args.tx key c.args.seat has wrote c.self.invariant.0,
      λ off. elim c.if-self.branch [
        | then-self w ↦ absurd (cc)
        | else-self w ↦ stays_unmarked was.slots _ key _ wrote
            (is_none c.args.seat.mark (sym w.is_some-self-inside.ensures ∙ sym w.self-is ∙ off)) (c.self.invariant.1 w.if-self.false)
      ],
    )

pub returns-after-self : goal.returns-after-self
returns-after-self c n =
    let was = c.self.inside in
    let key = c.in-Some.key in
    let has = sym c.get.ensures ∙ c.in-Some.is in
    set_sets was.keys was.slots _ c.args.tx key c.args.seat has
    (seat_written was.keys was.slots c.args.tx key c.args.seat c.in-Some-get_mut.slot.now c.self.invariant.0 has c.in-Some-get_mut.ensures.value)
    c.self.invariant.0 n
    ∙ ap (λ v. if nat_eq n c.args.tx then Some c.args.seat else seat_in v n) c.self.view_is
