use Rattle.std.proofs.Common.{◌≡◌, ap, sym, ◌∙◌, Some, nat_eq, if◌then◌else◌}
use Rattle.xc_sentinel.specs.Asking.{changed, settled}
use Rattle.xc_sentinel.specs.Seated.{seat_at, seat_by, seat_of}
use Rattle.xc_sentinel.specs.Seating.{seat_in}
use Rattle.xc_sentinel.proofs.Marks.{stays_unmarked}
use Rattle.xc_sentinel.proofs.Seatings.{set_seated, set_sets, seat_written}
use Rattle.xc_sentinel.proofs.seats.Seats.settle.Goals as goal

pub invariant_of-self : goal.invariant_of-self
invariant_of-self c =
    let was = c.self.inside in
    let key = c.in-Some.key in
    let slot = c.in-Some-get_mut.slot.now in
    let has = sym c.get.ensures ∙ c.in-Some.is in
    let wrote = seat_written was.keys was.slots c.args.tx key (settled slot.seat) slot c.self.invariant.0 has c.in-Some-get_mut.ensures.value in (
      set_seated was.keys was.slots _ c.args.tx key (settled slot.seat) has wrote c.self.invariant.0,
      λ off. stays_unmarked was.slots _ key _ wrote (c.self.invariant.1 off key slot (sym c.in-Some-get_mut.ensures.value)) (c.self.invariant.1 off),
    )

pub returns-in-Some-get_mut : goal.returns-in-Some-get_mut
returns-in-Some-get_mut c n =
    let was = c.self.inside in
    let key = c.in-Some.key in
    let slot = c.in-Some-get_mut.slot.now in
    let has = sym c.get.ensures ∙ c.in-Some.is in
    let there : seat_by was.keys was.slots c.args.tx ≡ Some slot.seat = ap (seat_at was.slots) has ∙ ap seat_of (sym c.in-Some-get_mut.ensures.value) in
    set_sets was.keys was.slots _ c.args.tx key (settled slot.seat) has
    (seat_written was.keys was.slots c.args.tx key (settled slot.seat) slot c.self.invariant.0 has c.in-Some-get_mut.ensures.value) c.self.invariant.0 n
    ∙ ap (λ s. if nat_eq n c.args.tx then s else seat_by was.keys was.slots n) (sym (ap (changed settled) there))
    ∙ ap (λ v. if nat_eq n c.args.tx then changed settled (seat_in v c.args.tx) else seat_in v n) c.self.view_is
