use Rattle.std.proofs.Common.{refl, sym, subst, ◌∙◌, Some, None, true}
use Rattle.xc_sentinel.specs.Seating.{SetsSeat}
use Rattle.xc_sentinel.proofs.Marks.{room_unmarked, stays_unmarked}
use Rattle.xc_sentinel.proofs.Seatings.{key_inserted, inserted_seated, inserted_sets}
use Rattle.xc_sentinel.proofs.seats.Seats.insert.Goals as goal

pub invariant_of-self-2 : goal.invariant_of-self-2
invariant_of-self-2 c =
    let was = c.self.inside in (
      inserted_seated was.keys c.insert.new.self was.slots c.reserve.new.self c.insert_reserved.new.self c.args.tx
          c.vacant_key-key.result c.insert_reserved.result _ c.in_ok-reserve.ensures.rest_kept
          (c.insert_reserved.ensures.key ∙ sym c.vacant_key-key.ensures.value)
          c.vacant_key-key.ensures.vacant (key_inserted was.keys c.insert.new.self c.args.tx c.vacant_key-key.result c.in_ok-insert.ensures.ok)
          c.insert_reserved.ensures.updates c.self.invariant.0,
      λ off. stays_unmarked c.reserve.new.self c.insert_reserved.new.self c.insert_reserved.result _ c.insert_reserved.ensures.updates refl
          (room_unmarked was.slots c.reserve.new.self c.in_ok-reserve.ensures.rest_kept (c.self.invariant.1 off)),
    )

pub returns-clause-ok : goal.returns-clause-ok
returns-clause-ok c =
    let was = c.self.inside in
    subst (λ v. SetsSeat v (record { slots = c.insert_reserved.new.self; keys = c.insert.new.self }) c.args.tx
    (Some (record { rank = c.args.rank; running = true; mark = None }))) c.self.view_is
    (inserted_sets was.keys c.insert.new.self was.slots c.reserve.new.self c.insert_reserved.new.self c.args.tx
    c.vacant_key-key.result c.insert_reserved.result _ c.in_ok-reserve.ensures.rest_kept
    (c.insert_reserved.ensures.key ∙ sym c.vacant_key-key.ensures.value)
    c.vacant_key-key.ensures.vacant (key_inserted was.keys c.insert.new.self c.args.tx c.vacant_key-key.result c.in_ok-insert.ensures.ok)
    c.insert_reserved.ensures.updates c.self.invariant.0)
