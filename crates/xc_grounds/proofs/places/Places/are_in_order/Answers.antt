use Rattle.std.proofs.Common.{◌+◌, ◌≤◌, length, take, refl, sym, subst, arith}
use Rattle.xc_grounds.proofs.Orders.{AreSoFar, so_far_all, so_far_more, so_far_same}
use Rattle.xc_grounds.proofs.places.Places.are_in_order.Goals as goal
use Rattle.xc_grounds.proofs.places.Places.are_in_order.Goals.{in-Some+else-began-latest, in_default}

pub loop-number-preserved : goal.loop-number-preserved
loop-number-preserved c =
    let l = c.loop-number in
    let begins = c.args.begins.now in
    elim c.match-began.branch [
      | in-Some+else-began-latest w ↦
          subst (AreSoFar (take c.args.below begins) (l.number + 1)) (sym w.latest-is)
          (so_far_more begins c.args.below c.args.self.now.by_number.items c.requires l.number l.latest w.in-Some.began l.invariant
          w.in-Some.ensures w.if-began-latest.false)
      | in_default w ↦
          subst (AreSoFar (take c.args.below begins) (l.number + 1)) (sym w.latest-is)
          (so_far_same (take c.args.below begins) l.number l.latest l.invariant w.in_default.ensures)
    ]

pub returns : goal.returns
returns c =
    let l = c.loop-number in
    let table = c.args.self.now.by_number.items in
    let past : length table ≤ l.number = omega arith in
    let ordered = so_far_all c.args.begins.now c.args.below table c.requires l.number l.latest l.invariant past in
    (λ e. ordered, λ all. refl)
