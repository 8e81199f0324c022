use Rattle.std.proofs.Common.{◌≡◌, ◌≤◌, ◌+◌, ◌-◌, ◌/◌, ◌^◌, ◌<◌, ap, drop, length, arith, length-drop}
use Rattle.std.proofs.Math.Nat.{div-le_self}
use Rattle.xc_lanes.proofs.BitRuns.{few_before, lane_shown, lanes_past, shifted}
use Rattle.xc_lanes.proofs.masks.next_set.Goals as goal

pub returns-clause-bound : goal.returns-clause-bound
returns-clause-bound c =
    let m = c.args.mask / 2 ^ c.args.from in
    let fits : m < 2 ^ 64 = omega (arith, div-le_self c.args.mask (2 ^ c.args.from), c.ranges.mask.fits) in
    (omega arith, omega (arith, few_before m fits))

pub returns-clause-shown : goal.returns-clause-shown
returns-clause-shown c p xs long is inside =
    let m = c.args.mask / 2 ^ c.args.from in
    let fits : m < 2 ^ 64 = omega (arith, div-le_self c.args.mask (2 ^ c.args.from), c.ranges.mask.fits) in
    let few : length (drop c.args.from xs) ≤ 16 = omega (arith, length-drop c.args.from xs, long) in
    ap (λ n. c.args.from + n) (lane_shown p m (drop c.args.from xs) few fits (shifted p c.args.from c.args.mask xs is) (omega (arith, inside)))

pub returns-clause-past : goal.returns-clause-past
returns-clause-past c p xs long is past =
    let m = c.args.mask / 2 ^ c.args.from in
    let fits : m < 2 ^ 64 = omega (arith, div-le_self c.args.mask (2 ^ c.args.from), c.ranges.mask.fits) in
    let left : length (drop c.args.from xs) ≡ 16 - c.args.from = omega (arith, length-drop c.args.from xs, long) in
    lanes_past p m c.args.from (drop c.args.from xs) left fits (shifted p c.args.from c.args.mask xs is) past
