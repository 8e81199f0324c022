use Rattle.std.proofs.Common.{◌-◌, ◌≤◌, length, take, drop, ap, ◌∙◌, take_all, length-drop, arith}
use Rattle.std.proofs.lemmas.List.{drop-drop}
use Rattle.std.specs.List.{prefix_len}
use Rattle.xc_lanes.proofs.Lanes.{run_ends, run_goes_on}
use Rattle.xc_lanes.proofs.runs.front_len.Goals as goal

pub returns-then-run-lt-LANES-clause-value : goal.returns-then-run-lt-LANES-clause-value
returns-then-run-lt-LANES-clause-value g c =
    let bs = c.args.bytes.now in
    let rest = drop c.by_lanes.n bs in
    let room : 16 ≤ length rest = omega (arith, length-drop c.by_lanes.n bs) in
    let whole = take_all (length bs - c.by_lanes.n) rest (omega (arith, length-drop c.by_lanes.n bs)) in
    let run = c.first_run-run.ensures ∙ ap (λ xs. prefix_len g.K.ByteKind.has (take 16 xs)) whole in
    omega (arith, run, run_ends g.K.ByteKind.has 16 rest room (omega (arith, run)), c.by_lanes.invariant.same)

pub by_lanes-preserved : goal.by_lanes-preserved
by_lanes-preserved g c =
    let bs = c.args.bytes.now in
    let rest = drop c.by_lanes.n bs in
    let room : 16 ≤ length rest = omega (arith, length-drop c.by_lanes.n bs) in
    let whole = take_all (length bs - c.by_lanes.n) rest (omega (arith, length-drop c.by_lanes.n bs)) in
    let run = c.first_run-run.ensures ∙ ap (λ xs. prefix_len g.K.ByteKind.has (take 16 xs)) whole in
    let next = ap (prefix_len g.K.ByteKind.has) (drop-drop 16 c.by_lanes.n bs) in
    record {
      within = omega arith;
      same = omega (arith, next, run_goes_on g.K.ByteKind.has 16 rest room (omega (arith, run)), c.by_lanes.invariant.same);
    }
