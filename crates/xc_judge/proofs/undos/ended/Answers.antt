use Rattle.std.proofs.Common.{◌≡◌, ◌∙◌, ap, arith, length, length-append}
use Rattle.std.proofs.lemmas.List.{length-map, take_all}
use Rattle.xc_world.specs.Ends.{Ending}
use Rattle.xc_judge.specs.Traced.{ends_of, shown_ends}
use Rattle.xc_judge.proofs.undos.ended.Goals as goal

pub returns-clause-ends : goal.returns-clause-ends
returns-clause-ends c =
    let l = c.loop-undo in
    let shown = c.args.shown.now in
    let none = c.in-None.ensures.steps in
    let size = length-map l.records.items (λ (r : Ending). r.0) in
    let all : length shown ≡ length l.records.items =
    let came = ap length l.invariant.came in
    let parts = length-append l.yielded l.undo-iterator.rest.items in
    let left = none.0 in
    let held = l.undo-iterator.rest.ok.0 in
    let so_far = ap length l.invariant.undos in
    let many = c.requires in
    omega (arith, came, parts, left, held, so_far, many, size) in
    ap ends_of c.from_vec.ensures ∙ l.invariant.ends
    ∙ ap shown_ends (take_all (length l.records.items) shown (omega (arith, all)))
