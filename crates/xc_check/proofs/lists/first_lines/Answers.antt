use Rattle.std.proofs.Common.{◌≡◌, ◌∙◌, ◌+◌, ◌∷◌, [], length, take, refl, ap, sym, subst, arith}
use Rattle.std.specs.Prelude.{slice_get}
use Rattle.std.specs.declared.option.Option.TheVariants.{Some}
use Rattle.std.proofs.lemmas.List.{length-append}
use Rattle.std.proofs.lemmas.Option.{slice_get_read}
use Rattle.xc_check.specs.Refusals.{line_behind}
use Rattle.xc_check.proofs.Places.{front_lines, lines_more_at, pushed_at}
use Rattle.xc_check.proofs.lists.first_lines.Goals as goal

pub overflow_cast-line : goal.overflow_cast-line
overflow_cast-line c =
    let entries = c.args.entries.now in
    let k = c.loop-shown.shown-index in
    let there = slice_get_read entries (length entries) k c.shown-item.result refl c.loop-shown-test.true c.shown-item.is in
    let more = lines_more_at entries k c.shown-item.result there in
    let front = front_lines entries (k + 1) in
    let few = c.requires in
    let is = c.line_count.ensures in
    omega (arith, more, front, few, is)

pub overflow_add-line : goal.overflow_add-line
overflow_add-line c =
    let entries = c.args.entries.now in
    let k = c.loop-shown.shown-index in
    let there = slice_get_read entries (length entries) k c.shown-item.result refl c.loop-shown-test.true c.shown-item.is in
    let more = lines_more_at entries k c.shown-item.result there in
    let front = front_lines entries (k + 1) in
    let few = c.requires in
    let is = c.line_count.ensures in
    let line = c.loop-shown.invariant.line in
    omega (arith, more, front, few, is, line)

pub loop-shown-preserved : goal.loop-shown-preserved
loop-shown-preserved c =
    let entries = c.args.entries.now in
    let k = c.loop-shown.shown-index in
    let there = slice_get_read entries (length entries) k c.shown-item.result refl c.loop-shown-test.true c.shown-item.is in
    let more = lines_more_at entries k c.shown-item.result there in
    let is = c.line_count.ensures in
    let line = c.loop-shown.invariant.line in
    let pushed = c.in_ok-push.ensures.items in
    let size = length-append c.loop-shown.lines.items (c.loop-shown.line ∷ []) in
    let count = c.loop-shown.invariant.count in
    record {
      count = ap length pushed ∙ size ∙ ap (λ n. n + 1) count;
      line = omega (arith, more, is, line);
      each = λ j low.
          subst (λ xs. slice_get xs j ≡ Some (line_behind (take j entries))) (sym pushed)
          (pushed_at (λ j. line_behind (take j entries)) c.loop-shown.lines.items k c.loop-shown.line count c.loop-shown.invariant.each line j low);
    }

pub returns : goal.returns
returns c =
    let entries = c.args.entries.now in
    let k = c.loop-shown.shown-index in
    let pushed = c.in_ok-push-2.ensures.items in
    let size = length-append c.loop-shown.lines.items (c.loop-shown.line ∷ []) in
    let count = c.loop-shown.invariant.count in
    let at_end : k ≡ length entries = omega (arith, c.loop-shown-test.false, c.loop-shown.auto.shown-index-end) in (
      ap length pushed ∙ size ∙ ap (λ n. n + 1) (count ∙ at_end),
      λ j low.
          subst (λ xs. slice_get xs j ≡ Some (line_behind (take j entries))) (sym pushed)
          (pushed_at (λ j. line_behind (take j entries)) c.loop-shown.lines.items k c.loop-shown.line count c.loop-shown.invariant.each
          c.loop-shown.invariant.line j (omega (arith, low, at_end))),
    )
