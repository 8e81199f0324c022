use Rattle.std.proofs.Common.{◌≡◌, length, min, ◌∙◌}
use Rattle.xc_sheet.specs.Ends.{line_of_held}
use Rattle.xc_shown.proofs.Counts.{none_held, some_held, entry_count}
use Rattle.xc_shown.proofs.counted.line_count.Goals as goal
use Rattle.xc_shown.proofs.counted.line_count.Goals.{then-is_empty, else-is_empty}

pub returns : goal.returns
returns c =
    let shown = c.args.shown.now in
    let held : c.if-is_empty.held ≡ length (line_of_held shown.entry.held) =
    elim c.if-is_empty.branch [
      | then-is_empty w ↦ none_held shown.entry.held c.is_empty.result c.if-is_empty.held c.is_empty.ensures w.if-is_empty.true w.held-is
      | else-is_empty w ↦ some_held shown.entry.held c.is_empty.result c.if-is_empty.held c.is_empty.ensures w.if-is_empty.false w.held-is
    ] in
    entry_count shown.entry.calls shown.entry.replies shown.entry.outcome shown shown.entry.held c.min-calls.result c.outcome_lines.result c.if-is_empty.held
    (c.min-calls.ensures ∙ (λ i. min (length (c.as_slice.ensures i)) (length (c.as_slice-2.ensures i)))) c.outcome_lines.ensures.count held
