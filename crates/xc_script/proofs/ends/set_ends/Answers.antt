use Rattle.std.proofs.Common.{ap, sym, ◌∙◌}
use Rattle.xc_script.specs.Slots.{kept_behind, with_ends}
use Rattle.xc_script.proofs.SlotEnds.{kept_ahead, no_calls_kept, no_ends, no_replies}
use Rattle.xc_script.proofs.ends.set_ends.Goals as goal

pub returns-in_default-calls : goal.returns-in_default-calls
returns-in_default-calls c =
    let l = c.loop-ends in
    sym (ap (λ kept. with_ends l.variables kept l.ends.now) (no_calls_kept l.dropped l.calls.now l.replies.now c.in_default-calls.len_below))
    ∙ l.invariant ∙ ap (λ kept. with_ends c.args.variables.now kept c.args.ends.now) (sym (kept_ahead c.args.calls.now c.args.replies.now))

pub returns-in_default-replies : goal.returns-in_default-replies
returns-in_default-replies c =
    let l = c.loop-ends in
    sym (ap (λ kept. with_ends l.variables kept l.ends.now) (no_replies l.dropped l.calls.now l.replies.now c.in_default-replies.len_below))
    ∙ l.invariant ∙ ap (λ kept. with_ends c.args.variables.now kept c.args.ends.now) (sym (kept_ahead c.args.calls.now c.args.replies.now))

pub returns : goal.returns
returns c =
    let l = c.loop-ends in
    sym (no_ends l.variables (kept_behind l.dropped l.calls.now l.replies.now) l.ends.now c.in_default.len_below)
    ∙ l.invariant ∙ ap (λ kept. with_ends c.args.variables.now kept c.args.ends.now) (sym (kept_ahead c.args.calls.now c.args.replies.now))
