use Rattle.std.proofs.Common.{rules, ◌≡◌, length, refl, ◌∙◌}
use Rattle.xc_script.specs.Blocks.{kept_calls}
use Rattle.xc_model.specs.Progress.{body_of}
use Rattle.xc_judge.proofs.Keeping.{led_on}
use Rattle.xc_judge.proofs.Replying.{ends_decide}
use Rattle.xc_judge.proofs.progress.Progress.ends_so.Goals as goal

pub returns-clause-decides : goal.returns-clause-decides
returns-clause-decides c =
    let e = c.args.entry.now in
    let late = c.args.late.now in
    let ran = c.args.ran.now in
    let as_many : length late ≡ c.kept_count-count.result = search rules in
    let count : length late ≡ length (kept_calls e.calls e.replies) =
    as_many ∙ c.kept_count-count.ensures ∙ (λ i. length (kept_calls (c.as_slice.ensures i) (c.as_slice-2.ensures i))) in
    ends_decide c.args.basis.now c.args.self.now e late ran ran.world c.as_slice-3.result.now c.in_ok-yes.yes c.requires.ran count refl
    c.as_slice-3.ensures c.in_ok-yes.ensures.decides

pub returns-clause-leads : goal.returns-clause-leads
returns-clause-leads c =
    let gave = c.in_ok-yes.ensures in
    led_on c.in_ok-yes.yes c.args.ran.now c.replay_lates.new.world (body_of c.args.self.now.state c.args.entry.now) c.args.entry.now.tx
    c.as_slice-3.result.now c.args.late.now c.requires.ran c.as_slice-3.ensures gave.world gave.words gave.sound
