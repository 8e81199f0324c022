use Rattle.std.proofs.Common.{◌≡◌, ◌∙◌, true, false, length, map, refl, ap, sym, subst}
use Rattle.std.specs.List.{AllZip}
use Rattle.std.proofs.lemmas.List.{length-map}
use Rattle.xc_model.specs.Course.{Course}
use Rattle.xc_model.specs.Progress.{progress_of}
use Rattle.xc_tail.specs.Tails.{IsToldOf}
use Rattle.xc_turns.proofs.Laws.{script_job_in, standing_in}
use Rattle.xc_check.specs.TrueTexts.{telling}
use Rattle.xc_check.proofs.Led.{course_is, jobs_are}
use Rattle.xc_check.proofs.Verdicts.{false_tail, true_in}
use Rattle.xc_check.proofs.whole.check_tail.Goals as goal

pub jobs_left-requires : goal.jobs_left-requires
jobs_left-requires c =
    let j = c.requires.judged.1.judged in
    let script = c.args.script.now in
    let told = (progress_of script j.front).jobs in
    let standings : c.args.judging.progress.jobs ≡ map standing_in told =
    ap (λ (x : Course). x.jobs) (j.course ∙ course_is script j.front) in
    let jobs : c.args.judging.jobs ≡ map script_job_in told = j.asked ∙ jobs_are script j.front in
    ap length standings ∙ length-map told standing_in ∙ sym (length-map told script_job_in) ∙ sym (ap length jobs)

pub returns-then-branch : goal.returns-then-branch
returns-then-branch c entries so line_is are =
    let s = telling c.args.script.now c.args.rules.now in
    let j = so.judged in
    let script = c.args.script.now in
    let told = (progress_of script j.front).jobs in
    let standings = ap (λ (x : Course). x.jobs) (j.course ∙ course_is script j.front) in
    let each = subst (λ left. AllZip (IsToldOf script) told left) (sym c.as_slice.ensures.value)
    (c.in_ok-left.ensures told standings (j.asked ∙ jobs_are script j.front)) in
    let decides = c.in_ok-is_tail.ensures s told refl each in
    true_in s entries c.args.judging j so.grounded c.args.totals are (length c.as_slice-count.result.now) (ap length c.as_slice-count.ensures.value)
    c.into_world-world.result c.into_world-world.ensures c.args.tail.now (decides.0 c.if-branch.true)

pub returns : goal.returns
returns c entries so line_is are =
    let s = telling c.args.script.now c.args.rules.now in
    let j = so.judged in
    let script = c.args.script.now in
    let told = (progress_of script j.front).jobs in
    let standings = ap (λ (x : Course). x.jobs) (j.course ∙ course_is script j.front) in
    let each = subst (λ left. AllZip (IsToldOf script) told left) (sym c.as_slice.ensures.value)
    (c.in_ok-left.ensures told standings (j.asked ∙ jobs_are script j.front)) in
    let decides = c.in_ok-is_tail.ensures s told refl each in
    false_tail s entries c.args.judging j so.grounded c.args.totals are (length c.as_slice-count.result.now) (ap length c.as_slice-count.ensures.value)
    c.into_world-world.result c.into_world-world.ensures c.args.tail.now c.args.line
    (λ h. let yes : c.in_ok-is_tail.field-0 ≡ true = decides.1 h in let other : c.in_ok-is_tail.field-0 ≡ false = c.if-branch.false in cc) line_is
