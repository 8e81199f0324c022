use Rattle.std.proofs.Common.{◌≡◌, ◌∙◌, ◌+◌, length, map, take, refl, ap, sym, subst}
use Rattle.std.specs.List.{AllZip}
use Rattle.std.specs.Prelude.{slice_get}
use Rattle.std.specs.declared.option.Option.TheVariants.{Some}
use Rattle.std.proofs.lemmas.Option.{slice_get_read}
use Rattle.xc_data.proofs.Laws.{get_map}
use Rattle.xc_tail.specs.Tails.{IsToldOf}
use Rattle.xc_tail.specs.declared.job_left.JobLeft.{JobLeft}
use Rattle.xc_turns.proofs.Laws.{script_job_in, standing_in}
use Rattle.xc_check.proofs.Places.{IsJobAt, job_at, told_more_at}
use Rattle.xc_check.proofs.lists.jobs_left.Goals as goal

pub loop-at-preserved : goal.loop-at-preserved
loop-at-preserved c told standings jobs =
    let k = c.loop-at.at in
    let all = c.args.judging.now.progress.jobs in
    let script = c.args.script.now in
    let standing_there : slice_get c.jobs-standing-items.result.now k ≡ Some c.standing-item.result =
    slice_get_read c.jobs-standing-items.result.now (length c.jobs-standing-items.result.now) k c.standing-item.result refl c.loop-at-test.true
    c.standing-item.is in
    let there : slice_get (map standing_in told) k ≡ Some c.standing-item.result =
    subst (λ xs. slice_get xs k ≡ Some c.standing-item.result) (c.jobs-standing-items.ensures ∙ standings) standing_there in
    let at : IsJobAt told k c.standing-item.result = job_at told k c.standing-item.result there in
    let f = at.f in
    let job_there : slice_get c.args.judging.now.jobs k ≡ Some (script_job_in f) =
    subst (λ xs. slice_get xs k ≡ Some (script_job_in f)) (sym jobs) (get_map script_job_in told k f at.there) in
    let left : JobLeft = record {
      block = c.block.result;
      is_client = script.clients;
      is_left = c.has_next.result;
      failed = c.failures.result;
      is_starved = c.is_starved.result;
    } in
    let one : IsToldOf script f left = record {
      block = c.block.ensures ∙ ap (λ (s : _). s.block) (sym at.is);
      client = refl;
      left = c.has_next.ensures (script_job_in f) job_there;
      failed = c.failures.ensures ∙ ap (λ (s : _). length s.failed) (sym at.is);
      starved = c.is_starved.ensures ∙ ap (λ (s : _). s.starved) (sym at.is);
    } in
    subst (λ xs. AllZip (IsToldOf script) (take (k + 1) told) xs) (sym c.in_ok-push.ensures.items)
    (told_more_at (IsToldOf script) told c.loop-at.left.items k f left (c.loop-at.invariant told standings jobs) at.there one)
