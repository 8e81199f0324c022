use Rattle.std.proofs.Common.{arith, ◌∙◌, ap, ◌++◌, ◌+◌, string_bytes}
use Rattle.xc_generator.specs.Generated.{generated_job_lines}
use Rattle.xc_generator.proofs.Runs.{text_printed, texts_printed, next_job, next_job_state}
use Rattle.xc_generator.proofs.script.push_jobs.Goals as goal

pub loop-before-preserved : goal.loop-before-preserved
loop-before-preserved c = (
  text_printed (generated_job_lines c.args.seed) (c.loop-before.before + 1) c.loop-before.before c.args.count _ _ _ (omega arith)
      (c.in_ok-push_job.ensures.text
      ∙ ap (λ bs. string_bytes c.loop-before.out ++ bs) (next_job c.args.seed c.loop-before.draws.state c.loop-before.before c.loop-before.invariant.1))
      c.loop-before.invariant.0,
  next_job_state c.args.seed c.loop-before.draws.state _ c.loop-before.before c.loop-before.invariant.1 c.in_ok-push_job.ensures.state,
)

pub returns : goal.returns
returns c = texts_printed (generated_job_lines c.args.seed) _ c.loop-before.before c.args.count _ _ (omega arith) c.loop-before.invariant.0
