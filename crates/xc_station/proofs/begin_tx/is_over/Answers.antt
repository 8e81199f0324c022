use Rattle.std.proofs.Common.{ap, sym, ◌∙◌}
use Rattle.std.specs.Prelude.{not}
use Rattle.xc_model.specs.Setting.{setting}
use Rattle.xc_station.specs.Beginning.{is_over_in}
use Rattle.xc_station.specs.Jobs.{job_view}
use Rattle.xc_station.proofs.begin_tx.is_over.Goals as goal

pub returns-then-script : goal.returns-then-script
returns-then-script c rules tells =
    c.is_end_in.ensures ∙ ap (λ b. is_over_in b (setting c.args.script.now rules tells) (job_view c.args.job.now)) (sym c.if-script.true)

pub returns : goal.returns
returns c rules tells =
    ap not c.has_next.ensures ∙ ap (λ b. is_over_in b (setting c.args.script.now rules tells) (job_view c.args.job.now)) (sym c.if-script.false)
