use Rattle.std.proofs.Common.{sym, subst, arith}
use Rattle.xc_model.specs.Consistent.{AreLinesOf}
use Rattle.xc_station.proofs.Lines.{next_line}
use Rattle.xc_station.proofs.station.finish.lines_of.Goals as goal

pub loop-job-preserved : goal.loop-job-preserved
loop-job-preserved c =
    record {
      lines = subst (AreLinesOf _) (sym c.enter.ensures.items)
          (next_line _ _ _ c.job-item.result c.line_of.result c.loop-job-test.true c.job-item.is c.loop-job.invariant.lines c.line_of.ensures);
      room = omega arith;
    }
