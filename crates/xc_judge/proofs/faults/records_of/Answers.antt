use Rattle.std.proofs.Common.{rules, ap, sym, ◌∙◌}
use Rattle.xc_model.specs.Recorded.{no_records}
use Rattle.xc_judge.specs.Counts.{RecordCount}
use Rattle.xc_judge.proofs.Counting.{all_counted, all_counts}
use Rattle.xc_judge.proofs.faults.records_of.Goals as goal

pub loop-calls-init : goal.loop-calls-init
loop-calls-init c =
    let calls = c.args.calls.now in
    let replies = c.args.replies.now in
    record {
      same = ap (λ (n : RecordCount). all_counts n calls replies) c.none-counted.ensures ∙ sym (all_counted no_records calls replies);
      few = search rules;
      kept = search rules;
    }
