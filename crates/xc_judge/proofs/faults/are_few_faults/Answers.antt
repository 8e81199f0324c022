use Rattle.std.proofs.Common.{rules, sym, subst}
use Rattle.xc_model.specs.Recorded.{no_records}
use Rattle.xc_judge.specs.Counts.{RecordCount}
use Rattle.xc_judge.proofs.Counting.{AreFewBy, few_by_count, few_counted}
use Rattle.xc_judge.proofs.faults.are_few_faults.Goals as goal

pub loop-calls-init : goal.loop-calls-init
loop-calls-init c =
    let tries = c.args.tries in
    let calls = c.args.calls.now in
    let replies = c.args.replies.now in
    let none = c.none-counted.ensures in
    record {
      to = λ few. subst (λ (n : RecordCount). AreFewBy tries n calls replies) (sym none) (few_counted tries no_records calls replies few);
      from = λ few. few_by_count tries no_records calls replies (subst (λ (n : RecordCount). AreFewBy tries n calls replies) none few);
      few = search rules;
      kept = search rules;
    }
