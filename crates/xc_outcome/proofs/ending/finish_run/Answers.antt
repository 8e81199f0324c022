use Rattle.std.proofs.Common.{◌≤◌, length, subst}
use Rattle.xc_model.proofs.Laws.{most_scripted}
use Rattle.xc_outcome.proofs.ending.finish_run.Goals as goal

pub write_end-status-requires-clause-few : goal.write_end-status-requires-clause-few
write_end-status-requires-clause-few g c =
    subst (λ n. length c.finish-end.result.journal.items ≤ n) (most_scripted c.args.station.opening.script c.requires.scripted) c.finish-end.ensures.whole.few
