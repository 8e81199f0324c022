use Rattle.std.proofs.Common.{◌≡◌, List, Some, rules, subst, ℕ}
use Rattle.xc_outcome.specs.Runs.{written_of}
use Rattle.xc_outcome.specs.Said.{IsWritten}
use Rattle.xc_outcome.proofs.ending.write_summary.Goals as goal

pub returns-in-Ok : goal.returns-in-Ok
returns-in-Ok g c =
    let told = g.K.Sink.told in
    let meant = c.meant_of-meant.result in
    let same : c.in-Ok.line ≡ written_of (Some c.args.seed) c.args.end.now = search rules in (
      meant,
      written_of (Some c.args.seed) c.args.end.now,
      c.meant_of-meant.ensures (Some c.args.seed),
      subst (λ (t : List ℕ). IsWritten meant c.write_due.result t (told c.args.sink.now) (told c.write_due.new.sink)) same c.write_due.ensures,
    )
