use Rattle.std.proofs.Common.{sym, subst}
use Rattle.xc_model.specs.Progress.{body_of}
use Rattle.xc_judge.specs.Ran.{IsLedOn}
use Rattle.xc_judge.proofs.Keeping.{kept_led, kept_some}
use Rattle.xc_judge.proofs.progress.Progress.enter.Goals as goal

pub unwrap-requires : goal.unwrap-requires
unwrap-requires c =
    kept_some c.args.kept (body_of c.args.self.state c.args.entry.now) c.args.entry.now.outcome c.in-Committed.late c.in-Committed.is c.requires.kept

pub commit-requires-clause-led : goal.commit-requires-clause-led
commit-requires-clause-led c =
    let b = body_of c.args.self.state c.args.entry.now in
    subst (IsLedOn c.unwrap.result.world c.unwrap.result.me.value b) (sym c.as_slice.ensures)
    (kept_led c.args.kept c.unwrap.result b c.args.entry.now.outcome c.in-Committed.late c.unwrap.ensures c.in-Committed.is c.requires.kept)
