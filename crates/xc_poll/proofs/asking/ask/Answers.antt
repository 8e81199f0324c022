use Rattle.std.proofs.Common.{subst, sym}
use Rattle.xc_poll.specs.Askings.{HasAsked}
use Rattle.xc_poll.proofs.Gathers.{asked_so}
use Rattle.xc_poll.proofs.asking.ask.Goals as goal

pub returns : goal.returns
returns g c =
    subst (HasAsked c.args.pass c.try_pick-pass.result.0) (sym c.asked_of.ensures)
    (asked_so c.args.pass c.try_pick-pass.result.0 c.try_pick-pass.result.1 c.try_pick-pass.ensures.tried)
