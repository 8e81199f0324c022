use Rattle.xc_live_c.proofs.Ends.{same_run}
use Rattle.xc_live_c.proofs.ending.finished.Goals as goal

pub returns : goal.returns
returns c =
    same_run c.args.clients.value c.into_inner.result c.in_ok-text.text c.in_ok-new.field-0.value c.into_inner.ensures c.in_ok-new.ensures.ok
    c.in_ok-text.ensures
