use Rattle.xc_turnstile.proofs.Laws.{starts_trans}
use Rattle.xc_coop.proofs.Meeting.{met_seen}
use Rattle.xc_coop.proofs.turns.poll_all.Goals as goal

pub returns-in-Ok-clause-seen : goal.returns-in-Ok-clause-seen
returns-in-Ok-clause-seen g c =
    starts_trans c.close.result.value.journal c.meet-whole.result.view.seen c.args.pass.view.seen c.close.ensures.0
    (met_seen c.args.pass.view c.split-given.new.pass.view c.in-Ok.back.view c.meet-whole.result.view c.split-given.ensures.kept
    c.meet-whole.ensures.view c.meet-whole.ensures.seen)
