use Rattle.std.proofs.Common.{sym}
use Rattle.xc_script.proofs.Laws.{kept_ahead}
use Rattle.xc_asked.proofs.kept.KeptCalls.of.Goals as goal

pub returns : goal.returns
returns c = sym (kept_ahead c.args.calls.now c.args.replies.now)
