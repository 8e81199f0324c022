use Rattle.std.proofs.Common.{◌∙◌}
use Rattle.xcalls_check.proofs.Said.{untold_said}
use Rattle.xcalls_check.proofs.lines.say_untold.Goals as goal

pub returns-in-Ok : goal.returns-in-Ok
returns-in-Ok g c = untold_said c.args.line c.as_str.result.now _ _ (c.as_str.ensures.value ∙ c.in-Ok.ensures) c.write.ensures
