use Rattle.xcalls_check.proofs.lines.say_verdict.Goals as goal

pub returns-in-Untold : goal.returns-in-Untold
returns-in-Untold g c = rw c.in-Untold.is c.say_untold.ensures
