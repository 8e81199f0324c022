use Rattle.std.proofs.Common.{rules, ◌≡◌, ◌<◌, Some}
use Rattle.std.specs.Prelude.{codes}
use Rattle.xc_lines.specs.Parts.{FailsToRead, past}
use Rattle.xc_lines.specs.Held.{claim_at}
use Rattle.xc_lines.proofs.HeldSteps.{fails_there}
use Rattle.xc_lines.proofs.held.read_further.Goals as goal

pub returns-in-Err : goal.returns-in-Err
returns-in-Err c =
    let some : 0 < c.loop-left.left = search rules in
    let another : past (codes ", ") c.loop-left.text ≡ Some c.passes.new.self = search rules in
    let failed : FailsToRead c.in-Err.stop (claim_at c.passes.new.self) = search rules in
    fails_there c.in-Err.stop c.loop-left.left c.loop-left.claims c.loop-left.text c.passes.new.self _ some another failed c.loop-left.invariant
