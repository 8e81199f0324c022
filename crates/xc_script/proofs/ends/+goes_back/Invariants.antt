use Rattle.std.proofs.Common.{length}
use Rattle.xc_script.proofs.ends.+goes_back.Given as goal

abbrev pub decreases-goes_back : goal.decreases-goes_back
decreases-goes_back l = length l.calls.now
