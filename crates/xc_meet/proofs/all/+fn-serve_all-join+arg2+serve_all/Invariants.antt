use Rattle.std.proofs.Common.{◌+◌, ◌*◌}
use Rattle.xc_meet.proofs.all.+fn-serve_all-join+arg2+serve_all.Given as goal

abbrev pub decreases-join+arg2 : goal.decreases-join+arg2
decreases-join+arg2 g l = 2 * l.left + 1

abbrev pub decreases-serve_all : goal.decreases-serve_all
decreases-serve_all g l = 2 * l.count
