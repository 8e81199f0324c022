use Rattle.std.proofs.Common.{rules, ◌≡◌, sym, subst, arith}
use Rattle.xc_names.specs.Places.{AreTheirOwn}
use Rattle.xc_names.proofs.Placed.{none_placed}
use Rattle.xc_names.proofs.names.Names.new.Goals as goal

pub invariant_of-result : goal.invariant_of-result
invariant_of-result c = (subst AreTheirOwn (sym c.new.ensures) none_placed, omega arith, c.in_ok-new.ensures)
