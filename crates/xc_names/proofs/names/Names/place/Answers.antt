use Rattle.std.proofs.Common.{◌≡◌, ◌≤◌, ◌+◌, sym, ap, subst, ◌∙◌, arith}
use Rattle.std.specs.FinMap as map
use Rattle.xc_names.specs.Places.{AreTheirOwn}
use Rattle.xc_names.proofs.Placed.{one_more}
use Rattle.xc_names.proofs.names.Names.place.Goals as goal

pub invariant_of-self-2 : goal.invariant_of-self-2
invariant_of-self-2 c =
    let value : c.again-2.result ≡ c.args.name = c.again-2.ensures ∙ c.in_ok-shared.ensures in
    let put = c.in_ok-insert.ensures.ok ∙ ap (map.insert c.self.inside.placed c.args.name) value in (
      subst AreTheirOwn (sym put) (one_more c.self.inside.placed c.args.name c.self.invariant.0),
      omega (arith, c.self.invariant.1, c.if-self-eq-MOST_NAMES.false),
      c.self.invariant.2,
    )
