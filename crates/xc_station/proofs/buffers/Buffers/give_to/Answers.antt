use Rattle.std.proofs.Common.{◌⊎◌, drop, subst}
use Rattle.std.specs.Prelude.{Contains}
use Rattle.xc_station.specs.Lent.{Lent}
use Rattle.xc_station.proofs.Giving.{given_among}
use Rattle.xc_station.proofs.buffers.Buffers.give_to.Goals as goal

pub returns-clause-among : goal.returns-clause-among
returns-clause-among c item at =
    subst (λ (lent : Lent). Contains (drop c.args.mark c.args.taken.now.items) item ⊎ Contains lent.kept item) c.self.view_is
    (given_among (drop c.args.mark c.args.taken.now.items) _ _ c.give_to.ensures.given.each item at)
