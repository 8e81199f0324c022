use Rattle.std.proofs.Common.{◌≡◌, ◌⊎◌, subst}
use Rattle.std.specs.Prelude.{Contains}
use Rattle.xc_station.specs.Lent.{Lent}
use Rattle.xc_station.proofs.Giving.{front_among}
use Rattle.xc_station.proofs.buffers.Buffers.give_last.Goals as goal

pub returns-clause-among : goal.returns-clause-among
returns-clause-among c notes last is item at =
    let put = (c.give_last.ensures.given notes last is).1 in
    subst (λ (lent : Lent). (item ≡ last) ⊎ Contains lent.kept item) c.self.view_is (front_among last _ _ put.own put.apart item at)
