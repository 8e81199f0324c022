use Rattle.std.proofs.Common.{ap, sym, ◌∙◌}
use Rattle.xc_data.specs.Private.{lowest_vacant}
use Rattle.xc_data.specs.declared.private.Private.{Private}
use Rattle.xc_socket.proofs.Vacant.{always_none, none_found, one_found, two_found}
use Rattle.xc_socket.proofs.making.two_vacant.Goals as goal

pub returns-in_err-h-clause-few : goal.returns-in_err-h-clause-few
returns-in_err-h-clause-few c = always_none c.from_residual.result _ (none_found c.args.me.now.places (sym c.in_err-h.ensures.value))

pub returns-in_err-g-clause-few : goal.returns-in_err-g-clause-few
returns-in_err-g-clause-few c =
    let second = ap (λ (m : Private). lowest_vacant m.places) (sym c.set_place.ensures) ∙ sym c.in_err-g.ensures.value in
    always_none c.from_residual-in_err-g.result _ (one_found c.args.me.now.places c.args.num c.in_ok-h.h second)

pub returns-clause-two : goal.returns-clause-two
returns-clause-two c =
    let second = ap (λ (m : Private). lowest_vacant m.places) (sym c.set_place.ensures) ∙ sym c.in_ok-g.ensures.value in
    two_found c.args.me.now.places c.args.num c.in_ok-h.h c.in_ok-g.g (sym c.in_ok-h.ensures.value) second
