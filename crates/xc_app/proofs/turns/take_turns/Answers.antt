use Rattle.std.proofs.Common.{rules, ◌≡◌, ℕ, List, Option, IfSome, Some, subst, sym}
use Rattle.xc_app.specs.Parts.{TakeListed}
use Rattle.xc_app.proofs.turns.take_turns.Goals as goal

pub returns-in-Some-clause-listed : goal.returns-in-Some-clause-listed
returns-in-Some-clause-listed g c =
    let given : c.args.chosen.now.schedule ≡ Some c.as_slice.result.now = search rules in
    subst (λ (schedule : Option (List ℕ)). IfSome schedule (λ jobs. TakeListed g.H.Host.model jobs c.args.station c.take_listed.result))
    (sym given) c.take_listed.ensures.listed
