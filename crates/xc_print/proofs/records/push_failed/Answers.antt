use Rattle.std.proofs.Common.{◌≡◌, ◌++◌, ap, ◌∙◌, subst}
use Rattle.std.specs.Prelude.{codes, OnOk}
use Rattle.std.specs.Fmt.{decimal}
use Rattle.xc_print.proofs.Pieces.{two_labelled}
use Rattle.xc_print.proofs.records.push_failed.Goals as goal

pub returns : goal.returns
returns g c =
    let restored = codes "failed restored " in
    let faults = codes " faults " in
    let first = c.in_ok-labelled.ensures in
    subst (λ bs. OnOk c.labelled-2.result (g.P.Paper.said c.labelled-2.new.self ≡ bs))
    (ap (λ bs. bs ++ (faults ++ decimal c.args.faults)) first
    ∙ two_labelled (g.P.Paper.said c.args.out.now) restored (decimal c.args.done) faults (decimal c.args.faults))
    c.labelled-2.ensures
