use Rattle.std.proofs.Common.{◌≡◌, ◌++◌, ap, ◌∙◌, subst, append_assoc}
use Rattle.std.specs.Prelude.{codes, OnOk}
use Rattle.std.specs.Fmt.{decimal}
use Rattle.xc_print.proofs.Pieces.{four_labelled}
use Rattle.xc_print.proofs.rendering.push_totals.Goals as goal

pub returns : goal.returns
returns g c =
    let out = g.P.Paper.said c.args.out.now in
    let totals = c.args.totals in
    let one = codes "total " ++ decimal totals.committed in
    let two = codes " committed, " ++ decimal totals.aborted in
    let three = codes " aborted, " ++ decimal totals.faults in
    let four = codes " faults, " ++ decimal totals.remains in
    let end = codes " remains\n" in
    let numbers : g.P.Paper.said c.push_labelled_wide-2.new.out ≡ out ++ one ++ two ++ three ++ four =
    c.in_ok-push_labelled_wide-2.ensures
    ∙ ap (λ bs. bs ++ four) (c.in_ok-push_labelled_wide.ensures
    ∙ ap (λ bs. bs ++ three) (c.in_ok-labelled-2.ensures
    ∙ ap (λ bs. bs ++ two) c.in_ok-labelled.ensures)) in
    let line = four_labelled out (codes "total ") (decimal totals.committed) (codes " committed, ") (decimal totals.aborted)
    (codes " aborted, ") (decimal totals.faults) (codes " faults, ") (decimal totals.remains) in
    let all = codes "total " ++ decimal totals.committed ++ codes " committed, " ++ decimal totals.aborted
    ++ codes " aborted, " ++ decimal totals.faults ++ codes " faults, " ++ decimal totals.remains in
    subst (λ bs. OnOk c.text.result (g.P.Paper.said c.text.new.self ≡ bs))
    (ap (λ bs. bs ++ end) (numbers ∙ line) ∙ append_assoc out all end) c.text.ensures
