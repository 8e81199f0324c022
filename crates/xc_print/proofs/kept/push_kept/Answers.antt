use Rattle.std.proofs.Common.{◌+◌, ◌∙◌, drop, rules}
use Rattle.std.proofs.lemmas.List.{drop_more}
use Rattle.xc_print.proofs.Joins.{goes_by}
use Rattle.xc_print.proofs.kept.push_kept.Goals as goal

pub loop-item-preserved : goal.loop-item-preserved
loop-item-preserved g c =
    let at = c.loop-item.item-index in
    let items = c.args.items.now in
    let said = g.P.Paper.said in
    goes_by (said c.loop-item.out) (said c.push_item.new.out) c.loop-item.opened c.opened_by-opened.result c.item-item.result (drop at items)
    (drop (at + 1) items)
    (search rules) c.opened_by-opened.ensures (search (rules, drop_more)) ∙ c.loop-item.invariant
