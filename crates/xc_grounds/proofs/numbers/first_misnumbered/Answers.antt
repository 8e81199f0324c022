use Rattle.std.proofs.Common.{length}
use Rattle.xc_grounds.proofs.Numbering.{all_numbered, wrong_in_number, wrong_in_order}
use Rattle.xc_grounds.proofs.numbers.first_misnumbered.Goals as goal

pub returns-in-Some : goal.returns-in-Some
returns-in-Some c =
    let begins = c.args.begins.now in
    wrong_in_order begins (length begins) _ c.enter_all-entered.result c.in-Some.place _ c.enter_all-entered.ensures c.in_ok-places.ensures.count
    c.in-Some.ensures

pub returns-then-entered-begins : goal.returns-then-entered-begins
returns-then-entered-begins c =
    let begins = c.args.begins.now in
    wrong_in_number begins (length begins) _ c.enter_all-entered.result _ c.enter_all-entered.ensures c.in_ok-places.ensures.count c.if-entered-begins.true
    c.in_default.ensures

pub returns : goal.returns
returns c =
    let begins = c.args.begins.now in
    all_numbered begins (length begins) _ c.enter_all-entered.result _ c.enter_all-entered.ensures c.in_ok-places.ensures.count c.if-entered-begins.false
    c.in_default.ensures
