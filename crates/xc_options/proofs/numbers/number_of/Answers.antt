use Rattle.std.proofs.Common.{arith, sym, ◌∙◌}
use Rattle.xc_options.proofs.Numerals.{number_between-inside, number_in-unread}
use Rattle.xc_options.proofs.numbers.number_of.Goals as goal

pub returns-in_err-number-clause-value : goal.returns-in_err-number-clause-value
returns-in_err-number-clause-value c =
    c.from_residual.ensures
    ∙ sym (number_in-unread c.args.least c.args.most c.args.text.now c.parse.result c.parse.ensures.value.0 (sym c.ok.ensures.value ∙ c.in_err-number.was)
    (omega arith))

pub returns-clause-value : goal.returns-clause-value
returns-clause-value c =
    sym (number_between-inside c.args.least c.args.most c.args.text.now c.parse.result c.parse.ensures.value.0 c.in_ok-number.number
    (sym c.ok.ensures.value ∙ c.in_ok-number.was) (omega (arith, c.if-number-least.false)) (omega (arith, c.if-number-most.false)))
