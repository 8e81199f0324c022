use Rattle.std.proofs.Common.{◌≡◌, true, rules, arith, sym, ap, ◌∙◌}
use Rattle.std.specs.List.{list_all}
use Rattle.std.specs.Option.{option_and_then}
use Rattle.xc_tokens.specs.Numbers.{is_digit}
use Rattle.xc_settings.specs.Options.{within, number_in}
use Rattle.xc_settings.proofs.Numerals.{number_in-parsed, number_in-inside, number_in-outside}
use Rattle.xc_settings.proofs.values.number.Goals as goal
use Rattle.xc_settings.proofs.values.number.Goals.{After-ok}

as_read : (c : After-ok) → number_in c.args.most c.args.text.now ≡ option_and_then (within c.args.most) c.ok.result
as_read c =
    let digits : list_all is_digit c.args.text.now ≡ true = search rules in
    number_in-parsed c.args.most c.args.text.now c.parse.result c.parse.ensures.value.0 (omega arith) digits (omega arith)
    ∙ ap (option_and_then (within c.args.most)) (sym c.ok.ensures.value)

pub returns-in_err-number : goal.returns-in_err-number
returns-in_err-number c =
    let same = as_read (goal.at.returns-in_err-number c).After-ok in
    c.from_residual.ensures ∙ sym (same ∙ ap (option_and_then (within c.args.most)) (c.in_err-number.was))

pub returns-then-number-eq0 : goal.returns-then-number-eq0
returns-then-number-eq0 c =
    number_in-outside _ c.args.text.now _ _ (as_read (goal.at.returns-then-number-eq0 c).After-ok) c.in_ok-number.was c.then-number-eq0.either

pub returns : goal.returns
returns c =
    number_in-inside _ c.args.text.now _ _ (as_read (goal.at.returns c).After-ok) c.in_ok-number.was c.if-number-eq0.false c.if-number-most.false
