use Rattle.std.proofs.Common.{ap, sym, ◌∙◌}
use Rattle.std.specs.Option.{option_and_then}
use Rattle.xc_coop.specs.Options.{coop_chosen_given}
use Rattle.xc_coop.proofs.options.coop_settings.Goals as goal

pub returns-in-Some-clause-ok : goal.returns-in-Some-clause-ok
returns-in-Some-clause-ok c = ap (option_and_then coop_chosen_given) c.in_ok-matches.ensures.ok ∙ sym c.in-Some.ensures.value

pub returns-clause-usage : goal.returns-clause-usage
returns-clause-usage c usage = ap (option_and_then coop_chosen_given) c.in_ok-matches.ensures.ok ∙ sym c.in-None.ensures.value
