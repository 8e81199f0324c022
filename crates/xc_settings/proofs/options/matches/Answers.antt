use Rattle.xc_settings.proofs.Parsed.{has_numbers}
use Rattle.xc_settings.proofs.options.matches.Goals as goal

pub returns-in-Ok-try_get_matches_from-clause-numbers : goal.returns-in-Ok-try_get_matches_from-clause-numbers
returns-in-Ok-try_get_matches_from-clause-numbers c =
    has_numbers c.in-Ok.command c.in-Ok-try_get_matches_from.matches c.in-Ok.ensures c.in-Ok-try_get_matches_from.ensures.parsed
