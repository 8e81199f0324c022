use Rattle.std.proofs.Common.{rules, map, string_bytes}
use Rattle.clap.specs.Simple.{app_of}
use Rattle.xc_options.proofs.Choices.{given_by-matches}
use Rattle.xc_options.proofs.commands.read_words.Goals as goal

pub returns-in-Ok-clause-ok : goal.returns-in-Ok-clause-ok
returns-in-Ok-clause-ok c =
    given_by-matches (app_of c.args.command) (map string_bytes c.args.words.now) c.in-Ok.matches c.requires.simple (search rules)
    c.in-Ok.ensures.matches
