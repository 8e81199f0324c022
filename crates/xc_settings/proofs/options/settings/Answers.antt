use Rattle.std.proofs.Common.{rules, map, string_bytes, codes, ap, ◌∙◌, Some}
use Rattle.clap.specs.Matches.{first_value, found_of}
use Rattle.clap.specs.Simple.{matches_of}
use Rattle.xc_settings.specs.Options.{command, number_or, seed_in}
use Rattle.xc_settings.proofs.Bounds.{schedule_in-bounds}
use Rattle.xc_settings.proofs.Choices.{first_value-words, settings_of-matches, chosen_in-list, chosen_in-none, chosen_read}
use Rattle.xc_settings.proofs.options.settings.Goals as goal

pub returns-in_err-schedule-clause-usage : goal.returns-in_err-schedule-clause-usage
returns-in_err-schedule-clause-usage c usage =
    let words = map string_bytes c.args.words.now in
    let found = c.in_ok-matches.ensures in
    settings_of-matches words found.ok
    ∙ chosen_in-none (matches_of command words) _ (first_value-words words c.in_ok-matches.matches (codes "schedule") found.matches)
    (c.in_err-schedule.ensures.usage (search rules))

pub returns-clause-ok : goal.returns-clause-ok
returns-clause-ok c =
    let words = map string_bytes c.args.words.now in
    let found = c.in_ok-matches.ensures in
    let rows = matches_of command words in
    let given = first_value-words words c.in_ok-matches.matches in
    settings_of-matches words found.ok
    ∙ chosen_in-list rows _ c.in_ok-schedule.schedule (given (codes "schedule") found.matches) c.in_ok-schedule.ensures.ok
    ∙ ap Some (chosen_read rows c.in_ok-schedule.schedule _ _ _ _ _ (c.number.ensures.value ∙ ap (number_or 4) (given (codes "workers") found.matches))
    (c.number-attempts.ensures.value ∙ ap (number_or 100) (given (codes "attempts") found.matches))
    (c.number-patience.ensures.value ∙ ap (number_or 10000) (given (codes "patience") found.matches))
    (c.number-undo_tries.ensures.value ∙ ap (number_or 3) (given (codes "undo-tries") found.matches))
    (c.seed.ensures ∙ ap seed_in (given (codes "seed") found.matches)))

pub returns-clause-bounds : goal.returns-clause-bounds
returns-clause-bounds c =
    record {
      workers = c.number.ensures.bounds;
      schedule = schedule_in-bounds (first_value (found_of c.in_ok-matches.matches) (codes "schedule")) _ c.in_ok-schedule.ensures.ok;
      rules = record {
        attempts = c.number-attempts.ensures.bounds;
        patience = c.number-patience.ensures.bounds.1;
        undo_tries = c.number-undo_tries.ensures.bounds;
      };
    }
