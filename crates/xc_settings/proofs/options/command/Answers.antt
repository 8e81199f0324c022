use Rattle.std.proofs.Common.{rules, ◌≡◌, false, ap₂, ◌∙◌}
use Rattle.std.proofs.lemmas.Result.{IfOk-weaker}
use Rattle.clap.specs.Built.{AddsArg}
use Rattle.clap.specs.Simple.{App, app_of, with_rule}
use Rattle.clap.specs.Walk.{Rule, rule_of}
use Rattle.clap.specs.declared.builder.arg.Arg.{Arg}
use Rattle.clap.specs.declared.builder.command.Command.{Command}
use Rattle.xc_settings.specs.Options.{bare_command, workers_rule, schedule_rule, attempts_rule, patience_rule, undo_tries_rule, seed_rule}
use Rattle.xc_settings.proofs.options.command.Goals as goal

-- one option more
with_option : {old : Command} {a : Arg} (app : App) (rule : Rule) (new : Command) → app_of old ≡ app → a.global ≡ false → rule_of a ≡ rule
    → AddsArg old a new → app_of new ≡ with_rule app rule
with_option app rule new is local of adds = adds.shape local ∙ ap₂ with_rule is of

pub returns : goal.returns
returns c =
    let bare : app_of c.disable_version_flag.result ≡ bare_command = search rules in
    let one = with_option bare_command workers_rule _ bare c.number_option-workers.ensures.local (search rules) c.in_ok-arg.ensures in
    let two = with_option _ schedule_rule _ one c.text_option-schedule.ensures.local (search rules) c.in_ok-arg-2.ensures in
    let three = with_option _ attempts_rule _ two c.number_option-attempts.ensures.local (search rules) c.in_ok-arg-3.ensures in
    let four = with_option _ patience_rule _ three c.number_option-patience.ensures.local (search rules) c.in_ok-arg-4.ensures in
    let five = with_option _ undo_tries_rule _ four c.number_option-undo_tries.ensures.local (search rules) c.in_ok-arg-5.ensures in
    IfOk-weaker c.arg-6.result _ _
    (λ made adds. with_option _ seed_rule made five c.number_option-seed.ensures.local (search rules) adds) c.arg-6.ensures
