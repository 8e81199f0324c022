-- What a client has handed in, beside its job's transaction.
use Rattle.std.specs.Prelude.{Option, if◌then◌else◌}
use Rattle.std.specs.declared.option.Option.TheVariants.{Some}
use Rattle.xc_data.specs.declared.call.Call.{Call}
use Rattle.xc_text.specs.declared.script.Script.{Script}
use Rattle.xc_script.specs.declared.ask.Ask.{Ask}
use Rattle.xc_script.specs.declared.ask.Ask.TheVariants as ask
use Rattle.xc_script.specs.Position.{Position}
use Rattle.xc_model.specs.Moment.{TxView, JobView, Active}

-- ---- what is handed in while a call is tried
-- a client's call stays handed in where it isn't done; of a script what was handed in is as it was
abbrev pub handed_back : Script → Option Ask → Call → Option Ask
handed_back script handed call = if script.clients then Some (ask.Call call) else handed

-- the job with its transaction like this, at this place, and with this handed in
abbrev pub handed_tx : JobView → Option Ask → Position → TxView → JobView
handed_tx job handed place tx = record job { place = place; handed = handed; doing = Active tx }
