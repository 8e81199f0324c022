use Rattle.std.proofs.Common.{◌≡◌, Bool, true, subst}
use Rattle.std.specs.Prelude.{is_some}
use Rattle.xc_script.specs.Blocks.{ask_fits}
use Rattle.xc_model.specs.Live.{asked_by}
use Rattle.xc_station.proofs.running.step_running.Goals as goal

pub step_scripted-requires-clause-fits : goal.step_scripted-requires-clause-fits
step_scripted-requires-clause-fits g c =
    subst (λ (b : Bool). ask_fits (is_some c.args.tx.now.saved) (asked_by b c.args.script.now c.args.handed.now c.args.place.now) ≡ true)
    c.if-script.false c.requires.fits

pub step_client-requires-clause-fits : goal.step_client-requires-clause-fits
step_client-requires-clause-fits g c =
    subst (λ (b : Bool). ask_fits (is_some c.args.tx.now.saved) (asked_by b c.args.script.now c.args.handed.now c.args.place.now) ≡ true)
    c.if-script.true c.requires.fits
