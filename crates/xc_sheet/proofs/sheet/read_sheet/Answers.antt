use Rattle.xc_sheet.proofs.EndReadings.{rendered_read}
use Rattle.xc_sheet.proofs.sheet.read_sheet.Goals as goal

pub returns-in-Ok-clause-printed : goal.returns-in-Ok-clause-printed
returns-in-Ok-clause-printed c = rendered_read c.args.text.now c.in-Ok.sheet.lines c.in-Ok.sheet.ending c.in-Ok.ensures.only
