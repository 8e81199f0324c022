use Rattle.xc_sheet.proofs.PrintedLaws.{line_found, line_has, line_only}
use Rattle.xc_sheet.proofs.printed.printed_line.Goals as goal

pub returns-clause-found : goal.returns-clause-found
returns-clause-found c = line_found c.compared.result _ c.args.text.now c.compared.ensures

pub returns-clause-some : goal.returns-clause-some
returns-clause-some c = line_has c.compared.result _ c.args.text.now c.compared.ensures

pub returns-clause-only : goal.returns-clause-only
returns-clause-only c = line_only c.compared.result _ c.args.text.now c.compared.ensures
