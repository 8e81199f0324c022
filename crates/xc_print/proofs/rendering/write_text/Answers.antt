use Rattle.std.proofs.Common.{ap, rules}
use Rattle.xc_print.specs.Text.{rendered}
use Rattle.xc_print.proofs.Sheets.{part_of_same}
use Rattle.xc_print.proofs.rendering.write_text.Goals as goal

pub returns-clause-part : goal.returns-clause-part
returns-clause-part g c =
    let told = g.K.Sink.told in
    let now = c.print_all-written.new.sheet in
    let text = rendered c.args.journal.now c.args.jobs.now c.args.words.now c.args.kept.now in
    part_of_same c.print_all-written.result (told c.args.sink.now) (told c.new-sheet.result.start.value) (told c.sink-1.given.0) (told now.sink.now) text
    (ap told c.new-sheet.ensures.start.0) (search rules) c.print_all-written.ensures.part
