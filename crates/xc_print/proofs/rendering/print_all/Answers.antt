use Rattle.std.proofs.Common.{ℕ, List, subst}
use Rattle.std.specs.Prelude.{OnErr}
use Rattle.xc_edge.specs.Streams.{AppendsPart}
use Rattle.xc_edge.specs.View.{StreamView}
use Rattle.xc_print.specs.Text.{rendered}
use Rattle.xc_print.proofs.Sheets.{heading_behind}
use Rattle.xc_print.proofs.rendering.print_all.Goals as goal

pub returns-clause-part : goal.returns-clause-part
returns-clause-part g c =
    let told = g.K.Sink.told in
    let was = c.args.sheet.now in
    let now = c.push_text.new.out in
    let end = told c.close.new.self.sink.now in
    let text = rendered c.args.journal.now c.args.jobs.now c.args.words.now c.args.kept.now in
    let same = heading_behind was.sink.ghost_name now.sink.ghost_name (told was.start.value) (told now.start.value) was.said.bytes now.said.bytes text
    c.in-Ok.ensures c.requires.empty in
    subst (λ (v : StreamView). OnErr c.close.result (AppendsPart v end text)) same.1
    (subst (λ (t : List ℕ). OnErr c.close.result (AppendsPart (told now.start.value) end t)) same.2 c.close.ensures.part)
