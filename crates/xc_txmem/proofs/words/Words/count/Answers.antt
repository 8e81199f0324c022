use Rattle.std.proofs.Common.{rules, ◌∙◌, sym}
use Rattle.xc_txmem.proofs.Overlays.{overlay_count}
use Rattle.xc_txmem.proofs.words.Words.count.Goals as goal

pub returns-clause-overlaid : goal.returns-clause-overlaid
returns-clause-overlaid c = λ stores. overlay_count c.args.self.now stores ∙ sym (search rules)
