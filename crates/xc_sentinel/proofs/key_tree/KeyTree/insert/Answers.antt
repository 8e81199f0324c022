use Rattle.std.proofs.Common.{ap, ◌∙◌}
use Rattle.std.proofs.lemmas.Cmp.{nat_cmp_total}
use Rattle.std.proofs.lemmas.Map.Lookups.{exact_unsigned}
use Rattle.std.specs.FinMap as map
use Rattle.xc_maps.proofs.Laws.{inserted}
use Rattle.xc_sentinel.proofs.key_tree.KeyTree.insert.Goals as goal

pub returns-clause-ok : goal.returns-clause-ok
returns-clause-ok c =
    inserted nat_cmp_total exact_unsigned c.self.inside.entries.entries c.insert.new.self.entries c.args.tx c.args.key c.in_ok-insert.ensures.updates.0
    ∙ ap (λ m. map.insert m c.args.tx c.args.key) c.self.view_is
