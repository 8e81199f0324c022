use Rattle.std.proofs.Common.{ap, sym, ◌∙◌}
use Rattle.std.proofs.lemmas.Cmp.{nat_cmp_total}
use Rattle.std.proofs.lemmas.Map.Lookups.{exact_unsigned}
use Rattle.std.specs.FinMap as map
use Rattle.xc_maps.proofs.Laws.{get-lookup, removed}
use Rattle.xc_sentinel.proofs.key_tree.KeyTree.remove.Goals as goal

pub returns-clause-value : goal.returns-clause-value
returns-clause-value c =
    c.remove.ensures.value ∙ sym (get-lookup nat_cmp_total c.self.inside.entries.entries c.args.tx) ∙ ap (λ m. map.get m c.args.tx) c.self.view_is

pub returns-clause-removed : goal.returns-clause-removed
returns-clause-removed c =
    removed nat_cmp_total exact_unsigned c.self.inside.entries.entries c.remove.new.self.entries c.args.tx c.remove.ensures.updates.0
    ∙ ap (λ m. map.remove m c.args.tx) c.self.view_is
