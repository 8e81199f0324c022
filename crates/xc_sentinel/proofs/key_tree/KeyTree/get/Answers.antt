use Rattle.std.proofs.Common.{ap, sym, ◌∙◌}
use Rattle.std.proofs.lemmas.Cmp.{nat_cmp_total}
use Rattle.std.specs.FinMap as map
use Rattle.xc_maps.proofs.Laws.{get-lookup}
use Rattle.xc_sentinel.proofs.key_tree.KeyTree.get.Goals as goal

pub returns : goal.returns
returns c =
    c.copied.ensures ∙ c.get.ensures.value ∙ sym (get-lookup nat_cmp_total c.self.inside.entries.entries c.args.tx)
    ∙ ap (λ m. map.get m c.args.tx) c.self.view_is
