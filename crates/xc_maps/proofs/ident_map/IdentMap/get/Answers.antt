use Rattle.std.proofs.Common.{ap, sym, ◌∙◌}
use Rattle.std.specs.Cmp.Lexicographic.{nat_list_cmp_total}
use Rattle.std.specs.FinMap as map
use Rattle.xc_maps.proofs.Maps.{get-lookup}
use Rattle.xc_maps.proofs.ident_map.IdentMap.get.Goals as goal

pub returns : goal.returns
returns g c =
    c.get.ensures.value ∙ sym (get-lookup nat_list_cmp_total c.self.inside.entries.entries c.args.ident)
    ∙ ap (λ m. map.get m c.args.ident) c.self.view_is
