use Rattle.std.proofs.Common.{ap, sym, ◌∙◌}
use Rattle.std.specs.FinMap as map
use Rattle.xc_maps.proofs.Maps.{num_total, get-lookup}
use Rattle.xc_maps.proofs.num_map.NumMap.get.Goals as goal

pub returns : goal.returns
returns g c =
    c.get.ensures.value ∙ sym (get-lookup num_total c.self.inside.entries.entries c.args.num)
    ∙ ap (λ m. map.get m c.args.num) c.self.view_is
