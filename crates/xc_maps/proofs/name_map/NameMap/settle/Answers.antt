use Rattle.std.proofs.Common.{◌++◌, ◌∙◌}
use Rattle.std.specs.Cmp.Lexicographic.{nat_list_cmp_total}
use Rattle.std.proofs.lemmas.Map.Lookups.{exact_bytes}
use Rattle.xc_maps.proofs.Maps.{alike_map}
use Rattle.xc_maps.proofs.name_map.NameMap.settle.Goals as goal

pub returns : goal.returns
returns g c =
    alike_map nat_list_cmp_total exact_bytes (c.self.inside.moved.items ++ c.self.inside.entries.entries)
    (c.put_away.new.moved.items ++ c.put_away.new.entries.entries) c.put_away.ensures.same
    ∙ c.self.view_is
