use Rattle.std.proofs.Common.{ap, sym, ◌∙◌}
use Rattle.std.specs.FinMap as map
use Rattle.xc_maps.proofs.Maps.{num_total, num_exact, get-lookup, inserted}
use Rattle.xc_maps.proofs.num_map.NumMap.insert.Goals as goal

pub returns-in-Ok-clause-ok : goal.returns-in-Ok-clause-ok
returns-in-Ok-clause-ok g c =
    inserted num_total num_exact c.self.inside.entries.entries c.insert.new.self.entries c.args.num c.args.value c.in-Ok.ensures.updates.0
    ∙ ap (λ m. map.insert m c.args.num c.args.value) c.self.view_is

pub returns-clause-absent : goal.returns-clause-absent
returns-clause-absent g c =
    ap (λ m. map.get m c.args.num) (sym c.self.view_is) ∙ get-lookup num_total c.self.inside.entries.entries c.args.num ∙ c.in-Err.ensures.absent
