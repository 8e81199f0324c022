use Rattle.std.proofs.Common.{ap, sym, ◌∙◌}
use Rattle.std.specs.Cmp.Lexicographic.{nat_list_cmp_total}
use Rattle.std.proofs.lemmas.Map.Lookups.{exact_bytes}
use Rattle.std.specs.FinMap as map
use Rattle.xc_maps.proofs.Maps.{get-lookup, inserted}
use Rattle.xc_maps.proofs.ident_map.IdentMap.insert.Goals as goal

pub returns-in-Ok-clause-ok : goal.returns-in-Ok-clause-ok
returns-in-Ok-clause-ok g c =
    inserted nat_list_cmp_total exact_bytes c.self.inside.entries.entries c.insert.new.self.entries c.args.ident c.args.value c.in-Ok.ensures.updates.0
    ∙ ap (λ m. map.insert m c.args.ident c.args.value) c.self.view_is

pub returns-clause-absent : goal.returns-clause-absent
returns-clause-absent g c =
    ap (λ m. map.get m c.args.ident) (sym c.self.view_is) ∙ get-lookup nat_list_cmp_total c.self.inside.entries.entries c.args.ident ∙ c.in-Err.ensures.absent
