use Rattle.std.proofs.Common.{ap, sym, ◌∙◌}
use Rattle.std.specs.Cmp.Lexicographic.{nat_list_cmp_total}
use Rattle.std.proofs.lemmas.Map.Lookups.{exact_bytes}
use Rattle.std.specs.FinMap as map
use Rattle.xc_maps.proofs.Maps.{get-lookup, removed, insert_undone}
use Rattle.xc_maps.proofs.ident_map.IdentMap.remove.Goals as goal

pub returns-clause-value : goal.returns-clause-value
returns-clause-value g c =
    c.remove.ensures.value ∙ sym (get-lookup nat_list_cmp_total c.self.inside.entries.entries c.args.ident)
    ∙ ap (λ m. map.get m c.args.ident) c.self.view_is

pub returns-clause-removed : goal.returns-clause-removed
returns-clause-removed g c =
    removed nat_list_cmp_total exact_bytes c.self.inside.entries.entries c.remove.new.self.entries c.args.ident c.remove.ensures.updates.0
    ∙ ap (λ m. map.remove m c.args.ident) c.self.view_is

pub returns-clause-undone : goal.returns-clause-undone
returns-clause-undone g c m x none e =
    removed nat_list_cmp_total exact_bytes c.self.inside.entries.entries c.remove.new.self.entries c.args.ident c.remove.ensures.updates.0
    ∙ ap (λ m. map.remove m c.args.ident) (c.self.view_is ∙ e) ∙ insert_undone nat_list_cmp_total exact_bytes m c.args.ident x none
