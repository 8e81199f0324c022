use Rattle.std.proofs.Common.{◌++◌, Some, sym, ap, ◌∙◌}
use Rattle.std.specs.Prelude.{slice_get}
use Rattle.std.specs.BTreeMap.{is_at}
use Rattle.std.specs.Map.{lookup}
use Rattle.std.specs.FinMap as map
use Rattle.std.proofs.lemmas.Option.{get_or_from_slice_get}
use Rattle.std.specs.Cmp.Lexicographic.{nat_list_cmp_total}
use Rattle.std.proofs.lemmas.Map.Lookups.{exact_bytes}
use Rattle.xc_maps.specs.Keys.{name_cmp}
use Rattle.xc_maps.proofs.Maps.{get-lookup}
use Rattle.xc_maps.proofs.Moved.{tree_behind, found_outside}
use Rattle.xc_maps.proofs.name_map.NameMap.get.Goals as goal

pub returns-in-Some : goal.returns-in-Some
returns-in-Some g c =
    let p = c.in-Some.ensures.found in
    let s = ap (λ es. slice_get es c.in-Some.at) (sym c.as_slice.ensures.value) ∙ p.1 in
    let e = c.index.ensures ∙ get_or_from_slice_get c.self.inside.moved.items c.in-Some.at (c.args.name, p.0) c.index.result.now s in
    ap (λ d. Some d.1) e
    ∙ sym (found_outside nat_list_cmp_total exact_bytes c.self.inside.moved.items c.self.inside.entries.entries c.in-Some.at c.args.name p.0
    c.self.invariant.fresh s)
    ∙ sym (get-lookup nat_list_cmp_total (c.self.inside.moved.items ++ c.self.inside.entries.entries) c.args.name)
    ∙ ap (λ m. map.get m c.args.name) c.self.view_is

pub returns-in-None : goal.returns-in-None
returns-in-None g c =
    let none = ap (lookup (is_at (name_cmp c.args.name))) (sym c.as_slice.ensures.value) ∙ c.in-None.ensures.none in
    c.get.ensures.value
    ∙ sym (tree_behind nat_list_cmp_total exact_bytes c.self.inside.moved.items c.self.inside.entries.entries c.args.name none)
    ∙ sym (get-lookup nat_list_cmp_total (c.self.inside.moved.items ++ c.self.inside.entries.entries) c.args.name)
    ∙ ap (λ m. map.get m c.args.name) c.self.view_is
