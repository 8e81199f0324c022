use Rattle.std.proofs.Common.{◌++◌, None, sym, ap, ◌∙◌, subst}
use Rattle.std.specs.BTreeMap.{is_at}
use Rattle.std.specs.Map.{lookup}
use Rattle.std.specs.Cmp.Lexicographic.{nat_list_cmp_total}
use Rattle.std.proofs.lemmas.Map.Lookups.{exact_bytes}
use Rattle.xc_maps.specs.Keys.{name_cmp}
use Rattle.xc_maps.specs.Moved.{AreNew}
use Rattle.xc_maps.proofs.Moved.{tree_behind, found_outside, cut_at, tree_changed, fresh_cut, fresh_changed}
use Rattle.xc_maps.proofs.aside.take.Goals as goal

pub returns-in-Some-clause-value : goal.returns-in-Some-clause-value
returns-in-Some-clause-value g c =
    let p = c.in-Some.ensures.some in
    sym (found_outside nat_list_cmp_total exact_bytes c.args.moved.now.items c.args.entries.now.entries p.0 c.args.name c.in-Some.value c.requires p.1)

pub returns-in-Some-clause-taken : goal.returns-in-Some-clause-taken
returns-in-Some-clause-taken g c = λ q.
    let p = c.in-Some.ensures.some in
    ap (λ es. lookup (is_at (name_cmp q)) (es ++ c.args.entries.now.entries)) p.2
    ∙ cut_at nat_list_cmp_total exact_bytes c.args.moved.now.items c.args.entries.now.entries p.0 c.args.name c.in-Some.value c.requires p.1 q

pub returns-in-Some-clause-fresh : goal.returns-in-Some-clause-fresh
returns-in-Some-clause-fresh g c =
    let p = c.in-Some.ensures.some in
    subst (λ es. AreNew name_cmp es c.args.entries.now.entries) (sym p.2)
    (fresh_cut nat_list_cmp_total exact_bytes c.args.moved.now.items c.args.entries.now.entries p.0 c.args.name c.in-Some.value c.requires p.1)

pub returns-in-None-clause-value : goal.returns-in-None-clause-value
returns-in-None-clause-value g c =
    c.remove.ensures.value
    ∙ sym (tree_behind nat_list_cmp_total exact_bytes c.args.moved.now.items c.args.entries.now.entries c.args.name c.in-None.ensures.none)

pub returns-in-None-clause-taken : goal.returns-in-None-clause-taken
returns-in-None-clause-taken g c = λ q.
    ap (λ es. lookup (is_at (name_cmp q)) (es ++ c.remove.new.self.entries)) c.in-None.ensures.unchanged
    ∙ tree_changed nat_list_cmp_total exact_bytes c.args.moved.now.items c.args.entries.now.entries c.remove.new.self.entries c.args.name None
    c.in-None.ensures.none c.remove.ensures.updates.0 q

pub returns-in-None-clause-fresh : goal.returns-in-None-clause-fresh
returns-in-None-clause-fresh g c =
    subst (λ es. AreNew name_cmp es c.remove.new.self.entries) (sym c.in-None.ensures.unchanged)
    (fresh_changed nat_list_cmp_total exact_bytes c.args.moved.now.items c.args.entries.now.entries c.remove.new.self.entries c.args.name None
    c.in-None.ensures.none c.remove.ensures.updates.0 c.requires)
