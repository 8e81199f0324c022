use Rattle.std.proofs.Common.{◌++◌, sym, ap, ◌∙◌, subst}
use Rattle.std.specs.BTreeMap.{is_at}
use Rattle.std.specs.Map.{lookup}
use Rattle.std.specs.Cmp.Lexicographic.{nat_list_cmp_total}
use Rattle.std.proofs.lemmas.Map.Lookups.{exact_bytes}
use Rattle.xc_maps.specs.Keys.{name_cmp}
use Rattle.xc_maps.specs.Moved.{AreNew}
use Rattle.xc_maps.proofs.Moved.{away_at, fresh_away}
use Rattle.xc_maps.proofs.aside.put_one_away.Goals as goal

pub returns-in-Ok-clause-same : goal.returns-in-Ok-clause-same
returns-in-Ok-clause-same g c = λ q.
    away_at nat_list_cmp_total exact_bytes c.pop.new.self.items c.args.entries.now.entries c.insert.new.self.entries c.in-Some.last.0 c.in-Some.last.1
    c.in-Ok.ensures.updates.0 q
    ∙ ap (λ es. lookup (is_at (name_cmp q)) (es ++ c.args.entries.now.entries)) (sym c.in-Some.ensures.items)

pub returns-in-Ok-clause-fresh : goal.returns-in-Ok-clause-fresh
returns-in-Ok-clause-fresh g c =
    fresh_away nat_list_cmp_total exact_bytes c.pop.new.self.items c.args.entries.now.entries c.insert.new.self.entries c.in-Some.last.0 c.in-Some.last.1
    c.in-Ok.ensures.updates.0 (subst (λ es. AreNew name_cmp es c.args.entries.now.entries) c.in-Some.ensures.items c.requires)
