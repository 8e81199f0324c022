use Rattle.std.proofs.Common.{ap, sym, ◌∙◌}
use Rattle.std.specs.FinMap as map
use Rattle.xc_maps.proofs.Maps.{num_total, num_exact, get-lookup, removed, insert_undone}
use Rattle.xc_maps.proofs.num_map.NumMap.remove.Goals as goal

pub returns-clause-value : goal.returns-clause-value
returns-clause-value g c =
    c.remove.ensures.value ∙ sym (get-lookup num_total c.self.inside.entries.entries c.args.num)
    ∙ ap (λ m. map.get m c.args.num) c.self.view_is

pub returns-clause-removed : goal.returns-clause-removed
returns-clause-removed g c =
    removed num_total num_exact c.self.inside.entries.entries c.remove.new.self.entries c.args.num c.remove.ensures.updates.0
    ∙ ap (λ m. map.remove m c.args.num) c.self.view_is

pub returns-clause-undone : goal.returns-clause-undone
returns-clause-undone g c m x none e =
    removed num_total num_exact c.self.inside.entries.entries c.remove.new.self.entries c.args.num c.remove.ensures.updates.0
    ∙ ap (λ m. map.remove m c.args.num) (c.self.view_is ∙ e) ∙ insert_undone num_total num_exact m c.args.num x none
