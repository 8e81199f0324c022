use Rattle.std.proofs.Common.{ap, sym, ◌∙◌, is_some}
use Rattle.std.specs.FinMap as map
use Rattle.xc_maps.proofs.Maps.{num_total, num_exact, get-lookup, inserted}
use Rattle.xc_maps.proofs.num_map.NumMap.replace.Goals as goal

pub returns-in-Ok-clause-value : goal.returns-in-Ok-clause-value
returns-in-Ok-clause-value g c =
    c.in-Ok.ensures.old ∙ sym (get-lookup num_total c.self.inside.entries.entries c.args.num)
    ∙ ap (λ m. map.get m c.args.num) c.self.view_is

pub returns-in-Ok-clause-replaced : goal.returns-in-Ok-clause-replaced
returns-in-Ok-clause-replaced g c =
    inserted num_total num_exact c.self.inside.entries.entries c.insert.new.self.entries c.args.num c.args.value c.in-Ok.ensures.updates.0
    ∙ ap (λ m. map.insert m c.args.num c.args.value) c.self.view_is

pub returns-clause-value : goal.returns-clause-value
returns-clause-value g c =
    sym (ap (λ m. map.get m c.args.num) (sym c.self.view_is) ∙ get-lookup num_total c.self.inside.entries.entries c.args.num ∙ c.in-Err.ensures.absent)

-- the number is there
pub returns-clause-replaced : goal.returns-clause-replaced
returns-clause-replaced g c =
    let none =
    ap (λ m. map.get m c.args.num) (sym c.self.view_is) ∙ get-lookup num_total c.self.inside.entries.entries c.args.num ∙ c.in-Err.ensures.absent in
    let no = sym c.requires.there ∙ ap is_some none in
    absurd (cc)
