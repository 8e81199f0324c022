use Rattle.std.proofs.Common.{sym, ◌∙◌}
use Rattle.xc_data.specs.declared.script.HostCallKind.TheVariants as kind
use Rattle.xc_memhost.specs.Faults.{is_line_of}
use Rattle.xc_memhost.proofs.Listed.{any_first, any_second}
use Rattle.xc_memhost.proofs.faults.Faults.lists.Goals as goal

pub returns-then-of_kind : goal.returns-then-of_kind
returns-then-of_kind c =
    any_first (is_line_of c.args.kind c.args.number) (is_line_of kind.Any c.args.all) c.args.self.now _ c.if-of_kind.true c.of_kind.ensures

pub returns-else-of_kind : goal.returns-else-of_kind
returns-else-of_kind c =
    any_second (is_line_of c.args.kind c.args.number) (is_line_of kind.Any c.args.all) c.args.self.now _ (sym c.of_kind.ensures ∙ c.if-of_kind.false)
    c.of_kind-else-of_kind.ensures
