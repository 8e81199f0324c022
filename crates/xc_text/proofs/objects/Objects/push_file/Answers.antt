use Rattle.std.proofs.Common.{◌∙◌}
use Rattle.xc_text.proofs.FilesByName.{one_name_more, pipes_stay, pairs_stay}
use Rattle.xc_text.proofs.objects.Objects.push_file.Goals as goal

pub invariant_of-self-in-Ok : goal.invariant_of-self-in-Ok
invariant_of-self-in-Ok c =
    rw (c.in_ok-insert.ensures.ok, c.in-Ok.ensures.ok) (
      one_name_more c.self.inside.names c.self.inside.objects c.args.name c.args.bytes c.self.invariant.0,
      c.self.invariant.1 ∙ pipes_stay c.self.inside.objects c.args.name c.args.bytes,
      c.self.invariant.2 ∙ pairs_stay c.self.inside.objects c.args.name c.args.bytes,
    )
