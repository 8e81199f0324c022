use Rattle.std.proofs.Common.{◌≡◌, false, [], take, refl, ap, sym, ◌∙◌, subst, arith}
use Rattle.std.proofs.lemmas.List.{take_all}
use Rattle.std.specs.Prelude.{List}
use Rattle.xc_data.specs.declared.entry.KeptItem.{KeptItem}
use Rattle.xc_buffers.specs.Items.{keeps_from, kept_bytes}
use Rattle.xc_buffers.specs.Views.{KeptView}
use Rattle.xc_buffers.specs.declared.source.Endpoint.TheVariants.{Pipe}
use Rattle.xc_buffers.proofs.Takes.{none_bytes}
use Rattle.xc_buffers.proofs.kept.Kept.take_front.Goals as goal

pub returns-in-None-clause-ok : goal.returns-in-None-clause-ok
returns-in-None-clause-ok c =
    let stored = c.self.inside.items.items in
    let none = subst (λ (items : List KeptItem). keeps_from (Pipe c.args.pipe) items ≡ false) c.deref.ensures.value c.in-None.ensures in (
      ap (λ (k : KeptView). take c.args.n (kept_bytes c.args.pipe k.items)) (sym c.self.view_is) ∙ ap (take c.args.n) (none_bytes c.args.pipe stored none)
          ∙ take_all c.args.n [] (omega arith),
      refl,
    )
