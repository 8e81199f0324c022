use Rattle.std.proofs.Common.{◌≡◌, false, refl, ap, sym, ◌∙◌, subst}
use Rattle.std.specs.Prelude.{List}
use Rattle.xc_data.specs.declared.entry.KeptItem.{KeptItem}
use Rattle.xc_buffers.specs.Items.{keeps_from, kept_messages}
use Rattle.xc_buffers.specs.Views.{KeptView}
use Rattle.xc_buffers.specs.declared.source.Endpoint.TheVariants.{Side}
use Rattle.xc_buffers.proofs.Takes.{none_messages}
use Rattle.xc_buffers.proofs.kept.Kept.take_msg.Goals as goal

pub returns-in-None-clause-found : goal.returns-in-None-clause-found
returns-in-None-clause-found c =
    let none = subst (λ (items : List KeptItem). keeps_from (Side c.args.pair c.args.side) items ≡ false) c.deref.ensures.value c.in-None.ensures in (
      ap (λ (k : KeptView). kept_messages c.args.pair c.args.side k.items) (sym c.self.view_is)
          ∙ none_messages c.args.pair c.args.side c.self.inside.items.items none,
      refl,
    )
