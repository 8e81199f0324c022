use Rattle.std.proofs.Common.{◌-◌, ◌^◌, ℕ, min, length, ap, sym, ◌∙◌}
use Rattle.std.specs.List.{sum_by}
use Rattle.std.specs.Prelude.{List}
use Rattle.xc_data.specs.declared.entry.KeptItem.{KeptItem}
use Rattle.xc_data.specs.declared.object.Object.{Object}
use Rattle.xc_buffers.specs.Items.{item_bytes, items_from, kept_bytes, kept_count, kept_messages}
use Rattle.xc_buffers.specs.Views.{KeptView}
use Rattle.xc_buffers.specs.declared.source.Endpoint.TheVariants.{Pipe, Side}
use Rattle.xc_buffers.proofs.Takes.{bytes_count, messages_count}
use Rattle.xc_buffers.proofs.kept.Kept.held.Goals as goal

pub returns-in-Pipe-clause-value : goal.returns-in-Pipe-clause-value
returns-in-Pipe-clause-value c =
    let size : KeptItem → ℕ = λ t. length (item_bytes t) in
    let pipe = c.in-Pipe.pipe in
    c.total_of.ensures ∙ ap (λ n. min n (2 ^ 32 - 1))
    (ap (sum_by size) c.part_of.ensures ∙ ap (λ (items : List KeptItem). sum_by size (items_from (Pipe pipe) items)) c.deref.ensures.value
    ∙ sym (bytes_count pipe c.self.inside.items.items) ∙ ap (λ (k : KeptView). length (kept_bytes pipe k.items)) c.self.view_is
    ∙ ap (λ (o : Object). kept_count o c.args.side c.args.self.now.items) (sym c.in-Pipe.is))

pub returns-in-Pair-clause-value : goal.returns-in-Pair-clause-value
returns-in-Pair-clause-value c =
    let pair = c.in-Pair.pair in
    c.capped.ensures ∙ ap (λ n. min n (2 ^ 32 - 1))
    (ap (λ (items : List KeptItem). length items) c.part_of-in-Pair.ensures
    ∙ ap (λ (items : List KeptItem). length (items_from (Side pair c.args.side) items)) c.deref-in-Pair.ensures.value
    ∙ sym (messages_count pair c.args.side c.self.inside.items.items)
    ∙ ap (λ (k : KeptView). length (kept_messages pair c.args.side k.items)) c.self.view_is
    ∙ ap (λ (o : Object). kept_count o c.args.side c.args.self.now.items) (sym c.in-Pair.is))
