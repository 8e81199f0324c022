use Rattle.std.proofs.Common.{length, ◌≤◌, sym, subst}
use Rattle.std.specs.Prelude.{reverse, List}
use Rattle.xc_data.specs.declared.entry.KeptItem.{KeptItem}
use Rattle.xc_buffers.specs.Changes.{TakesMessage}
use Rattle.xc_buffers.specs.Items.{AreKept, item_bytes}
use Rattle.xc_buffers.specs.declared.source.Endpoint.TheVariants.{Side}
use Rattle.xc_buffers.proofs.Takes.{took_message, took_kept}
use Rattle.xc_buffers.proofs.rows.take_message.Goals as goal

pub returns-clause-short : goal.returns-clause-short
returns-clause-short c =
    let took = took_message c.args.items.now.items c.args.at c.remove.result c.remove.ensures.value c.requires.kept c.args.pair c.args.side c.requires.first in
    subst (λ bytes. length bytes ≤ 1024) (sym c.into_chunk.ensures) took.0

pub returns-clause-taken : goal.returns-clause-taken
returns-clause-taken c =
    let took = took_message c.args.items.now.items c.args.at c.remove.result c.remove.ensures.value c.requires.kept c.args.pair c.args.side c.requires.first in
    subst (λ bytes. TakesMessage c.args.pair c.args.side bytes (reverse c.args.items.now.items) (reverse c.remove.new.self.items)) (sym c.into_chunk.ensures)
    (subst (λ (next : List KeptItem). TakesMessage c.args.pair c.args.side (item_bytes c.remove.result) (reverse c.args.items.now.items) (reverse next))
    (sym c.remove.ensures.items) took.1)

pub returns-clause-kept : goal.returns-clause-kept
returns-clause-kept c =
    subst (λ (next : List KeptItem). AreKept (reverse next)) (sym c.remove.ensures.items)
    (took_kept c.args.items.now.items c.args.at c.remove.result c.remove.ensures.value c.requires.kept (Side c.args.pair c.args.side) c.requires.first)
