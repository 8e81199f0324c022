use Rattle.std.proofs.Common.{length, ◌<◌, ◌≤◌, arith, sym, subst}
use Rattle.std.specs.Prelude.{reverse, List}
use Rattle.xc_data.specs.declared.entry.KeptItem.{KeptItem}
use Rattle.xc_buffers.specs.Changes.{TakesBytes}
use Rattle.xc_buffers.specs.Items.{AreKept, item_bytes}
use Rattle.xc_buffers.specs.declared.source.Endpoint.TheVariants.{Pipe}
use Rattle.xc_buffers.proofs.Takes.{took_whole, took_kept, part_taken, rest_kept}
use Rattle.xc_buffers.proofs.rows.take_bytes.Goals as goal

pub returns-then-len-n-clause-some : goal.returns-then-len-n-clause-some
returns-then-len-n-clause-some c =
    let took = took_whole c.args.items.now.items c.args.at c.remove.result c.remove.ensures.value c.requires.kept c.args.pipe c.requires.first in
    subst (λ bytes. 1 ≤ length bytes) (sym c.into_chunk.ensures) took.0

pub returns-then-len-n-clause-taken : goal.returns-then-len-n-clause-taken
returns-then-len-n-clause-taken c =
    let took = took_whole c.args.items.now.items c.args.at c.remove.result c.remove.ensures.value c.requires.kept c.args.pipe c.requires.first in
    subst (λ bytes. TakesBytes c.args.pipe bytes (reverse c.args.items.now.items) (reverse c.remove.new.self.items)) (sym c.into_chunk.ensures)
    (subst (λ (next : List KeptItem). TakesBytes c.args.pipe (item_bytes c.remove.result) (reverse c.args.items.now.items) (reverse next))
    (sym c.remove.ensures.items) took.1)

pub returns-then-len-n-clause-kept : goal.returns-then-len-n-clause-kept
returns-then-len-n-clause-kept c =
    subst (λ (next : List KeptItem). AreKept (reverse next)) (sym c.remove.ensures.items)
    (took_kept c.args.items.now.items c.args.at c.remove.result c.remove.ensures.value c.requires.kept (Pipe c.args.pipe) c.requires.first)

pub returns-clause-taken : goal.returns-clause-taken
returns-clause-taken c =
    let more : c.args.n < length c.chunk_of-bytes.result.now = omega (arith, c.len.ensures.value, c.if-len-n.false) in
    part_taken c.args.items.now.items c.args.at c.args.pipe c.args.n c.len-2.result c.index.result.now c.chunk_of-bytes.result.now c.in_ok-front.front
    c.in_ok-rest.rest
    c.index.ensures c.chunk_of-bytes.ensures more c.requires.kept c.requires.first c.len-2.ensures.value c.in_ok-front.ensures c.in_ok-rest.ensures

pub returns-clause-kept : goal.returns-clause-kept
returns-clause-kept c =
    let more : c.args.n < length c.chunk_of-bytes.result.now = omega (arith, c.len.ensures.value, c.if-len-n.false) in
    rest_kept c.args.items.now.items c.args.at c.args.pipe c.args.n c.len-2.result c.index.result.now c.chunk_of-bytes.result.now c.in_ok-front.front
    c.in_ok-rest.rest
    c.index.ensures c.chunk_of-bytes.ensures more c.requires.kept c.requires.first c.len-2.ensures.value c.in_ok-front.ensures c.in_ok-rest.ensures
