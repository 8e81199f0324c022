use Rattle.std.proofs.Common.{not, rules}
use Rattle.std.proofs.lemmas.List.Sorted.{IsPartitionPoint-from_clause}
use Rattle.xc_buffers.specs.Sources.{source_of, is_before}
use Rattle.xc_buffers.proofs.Ordered.{parted_at, place_from}
use Rattle.xc_buffers.proofs.rows.place_of.Goals as goal

pub returns-clause-place : goal.returns-clause-place
returns-clause-place c =
    place_from c.args.source c.args.items.now _
    (IsPartitionPoint-from_clause (λ t. not (is_before (source_of t) c.args.source)) _ _ c.partition_point.ensures.partitioned
    (parted_at c.args.source c.args.items.now c.requires) (λ a r q k. search rules))
