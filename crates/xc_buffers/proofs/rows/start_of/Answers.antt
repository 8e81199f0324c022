use Rattle.std.proofs.Common.{rules}
use Rattle.std.proofs.lemmas.List.Sorted.{IsPartitionPoint-from_clause}
use Rattle.xc_buffers.specs.Sources.{source_of, is_before}
use Rattle.xc_buffers.proofs.Ordered.{parted_start}
use Rattle.xc_buffers.proofs.rows.start_of.Goals as goal

pub returns-clause-start : goal.returns-clause-start
returns-clause-start c =
    IsPartitionPoint-from_clause (λ t. is_before c.args.source (source_of t)) _ _ c.partition_point.ensures.partitioned
    (parted_start c.args.source c.args.items.now c.requires) (λ a r q k. search rules)
