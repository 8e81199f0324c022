use Rattle.std.proofs.Common.{leb, ◌-◌, get_or, sym, ap, ◌∙◌, subst, rules}
use Rattle.std.proofs.lemmas.Bool.{le-ltb}
use Rattle.std.proofs.lemmas.List.Sorted.{IsPartitionPoint-from_clause, IsPartitionedBy-leb}
use Rattle.xc_memhost.specs.Spans.{AreDisjoint}
use Rattle.xc_memhost.specs.Faults.{any_within}
use Rattle.xc_memhost.proofs.Listed.{rising_from_apart, lists_none, lists_last}
use Rattle.xc_memhost.proofs.spans.Spans.contains.Goals as goal

pub returns-then-behind-gt0 : goal.returns-then-behind-gt0
returns-then-behind-gt0 c =
    let apart = subst AreDisjoint (sym c.deref.ensures.value) c.self.invariant in
    let parted = IsPartitionedBy-leb (λ line. line.first) _ c.args.number (rising_from_apart _ apart) in
    let point =
    IsPartitionPoint-from_clause (λ line. leb line.first c.args.number) _ _ c.partition_point-behind.ensures.partitioned parted (λ a r q k. search rules) in
    let d = c.index.result.now in
    let last =
    lists_last c.args.number c.deref.result.now c.partition_point-behind.result d apart point c.if-behind-gt0.true c.partition_point-behind.ensures.bound in
    ap (λ line. leb c.args.number line.last) c.index.ensures
    ∙ ap (λ lines. leb c.args.number (get_or lines (c.partition_point-behind.result - 1) d).last) (sym c.deref.ensures.value)
    ∙ sym last ∙ ap (any_within c.args.number) (c.deref.ensures.value ∙ c.self.view_is)

pub returns-else-behind-gt0 : goal.returns-else-behind-gt0
returns-else-behind-gt0 c =
    let apart = subst AreDisjoint (sym c.deref.ensures.value) c.self.invariant in
    let parted = IsPartitionedBy-leb (λ line. line.first) _ c.args.number (rising_from_apart _ apart) in
    let point =
    IsPartitionPoint-from_clause (λ line. leb line.first c.args.number) _ _ c.partition_point-behind.ensures.partitioned parted (λ a r q k. search rules) in
    le-ltb _ _ c.if-behind-gt0.false
    ∙ sym (lists_none c.args.number c.deref.result.now c.partition_point-behind.result point c.if-behind-gt0.false)
    ∙ ap (any_within c.args.number) (c.deref.ensures.value ∙ c.self.view_is)
