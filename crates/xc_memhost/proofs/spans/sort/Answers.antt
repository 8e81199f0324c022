use Rattle.std.proofs.Common.{rules, sym}
use Rattle.std.proofs.lemmas.List.Sorted.{IsNonDecreasingBy-from_sort_by_key, list_any-IsPermutation}
use Rattle.xc_memhost.specs.Faults.{is_fault_within}
use Rattle.xc_memhost.proofs.spans.sort.Goals as goal

pub returns-clause-rising : goal.returns-clause-rising
returns-clause-rising c =
    IsNonDecreasingBy-from_sort_by_key (λ line. line.first) _ c.sort_unstable_by_key.ensures.sorted (λ a r q k. search rules)

pub returns-clause-same : goal.returns-clause-same
returns-clause-same c = λ n. sym (list_any-IsPermutation (λ line. is_fault_within line n) _ _ c.sort_unstable_by_key.ensures.permutation)
