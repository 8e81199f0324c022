use Rattle.std.proofs.Common.{◌≡◌, not, length, count_by, sum_by, ◌∙◌, arith}
use Rattle.std.proofs.lemmas.List.{at_drop_all}
use Rattle.xc_shown.specs.declared.shown.Shown.{Shown}
use Rattle.xc_tail.specs.ShownTotals.{faults_shown, is_committed_shown}
use Rattle.xc_tail.proofs.Counting.{totals_shown_alike}
use Rattle.xc_tail.proofs.totals.totals_of_shown.Goals as goal

pub returns : goal.returns
returns c = λ journal is.
    let l = c.loop-shown in
    let entries = c.args.entries.now in
    let past = c.loop-shown-test.false in
    let none_committed = at_drop_all (count_by is_committed_shown) entries l.shown-index past in
    let none_aborted = at_drop_all (count_by (λ (shown : Shown). not (is_committed_shown shown))) entries l.shown-index past in
    let no_faults = at_drop_all (sum_by faults_shown) entries l.shown-index past in
    let none_remain = at_drop_all (sum_by (λ (shown : Shown). length shown.effects)) entries l.shown-index past in
    let committed : l.committed ≡ count_by is_committed_shown entries = omega (arith, none_committed, l.invariant.committed) in
    let aborted : l.aborted ≡ count_by (λ (shown : Shown). not (is_committed_shown shown)) entries = omega (arith, none_aborted, l.invariant.aborted) in
    let faults : l.faults ≡ sum_by faults_shown entries = omega (arith, no_faults, l.invariant.faults) in
    let remains : l.remains ≡ sum_by (λ (shown : Shown). length shown.effects) entries = omega (arith, none_remain, l.invariant.remains) in
    (λ i. record { committed = committed i; aborted = aborted i; faults = faults i; remains = remains i }) ∙ totals_shown_alike journal entries is
