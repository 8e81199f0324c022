-- Sums over active transactions, and counts of faults one after another.
use Rattle.std.proofs.Common.{◌≡◌, ℕ, ◌+◌, Bool, true, false, Option, Some, None, List, ◌++◌, ap, ◌∙◌, arith, cond}
use Rattle.std.specs.Prelude.{slice_get, slice_set, sum_by}
use Rattle.std.specs.List.{cons_option}
use Rattle.std.proofs.lemmas.List.Sums.{sum_by-append, sum_by-cons}
use Rattle.xc_data.specs.Counts.{CountsFault, RisesBy}
use Rattle.xc_model.specs.Moment.{TxView, JobView, active_of, actives}
use Rattle.xc_turns.proofs.Lists.{around}

-- ---- sums
-- what one adds, where there is one
abbrev pub adds : (TxView → ℕ) → Option TxView → ℕ
adds f None = 0
adds f (Some tx) = f tx

sum_front : (f : TxView → ℕ) (o : Option TxView) (txs : List TxView) → sum_by f (cons_option o txs) ≡ adds f o + sum_by f txs
sum_front f None txs = omega arith
sum_front f (Some tx) txs = sum_by-cons f tx txs

-- where one job is set its part goes, and the new one's comes
pub sum_set : (f : TxView → ℕ) (jobs : List JobView) (at : ℕ) (job job' : JobView) → slice_get jobs at ≡ Some job
    → sum_by f (actives (slice_set jobs at job')) + adds f (active_of job) ≡ sum_by f (actives jobs) + adds f (active_of job')
sum_set f jobs at job job' stands =
    let here = around active_of jobs at job stands in
    let split : (o : Option TxView) → sum_by f (here.front ++ cons_option o here.back) ≡ sum_by f here.front + (adds f o + sum_by f here.back) =
    λ o. sum_by-append f here.front (cons_option o here.back) ∙ ap (λ n. sum_by f here.front + n) (sum_front f o here.back) in
    let was = ap (sum_by f) here.was ∙ split (active_of job) in
    let is = ap (sum_by f) (here.is job') ∙ split (active_of job') in
    omega (arith, was, is)

-- ---- counts
-- one that may be a fault, as a number of them
pub fault_as_count : (f : Bool) (b c : ℕ) → CountsFault f b c → RisesBy (cond f 1 0) b c
fault_as_count true b c h = h
fault_as_count false b c h = h
