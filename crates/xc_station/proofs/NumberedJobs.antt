-- The job whose active transaction has a number is the only one, so the first is that one.
use Rattle.std.proofs.Common.{◌≡◌, ℕ, zero, suc, ◌+◌, Bool, true, false, cond, List, [], ◌∷◌, refl, ap, sym, ◌∙◌, arith}
use Rattle.std.specs.Prelude.{Option, slice_get}
use Rattle.std.specs.List.{position, position_from}
use Rattle.std.specs.declared.option.Option.TheVariants.{Some}
use Rattle.std.proofs.lemmas.Bool.{eqb-true, eq-eqb}
use Rattle.std.proofs.lemmas.Iterator.Adapters.{position_from-zero}
use Rattle.xc_data.proofs.Laws.{get_map}
use Rattle.xc_model.specs.Moment.{TxView, Doing, Idle, Active, Starved, Ended, active_in, active_of}
use Rattle.xc_model.specs.Movers.{IsActiveAt}
use Rattle.xc_station.specs.HandedTold.{is_numbered}
use Rattle.xc_station.specs.Jobs.{doing_of, job_view, job_views}
use Rattle.xc_station.specs.Moments.{AreSingle}
use Rattle.xc_station.specs.declared.job.Job.{Job}
use Rattle.xc_station.proofs.HandedIn.{job_there}

-- ---- the first that passes a test is the only one
after_failed : (b : Bool) (i at : ℕ) (o : Option ℕ) → (b ≡ true → ⊥) → o ≡ Some (i + 1 + at) → cond b (Some i) o ≡ Some (i + suc at)
after_failed true i at o fails rest = absurd (fails refl)
after_failed false i at o fails rest = let next : i + 1 + at ≡ i + suc at = omega arith in rest ∙ ap Some next

only_from : {X : Type 0} (test : X → Bool) (i : ℕ) (xs : List X) (at : ℕ) (x : X) → slice_get xs at ≡ Some x → test x ≡ true
    → ((j : ℕ) (y : X) → slice_get xs j ≡ Some y → test y ≡ true → j ≡ at) → position_from test i xs ≡ Some (i + at)
only_from test i [] at x there passes only = cc there
only_from test i (z ∷ zs) zero x there passes only =
    let is : z ≡ x = cc there in
    let same : i ≡ i + 0 = omega arith in
    ap (λ b. cond b (Some i) (position_from test (i + 1) zs)) (ap test is ∙ passes) ∙ ap Some same
only_from test i (z ∷ zs) (suc at) x there passes only =
    after_failed (test z) i at (position_from test (i + 1) zs) (λ first. let none : 0 ≡ suc at = only 0 z refl first in cc none)
    (only_from test (i + 1) zs at x there passes
    (λ j y here also. let next : suc j ≡ suc at = only (suc j) y here also in omega (arith, next)))

-- ---- an active transaction of this number
doing_numbered : (d : Doing) (number : ℕ) → is_numbered number d ≡ true → (tx : TxView) × (active_in d ≡ Some tx) × (tx.number ≡ number)
doing_numbered Idle number is = cc is
doing_numbered (Active tx) number is = (tx, refl, eqb-true tx.number number is)
doing_numbered Starved number is = cc is
doing_numbered (Ended end) number is = cc is

numbered_doing : (d : Doing) (number : ℕ) (tx : TxView) → active_in d ≡ Some tx → tx.number ≡ number → is_numbered number d ≡ true
numbered_doing Idle number tx active is = cc active
numbered_doing (Active u) number tx active is =
    let same : u ≡ tx = cc active in eq-eqb u.number number (ap (λ (t : TxView). t.number) same ∙ is)
numbered_doing Starved number tx active is = cc active
numbered_doing (Ended end) number tx active is = cc active

-- where the numbers differ, the first job whose active transaction has this one is the only one
pub numbered_there : (jobs : List Job) (number : ℕ) (o : Option ℕ) → AreSingle (job_views jobs)
    → o ≡ position (λ (job : Job). is_numbered number (doing_of job)) jobs → (at : ℕ) (tx : TxView) → IsActiveAt (job_views jobs) at tx
    → tx.number ≡ number → o ≡ Some at
numbered_there jobs number o single first at tx active is =
    let test : Job → Bool = λ job. is_numbered number (doing_of job) in
    let f = job_there jobs at active.0 active.1 in
    let there = get_map job_view jobs at f.0 f.1 in
    let seen : active.0 ≡ job_view f.0 = let e = active.1 in cc (e, there) in
    let same : 0 + at ≡ at = omega arith in
    let passes = numbered_doing (doing_of f.0) number tx (ap active_of (sym seen) ∙ active.2) is in
    first ∙ position_from-zero test jobs
    ∙ only_from test 0 jobs at f.0 f.1 passes
    (λ j job here also.
    let u = doing_numbered (doing_of job) number also in
    single j at u.0 tx (job_view job, get_map job_view jobs j job here, u.1) active (u.2 ∙ sym is))
    ∙ ap Some same
