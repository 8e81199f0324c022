-- The blocks of started jobs, where one job changes.
use Rattle.xc_turns.proofs.Lists.{set_itself}
use Rattle.std.proofs.Common.{◌≡◌, ◌≢◌, ℕ, zero, suc, Bool, true, false, List, [], ◌∷◌, ◌++◌, refl, ap, ap₂, sym, ◌∙◌, arith, append-nil}
use Rattle.std.specs.Prelude.{Option, flat_map, is_some, map, slice_get, slice_set}
use Rattle.std.specs.List.{cons_option, list_any}
use Rattle.std.specs.declared.option.Option.TheVariants.{None, Some}
use Rattle.std.proofs.lemmas.Bool.{or_parts}
use Rattle.xc_data.specs.declared.call.LateCall.{LateCall}
use Rattle.xc_data.specs.declared.call.LateEnd.{LateEnd}
use Rattle.xc_data.specs.declared.call.LateEnd.TheVariants as end
use Rattle.xc_data.specs.Calls.{thread_in}
use Rattle.xc_text.specs.declared.script.Script.{Script}
use Rattle.xc_model.specs.LateCalls.{started_late, started_with}
use Rattle.xc_model.specs.Movers.{IsActiveAt}
use Rattle.xc_model.specs.Entering.{started_job}
use Rattle.xc_model.specs.Moment.{TxView, JobView, active_of, actives}
use Rattle.xc_model.specs.Started.{blocks, is_start, keeps_start, started_by}

-- ---- of one transaction
-- what it has started, where there is one
abbrev pub started_of : Option TxView → List (List ℕ)
started_of None = []
started_of (Some tx) = started_by tx

-- a call without a block starts none
pub no_thread : (e : LateEnd) → started_with None e ≡ []
no_thread end.Done = refl
no_thread end.Shut = refl
no_thread end.NoName = refl
no_thread end.NoScript = refl
no_thread (end.Full n) = refl
no_thread (end.Fault n) = refl
no_thread (end.NoMemory n) = refl

not_started : (o : Option (List ℕ)) (e : LateEnd) → is_some o ≡ false → started_with o e ≡ []
not_started None e none = no_thread e
not_started (Some block) e none = cc none

none_kept : (late : List LateCall) (ends : List LateEnd) → list_any is_start late ≡ false → started_late late ends ≡ []
none_kept [] ends none = refl
none_kept (c ∷ late) [] none = refl
none_kept (c ∷ late) (e ∷ ends) none =
    let parts = or_parts (is_start c) (list_any is_start late) none in
    ap₂ (λ a b. a ++ b) (not_started (thread_in c) e parts.0) (none_kept late ends parts.1)

-- one that keeps no start has started none
pub keeps_none : (tx : TxView) → keeps_start tx ≡ false → started_by tx ≡ []
keeps_none tx none = none_kept tx.late tx.ends none

-- so one that has started some keeps one
pub started_keeps : (tx : TxView) → started_by tx ≢ [] → keeps_start tx ≡ true
started_keeps tx some = by_test (keeps_start tx) refl
  where
    by_test : (b : Bool) → keeps_start tx ≡ b → keeps_start tx ≡ true
    by_test true e = e
    by_test false e = absurd (some (keeps_none tx e))

-- ---- of all
-- what active transactions have started
abbrev pub all_started : List JobView → List (List ℕ)
all_started jobs = flat_map started_by (actives jobs)

started_first : (o : Option TxView) (txs : List TxView) → flat_map started_by (cons_option o txs) ≡ started_of o ++ flat_map started_by txs
started_first None txs = refl
started_first (Some tx) txs = refl

none_in : (o : Option TxView) → ((tx : TxView) → o ≡ Some tx → started_by tx ≡ []) → started_of o ≡ []
none_in None none = refl
none_in (Some tx) none = none tx refl

-- where none has started any there are none
pub none_started_any : (jobs : List JobView) → ((j : ℕ) (tx : TxView) → IsActiveAt jobs j tx → started_by tx ≡ []) → all_started jobs ≡ []
none_started_any [] none = refl
none_started_any (job ∷ jobs) none =
    started_first (active_of job) (actives jobs)
    ∙ ap₂ (λ a b. a ++ b) (none_in (active_of job) (λ tx e. none 0 tx (job, refl, e)))
    (none_started_any jobs (λ j tx (there, at, has). none (suc j) tx (there, at, has)))

-- where no other has, they are those of the job that is set
pub only_here : (jobs : List JobView) (at : ℕ) (job job' : JobView) → slice_get jobs at ≡ Some job
    → ((j : ℕ) (u : TxView) → j ≢ at → IsActiveAt jobs j u → started_by u ≡ []) → all_started (slice_set jobs at job') ≡ started_of (active_of job')
only_here [] at job job' stands others = cc
only_here (x ∷ jobs) zero job job' stands others =
    started_first (active_of job') (actives jobs)
    ∙ ap (λ bs. started_of (active_of job') ++ bs)
    (none_started_any jobs (λ j u (there, at, has). others (suc j) u (λ e. omega (arith, e)) (there, at, has)))
    ∙ append-nil (started_of (active_of job'))
only_here (x ∷ jobs) (suc at) job job' stands others =
    started_first (active_of x) (actives (slice_set jobs at job'))
    ∙ ap₂ (λ a b. a ++ b) (none_in (active_of x) (λ u e. others 0 u (λ z. omega (arith, z)) (x, refl, e)))
    (only_here jobs at job job' stands (λ j u ne (there, is, has). others (suc j) u (λ e. ne (omega (arith, e))) (there, is, has)))

-- where it is the job that stands there already, all are its own
pub only_there : (jobs : List JobView) (at : ℕ) (job : JobView) → slice_get jobs at ≡ Some job
    → ((j : ℕ) (u : TxView) → j ≢ at → IsActiveAt jobs j u → started_by u ≡ []) → all_started jobs ≡ started_of (active_of job)
only_there jobs at job stands others = sym (ap all_started (set_itself jobs at job stands)) ∙ only_here jobs at job job stands others

-- where the job that is set has started as the one before, they stay
pub same_started : (jobs : List JobView) (at : ℕ) (job job' : JobView) → slice_get jobs at ≡ Some job
    → started_of (active_of job') ≡ started_of (active_of job) → all_started (slice_set jobs at job') ≡ all_started jobs
same_started [] at job job' stands same = cc
same_started (x ∷ jobs) zero job job' stands same =
    let here : x ≡ job = cc in
    started_first (active_of job') (actives jobs)
    ∙ ap (λ bs. bs ++ all_started jobs) (same ∙ sym (ap (λ (y : JobView). started_of (active_of y)) here))
    ∙ sym (started_first (active_of x) (actives jobs))
same_started (x ∷ jobs) (suc at) job job' stands same =
    started_first (active_of x) (actives (slice_set jobs at job'))
    ∙ ap (λ bs. started_of (active_of x) ++ bs) (same_started jobs at job job' stands same)
    ∙ sym (started_first (active_of x) (actives jobs))

-- ---- blocks
-- a job of the same block in another's place
pub blocks_set : (jobs : List JobView) (at : ℕ) (job job' : JobView) → slice_get jobs at ≡ Some job → job'.block ≡ job.block
    → blocks (slice_set jobs at job') ≡ blocks jobs
blocks_set [] at job job' stands same = cc
blocks_set (x ∷ jobs) zero job job' stands same =
    let here : x ≡ job = cc in ap (λ b. b ∷ blocks jobs) (same ∙ sym (ap (λ (y : JobView). y.block) here))
blocks_set (x ∷ jobs) (suc at) job job' stands same = ap (λ bs. x.block ∷ bs) (blocks_set jobs at job job' stands same)

-- jobs of these blocks
pub started_job_blocks : (script : Script) (starter : JobView) (names : List (List ℕ)) → blocks (map (started_job script starter) names) ≡ names
started_job_blocks script starter [] = refl
started_job_blocks script starter (name ∷ names) = ap (λ bs. name ∷ bs) (started_job_blocks script starter names)
