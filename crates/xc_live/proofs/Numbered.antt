-- Clients by their numbers, and turns of them one after another.
use Rattle.std.proofs.Common.{◌≡◌, ◌≢◌, ℕ, zero, suc, ◌-◌, ◌<◌, Bool, true, false, List, [], ◌∷◌, refl, ap, sym, ◌∙◌, subst, arith}
use Rattle.std.specs.Prelude.{Option, ◌==◌, is_some, slice_get, replicate, unwrap_or, if◌then◌else◌}
use Rattle.std.proofs.lemmas.Bool.{eqb-false, ne_eqb}
use Rattle.std.proofs.lemmas.Option.{slice_get-map}
use Rattle.std.specs.Option.{option_and_then, option_map}
use Rattle.std.specs.declared.option.Option.TheVariants.{None, Some}
use Rattle.xc_data.specs.declared.call.LateCall.{LateCall}
use Rattle.xc_data.specs.declared.entry.Turn.{Turn}
use Rattle.xc_data.specs.declared.undo.Undo.{Undo}
use Rattle.xc_host.specs.Model.{HostModel}
use Rattle.xc_model.specs.declared.phase.Phase.{Phase}
use Rattle.xc_model.specs.declared.phase.Phase.TheVariants.{Running, Committing, Undoing, Backing}
use Rattle.xc_model.specs.Moment.{TxView, JobView, Doing, Idle, Active, Starved, Ended, active_in, late_left}
use Rattle.xc_station.specs.HandedTold.{open_block_at, open_block_in}
use Rattle.xc_live.specs.Told.{tx_at}
use Rattle.xc_station.specs.Finishing.{phase_at, phase_in, told_at}
use Rattle.xc_station.specs.declared.job.Job.{Job}
use Rattle.xc_station.specs.Jobs.{back_stage, goes_on, is_live, job_view, job_views, late_stage, phase_stage, stage_of}
use Rattle.xc_station.specs.Stations.{HasTurned, IsStepOf, KeepsOpening, StationView, TakeTurns, live_at, lives, setting_of}

-- ---- what is told of a client
above_zero : (n : ℕ) → n ≢ 0 → 0 < n
above_zero zero some = absurd (some refl)
above_zero (suc n) some = omega arith

no_zero : (n : ℕ) → 0 < n → (n == 0) ≡ false
no_zero n some = ne_eqb n 0 (λ none. omega (arith, none, some))

-- is told of the job in its place
pub told_placed : {A : Type 0} (f : Doing → Option A) (jobs : List JobView) (client : ℕ) (job : JobView) → 0 < client
    → slice_get jobs (client - 1) ≡ Some job → told_at f jobs client ≡ f job.doing
told_placed f jobs client job some there =
    ap (λ (b : Bool). if b then None else option_and_then (λ (j : JobView). f j.doing) (slice_get jobs (client - 1))) (no_zero client some)
    ∙ ap (option_and_then (λ (j : JobView). f j.doing)) there

-- where it is told there is one
pub placed_of : {A : Type 0} (f : Doing → Option A) (jobs : List JobView) (client : ℕ) (a : A) → told_at f jobs client ≡ Some a
    → (0 < client) × (job : JobView) × (slice_get jobs (client - 1) ≡ Some job) × (f job.doing ≡ Some a)
placed_of f jobs client a e = by_test (client == 0) refl e
  where
    at_place : (o : Option JobView) → option_and_then (λ (job : JobView). f job.doing) o ≡ Some a
        → (job : JobView) × (o ≡ Some job) × (f job.doing ≡ Some a)
    at_place None e = cc e
    at_place (Some job) e = (job, refl, e)

    by_test : (b : Bool) → (client == 0) ≡ b
        → (if b then None else option_and_then (λ (job : JobView). f job.doing) (slice_get jobs (client - 1))) ≡ Some a
        → (0 < client) × (job : JobView) × (slice_get jobs (client - 1) ≡ Some job) × (f job.doing ≡ Some a)
    by_test true e is = cc is
    by_test false e is = let found = at_place (slice_get jobs (client - 1)) is in (above_zero client (eqb-false client 0 e), found.0, found.1, found.2)

-- an active one is that of what the job does
pub does_active : (d : Doing) (tx : TxView) → active_in d ≡ Some tx → d ≡ Active tx
does_active (Active u) tx e = let same : u ≡ tx = cc e in ap Active same
does_active Idle tx e = cc e
does_active Starved tx e = cc e
does_active (Ended end) tx e = cc e

-- whose phase is this
pub phase_told : (jobs : List JobView) (client : ℕ) (job : JobView) (tx : TxView) → 0 < client → slice_get jobs (client - 1) ≡ Some job
    → job.doing ≡ Active tx → phase_at jobs client ≡ Some tx.phase
phase_told jobs client job tx some there does = told_placed phase_in jobs client job some there ∙ ap phase_in does

-- and which is this
pub tx_told : (jobs : List JobView) (client : ℕ) (job : JobView) (tx : TxView) → 0 < client → slice_get jobs (client - 1) ≡ Some job
    → job.doing ≡ Active tx → tx_at jobs client ≡ Some tx
tx_told jobs client job tx some there does = told_placed active_in jobs client job some there ∙ ap active_in does

-- a client with an active one is there
pub tx_placed : (jobs : List JobView) (client : ℕ) (tx : TxView) → tx_at jobs client ≡ Some tx
    → (0 < client) × (job : JobView) × (slice_get jobs (client - 1) ≡ Some job) × (job.doing ≡ Active tx)
tx_placed jobs client tx e =
    let found = placed_of active_in jobs client tx e in (found.0, found.1, found.2, does_active found.1.doing tx found.3)

-- ---- who goes on
abbrev seen_lives : Option JobView → Bool
seen_lives None = false
seen_lives (Some job) = is_live job

lives_seen : (o : Option Job) → lives o ≡ seen_lives (option_map job_view o)
lives_seen None = refl
lives_seen (Some job) = refl

-- who is there lives where its job goes on
pub live_told : (jobs : List Job) (client : ℕ) (job : JobView) → 0 < client → slice_get (job_views jobs) (client - 1) ≡ Some job
    → live_at jobs client ≡ is_live job
live_told jobs client job some there =
    ap (λ (b : Bool). if b then false else lives (slice_get jobs (client - 1))) (no_zero client some)
    ∙ lives_seen (slice_get jobs (client - 1)) ∙ ap seen_lives (sym (slice_get-map job_view jobs (client - 1)))
    ∙ ap seen_lives there

seen_placed : (jobs : List Job) (at : ℕ) → seen_lives (slice_get (job_views jobs) at) ≡ true
    → (job : JobView) × (slice_get (job_views jobs) at ≡ Some job)
seen_placed jobs at live = go (slice_get (job_views jobs) at) live
  where
    go : (o : Option JobView) → seen_lives o ≡ true → (job : JobView) × (o ≡ Some job)
    go None e = cc e
    go (Some job) e = (job, refl)

-- who lives is there
pub live_placed : (jobs : List Job) (client : ℕ) → live_at jobs client ≡ true
    → (0 < client) × (job : JobView) × (slice_get (job_views jobs) (client - 1) ≡ Some job)
live_placed jobs client live = by_test (client == 0) refl live
  where
    by_test : (b : Bool) → (client == 0) ≡ b → (if b then false else lives (slice_get jobs (client - 1))) ≡ true
        → (0 < client) × (job : JobView) × (slice_get (job_views jobs) (client - 1) ≡ Some job)
    by_test true e is = cc is
    by_test false e is =
        let found = seen_placed jobs (client - 1)
        (ap seen_lives (slice_get-map job_view jobs (client - 1)) ∙ sym (lives_seen (slice_get jobs (client - 1))) ∙ is) in
        (above_zero client (eqb-false client 0 e), found.0, found.1)

-- where the same job stands in its place a client lives as before
pub live_as : (new old : List Job) (client : ℕ)
    → (0 < client → slice_get (job_views new) (client - 1) ≡ slice_get (job_views old) (client - 1)) → live_at new client ≡ live_at old client
live_as new old client same = by_test (client == 0) refl
  where
    one : (jobs : List Job) → lives (slice_get jobs (client - 1)) ≡ seen_lives (slice_get (job_views jobs) (client - 1))
    one jobs = lives_seen (slice_get jobs (client - 1)) ∙ ap seen_lives (sym (slice_get-map job_view jobs (client - 1)))

    by_test : (b : Bool) → (client == 0) ≡ b
        → (if b then false else lives (slice_get new (client - 1))) ≡ (if b then false else lives (slice_get old (client - 1)))
    by_test true is = refl
    by_test false is = one new ∙ ap seen_lives (same (above_zero client (eqb-false client 0 is))) ∙ sym (one old)

phase_lives : (tx : TxView) (p : Phase) → goes_on (phase_stage tx p) ≡ true
phase_lives tx Running = refl
phase_lives tx Backing = refl
phase_lives tx Committing = go (late_left tx)
  where
    go : (calls : List LateCall) → goes_on (late_stage calls) ≡ true
    go [] = refl
    go (c ∷ calls) = refl
phase_lives tx (Undoing c) = go tx.undo.pending
  where
    go : (pending : List Undo) → goes_on (back_stage pending) ≡ true
    go [] = refl
    go (u ∷ pending) = refl

-- one with an active transaction does
pub active_lives : (jobs : List Job) (client : ℕ) (job : JobView) (tx : TxView) → 0 < client
    → slice_get (job_views jobs) (client - 1) ≡ Some job → job.doing ≡ Active tx → live_at jobs client ≡ true
active_lives jobs client job tx some there does =
    live_told jobs client job some there ∙ ap (λ d. goes_on (stage_of d)) does ∙ phase_lives tx tx.phase

-- and so does one without, where it hasn't ended
pub doing_lives : (jobs : List Job) (client : ℕ) (job : JobView) (d : Doing) → 0 < client → slice_get (job_views jobs) (client - 1) ≡ Some job
    → job.doing ≡ d → goes_on (stage_of d) ≡ true → live_at jobs client ≡ true
doing_lives jobs client job d some there does goes = live_told jobs client job some there ∙ ap (λ e. goes_on (stage_of e)) does ∙ goes

-- ---- turns one after another
module _ {H : Type 0} (model : HostModel H) (client : ℕ) where
  -- one of a client that lives
  pub turn_taken : (answer : Turn) (old new : StationView H) → live_at old.jobs client ≡ true
      → HasTurned model client (record { old = old; new = new }) answer → TakeTurns model (replicate 1 client) old new
  turn_taken answer old new live turned =
      (new, subst (λ (b : Bool). IsStepOf model client (record { old = old; new = new }) b) (sym live) (answer, turned), refl)

  -- and more behind
  pub turns_taken : (n m : ℕ) (a b c : StationView H) → TakeTurns model (replicate n client) a b → TakeTurns model (replicate m client) b c
      → (k : ℕ) × TakeTurns model (replicate k client) a c
  turns_taken zero m a b c first more = (m, subst (λ s. TakeTurns model (replicate m client) s c) first more)
  turns_taken (suc n) m a b c first more =
      let rest = turns_taken n m first.0 b c first.2 more in (suc rest.0, (first.0, first.1, rest.1))

  -- by what a station is judged stays
  pub setting_kept : (old new : StationView H) → KeepsOpening old new → setting_of model new ≡ setting_of model old
  setting_kept old new kept = λ i. record { script = (kept.opening i).script; rules = kept.rules i; tells = model.tells }

  step_kept : (b : Bool) (old new : StationView H) → IsStepOf model client (record { old = old; new = new }) b
      → setting_of model new ≡ setting_of model old
  step_kept true old new step = setting_kept old new step.1.1
  step_kept false old new step = ap (λ (s : StationView H). setting_of model s) step

  -- also over several
  pub settings_kept : (n : ℕ) (old new : StationView H) → TakeTurns model (replicate n client) old new
      → setting_of model new ≡ setting_of model old
  settings_kept zero old new turns = ap (λ (s : StationView H). setting_of model s) turns
  settings_kept (suc n) old new turns =
      settings_kept n turns.0 new turns.2 ∙ step_kept (live_at old.jobs client) old turns.0 turns.1

-- ---- its open block
-- is told of it where it has a transaction
pub block_told : (jobs : List JobView) (client : ℕ) (tx : TxView) → tx_at jobs client ≡ Some tx → open_block_at jobs client ≡ is_some tx.saved
block_told jobs client tx begun =
    let found = tx_placed jobs client tx begun in
    ap (λ (o : Option Bool). unwrap_or o false) (told_placed open_block_in jobs client found.1 found.0 found.2 ∙ ap open_block_in found.3)

-- who is told a phase has a number
pub phase_placed : (jobs : List JobView) (client : ℕ) (phase : Phase) → phase_at jobs client ≡ Some phase → 0 < client
phase_placed jobs client phase told = (placed_of phase_in jobs client phase told).0

-- what is told to be there is there
pub some_told : {A : Type 0} (o : Option A) (b : Bool) → b ≡ is_some o → b ≡ true → (a : A) × (o ≡ Some a)
some_told None b is holds = let both : false ≡ true = sym is ∙ holds in cc both
some_told (Some a) b is holds = (a, refl)
