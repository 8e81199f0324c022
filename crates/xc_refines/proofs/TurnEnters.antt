-- The entry of an active transaction keeps all flights.
use Rattle.std.proofs.Common.{◌≡◌, ◌≢◌, ℕ, inl, inr, List, [], ◌++◌, length, refl, ap, sym, ◌∙◌, subst, Some, None}
use Rattle.std.specs.Prelude.{map, slice_get, slice_set}
use Rattle.xc_data.specs.Step.{Step}
use Rattle.xc_data.specs.declared.claim.Claim.{Claim}
use Rattle.xc_data.specs.declared.entry.Cause.TheVariants as cause
use Rattle.xc_data.specs.declared.object.Object.{Object}
use Rattle.xc_data.specs.declared.private.Place.{Place as Handle}
use Rattle.xc_data.specs.Claims.{held_of}
use Rattle.xc_host.specs.Contents.{Contents}
use Rattle.xc_script.specs.declared.ask.Ask.{Ask}
use Rattle.xc_script.specs.declared.ask.Ask.TheVariants as ask
use Rattle.xc_world.specs.World.{World}
use Rattle.xc_world.specs.Modes.{claims_of}
use Rattle.xc_world.specs.Own.{Sees, Owns}
use Rattle.xc_world.specs.Run.{BodyResult, asked_of, body_state, runs_on}
use Rattle.xc_world.proofs.Laws.{runs_touched, other_run_apart}
use Rattle.xc_model.specs.declared.phase.Phase.{Phase}
use Rattle.xc_model.specs.declared.phase.Phase.TheVariants.{Running, Committing, Undoing, Backing}
use Rattle.xc_model.specs.Setting.{Setting}
use Rattle.xc_model.specs.Progress.{Progress}
use Rattle.xc_model.specs.Played.{HoldsFor}
use Rattle.xc_model.specs.Movers.{asked_at}
use Rattle.xc_model.specs.EntryEnds.{IsPartOf, next_claims}
use Rattle.xc_model.specs.Moment.{TxView, JobView, Active, active_of}
use Rattle.xc_flight.specs.Active.{Tx, Has, Own, Covers}
use Rattle.xc_flight.specs.Active as flight
use Rattle.xc_flight.specs.Flight.{IsCommittingFlight, IsPhase, ran, left}
use Rattle.xc_flight.specs.State.{FlightState, InFlight, IsActive, AreSound, HasSome, OwnSome, IsIdleSound, entered}
use Rattle.xc_flight.specs.Turns.{after_commit}
use Rattle.xc_flight.proofs.Laws.{owns_own, commit_enters, left_run, sound_after, idle_after, own_after}
use Rattle.xc_refines.specs.InFlight.{IsUnnoted, flown, flown_jobs, flown_phase, ran_at}
use Rattle.xc_refines.proofs.FlownLists.{flown-put, flown_there, active_does, none_flown, put_elsewhere, put_in}
use Rattle.xc_data.proofs.Laws.{map_set_same}
use Rattle.std.proofs.Common.{take}
use Rattle.std.proofs.Math.Seq.{take-length}
use Rattle.std.proofs.lemmas.List.{map-append}
use Rattle.xc_world.specs.Run.{lates, late_asked_of}
use Rattle.xc_model.specs.LateCalls.{started_late}
use Rattle.xc_refines.proofs.Grown.{AreNewJobs, grown_cases, grown_flies, grown_sound}
use Rattle.xc_refines.proofs.StartedWorld.{body_started, ended_start}
use Rattle.xc_refines.proofs.TurnParts.{Flying, world_in, flight_in, put_cases, airfield}

-- ---- what others hold, in another world
wanted_alike : (ran ran' : BodyResult) (next : Ask) → ran.me ≡ ran'.me → length ran.world.words ≡ length ran'.world.words
    → next_claims ran next ≡ next_claims ran' next
wanted_alike ran ran' (ask.Call c) me count = λ i. claims_of c (me i) (count i)
wanted_alike ran ran' ask.Commit me count = refl
wanted_alike ran ran' ask.Abort me count = refl
wanted_alike ran ran' ask.End me count = refl

-- a body that gave the same in another world
pub record GivesSame (r q : BodyResult) : Type 0 where
  pub me : r.me ≡ q.me
  pub touched : r.touched ≡ q.touched
  pub count : length r.world.words ≡ length q.world.words

holds_alike : (r q : BodyResult) (next : Ask) (p : Phase) (held : List Claim) → GivesSame r q → HoldsFor r next p held → HoldsFor q next p held
holds_alike r q next Running held g e = e ∙ ap held_of g.touched
holds_alike r q next Committing held g e = e ∙ ap held_of g.touched
holds_alike r q next Backing held g e = e ∙ ap held_of g.touched
holds_alike r q next (Undoing cause.Asked) held g e = e ∙ ap held_of g.touched
holds_alike r q next (Undoing (cause.Stuck failed)) held g e = e ∙ ap held_of g.touched
holds_alike r q next (Undoing (cause.Conflict object holder at)) held g e = e ∙ ap held_of g.touched
holds_alike r q next (Undoing (cause.Revoked object by at)) held g e = e ∙ ap held_of g.touched
holds_alike r q next (Undoing cause.NoMemory) held g e =
    (e.0, subst (IsPartOf e.0) (wanted_alike r q next g.me g.count) e.1, e.2 ∙ ap (λ t. held_of (t ++ e.0)) g.touched)

-- ---- an entry
-- of one of these jobs, which stands like this after it, and more jobs come
pub record Landing : Type 0 where
  pub jobs : List JobView
  pub more : List JobView
  pub at : ℕ
  pub job : JobView

-- this
abbrev pub landing : List JobView → List JobView → ℕ → JobView → Landing
landing jobs more at job = record { jobs = jobs; more = more; at = at; job = job }

-- the jobs after it
abbrev pub landed : Landing → List JobView
landed l = slice_set l.jobs l.at l.job ++ l.more

-- what it leads to; the station's world is this one then
pub record LeadsToLanding (p : Step Progress) (st : FlightState) (l : Landing) : Type 0 where
  pub flies : InFlight (entered st l.at p.new.state.world st.now)
  pub sound : AreSound (entered st l.at p.new.state.world st.now)
  pub others : (places : List Handle) → IsIdleSound p.old.state.world st.next places → IsIdleSound p.new.state.world st.next places
  pub own : IsIdleSound p.new.state.world st.next l.job.me.places
  pub started : p.new.state.world.started ≡ map (λ (job : JobView). job.block) (landed l)
  pub handles : p.new.state.handles ≡ map (λ (job : JobView). job.me.places) (landed l)
  pub new : AreNewJobs l.job.me.places l.more
  pub bodies : (j : ℕ) (other : JobView) (u : TxView) → j ≢ l.at → slice_get l.jobs j ≡ Some other → active_of other ≡ Some u
      → GivesSame (ran_at p.old.state.world other.me u) (ran_at p.new.state.world other.me u)

-- it keeps all
pub entry_lands : (s : Setting) (p p' : Progress) (words : List ℕ) (contents contents' : Contents) (started : List (List ℕ)) (jobs more : List JobView)
    (next at : ℕ) (job job' : JobView)
    → slice_get jobs at ≡ Some job → active_of job' ≡ None → (f : Flying s p (airfield words contents started jobs next))
    → LeadsToLanding (record { old = p; new = p' }) (flight_in p.state.world (world_in p.state.world words contents' started) f.unnoted jobs next)
    (landing jobs more at job')
    → Flying s p' (airfield words contents' started (slice_set jobs at job' ++ more) next)
entry_lands s p p' words contents contents' started jobs more next at job job' there none f l =
    let w = p.state.world in
    let w' = p'.state.world in
    let now : world_in w words contents' started ≡ world_in w' words contents' started = λ i. record {
      words = words;
      names = contents'.names;
      files = contents'.files;
      pipes = contents'.pipes;
      pairs = contents'.pairs;
      started = started;
      blocks = l.flies.blocks i;
    } in
    let unnoted = put_in f.unnoted at [] in
    let active : slice_set (flown_jobs f.unnoted jobs) at None ≡ flown_jobs unnoted (slice_set jobs at job') =
    ap (slice_set (flown_jobs f.unnoted jobs) at) (sym (none_flown job'.me [] job'.doing none)) ∙ sym (flown-put f.unnoted jobs at [] job') in
    let same : entered (flight_in w (world_in w words contents started) f.unnoted jobs next) at w' (world_in w words contents' started)
    ≡ flight_in w' (world_in w' words contents' started) unnoted (slice_set jobs at job') next =
    λ i. record { state = w'; now = now i; active = active i; next = next } in
    let set_jobs = slice_set jobs at job' in
    let behind = flight_in w' (world_in w' words contents' started) unnoted set_jobs next in
    let Asked_so : ℕ → JobView → Type 0 = λ j other. (u : TxView) → active_of other ≡ Some u
    → IsUnnoted u.phase (asked_at s other) (unnoted j) in
    let Idle_so : ℕ → JobView → Type 0 = λ j other. active_of other ≡ None → IsIdleSound w' next other.me.places in
    let Holds_so : ℕ → JobView → Type 0 = λ j other. (u : TxView) → active_of other ≡ Some u
    → HoldsFor (ran_at w' other.me u) (asked_at s other) u.phase u.held in
    record {
      unnoted = unnoted;
      was_asked =
          λ j other u e a. grown_cases job'.me.places set_jobs more Asked_so l.new (put_cases jobs at job job' Asked_so there (λ u e. absurd (cc (none, e)))
          (λ j other ne e u a. subst (IsUnnoted u.phase (asked_at s other)) (sym (put_elsewhere f.unnoted at j [] ne)) (f.was_asked j other u e a)))
          (λ j other is u a. (let lacks = is.none in absurd (cc (lacks, a)))) j other e u a;
      flies = grown_flies job'.me.places behind unnoted set_jobs more l.new (subst InFlight same l.flies);
      sound = grown_sound job'.me.places behind unnoted set_jobs more l.new (subst AreSound same l.sound);
      idle = grown_cases job'.me.places set_jobs more Idle_so l.new
          (put_cases jobs at job job' Idle_so there (λ e. l.own) (λ j other ne e lacks. l.others other.me.places (f.idle j other e lacks)))
          (λ j other is lacks. subst (IsIdleSound w' next) (sym is.handles) l.own);
      handles = l.handles;
      live = l.started;
      blocks = sym l.flies.blocks ∙ f.blocks;
      holds = λ j other u e a. grown_cases job'.me.places set_jobs more Holds_so l.new (put_cases jobs at job job' Holds_so there (λ u e. absurd (cc (none, e)))
          (λ j other ne e u a. holds_alike (ran_at w other.me u) (ran_at w' other.me u) (asked_at s other) u.phase u.held (l.bodies j other u ne e a)
          (f.holds j other u e a)))
          (λ j other is u a. (let lacks = is.none in absurd (cc (lacks, a)))) j other e u a;
    }

-- ---- what one has and another owns
pub apart_of : (s : Setting) (p : Progress) (words : List ℕ) (contents : Contents) (started : List (List ℕ)) (jobs : List JobView) (next at j : ℕ)
    (job other : JobView) (tx u : TxView)
    → slice_get jobs at ≡ Some job → job.doing ≡ Active tx → slice_get jobs j ≡ Some other → other.doing ≡ Active u → j ≢ at
    → (f : Flying s p (airfield words contents started jobs next)) → (o : Object)
    → Sees u.number (ran_at p.state.world other.me u).touched o → Own (flown job.me (f.unnoted at) tx) o → ⊥
apart_of s p words contents started jobs next at j job other tx u there doing here does ne f o sees owns =
    let v = flown other.me (f.unnoted j) u in
    let mine = flown_there f.unnoted jobs at job tx there doing in
    let its = flown_there f.unnoted jobs j other u here does in
    f.flies.apart at j o (λ e. ne (sym e))
    (subst (λ x. OwnSome x o) (sym mine) owns)
    (subst (λ x. HasSome x o) (sym its) (has_so (f.flies.flights j v its).inside.covers sees))
  where
    has_so : Covers u.held (ran p.state.world (flown other.me (f.unnoted j) u)).touched → Sees u.number (ran_at p.state.world other.me u).touched o
        → Has (flown other.me (f.unnoted j) u) o
    has_so covers (inl at) =
        inl (covers.objects o (runs_touched u.number (body_state p.state.world other.me u.number (asked_of u.calls u.replies)) (f.unnoted j) o at))
    has_so covers (inr numbered) = inr numbered

-- ---- a commit enters
module _ (s : Setting) (p : Progress) (words : List ℕ) (contents : Contents) (started : List (List ℕ)) (jobs : List JobView) (next at : ℕ)
    (job : JobView) (tx : TxView)
    (there : slice_get jobs at ≡ Some job) (doing : job.doing ≡ Active tx) (f : Flying s p (airfield words contents started jobs next)) where
  abbrev flight_now : FlightState
  flight_now = flight_in p.state.world (world_in p.state.world words contents started) f.unnoted jobs next

  abbrev tx_flown : Tx
  tx_flown = flown job.me (f.unnoted at) tx

  active : IsActive flight_now at tx_flown
  active = flown_there f.unnoted jobs at job tx there doing

  abbrev behind : World
  behind = after_commit p.state.world tx_flown

  abbrev run_body : BodyResult
  run_body = ran_at p.state.world job.me tx

  -- it has noted all that it did
  all_noted : tx.phase ≡ Committing → ran p.state.world tx_flown ≡ run_body
  all_noted commits =
      let phase : IsCommittingFlight p.state.world tx_flown =
      subst (IsPhase p.state.world tx_flown) (ap flown_phase commits) (f.flies.flights at tx_flown active).inside.phase in
      ap (λ l. (runs_on tx.number (body_state p.state.world job.me tx.number (asked_of tx.calls tx.replies)) l).now) phase.all_noted

  own_so : tx.phase ≡ Committing → (o : Object) → Owns tx.number run_body.touched o → Own tx_flown o
  own_so commits o owns =
      owns_own tx_flown run_body.touched
      (subst (λ (r : BodyResult). Covers tx.held r.touched) (all_noted commits) (f.flies.flights at tx_flown active).inside.covers) o owns

  -- where each late call has its end it left what its run leads to
  run_leads : tx.phase ≡ Committing → length tx.ends ≡ length tx.late → left p.state.world tx_flown flight.Committing ≡ behind
  run_leads commits done = left_run p.state.world tx_flown (f.flies.flights at tx_flown active).inside (ap flown_phase commits) done

  -- it starts what its late calls did
  commit_started : tx.phase ≡ Committing → length tx.ends ≡ length tx.late → behind.started ≡ p.state.world.started ++ started_late tx.late tx.ends
  commit_started commits done =
      let w = p.state.world in
      let i = (f.flies.flights at tx_flown active).inside in
      let phase : IsCommittingFlight w tx_flown = subst (IsPhase w tx_flown) (ap flown_phase commits) i.phase in
      let none = body_started w tx_flown i (f.sound at tx_flown active) in
      let body : run_body.world.started ≡ w.started = ap (λ (r : BodyResult). r.world.started) (sym (all_noted commits)) ∙ none in
      let late : run_body.late ≡ tx.late = i.late in
      let whole : take (length tx.ends) run_body.late ≡ run_body.late = ap (λ l. take (length tx.ends) l) late ∙ ap (λ n. take n tx.late) done
      ∙ take-length tx.late ∙ sym late in
      let ended : (lates run_body.world (late_asked_of run_body.late tx.ends)).ends ≡ tx.ends =
      ap (λ l. (lates run_body.world (late_asked_of l tx.ends)).ends) (sym whole)
      ∙ ap (λ (r : BodyResult). (lates r.world (late_asked_of (take (length tx.ends) r.late) tx.ends)).ends) (sym (all_noted commits)) ∙ phase.ends in
      ended_start run_body.world run_body.late tx.ends ended ∙ (λ k. body k ++ started_late (late k) tx.ends)

  commit_bodies : (j : ℕ) (other : JobView) (u : TxView) → tx.phase ≡ Committing → length tx.ends ≡ length tx.late → j ≢ at
      → slice_get jobs j ≡ Some other → active_of other ≡ Some u → GivesSame (ran_at p.state.world other.me u) (ran_at behind other.me u)
  commit_bodies j other u commits done ne here does =
      let w = p.state.world in
      let alike = other_run_apart w other.me job.me u.number tx.number (asked_of u.calls u.replies) (asked_of tx.calls tx.replies) tx.ends
      (λ o sees owns. apart_of s p words contents started jobs next at j job other tx u there doing here (active_does other.doing u does) ne f o sees
      (own_so commits o owns)) in
      let after = commit_enters flight_now at tx_flown f.flies active (ap flown_phase commits) done in
      record { me = alike.gave.me; touched = alike.gave.touched; count = alike.left.count ∙ sym f.flies.count ∙ after.count ∙ sym alike.right.count }

  -- what it leads to
  pub commit_lands : (p' : Progress) (job' : JobView) (more : List JobView) → tx.phase ≡ Committing → length tx.ends ≡ length tx.late → p'.state.world ≡ behind
      → p'.state.handles ≡ map (λ (job : JobView). job.me.places) (slice_set jobs at job' ++ more)
      → job'.me.places ≡ tx.me.places → job'.block ≡ job.block → started_late tx.late tx.ends ≡ map (λ (job : JobView). job.block) more
      → AreNewJobs job'.me.places more → LeadsToLanding (record { old = p; new = p' }) flight_now (landing jobs more at job')
  commit_lands p' job' more commits done is handles places block blocks new =
      let w = p.state.world in
      let phase = ap flown_phase commits in
      let after = commit_enters flight_now at tx_flown f.flies active phase done in
      record {
        flies = subst (λ v. InFlight (entered flight_now at v flight_now.now)) (sym is) after;
        sound = subst (λ v. AreSound (entered flight_now at v flight_now.now)) (sym is)
            (sound_after flight_now at tx_flown f.flies f.sound active phase flight_now.now);
        others = λ places sound. subst (λ v. IsIdleSound v next places) (sym is) (idle_after flight_now at tx_flown f.flies f.sound active phase places sound);
        own = subst (λ v. IsIdleSound v next job'.me.places) (sym is) (subst (IsIdleSound behind next) (sym places)
            (own_after flight_now at tx_flown f.flies f.sound active phase flight_now.now after));
        started = ap (λ (v : World). v.started) is ∙ commit_started commits done
            ∙ (λ k. (f.live ∙ sym (map_set_same (λ (job : JobView). job.block) jobs at job' job there block)) k ++ blocks k)
            ∙ sym (map-append (λ (job : JobView). job.block) (slice_set jobs at job') more);
        handles = handles;
        new = new;
        bodies = λ j other u ne here does. subst (λ v. GivesSame (ran_at w other.me u) (ran_at v other.me u)) (sym is)
            (commit_bodies j other u commits done ne here does);
      }
