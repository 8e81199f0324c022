-- A transaction that turns back for lack of memory keeps all flights.
use Rattle.std.proofs.Common.{◌≡◌, ℕ, inl, inr, List, [], ◌∷◌, ◌++◌, length, refl, ap, sym, ◌∙◌, subst, Some}
use Rattle.std.specs.Prelude.{All, slice_get, slice_set}
use Rattle.std.proofs.lemmas.List.{append-nil}
use Rattle.xc_data.specs.declared.call.Answer.{Answer}
use Rattle.xc_data.specs.declared.call.CallWithAnswer.{CallWithAnswer}
use Rattle.xc_data.specs.declared.call.Call.{Call}
use Rattle.xc_data.specs.declared.claim.Claim.{Claim}
use Rattle.xc_data.specs.declared.entry.Cause.TheVariants as cause
use Rattle.xc_data.specs.declared.undo.Undo.{Undo}
use Rattle.xc_data.specs.Claims.{holding, held_of}
use Rattle.xc_host.specs.Contents.{Contents, contents_of}
use Rattle.xc_script.specs.declared.ask.Ask.{Ask}
use Rattle.xc_script.specs.declared.ask.Ask.TheVariants as ask
use Rattle.xc_script.specs.Position.{Position}
use Rattle.xc_world.specs.World.{World}
use Rattle.xc_world.specs.Modes.{claims_of}
use Rattle.xc_world.specs.Run.{BodyResult, asked_of}
use Rattle.xc_world.proofs.Laws.{body_keeps}
use Rattle.xc_model.specs.declared.phase.Phase.TheVariants.{Running, Undoing}
use Rattle.xc_model.specs.Setting.{Setting}
use Rattle.xc_model.specs.Progress.{Progress}
use Rattle.xc_model.specs.Played.{HoldsFor}
use Rattle.xc_model.specs.EntryEnds.{IsPartOf, next_claims}
use Rattle.xc_model.specs.Moment.{TxView, JobView, Active, Moment, active_in}
use Rattle.xc_model.specs.PlainSteps.{LeavesAsPlain, IsLeft, claims_at, tx_parts, contents_seen, wanting}
use Rattle.xc_model.specs.Rivals.{HasNoRival}
use Rattle.xc_model.specs.RunningRows.{HoldsWanting}
use Rattle.xc_model.specs.Movers.{asked_at, with_tx, mover}
use Rattle.xc_flight.specs.Active.{Tx, HoldTheSame}
use Rattle.xc_flight.specs.Active as flight
use Rattle.xc_flight.specs.State.{FlightState, InFlight, IsActive, turned}
use Rattle.xc_flight.specs.Turns.{MayDo, after_call, claiming, did, in_phase, wanting_memory as wanting_in_flight}
use Rattle.xc_flight.proofs.Laws.{is_running, back_held, claims_keep, covers_through, merged_held, call_granted, two_turns, turns_back, wants}
use Rattle.xc_refines.specs.InFlight.{IsUnnoted, flown, flown_phase, ran_at}
use Rattle.xc_refines.proofs.BuiltCalls.{untaken, unrecorded}
use Rattle.xc_refines.proofs.FlownLists.{flown_there, none_unnoted}
use Rattle.xc_refines.proofs.TurnBack.{back_keeps}
use Rattle.xc_refines.proofs.TurnCalls.{holding-more}
use Rattle.xc_data.proofs.Laws.{put_at}
use Rattle.xc_refines.proofs.TurnParts.{Flying, world_in, flight_in, flies_on, airfield}
use Rattle.xc_refines.proofs.TurnRivals.{no_rivals}

part_itself : {A : Type 0} (xs : List A) → IsPartOf xs xs
part_itself [] = tt
part_itself (x ∷ xs) = inl (refl, part_itself xs)

-- a call with an answer
abbrev pub asked_by : Call → Answer → CallWithAnswer
asked_by c answer = record { call = c; answer = answer }

module _ (s : Setting) (p : Progress) (words : List ℕ) (contents : Contents) (started : List (List ℕ)) (jobs : List JobView) (next at : ℕ)
    (job : JobView) (place : Position)
    (tx : TxView)
    (there : slice_get jobs at ≡ Some job) (doing : job.doing ≡ Active tx)
    (f : Flying s p (airfield words contents started jobs next)) (runs : tx.phase ≡ Running) where
  -- it leaves nothing, and holds no more
  pub wants_keeps : Flying s p (airfield words contents started (slice_set jobs at (with_tx job place (wanting tx [] tx.held))) next)
  wants_keeps =
      subst (λ us. Flying s p (airfield words contents started
      (slice_set jobs at (with_tx job place (record tx { phase = Undoing cause.NoMemory; undo = record tx.undo { pending = us } }))) next))
      (sym (append-nil tx.undo.pending)) (back_keeps s p words contents started jobs next at job place tx there doing f cause.NoMemory runs)

  abbrev flight_now : FlightState
  flight_now = flight_in p.state.world (world_in p.state.world words contents started) f.unnoted jobs next

  abbrev tx_flown : Tx
  tx_flown = flown job.me (f.unnoted at) tx

  abbrev ran : BodyResult
  ran = ran_at p.state.world job.me tx

  abbrev asked_next : Ask
  asked_next = asked_at s job

  active : IsActive flight_now at tx_flown
  active = flown_there f.unnoted jobs at job tx there doing

  running : tx_flown.phase ≡ flight.Running
  running = ap flown_phase runs

  held_so : tx.held ≡ held_of ran.touched
  held_so = subst (λ ph. HoldsFor ran asked_next ph tx.held) runs (f.holds at job tx there (ap active_in doing))

  -- ---- after the claims of the call that is asked
  module _ (c : Call) (asks : asked_at s (with_tx job place tx) ≡ ask.Call c) (alone : All (HasNoRival jobs at) (claims_of c tx.me (length words))) where
    abbrev claims : List Claim
    claims = claims_of c tx.me (length words)

    abbrev all_held : List Claim
    all_held = holding tx.held claims

    -- it claims, and goes on
    abbrev claimant : Tx
    claimant = claiming tx_flown all_held

    abbrev mid : FlightState
    mid = turned flight_now at (Some claimant) flight_now.now

    same : HoldTheSame all_held (tx.held ++ claims)
    same = subst (λ l. HoldTheSame (holding l claims) (l ++ claims)) (sym held_so) (merged_held ran.touched claims)

    claims_first : InFlight mid
    claims_first =
        let granted = call_granted flight_now at tx_flown c (length words) f.flies active running (f.sound at tx_flown active)
        (no_rivals p.state.world flight_now.now f.unnoted jobs next at claims alone) in
        claims_keep flight_now at tx_flown claims all_held f.flies active granted same running

    claims_active : IsActive mid at claimant
    claims_active = put_at flight_now.active at tx_flown claimant active

    -- then it turns back
    left_nothing : InFlight (turned flight_now at (Some (flown job.me (f.unnoted at) (record tx { phase = Undoing cause.NoMemory; held = all_held })))
        flight_now.now)
    left_nothing =
        subst InFlight (two_turns flight_now at (Some claimant) (Some (in_phase claimant flight.Undoing)) flight_now.now flight_now.now)
        (turns_back mid at claimant claims_first claims_active running (f.sound at tx_flown active))

    -- with these records left
    module _ (left : List Undo) where
      abbrev wanter : TxView
      wanter = wanting tx left all_held

      wanter_holds : HoldsFor ran (asked_at s (with_tx job place tx)) (Undoing cause.NoMemory) all_held
      wanter_holds =
          let me : ran.me ≡ tx.me = (f.flies.flights at tx_flown active).inside.me in
          let many : length ran.world.words ≡ length words =
          (body_keeps p.state.world job.me tx.number (asked_of tx.calls tx.replies)).count ∙ sym f.flies.count in
          let touches : claims ≡ claims_of c ran.me (length ran.world.words) = λ i. claims_of c (sym me i) (sym many i) in
          let wanted : claims ≡ next_claims ran (asked_at s (with_tx job place tx)) = touches ∙ ap (next_claims ran) (sym asks) in
          (claims, subst (IsPartOf claims) wanted (part_itself claims), ap (λ l. holding l claims) held_so ∙ holding-more ran.touched claims)

      wanter_keeps : (us : List CallWithAnswer) (contents' : Contents)
          → InFlight (turned flight_now at (Some (flown job.me us wanter)) (world_in p.state.world words contents' started))
          → IsUnnoted (Undoing cause.NoMemory) (asked_at s (with_tx job place tx)) us
          → Flying s p (airfield words contents' started (slice_set jobs at (with_tx job place wanter)) next)
      wanter_keeps us contents' flies was =
          flies_on s p words words contents contents' started started jobs next at us job place tx wanter there doing refl f flies was wanter_holds

    -- it leaves nothing, after its claims
    pub wants_claims_keeps : Flying s p (airfield words contents started (slice_set jobs at (with_tx job place (wanting tx [] all_held))) next)
    wants_claims_keeps =
        wanter_keeps [] (f.unnoted at) contents
        (subst (λ us. InFlight (turned flight_now at (Some (flown job.me (f.unnoted at)
        (record tx { phase = Undoing cause.NoMemory; undo = record tx.undo { pending = us }; held = all_held }))) flight_now.now))
        (sym (append-nil tx.undo.pending)) left_nothing)
        (none_unnoted (Undoing cause.NoMemory) (asked_at s (with_tx job place tx)) (f.unnoted at)
        (is_running flight_now at tx_flown f.flies active running).all_noted)

    -- the call did its part, with this answer, and these records are left
    module _ (left : List Undo) (answer : Answer) (contents' : Contents)
        (does : LeavesAsPlain (record {
          old = contents_seen (record p.state.world { words = words; started = started }) contents tx.writes;
          new = contents_seen (record p.state.world { words = words; started = started }) contents' tx.writes;
        }) (tx_parts tx) (asked_by c answer) left) where
      abbrev asked_last : CallWithAnswer
      asked_last = asked_by c answer

      may : MayDo mid.now claimant asked_last
      may = record { ahead = does.ahead; fit = does.fits; covers = covers_through all_held (tx.held ++ claims) claims same.left (back_held tx.held claims) }

      did_part : InFlight (turned flight_now at (Some (wanting_in_flight mid.now claimant asked_last)) (after_call mid.now claimant asked_last))
      did_part =
          subst InFlight (two_turns flight_now at (Some claimant) (Some (wanting_in_flight mid.now claimant asked_last)) flight_now.now
          (after_call mid.now claimant asked_last))
          (wants mid at claimant asked_last claims_first claims_active running may (f.sound at tx_flown active))

      -- what it is then
      wanter_is : wanting_in_flight mid.now claimant asked_last ≡ flown job.me (asked_last ∷ []) (wanting tx left all_held)
      wanter_is = λ i. record (flown job.me (asked_last ∷ []) (wanting tx left all_held)) {
        pending = tx.undo.pending ++ sym does.records i;
        taken = (ap (λ items. tx.taken ++ items) (untaken c tx.me (did mid.now claimant asked_last).reply does.untaken) ∙ append-nil tx.taken) i;
      }

      part_there : after_call mid.now claimant asked_last ≡ world_in p.state.world words contents' started
      part_there = ap (λ (v : World). record v { words = words }) (sym does.world)

      -- it keeps all
      pub wants_part_keeps : Flying s p (airfield words contents' started (slice_set jobs at (with_tx job place (wanting tx left all_held))) next)
      wants_part_keeps =
          let wanter : TxView = wanting tx left all_held in
          wanter_keeps left (asked_last ∷ []) contents'
          (subst (λ v. InFlight (turned flight_now at (Some (flown job.me (asked_last ∷ []) wanter)) v)) part_there
          (subst (λ t. InFlight (turned flight_now at (Some t) (after_call mid.now claimant asked_last))) wanter_is did_part))
          (subst (λ a. IsUnnoted (Undoing cause.NoMemory) a (asked_last ∷ [])) (sym asks)
          (refl, does.ahead))

-- ---- whatever it left
module _ (s : Setting) (p : Progress) (old new : Moment) (next at : ℕ) (job : JobView) (place : Position) (tx : TxView)
    (there : slice_get old.jobs at ≡ Some job)
    (doing : job.doing ≡ Active tx) (f : Flying s p (airfield old.words old.contents old.started old.jobs next)) (runs : tx.phase ≡ Running)
    (still : asked_at s (with_tx job place tx) ≡ asked_at s job) where
  abbrev Wanting : List Undo → List Claim → Contents → Type 0
  Wanting left held contents = Flying s p (airfield old.words contents old.started (slice_set old.jobs at (with_tx job place (wanting tx left held))) next)

  -- a call that left nothing changed nothing at the host
  same_there : (a : Ask) → asked_at s job ≡ a → IsLeft old new (tx_parts tx) a [] → new.contents ≡ old.contents
  same_there a asked (inl none) = none.1
  same_there (ask.Call c) asked (inr (answer, does)) =
      let w = record p.state.world { words = old.words; started = old.started } in
      let d = does w refl in
      ap contents_of d.world
      ∙ unrecorded (contents_seen w old.contents tx.writes) tx.me tx.number c answer d.untaken (sym d.records)
  same_there ask.Commit asked (inr part) = absurd part
  same_there ask.Abort asked (inr part) = absurd part
  same_there ask.End asked (inr part) = absurd part

  -- it holds no more
  wants_same : (a : Ask) (left : List Undo) (held : List Claim) → asked_at s job ≡ a → (left ≡ []) × (held ≡ tx.held)
      → IsLeft old new (tx_parts tx) a left → Wanting left held new.contents
  wants_same a left held asked same leaves =
      subst (Wanting left held) (sym (same_there a asked (subst (IsLeft old new (tx_parts tx) a) same.0 leaves)))
      (subst (λ h. Wanting left h old.contents) (sym same.1)
      (subst (λ us. Wanting us tx.held old.contents) (sym same.0)
      (wants_keeps s p old.words old.contents old.started old.jobs next at job place tx there doing f runs)))

  -- it keeps all
  pub wants_so : (a : Ask) (left : List Undo) (held : List Claim) → asked_at s job ≡ a → HoldsWanting (mover s at old job) tx a left held
      → IsLeft old new (tx_parts tx) a left → Wanting left held new.contents
  wants_so (ask.Call c) left held asked (inl same) leaves = wants_same (ask.Call c) left held asked same leaves
  wants_so (ask.Call c) left held asked (inr more) (inl none) =
      subst (Wanting left held) (sym none.1)
      (subst (λ h. Wanting left h old.contents) (sym more.1)
      (subst (λ us. Wanting us (holding tx.held (claims_at old tx c)) old.contents) (sym none.0)
      (wants_claims_keeps s p old.words old.contents old.started old.jobs next at job place tx there doing f runs c (still ∙ asked) more.0)))
  wants_so (ask.Call c) left held asked (inr more) (inr (answer, does)) =
      subst (λ h. Wanting left h new.contents) (sym more.1)
      (wants_part_keeps s p old.words old.contents old.started old.jobs next at job place tx there doing f runs c (still ∙ asked) more.0 left answer
      new.contents (does (record p.state.world { words = old.words; started = old.started }) refl))
  wants_so ask.Commit left held asked same leaves = wants_same ask.Commit left held asked same leaves
  wants_so ask.Abort left held asked same leaves = wants_same ask.Abort left held asked same leaves
  wants_so ask.End left held asked same leaves = wants_same ask.End left held asked same leaves
