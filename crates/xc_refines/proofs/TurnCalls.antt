-- A call that is done and noted keeps all flights.
use Rattle.std.proofs.Common.{◌≡◌, ℕ, inl, inr, Bool, true, false, List, [], ◌∷◌, ◌++◌, length, refl, ap, sym, ◌∙◌, subst, arith, Some, Option, None}
use Rattle.std.specs.Prelude.{All, Contains, map, slice_get, slice_set, nat_lt, nat_le, if◌then◌else◌}
use Rattle.std.proofs.lemmas.List.Elements.{All-nil, All-cons, All-weaker, All-append, Contains-append_left, Contains-append_right, filter_map-append}
use Rattle.std.proofs.lemmas.Bool.Decides.{nat_tests}
use Rattle.std.proofs.lemmas.List.Sums.{fold-append}
use Rattle.xc_data.specs.Step.{Step}
use Rattle.xc_data.specs.declared.call.CallWithAnswer.{CallWithAnswer}
use Rattle.xc_data.specs.declared.call.Call.{Call}
use Rattle.xc_data.specs.declared.call.Call.TheVariants as call
use Rattle.xc_data.specs.declared.call.Reply.{Reply}
use Rattle.xc_data.specs.declared.claim.Claim.{Claim}
use Rattle.xc_data.specs.declared.claim.Mode.TheVariants.{Exclusive}
use Rattle.xc_data.specs.declared.object.Object.{Object}
use Rattle.xc_data.specs.declared.object.Object.TheVariants as object
use Rattle.xc_data.specs.declared.private.Private.{Private}
use Rattle.xc_data.specs.Claims.{claim, owned, owned_object, holding, holding_one, held_of}
use Rattle.xc_host.specs.Contents.{Contents}
use Rattle.xc_script.specs.Position.{Position}
use Rattle.xc_world.specs.World.{World}
use Rattle.xc_world.specs.Act.Step.{Stepped, step_to}
use Rattle.xc_world.specs.Fits.{is_back, answer_of}
use Rattle.xc_world.specs.Late.{kept_call}
use Rattle.xc_world.specs.Modes.{claims_of}
use Rattle.xc_world.specs.Run.{BodyResult, BlockState, asked_of, body_state, step, taken_by}
use Rattle.xc_world.proofs.Laws.{marked_now, body_keeps, body_last}
use Rattle.xc_world.specs.Trail.{recorded}
use Rattle.xc_model.specs.Setting.{Setting}
use Rattle.xc_model.specs.Progress.{Progress}
use Rattle.xc_model.specs.Played.{HoldsFor}
use Rattle.xc_model.specs.declared.phase.Phase.TheVariants.{Running}
use Rattle.xc_model.specs.Moment.{SavedView, TxView, JobView, Active, active_in}
use Rattle.xc_model.specs.Rivals.{HasNoRival}
use Rattle.xc_model.specs.PlainSteps.{copied, saved_by, noting_plain, Parts, StepsAsPlain, noting, tx_parts, stored_by, contents_seen}
use Rattle.xc_model.specs.Movers.{answered_with, asked_at}
use Rattle.xc_flight.specs.Active.{Tx, Saved, Own, HoldTheSame}
use Rattle.xc_flight.specs.Active as flight
use Rattle.xc_flight.specs.Flight.{IsRunningFlight, IsPhase}
use Rattle.xc_flight.specs.State.{FlightState, InFlight, IsActive, turned}
use Rattle.xc_flight.specs.Turns.{claiming, IsNoted, noting_call as noting_in_flight, after_call, did}
use Rattle.xc_flight.specs.Turns as turns
use Rattle.xc_flight.proofs.Laws.{merged_held, called_with_claims}
use Rattle.xc_refines.specs.InFlight.{flown, flown_saved, flown_phase, ran_at}
use Rattle.xc_refines.proofs.FlownLists.{flown_there, none_unnoted}
use Rattle.xc_refines.proofs.TurnParts.{Flying, world_in, flight_in, moves_on, airfield}
use Rattle.xc_refines.proofs.TurnRivals.{no_rivals}

-- ---- the call that is asked last
abbrev pub asked_with : Call → Reply → CallWithAnswer
asked_with c r = record { call = c; answer = answer_of r }

asked-more : (calls : List Call) (replies : List Reply) (c : Call) (r : Reply) → length calls ≡ length replies
    → asked_of (calls ++ c ∷ []) (replies ++ r ∷ []) ≡ asked_of calls replies ++ asked_with c r ∷ []
asked-more [] [] c r e = refl
asked-more [] (q ∷ replies) c r e = absurd (omega arith)
asked-more (d ∷ calls) [] c r e = absurd (omega arith)
asked-more (d ∷ calls) (q ∷ replies) c r e = ap (λ xs. asked_with d q ∷ xs) (asked-more calls replies c r (omega arith))

-- ---- its stores are owned
within_count : (at count : ℕ) → nat_lt at count ≡ true → nat_le count at ≡ false
within_count at count e = grind (arith, nat_tests)

stored_claims : (me : Private) (count at value : ℕ) → nat_lt at count ≡ true → Contains (owned (claims_of (call.Store at value) me count)) (object.Word at)
stored_claims me count at value e =
    subst (λ b. Contains (owned (map (claim Exclusive) (if b then [] else object.Word at ∷ []))) (object.Word at)) (sym (within_count at count e))
    (0, omega arith, refl)

stored_own : (me : Private) (count : ℕ) (c : Call) (own : Object → Type 0) → ((o : Object) → Contains (owned (claims_of c me count)) o → own o)
    → All (λ s. own (object.Word s.0)) (stored_by count c)
stored_own me count (call.Store at value) own within = by_test (nat_lt at count) refl
  where
    by_test : (b : Bool) → nat_lt at count ≡ b → All (λ (s : ℕ × ℕ). own (object.Word s.0)) (if b then (at, value) ∷ [] else [])
    by_test true e = All-cons (λ (s : ℕ × ℕ). own (object.Word s.0)) (at, value) [] (within (object.Word at) (stored_claims me count at value e))
        (All-nil (λ (s : ℕ × ℕ). own (object.Word s.0)))
    by_test false e = All-nil (λ (s : ℕ × ℕ). own (object.Word s.0))
stored_own me count c own within = All-nil (λ (s : ℕ × ℕ). own (object.Word s.0))

-- ---- what a save keeps
abbrev pub flown_copy : SavedView → Saved
flown_copy kept = record { places = kept.places; writes = kept.writes; late = kept.late; trail = kept.trail; taken = kept.taken }

saved_flown : (c : Call) (kept : Option SavedView) (copy : SavedView)
    → turns.saved_after c (flown_saved kept) (flown_copy copy) ≡ flown_saved (saved_by c kept copy)
saved_flown call.Save kept copy = refl
saved_flown call.Keep kept copy = refl
saved_flown call.Back kept copy = refl
saved_flown _ kept copy = refl

-- ---- the transaction after its call
-- what the step to it shows
pub record Stepping (worlds : Step World) (tx : TxView) (c : Call) (reply : Reply) (parts : Parts) : Type 0 where
  pub does : StepsAsPlain worlds (record { old = tx_parts tx; new = parts }) c reply
  pub ended : parts.undo.ended ≡ tx.undo.ended

module _ (w : World) (words : List ℕ) (was is : Contents) (started : List (List ℕ)) (us : List CallWithAnswer) (job : JobView) (tx : TxView)
    (c : Call) (reply : Reply) (parts : Parts)
    (go : Stepping (record {
      old = contents_seen (record w { words = words; started = started }) was tx.writes;
      new = contents_seen (record w { words = words; started = started }) is parts.stores;
    }) tx c reply parts) where
  abbrev now : World
  now = world_in w words was started

  abbrev claims : List Claim
  claims = claims_of c tx.me (length words)

  abbrev t : Tx
  t = flown job.me us tx

  abbrev after : TxView
  after = noting tx c reply claims parts

  acts : did now (claiming t after.held) (asked_with c reply)
      ≡ step_to (contents_seen (record w { words = words; started = started }) is parts.stores) parts.me reply
  acts = go.does.step

  noted_so : noting_in_flight now (claiming t after.held) (asked_with c reply) parts.stores ≡ flown job.me us after
  noted_so = noted_but ∙ ap (λ kept. record (flown job.me us after) { saved = kept })
      (saved_flown c tx.saved (copied (noting_plain tx c reply claims parts)))
    where
      pending : tx.undo.pending ++ recorded (turns.world_seen now t) tx.me tx.number c (did now (claiming t after.held) (asked_with c reply)).reply
          ≡ parts.undo.pending
      pending = ap (λ (s : Stepped). tx.undo.pending ++ recorded (turns.world_seen now t) tx.me tx.number c s.reply) acts ∙ sym go.does.records

      taken : tx.taken ++ taken_by c tx.me (did now (claiming t after.held) (asked_with c reply)).reply ≡ tx.taken ++ taken_by c tx.me reply
      taken = ap (λ (s : Stepped). tx.taken ++ taken_by c tx.me s.reply) acts

      late : tx.late ++ kept_call c tx.me (did now (claiming t after.held) (asked_with c reply)).reply ≡ tx.late ++ kept_call c tx.me reply
      late = ap (λ (s : Stepped). tx.late ++ kept_call c tx.me s.reply) acts

      noted_but : noting_in_flight now (claiming t after.held) (asked_with c reply) parts.stores
          ≡ record (flown job.me us after) {
            saved = turns.saved_after c (flown_saved tx.saved) (flown_copy (copied (noting_plain tx c reply claims parts)));
          }
      noted_but = λ i. record {
        number = tx.number;
        phase = flown_phase tx.phase;
        began = job.me;
        me = (ap (λ (s : Stepped). s.me) acts) i;
        calls = tx.calls ++ c ∷ [];
        replies = tx.replies ++ (ap (λ (s : Stepped). s.reply) acts) i ∷ [];
        unnoted = us;
        held = after.held;
        writes = parts.stores;
        pending = pending i;
        ended = sym go.ended i;
        taken = taken i;
        late = late i;
        late_ends = tx.ends;
        saved = turns.saved_after c (flown_saved tx.saved) (record {
          places = (ap (λ (s : Stepped). s.me.places) acts) i;
          writes = parts.stores;
          late = late i;
          trail = pending i;
          taken = taken i;
        });
      }

  moved_so : after_call now t (asked_with c reply) ≡ world_in w words is started
  moved_so = ap (λ (s : Stepped). record s.world { words = words }) acts

-- what is held after two lists of claims
pub holding-more : (a b : List Claim) → holding (held_of a) b ≡ held_of (a ++ b)
holding-more a b = sym (fold-append holding_one [] a b)

-- ---- the turn
module _ (s : Setting) (p : Progress) (words : List ℕ) (was is : Contents) (started : List (List ℕ)) (jobs : List JobView) (next at : ℕ) (job : JobView)
    (place : Position) (tx : TxView)
    (c : Call) (reply : Reply) (parts : Parts) (ahead : is_back c ≡ false) (there : slice_get jobs at ≡ Some job)
    (doing : job.doing ≡ Active tx) (runs : tx.phase ≡ Running)
    (go : Stepping (record {
      old = contents_seen (record p.state.world { words = words; started = started }) was tx.writes;
      new = contents_seen (record p.state.world { words = words; started = started }) is parts.stores;
    }) tx c reply parts) (f : Flying s p (airfield words was started jobs next)) where
  abbrev flight_now : FlightState
  flight_now = flight_in p.state.world (world_in p.state.world words was started) f.unnoted jobs next

  abbrev tx_flown : Tx
  tx_flown = flown job.me (f.unnoted at) tx

  abbrev claimed : List Claim
  claimed = claims_of c tx.me (length words)

  abbrev behind : TxView
  behind = noting tx c reply claimed parts

  abbrev ran : BodyResult
  ran = ran_at p.state.world job.me tx

  active : IsActive flight_now at tx_flown
  active = flown_there f.unnoted jobs at job tx there doing

  running : tx_flown.phase ≡ flight.Running
  running = ap flown_phase runs

  held : tx.held ≡ held_of ran.touched
  held = subst (λ ph. HoldsFor ran (asked_at s job) ph tx.held) runs (f.holds at job tx there (ap active_in doing))

  flies_so : IsRunningFlight p.state.world tx_flown
  flies_so = subst (IsPhase p.state.world tx_flown) running (f.flies.flights at tx_flown active).inside.phase

  same : HoldTheSame behind.held (tx.held ++ claimed)
  same = subst (λ l. HoldTheSame (holding l claimed) (l ++ claimed)) (sym held) (merged_held ran.touched claimed)

  stored : parts.stores ≡ tx.writes ++ stored_by (length words) c → All (λ x. Own (claiming tx_flown behind.held) (object.Word x.0)) parts.stores
  stored stores =
      let P : ℕ × ℕ → Type 0 = λ x. Own tx_flown (object.Word x.0) in
      let Q : ℕ × ℕ → Type 0 = λ x. Own (claiming tx_flown behind.held) (object.Word x.0) in
      subst (All Q) (sym stores)
      (All-append Q tx.writes (stored_by (length words) c)
      (All-weaker P Q (λ x own. more (object.Word x.0) own) tx.writes flies_so.stored)
      (stored_own tx.me (length words) c (Own (claiming tx_flown behind.held))
      (λ o at. inl (held_now o (Contains-append_right (owned tx.held) (owned claimed) o at)))))
    where
      held_now : (o : Object) → Contains (owned tx.held ++ owned claimed) o → Contains (owned behind.held) o
      held_now o at = same.left.owned o (subst (λ l. Contains l o) (sym (filter_map-append owned_object tx.held claimed)) at)

      more : (o : Object) → Own tx_flown o → Own (claiming tx_flown behind.held) o
      more o (inl at) = inl (held_now o (Contains-append_left (owned tx.held) (owned claimed) o at))
      more o (inr numbered) = inr numbered

  flies : All (HasNoRival jobs at) claimed → parts.stores ≡ tx.writes ++ stored_by (length words) c
      → InFlight (turned flight_now at (Some (flown job.me (f.unnoted at) behind)) (world_in p.state.world words is started))
  flies alone stores =
      let w = p.state.world in
      let did_so = acts w words was is started (f.unnoted at) job tx c reply parts go in
      let noted : IsNoted flight_now.now (claiming tx_flown behind.held) (asked_with c reply) parts.stores = record {
        told = ap (λ (x : Stepped). answer_of x.reply) did_so;
        words = sym (ap (λ (x : Stepped). x.world.words) did_so);
        stored = stored stores;
      } in
      let done = called_with_claims flight_now at tx_flown (asked_with c reply) behind.held parts.stores f.flies active running
      (f.sound at tx_flown active) ahead
      (no_rivals w flight_now.now f.unnoted jobs next at claimed alone) same go.does.fits noted in
      subst (λ x. InFlight (turned flight_now at (Some (flown job.me (f.unnoted at) behind)) x))
      (moved_so w words was is started (f.unnoted at) job tx c reply parts go)
      (subst (λ x. InFlight (turned flight_now at (Some x) (after_call flight_now.now tx_flown (asked_with c reply))))
      (noted_so w words was is started (f.unnoted at) job tx c reply parts go) done)

  held_behind : length tx.calls ≡ length tx.replies → behind.held ≡ held_of (ran_at p.state.world job.me behind).touched
  held_behind count =
      let w = p.state.world in
      let asked = asked_of tx.calls tx.replies in
      let state = body_state w job.me tx.number asked in
      let stepped : ran_at w job.me behind ≡ step tx.number ran (asked_with c reply) =
      ap (λ (b : BlockState). b.now) (ap (body_state w job.me tx.number) (asked-more tx.calls tx.replies c reply count)
      ∙ body_last w job.me tx.number asked (asked_with c reply))
      ∙ marked_now c state.saved (step tx.number state.now (asked_with c reply)) ahead in
      let me : ran.me ≡ tx.me = (f.flies.flights at tx_flown active).inside.me in
      let many : length ran.world.words ≡ length words = (body_keeps w job.me tx.number asked).count ∙ sym f.flies.count in
      let touches : claimed ≡ claims_of c ran.me (length ran.world.words) = λ i. claims_of c (sym me i) (sym many i) in
      ap (λ l. holding l claimed) held ∙ ap (holding (held_of ran.touched)) touches ∙ holding-more ran.touched (claims_of c ran.me (length ran.world.words))
      ∙ ap (λ (r : BodyResult). held_of r.touched) (sym stepped)

  -- a call keeps all
  pub calls_keep : All (HasNoRival jobs at) claimed → parts.stores ≡ tx.writes ++ stored_by (length words) c → length tx.calls ≡ length tx.replies
      → Flying s p (airfield words is started (slice_set jobs at (answered_with job place behind)) next)
  calls_keep alone stores count =
      moves_on s p words words was is started started jobs next at (f.unnoted at) job place None tx behind there doing refl f (flies alone stores)
      (none_unnoted tx.phase (asked_at s (answered_with job place behind)) (f.unnoted at) flies_so.all_noted)
      (subst (λ ph. HoldsFor (ran_at p.state.world job.me behind) (asked_at s (answered_with job place behind)) ph behind.held) (sym runs) (held_behind count))
