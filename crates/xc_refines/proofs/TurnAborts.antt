-- The entry of an aborted transaction keeps all flights.
use Rattle.std.proofs.Common.{◌≡◌, ◌≢◌, ℕ, inl, List, [], ◌∷◌, ◌++◌, refl, ap, sym, ◌∙◌, subst, Some, None}
use Rattle.std.specs.Prelude.{All, Contains, map, slice_get, slice_set}
use Rattle.std.proofs.lemmas.List.Elements.{All-weaker, All-contains_itself}
use Rattle.xc_data.specs.declared.entry.Cause.{Cause}
use Rattle.xc_data.specs.declared.entry.KeptItem.{KeptItem}
use Rattle.xc_data.specs.declared.entry.KeptItem.TheVariants.{Bytes as Bytes', Message}
use Rattle.xc_data.specs.declared.private.Private.{Private}
use Rattle.xc_data.specs.Claims.{objects}
use Rattle.xc_host.specs.Contents.{Contents}
use Rattle.xc_host.specs.Kept.{with_kept}
use Rattle.xc_world.specs.World.{World, beginning}
use Rattle.xc_world.specs.Effects.{AreMadeIn, whole}
use Rattle.xc_world.specs.Ends.{Ending, remains, with_remains}
use Rattle.xc_world.specs.Laws.{AgreeAt}
use Rattle.xc_world.specs.Own.{KeepsBut}
use Rattle.xc_world.specs.Run.{asked_of, gives, given_back}
use Rattle.xc_world.proofs.Laws.{body_alike_begun}
use Rattle.xc_model.specs.declared.phase.Phase.TheVariants.{Undoing}
use Rattle.xc_model.specs.Setting.{Setting}
use Rattle.xc_model.specs.Progress.{Progress}
use Rattle.xc_model.specs.Moment.{TxView, JobView, Active, active_of}
use Rattle.xc_flight.specs.Active.{Tx, Own}
use Rattle.xc_flight.specs.Active as flight
use Rattle.xc_flight.specs.State.{FlightState, Flies, InFlight, IsActive, AreSound, IsIdleSound, entered}
use Rattle.xc_flight.specs.Turns.{after_abort}
use Rattle.xc_flight.proofs.Laws.{abort_idle, abort_sound, own_after_abort, left_keeps, active_set_other, abort_enters}
use Rattle.xc_refines.specs.InFlight.{flown, flown_phase, ran_at}
use Rattle.xc_refines.proofs.FlownLists.{flown_there, active_does}
use Rattle.xc_refines.proofs.TurnBack.{records_so}
use Rattle.xc_refines.proofs.TurnEnters.{LeadsToLanding, GivesSame, apart_of, landing}
use Rattle.std.proofs.Common.{append-nil}
use Rattle.xc_data.proofs.Laws.{map_set_same}
use Rattle.xc_refines.proofs.StartedWorld.{remains_base}
use Rattle.xc_refines.proofs.TurnParts.{Flying, flight_in, world_in, airfield}

-- ---- what is given back is given back to the host's contents alone
pub given_in : (w : World) (words : List ℕ) (contents : Contents) (started : List (List ℕ)) (items : List KeptItem)
    → given_back (world_in w words contents started) items ≡ world_in w words (with_kept contents items) started
given_in w words contents started [] = refl
given_in w words contents started (Bytes' pipe bytes ∷ items) = ap (λ v. gives v (Bytes' pipe bytes)) (given_in w words contents started items)
given_in w words contents started (Message pair side bytes ∷ items) = ap (λ v. gives v (Message pair side bytes)) (given_in w words contents started items)

-- ---- an abort enters
module _ (s : Setting) (p : Progress) (words : List ℕ) (contents : Contents) (started : List (List ℕ)) (jobs : List JobView) (next at : ℕ) (job : JobView)
    (tx : TxView) (c : Cause)
    (there : slice_get jobs at ≡ Some job) (doing : job.doing ≡ Active tx) (undoes : tx.phase ≡ Undoing c) (none : tx.undo.pending ≡ [])
    (f : Flying s p (airfield words contents started jobs next)) where
  abbrev flight_now : FlightState
  flight_now = flight_in p.state.world (world_in p.state.world words contents started) f.unnoted jobs next

  abbrev tx_flown : Tx
  tx_flown = flown job.me (f.unnoted at) tx

  abbrev behind : World
  behind = after_abort p.state.world tx_flown

  active : IsActive flight_now at tx_flown
  active = flown_there f.unnoted jobs at job tx there doing

  flies : Flies flight_now at tx_flown flight.Undoing
  flies = record { all = f.flies; active = active; phase = ap flown_phase undoes }

  made : AreMadeIn p.state.world (map (λ r. r.0) tx.undo.ended)
  made = subst (λ us. AreMadeIn p.state.world (us ++ map (λ (r : Ending). r.0) tx.undo.ended)) none
      (records_so s p words contents started jobs next at job tx there doing f)

  abbrev returned : World
  returned = given_back flight_now.now tx.taken

  sound_behind : AreSound (entered flight_now at behind returned)
  sound_behind = abort_sound flight_now at tx_flown flies returned f.sound made

  -- what remains is its own
  keeps : KeepsBut (Own tx_flown) p.state.world behind
  keeps = subst (λ us. KeepsBut (Own tx_flown) p.state.world (with_remains p.state.world (whole us ++ remains tx.undo.ended))) none
      (left_keeps p.state.world tx_flown (f.flies.flights at tx_flown active).inside flight.Undoing)

  abort_bodies : (j : ℕ) (other : JobView) (u : TxView) → other.me ≡ beginning other.me.places → j ≢ at → slice_get jobs j ≡ Some other
      → active_of other ≡ Some u → GivesSame (ran_at p.state.world other.me u) (ran_at behind other.me u)
  abort_bodies j other u fresh ne here does =
      let w = p.state.world in
      let is = active_does other.doing u does in
      let its = flown other.me (f.unnoted j) u in
      let flies_there = flown_there f.unnoted jobs j other u here is in
      let touched = (ran_at w other.me u).touched in
      let apart = apart_of s p words contents started jobs next at j job other tx u there doing here is ne f in
      let agree : All (AgreeAt w behind) (objects touched) =
      All-weaker (Contains (objects touched)) (AgreeAt w behind) (λ o sees. keeps.others o (apart o (inl sees))) (objects touched)
      (All-contains_itself (objects touched)) in
      let alike = body_alike_begun w behind other.me u.number (asked_of u.calls u.replies) (f.sound j its flies_there)
      (sound_behind j its (active_set_other flight_now.active at j None ne ∙ flies_there)) (ap (λ (m : Private). m.made) fresh) (sym keeps.count) agree in
      record { me = alike.gave.me; touched = alike.gave.touched; count = alike.left.count ∙ sym keeps.count ∙ sym alike.right.count }

  -- what it leads to
  pub abort_lands : (p' : Progress) (job' : JobView) → p'.state.world ≡ behind
      → p'.state.handles ≡ map (λ (job : JobView). job.me.places) (slice_set jobs at job')
      → job'.me ≡ job.me → job'.block ≡ job.block
      → ((j : ℕ) (other : JobView) → slice_get jobs j ≡ Some other → other.me ≡ beginning other.me.places)
      → LeadsToLanding (record { old = p; new = p' }) (record flight_now { now = world_in p.state.world words (with_kept contents tx.taken) started })
      (landing jobs [] at job')
  abort_lands p' job' is handles me block fresh =
      let w = p.state.world in
      let sound = f.sound at tx_flown active in
      let after = abort_enters flight_now at tx_flown f.flies active (ap flown_phase undoes) sound none in
      let now : returned ≡ world_in w words (with_kept contents tx.taken) started = given_in w words contents started tx.taken in
      record {
        flies = subst (λ v. InFlight (entered flight_now at v (world_in w words (with_kept contents tx.taken) started))) (sym is)
            (subst (λ v. InFlight (entered flight_now at behind v)) now after);
        sound = subst (λ v. AreSound (entered flight_now at v (world_in w words (with_kept contents tx.taken) started))) (sym is)
            (subst (λ v. AreSound (entered flight_now at behind v)) now sound_behind);
        others = λ places idle. subst (λ v. IsIdleSound v next places) (sym is) (abort_idle flight_now at tx_flown flies places made idle);
        own = subst (λ v. IsIdleSound v next job'.me.places) (sym is) (subst (λ (m : Private). IsIdleSound behind next m.places) (sym me)
            (own_after_abort flight_now at tx_flown returned sound made after));
        started = ap (λ (v : World). v.started) is ∙ (remains_base w (remains tx.undo.ended)).1 ∙ f.live
            ∙ sym (map_set_same (λ (job : JobView). job.block) jobs at job' job there block)
            ∙ ap (map (λ (job : JobView). job.block)) (sym (append-nil (slice_set jobs at job')));
        handles = handles ∙ ap (map (λ (job : JobView). job.me.places)) (sym (append-nil (slice_set jobs at job')));
        new = tt;
        bodies = λ j other u ne here does. subst (λ v. GivesSame (ran_at w other.me u) (ran_at v other.me u)) (sym is)
            (abort_bodies j other u (fresh j other here) ne here does);
      }
