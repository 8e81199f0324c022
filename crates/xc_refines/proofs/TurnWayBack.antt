-- A block that goes back keeps all flights: its compensations, its end, and what cuts it short.
use Rattle.std.proofs.Common.{◌≡◌, ℕ, true, List, [], ◌∷◌, ◌++◌, length, refl, ap, sym, ◌∙◌, subst, None, Some}
use Rattle.std.specs.Prelude.{All, slice_get, slice_set, drop}
use Rattle.std.proofs.lemmas.List.Elements.{All-head, All-tail}
use Rattle.xc_data.specs.declared.call.CallWithAnswer.{CallWithAnswer}
use Rattle.xc_data.specs.declared.undo.Undo.{Undo}
use Rattle.xc_data.specs.declared.undo.UndoEnd.{UndoEnd}
use Rattle.xc_data.specs.declared.undo.UndoEnd.TheVariants.{Undone, Failed, Blocked}
use Rattle.xc_data.specs.Claims.{held_of}
use Rattle.xc_data.specs.Faults.{undo_faults}
use Rattle.std.specs.Prelude.{sum_by}
use Rattle.xc_compensate.specs.Records.{way_of}
use Rattle.xc_host.specs.Contents.{Contents, contents_of, world_of}
use Rattle.xc_host.specs.Kept.{with_kept}
use Rattle.xc_script.specs.declared.ask.Ask.{Ask}
use Rattle.xc_script.specs.Position.{Position}
use Rattle.xc_world.specs.Effects.{undone_to}
use Rattle.xc_world.specs.Ends.{Ending, IsLegalEnd, is_undone, remains}
use Rattle.xc_world.specs.Run.{BodyResult, given_back}
use Rattle.xc_world.proofs.Laws.{keeps_itself}
use Rattle.xc_model.specs.declared.phase.Phase.{Phase}
use Rattle.xc_model.specs.declared.phase.Phase.TheVariants.{Running, Backing}
use Rattle.xc_model.specs.Setting.{Setting}
use Rattle.xc_model.specs.Progress.{Progress}
use Rattle.xc_model.specs.Played.{HoldsFor}
use Rattle.xc_model.specs.Moment.{TxView, SavedView, JobView, Active, active_in}
use Rattle.xc_model.specs.Movers.{answered_with, asked_at, with_tx}
use Rattle.xc_model.specs.BackingRows.{phase_after, backed}
use Rattle.xc_flight.specs.Active.{Tx, Own}
use Rattle.xc_flight.specs.Active as flight
use Rattle.xc_flight.specs.Flight.{Flight}
use Rattle.xc_flight.specs.State.{FlightState, InFlight, IsActive, turned}
use Rattle.xc_flight.specs.Turns.{went_back}
use Rattle.xc_flight.proofs.Laws.{newest_undone, way_back, backs, body_gone, flight_goes_on as flight_goes_on}
use Rattle.xc_refines.specs.InFlight.{IsUnnoted, flown, flown_saved, flown_phase, ran_at}
use Rattle.xc_refines.proofs.FlownLists.{flown_there, none_unnoted}
use Rattle.xc_refines.proofs.TurnAborts.{given_in}
use Rattle.xc_refines.proofs.TurnBack.{holds_at, records_so, undone_in}
use Rattle.xc_refines.proofs.TurnCalls.{flown_copy}
use Rattle.xc_refines.proofs.TurnParts.{Flying, world_in, flight_in, flies_on, moves_on, airfield}

-- all of a block that goes back is noted
backing_noted : (next : Ask) (us : List CallWithAnswer) → IsUnnoted Backing next us → us ≡ []
backing_noted next [] so = refl
backing_noted next (c ∷ us) so = absurd so

-- a way back that is cut short goes on as an abort
after_flown : (number : ℕ) (end : UndoEnd) → flown_phase (phase_after number end) ≡ flight.Undoing
after_flown number (Undone faults) = refl
after_flown number (Failed done faults) = refl
after_flown number (Blocked by) = refl

-- nothing remains of records that are undone
none_remain : (es : List Ending) → All (λ e. is_undone e.1 ≡ true) es → remains es ≡ []
none_remain [] all = refl
none_remain ((u, Undone faults) ∷ es) all = none_remain es (All-tail (λ (e : Ending). is_undone e.1 ≡ true) (u, Undone faults) es all)
none_remain ((u, Failed done faults) ∷ es) all =
    let bad = All-head (λ (e : Ending). is_undone e.1 ≡ true) (u, Failed done faults) es all in cc bad
none_remain ((u, Blocked by) ∷ es) all = let bad = All-head (λ (e : Ending). is_undone e.1 ≡ true) (u, Blocked by) es all in cc bad

module _ (s : Setting) (p : Progress) (words : List ℕ) (contents : Contents) (started : List (List ℕ)) (jobs : List JobView) (next at : ℕ)
    (job : JobView) (place : Position) (tx : TxView)
    (there : slice_get jobs at ≡ Some job) (doing : job.doing ≡ Active tx) (f : Flying s p (airfield words contents started jobs next))
    (backing : tx.phase ≡ Backing) where
  abbrev flight_now : FlightState
  flight_now = flight_in p.state.world (world_in p.state.world words contents started) f.unnoted jobs next

  abbrev tx_flown : Tx
  tx_flown = flown job.me (f.unnoted at) tx

  abbrev ran : BodyResult
  ran = ran_at p.state.world job.me tx

  active : IsActive flight_now at tx_flown
  active = flown_there f.unnoted jobs at job tx there doing

  flown_back : tx_flown.phase ≡ flight.Undoing
  flown_back = ap flown_phase backing

  held : tx.held ≡ held_of ran.touched
  held = subst (λ ph. HoldsFor ran (asked_at s job) ph tx.held) backing (f.holds at job tx there (ap active_in doing))

  noted : f.unnoted at ≡ []
  noted = backing_noted (asked_at s job) (f.unnoted at)
      (subst (λ ph. IsUnnoted ph (asked_at s job) (f.unnoted at)) backing (f.was_asked at job tx there (ap active_in doing)))

  -- a mark cuts it short
  pub cut_keeps : (ph : Phase) → flown_phase ph ≡ flight.Undoing
      → Flying s p (airfield words contents started (slice_set jobs at (with_tx job place (record tx { phase = ph }))) next)
  cut_keeps ph undoes =
      let tx' : TxView = record tx { phase = ph } in
      let t' = flown job.me (f.unnoted at) tx' in
      let same : tx_flown ≡ t' = λ i. record tx_flown { phase = (flown_back ∙ sym undoes) i } in
      let a = asked_at s (with_tx job place tx) in
      flies_on s p words words contents contents started started jobs next at (f.unnoted at) job place tx tx' there doing refl f
      (flight_goes_on flight_now at tx_flown t' flight_now.now f.flies active refl refl (keeps_itself (Own tx_flown) flight_now.now)
      (subst (Flight flight_now.state flight_now.now) same (f.flies.flights at tx_flown active)))
      (none_unnoted ph a (f.unnoted at) noted) (holds_at ran a ph tx.held held)

  -- a record is tried
  pub backs_one_keeps : (older : List Undo) (u : Undo) (end : UndoEnd) (contents' : Contents) (number : ℕ)
      → tx.undo.pending ≡ older ++ u ∷ [] → IsLegalEnd s.rules.undo_tries u end (way_of older u tx.undo)
      → contents' ≡ contents_of (undone_to (world_of contents) u end)
      → Flying s p (airfield words contents' started
      (slice_set jobs at (with_tx job place
      (record tx { phase = phase_after number end; undo = record { pending = older; ended = (u, end) ∷ tx.undo.ended } }))) next)
  backs_one_keeps older u end contents' number newest legal effect =
      let w = p.state.world in
      let ph = phase_after number end in
      let tx' : TxView = record tx { phase = ph; undo = record { pending = older; ended = (u, end) ∷ tx.undo.ended } } in
      let sound = f.sound at tx_flown active in
      let made = records_so s p words contents started jobs next at job tx there doing f in
      let done = newest_undone flight_now at tx_flown older u end
      (record { all = f.flies; active = active; phase = flown_back }) sound made newest s.rules.undo_tries legal in
      let leads : undone_to flight_now.now u end ≡ world_in w words contents' started =
      undone_in flight_now.now u end ∙ ap (λ cs. world_in w words cs started) (sym effect) in
      let a = asked_at s (with_tx job place tx) in
      flies_on s p words words contents contents' started started jobs next at (f.unnoted at) job place tx tx' there doing refl f
      (subst (λ v. InFlight (turned flight_now at (Some (flown job.me (f.unnoted at) tx')) v)) leads
      (subst (λ ph. InFlight (turned flight_now at (Some (record (flown job.me (f.unnoted at) tx') { phase = ph })) (undone_to flight_now.now u end)))
      (flown_back ∙ sym (after_flown number end)) done))
      (none_unnoted ph a (f.unnoted at) noted) (holds_at ran a ph tx.held held)

  -- it ends
  pub ends_back_keeps : (kept : SavedView) (contents' : Contents) → tx.saved ≡ Some kept → length tx.undo.pending ≡ length kept.trail
      → All (λ e. is_undone e.1 ≡ true) tx.undo.ended → contents' ≡ with_kept contents (drop (length kept.taken) tx.taken)
      → Flying s p (airfield words contents' started (slice_set jobs at (answered_with job place (backed tx kept))) next)
  ends_back_keeps kept contents' is count undone returned =
      let w = p.state.world in
      let us = f.unnoted at in
      let tx' = backed tx kept in
      let items = drop (length kept.taken) tx.taken in
      let faults = sum_by undo_faults tx.undo.ended in
      let sound = f.sound at tx_flown active in
      let way = way_back flight_now at tx_flown (flown_copy kept) f.flies active sound (ap flown_saved is) noted count (none_remain tx.undo.ended undone) in
      let done = backs flight_now at tx_flown (flown_copy kept) items faults f.flies active flown_back sound way in
      let becomes : went_back tx_flown (flown_copy kept) faults ≡ flown job.me us tx' =
      λ i. record (flown job.me us tx') { pending = sym way.older i } in
      let leads : given_back flight_now.now items ≡ world_in w words contents' started =
      given_in w words contents started items ∙ ap (λ cs. world_in w words cs started) (sym returned) in
      let touched : (ran_at w job.me tx').touched ≡ ran.touched =
      body_gone flight_now at tx_flown (flown_copy kept) items faults f.flies active flown_back sound way in
      moves_on s p words words contents contents' started started jobs next at us job place None tx tx' there doing refl f
      (subst (λ v. InFlight (turned flight_now at (Some (flown job.me us tx')) v)) leads
      (subst (λ t. InFlight (turned flight_now at (Some t) (given_back flight_now.now items))) becomes done))
      (none_unnoted Running (asked_at s (answered_with job place tx')) us noted)
      (held ∙ ap held_of (sym touched))
