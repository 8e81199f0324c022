-- A transaction that goes over to its commit or to its rollback, or compensates, keeps all flights.
use Rattle.std.proofs.Common.{◌≡◌, ℕ, ◌==◌, Bool, true, false, List, [], ◌∷◌, ◌++◌, refl, ap, sym, ◌∙◌, subst, Some, None}
use Rattle.std.proofs.Common.{Option}
use Rattle.std.specs.Prelude.{map, slice_get, slice_set, if◌then◌else◌}
use Rattle.std.proofs.lemmas.List.{append-nil}
use Rattle.std.specs.FinMap as finite
use Rattle.xc_data.specs.declared.claim.Claim.{Claim}
use Rattle.xc_data.specs.declared.entry.Cause.{Cause}
use Rattle.xc_data.specs.declared.entry.Cause.TheVariants as cause
use Rattle.xc_data.specs.declared.object.Num.{Num}
use Rattle.xc_data.specs.declared.undo.Undo.{Undo}
use Rattle.xc_data.specs.declared.undo.Undo.TheVariants.{Overwrite, Append, Create, Rename, NewPipe, NewPair}
use Rattle.xc_data.specs.declared.undo.UndoEnd.{UndoEnd}
use Rattle.xc_data.specs.declared.undo.UndoEnd.TheVariants.{Undone, Failed, Blocked}
use Rattle.xc_data.specs.Claims.{held_of}
use Rattle.xc_compensate.specs.Records.{way_of}
use Rattle.xc_host.specs.Contents.{Contents, contents_of, with_contents, world_of}
use Rattle.xc_script.specs.declared.ask.Ask.{Ask}
use Rattle.xc_script.specs.Position.{Position}
use Rattle.xc_txmem.specs.Overlay.{overlaid}
use Rattle.xc_world.specs.World.{World}
use Rattle.xc_world.specs.Effects.{AreMadeIn, undone_to}
use Rattle.xc_world.specs.Ends.{IsLegalEnd}
use Rattle.xc_world.specs.Run.{BodyResult}
use Rattle.xc_world.specs.Trail.{move_name, undone}
use Rattle.xc_model.specs.declared.phase.Phase.{Phase}
use Rattle.xc_model.specs.declared.phase.Phase.TheVariants.{Running, Committing, Undoing, Backing}
use Rattle.xc_model.specs.Setting.{Setting}
use Rattle.xc_model.specs.Progress.{Progress}
use Rattle.xc_model.specs.Played.{HoldsFor}
use Rattle.xc_model.specs.Moment.{TxView, JobView, Active, active_in}
use Rattle.xc_model.specs.Movers.{asked_at, with_tx}
use Rattle.xc_flight.specs.Active.{Tx}
use Rattle.xc_flight.specs.Active as flight
use Rattle.xc_flight.specs.State.{FlightState, InFlight, IsActive, turned}
use Rattle.xc_flight.proofs.Laws.{is_running, commits, newest_undone, records_made, turns_back}
use Rattle.xc_refines.specs.InFlight.{IsUnnoted, flown, flown_phase, ran_at}
use Rattle.xc_refines.proofs.FlownLists.{flown_there, none_unnoted}
use Rattle.xc_refines.proofs.TurnParts.{Flying, world_in, flight_in, flies_on, airfield}

-- ---- what is held
-- what its calls claimed, in each phase
pub holds_at : (ran : BodyResult) (next : Ask) (p : Phase) (held : List Claim) → held ≡ held_of ran.touched → HoldsFor ran next p held
holds_at ran next Running held e = e
holds_at ran next Committing held e = e
holds_at ran next Backing held e = e
holds_at ran next (Undoing (cause.Stuck failed)) held e = e
holds_at ran next (Undoing cause.Asked) held e = e
holds_at ran next (Undoing (cause.Conflict object holder at)) held e = e
holds_at ran next (Undoing (cause.Revoked object by at)) held e = e
holds_at ran next (Undoing cause.NoMemory) held e = ([], tt, e ∙ ap held_of (sym (append-nil ran.touched)))

-- ---- a compensation depends on what the host has alone, and changes nothing else
moved_in : (v : World) (from to : List ℕ) (o : Option Num)
    → move_name v to from o ≡ with_contents v (contents_of (move_name (world_of (contents_of v)) to from o))
moved_in v from to None = refl
moved_in v from to (Some num) = refl

restored_in : (b : Bool) (v : World) (u : Undo)
    → (if b then v else undone v u) ≡ with_contents v (contents_of (if b then world_of (contents_of v) else undone (world_of (contents_of v)) u))
restored_in true v u = refl
restored_in false v (Overwrite file at before after n) = refl
restored_in false v (Append file from after n) = refl
restored_in false v (Create name num) = refl
restored_in false v (Rename from to) = moved_in v from to (finite.get v.names to)
restored_in false v (NewPipe num) = refl
restored_in false v (NewPair num) = refl

-- what it leads to
pub undone_in : (v : World) (u : Undo) (end : UndoEnd) → undone_to v u end ≡ with_contents v (contents_of (undone_to (world_of (contents_of v)) u end))
undone_in v (Overwrite file at before after n) (Undone faults) = refl
undone_in v (Append file from after n) (Undone faults) = refl
undone_in v (Create name num) (Undone faults) = refl
undone_in v (Rename from to) (Undone faults) = moved_in v from to (finite.get v.names to)
undone_in v (NewPipe num) (Undone faults) = refl
undone_in v (NewPair num) (Undone faults) = refl
undone_in v (Overwrite file at before after n) (Failed done faults) = restored_in (done == 0) v (Overwrite file at before after done)
undone_in v (Append file from after n) (Failed done faults) = refl
undone_in v (Create name num) (Failed done faults) = refl
undone_in v (Rename from to) (Failed done faults) = refl
undone_in v (NewPipe num) (Failed done faults) = refl
undone_in v (NewPair num) (Failed done faults) = refl
undone_in v u (Blocked by) = refl

-- its records were made one after another
pub records_so : (s : Setting) (p : Progress) (words : List ℕ) (contents : Contents) (started : List (List ℕ)) (jobs : List JobView) (next at : ℕ)
    (job : JobView) (tx : TxView)
    → slice_get jobs at ≡ Some job → job.doing ≡ Active tx → Flying s p (airfield words contents started jobs next)
    → AreMadeIn p.state.world (tx.undo.pending ++ map (λ r. r.0) tx.undo.ended)
records_so s p words contents started jobs next at job tx there doing f =
    let t = flown job.me (f.unnoted at) tx in
    let active = flown_there f.unnoted jobs at job tx there doing in
    records_made (flight_in p.state.world (world_in p.state.world words contents started) f.unnoted jobs next) at t f.flies active (f.sound at t active)

-- ---- turns
module _ (s : Setting) (p : Progress) (words : List ℕ) (contents : Contents) (started : List (List ℕ)) (jobs : List JobView) (next at : ℕ)
    (job : JobView) (place : Position)
    (tx : TxView)
    (there : slice_get jobs at ≡ Some job) (doing : job.doing ≡ Active tx) (f : Flying s p (airfield words contents started jobs next)) where
  abbrev flight_now : FlightState
  flight_now = flight_in p.state.world (world_in p.state.world words contents started) f.unnoted jobs next

  abbrev tx_flown : Tx
  tx_flown = flown job.me (f.unnoted at) tx

  abbrev ran : BodyResult
  ran = ran_at p.state.world job.me tx

  abbrev asked_next : Ask
  asked_next = asked_at s job

  active : IsActive flight_now at tx_flown
  active = flown_there f.unnoted jobs at job tx there doing

  held : tx.phase ≡ Running → tx.held ≡ held_of ran.touched
  held runs = subst (λ ph. HoldsFor ran asked_next ph tx.held) runs (f.holds at job tx there (ap active_in doing))

  running : tx.phase ≡ Running → tx_flown.phase ≡ flight.Running
  running runs = ap flown_phase runs

  -- it has noted all that it did
  noted_so : tx.phase ≡ Running → f.unnoted at ≡ []
  noted_so runs = (is_running flight_now at tx_flown f.flies active (running runs)).all_noted

  -- it turns back
  pub back_keeps : (c : Cause) → tx.phase ≡ Running
      → Flying s p (airfield words contents started (slice_set jobs at (with_tx job place (record tx { phase = Undoing c }))) next)
  back_keeps c runs =
      flies_on s p words words contents contents started started jobs next at (f.unnoted at) job place tx (record tx { phase = Undoing c }) there doing refl f
      (turns_back flight_now at tx_flown f.flies active (running runs) (f.sound at tx_flown active))
      (none_unnoted (Undoing c) (asked_at s (with_tx job place tx)) (f.unnoted at) (noted_so runs))
      (holds_at ran (asked_at s (with_tx job place tx)) (Undoing c) tx.held (held runs))

  -- its block goes back
  pub begins_back_keeps : tx.phase ≡ Running
      → Flying s p (airfield words contents started (slice_set jobs at (with_tx job place (record tx { phase = Backing }))) next)
  begins_back_keeps runs =
      flies_on s p words words contents contents started started jobs next at (f.unnoted at) job place tx (record tx { phase = Backing }) there doing refl f
      (turns_back flight_now at tx_flown f.flies active (running runs) (f.sound at tx_flown active))
      (none_unnoted Backing (asked_at s (with_tx job place tx)) (f.unnoted at) (noted_so runs))
      (held runs)

  -- it commits
  pub commit_keeps : tx.phase ≡ Running
      → Flying s p (airfield (overlaid words tx.writes) contents started (slice_set jobs at (with_tx job place (record tx { phase = Committing }))) next)
  commit_keeps runs =
      flies_on s p words (overlaid words tx.writes) contents contents started started jobs next at (f.unnoted at) job place tx
      (record tx { phase = Committing }) there
      doing refl f (commits flight_now at tx_flown f.flies active (running runs))
      (none_unnoted Committing (asked_at s (with_tx job place tx)) (f.unnoted at) (noted_so runs))
      (held runs)

  -- a record is tried
  pub tried_keeps : (c : Cause) (older : List Undo) (u : Undo) (end : UndoEnd) (contents' : Contents) → tx.phase ≡ Undoing c
      → tx.undo.pending ≡ older ++ u ∷ [] → IsLegalEnd s.rules.undo_tries u end (way_of older u tx.undo)
      → contents' ≡ contents_of (undone_to (world_of contents) u end) → asked_at s (with_tx job place tx) ≡ asked_at s job
      → Flying s p (airfield words contents' started
      (slice_set jobs at (with_tx job place (record tx { undo = record { pending = older; ended = (u, end) ∷ tx.undo.ended } }))) next)
  tried_keeps c older u end contents' undoes newest legal effect still =
      let w = p.state.world in
      let tx' : TxView = record tx { undo = record { pending = older; ended = (u, end) ∷ tx.undo.ended } } in
      let sound = f.sound at tx_flown active in
      let made = records_so s p words contents started jobs next at job tx there doing f in
      let done = newest_undone flight_now at tx_flown older u end
      (record { all = f.flies; active = active; phase = ap flown_phase undoes }) sound made newest s.rules.undo_tries legal in
      let leads : undone_to flight_now.now u end ≡ world_in w words contents' started =
      undone_in flight_now.now u end ∙ ap (λ cs. world_in w words cs started) (sym effect) in
      flies_on s p words words contents contents' started started jobs next at (f.unnoted at) job place tx tx' there doing refl f
      (subst (λ v. InFlight (turned flight_now at (Some (flown job.me (f.unnoted at) tx')) v)) leads done)
      (subst (λ a. IsUnnoted tx.phase a (f.unnoted at)) (sym still) (f.was_asked at job tx there (ap active_in doing)))
      (subst (λ a. HoldsFor ran a tx.phase tx.held) (sym still) (f.holds at job tx there (ap active_in doing)))
