-- What the newest record without an end made is empty, and nobody has taken from it: nothing was put there.
use Rattle.std.proofs.Common.{◌≡◌, ℕ, ◌+◌, List, [], ◌∷◌, ◌++◌, Some, length, ap, sym, ◌∙◌, subst, refl, arith}
use Rattle.std.specs.Prelude.{Contains, slice_get}
use Rattle.xc_data.specs.declared.entry.Cause.{Cause}
use Rattle.xc_data.specs.declared.entry.KeptItem.{KeptItem}
use Rattle.xc_data.specs.declared.entry.KeptItem.TheVariants as item
use Rattle.xc_data.specs.declared.object.Object.{Object}
use Rattle.xc_data.specs.declared.object.Object.TheVariants as object
use Rattle.xc_data.specs.declared.undo.Undo.{Undo}
use Rattle.xc_data.specs.declared.undo.Undo.TheVariants.{Overwrite, Append, Create, Rename, NewPipe, NewPair}
use Rattle.xc_data.specs.declared.undo.UndoEnd.TheVariants.{Blocked}
use Rattle.xc_data.specs.Remaining.{objects_of}
use Rattle.xc_host.specs.Contents.{world_of}
use Rattle.xc_world.specs.World.{pipe_of, pair_of}
use Rattle.xc_world.specs.Ends.{with_remains}
use Rattle.xc_world.specs.Laws.{AgreeAt}
use Rattle.xc_model.specs.declared.phase.Phase.TheVariants.{Undoing}
use Rattle.xc_model.specs.Setting.{Setting}
use Rattle.xc_model.specs.Moment.{TxView, JobView, Moment, active_of}
use Rattle.std.proofs.Common.{◌≢◌}
use Rattle.std.specs.Prelude.{All}
use mathlib.Core.Logic.{dite}
use native.Mathlib.Decide.{ℕ_discrete}
use Rattle.std.proofs.lemmas.List.Elements.{All-contains}
use Rattle.xc_flight.specs.Active.{Tx, Own}
use Rattle.xc_flight.specs.Flight.{effects}
use Rattle.xc_flight.specs.State.{IsActive, active_at}
use Rattle.xc_flight.proofs.Laws.{owns_has, has_it, own_it, Coined, amount_in, filled_alike, new_empty, remains_empty, taken_own, trail_coined, not_taken}
use Rattle.xc_flight.proofs.Laws.{of_record, record_own, there_as_told as record_there}
use Rattle.xc_world.specs.Run.{item_object}
use Rattle.xc_refines.specs.InFlight.{IsEmptyNew, flown, flown_phase, flight_state, state_of, world_now, AreInFlight}
use Rattle.xc_refines.proofs.FlownJobs.{flies_there, flight_there, sound_there}

nil_of : {A : Type 0} (xs : List A) → length xs ≡ 0 → xs ≡ []
nil_of [] e = refl
nil_of (x ∷ xs) e = absurd (omega (arith, e))

module _ (s : Setting) (now : Moment) (all : AreInFlight s now) (at : ℕ) (job : JobView) (tx : TxView) (c : Cause) (older : List Undo) (u : Undo)
    (at_place : slice_get now.jobs at ≡ Some job) (active : active_of job ≡ Some tx) (undoes : tx.phase ≡ Undoing c)
    (pending : tx.undo.pending ≡ older ++ u ∷ []) where
  same : (o : Object) → Contains (objects_of u) o
      → AgreeAt (world_now s now) (with_remains (state_of s now).world (effects (flown job.me (all.unnoted at) tx))) o
  same =
      record_there (flight_state s now all.unnoted) at (flown job.me (all.unnoted at) tx) older u (Blocked 0) all.flies
      (flies_there s now all at job tx at_place active) (ap flown_phase undoes) (sound_there s now all at job tx at_place active) pending

  coined : Coined tx.number u
  coined =
      of_record (flight_state s now all.unnoted) at (flown job.me (all.unnoted at) tx) older u (Blocked 0) all.flies
      (flies_there s now all at job tx at_place active) (ap flown_phase undoes) (sound_there s now all at job tx at_place active) pending
      (Coined tx.number) (trail_coined (state_of s now).world (flown job.me (all.unnoted at) tx))

  none_stood : (k : KeptItem) → amount_in (state_of s now).world k ≡ 0
      → amount_in (with_remains (state_of s now).world (effects (flown job.me (all.unnoted at) tx))) k ≡ 0
  none_stood = remains_empty (state_of s now).world (effects (flown job.me (all.unnoted at) tx))

  by_kind : (v : Undo) → u ≡ v → IsEmptyNew (world_of now.contents) v
  by_kind (NewPipe num) is =
      let k = item.Bytes num [] in
      let there = same (object.Pipe num) (subst (λ v. Contains (objects_of v) (object.Pipe num)) (sym is) (0, omega arith, refl)) in
      let new =
      new_empty (state_of s now).world tx.number k (flight_there s now all at job tx at_place active).inside.new (subst (Coined tx.number) is coined) in
      nil_of (pipe_of (world_of now.contents) num).held
      (filled_alike (world_now s now) (with_remains (state_of s now).world (effects (flown job.me (all.unnoted at) tx))) k there ∙ none_stood k new)
  by_kind (NewPair num) is =
      let k = item.Message num 0 [] in
      let there = same (object.Pair num) (subst (λ v. Contains (objects_of v) (object.Pair num)) (sym is) (0, omega arith, refl)) in
      let new =
      new_empty (state_of s now).world tx.number k (flight_there s now all at job tx at_place active).inside.new (subst (Coined tx.number) is coined) in
      let none : length (pair_of (world_of now.contents) num).first + length (pair_of (world_of now.contents) num).second ≡ 0 =
      filled_alike (world_now s now) (with_remains (state_of s now).world (effects (flown job.me (all.unnoted at) tx))) k there ∙ none_stood k new in
      (nil_of (pair_of (world_of now.contents) num).first (omega (arith, none)), nil_of (pair_of (world_of now.contents) num).second (omega (arith, none)))
  by_kind (Overwrite file at before after n) is = tt
  by_kind (Append file from after n) is = tt
  by_kind (Create name num) is = tt
  by_kind (Rename from to) is = tt

  -- so it is
  pub made_empty : IsEmptyNew (world_of now.contents) u
  made_empty = by_kind u refl

  -- ---- nobody has taken from there
  abbrev undoer : Tx
  undoer = flown job.me (all.unnoted at) tx

  it_owns : (o : Object) → Contains (objects_of u) o → Own undoer o
  it_owns o among =
      All-contains (Own undoer) (objects_of u) o
      (record_own (flight_state s now all.unnoted) at undoer older u (Blocked 0) all.flies (flies_there s now all at job tx at_place active)
      (ap flown_phase undoes) (sound_there s now all at job tx at_place active) pending) among

  module _ (j : ℕ) (its_job : JobView) (other : TxView) (k : KeptItem) (there_too : slice_get now.jobs j ≡ Some its_job)
      (active_too : active_of its_job ≡ Some other) (took : Contains other.taken k) where
    abbrev taker : Tx
    taker = flown its_job.me (all.unnoted j) other

    taker_flies : IsActive (flight_state s now all.unnoted) j taker
    taker_flies = flies_there s now all j its_job other there_too active_too

    taker_owns : Own taker (item_object k)
    taker_owns =
        let i = (flight_there s now all j its_job other there_too active_too).inside in
        All-contains (λ x. Own taker (item_object x)) other.taken k
        (subst (All (λ x. Own taker (item_object x))) i.taken
        (taken_own (state_of s now).world taker i (sound_there s now all j its_job other there_too active_too)))
        took

    -- the newest record is not of what another took from
    pub not_taken_from : Contains (objects_of u) (item_object k) → ⊥
    not_taken_from among =
        let o = item_object k in
        let here : Contains (objects_of u) o = among in
        dite (ℕ_discrete j at)
        (λ (e : j ≡ at).
        let none = not_taken (flight_state s now all.unnoted) at undoer older u (Blocked 0) all.flies (flies_there s now all at job tx at_place active)
        (ap flown_phase undoes) (sound_there s now all at job tx at_place active) pending o here in
        let both : Some undoer ≡ Some taker = sym (flies_there s now all at job tx at_place active)
        ∙ ap (λ n. active_at (flight_state s now all.unnoted) n) (sym e) ∙ taker_flies in
        let one : undoer ≡ taker = cc both in
        All-contains (λ x. item_object x ≢ o) tx.taken k none (subst (λ (x : Tx). Contains x.taken k) (sym one) took) refl)
        (λ (ne : j ≢ at). all.flies.apart at j o (λ e. ne (sym e))
        (own_it (flight_state s now all.unnoted) at undoer o (flies_there s now all at job tx at_place active) (it_owns o here))
        (has_it (flight_state s now all.unnoted) j taker o taker_flies (owns_has taker o taker_owns)))
