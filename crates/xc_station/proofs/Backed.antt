-- What the host has of data that was taken: its pipes and pairs are there, and a step changes no others than it speaks of.
use Rattle.std.proofs.Common.{◌≡◌, ◌≢◌, ◌⊎◌, inl, inr, ℕ, Bool, true, false, ◌||◌, ◌+◌, ◌≤◌, List, [], ◌∷◌, length, refl, ap, sym, ◌∙◌, subst, arith}
use Rattle.std.specs.Prelude.{All, Contains, is_some, unwrap_or, slice_get, slice_set}
use Rattle.std.specs.declared.option.Option.TheVariants.{Some}
use mathlib.Core.Logic.{dite}
use native.Mathlib.Decide.{ℕ_discrete}
use Rattle.std.specs.FinMap as map
use Rattle.std.proofs.lemmas.List.Elements.{All-nil, All-cons, All-head, All-tail, All-weaker, All-contains, All-contains_itself}
use Rattle.xc_maps.specs.Keys.{name_cmp, num_cmp}
use Rattle.xc_data.specs.Remaining.{objects_of}
use Rattle.xc_data.specs.declared.call.Call.{Call}
use Rattle.xc_data.specs.declared.call.Reply.{Reply}
use Rattle.xc_data.specs.declared.entry.KeptItem.{KeptItem}
use Rattle.xc_data.specs.declared.entry.KeptItem.TheVariants.{Bytes, Message}
use Rattle.xc_data.specs.declared.object.Num.{Num}
use Rattle.xc_data.specs.declared.object.Object.{Object}
use Rattle.xc_data.specs.declared.object.Object.TheVariants as object
use Rattle.xc_data.specs.declared.private.Place.{Place}
use Rattle.xc_data.specs.declared.private.Place.TheVariants as place
use Rattle.xc_data.specs.declared.undo.Undo.{Undo}
use Rattle.xc_data.specs.declared.undo.Undo.TheVariants as undo
use Rattle.xc_data.specs.declared.undo.UndoEnd.{UndoEnd}
use Rattle.xc_buffers.specs.Items.{is_of_pair, keeps_from, keeps_pair}
use Rattle.xc_buffers.specs.Sources.{is_from}
use Rattle.xc_buffers.specs.Worlds.{world_has_pair, world_has_pipe}
use Rattle.xc_buffers.specs.declared.source.Endpoint.TheVariants as source
use Rattle.xc_buffers.proofs.Laws.{pair_is_there, pipe_is_there, one_source as source_one}
use Rattle.xc_data.specs.declared.call.LateCall.{LateCall}
use Rattle.xc_data.specs.declared.call.LateCall.TheVariants as late_call
use Rattle.xc_deferred.specs.Does.{IsThereFor}
use Rattle.xc_maps.proofs.Laws.{tied, num_exact, num_total}
use Rattle.xc_world.specs.Sound.{is_there}
use Rattle.xc_calls.specs.Calls.{ActsAsPlain, DidPart, CallView}
use Rattle.xc_file.specs.Checks.{IsOpenIn}
use Rattle.xc_host.specs.Contents.{Contents, contents_of, world_of}
use Rattle.xc_host.specs.Kept.{KeepsData, with_kept}
use Rattle.xc_world.specs.Act.{act}
use Rattle.xc_world.specs.Act.Step.{Stepped}
use Rattle.xc_world.specs.Beside.{AreElsewhere, is_on_data, spoken_of}
use Rattle.xc_world.specs.Effects.{IsCovered, undone_to}
use Rattle.xc_world.specs.Fits.{answer_of}
use Rattle.xc_world.specs.Laws.{AgreeAt, ChangesOnly}
use Rattle.xc_world.specs.Run.{given_back, item_object}
use Rattle.xc_world.specs.World.{World}
use Rattle.xc_world.proofs.Laws.{HasNoData, each_away, no_data_spoken, given_away, act_alike, agree_itself, undone_to_alike}
use Rattle.xc_model.specs.Moment.{TxView, active_of}
use Rattle.xc_model.specs.Movers.{IsActiveAt}
use Rattle.xc_station.specs.declared.job.Job.{Job}
use Rattle.xc_station.specs.Jobs.{job_view, job_views}
use Rattle.xc_station.specs.Lent.{AreBacked, IsBacked}
use Rattle.xc_turns.proofs.Laws.{active_before, active_is}
use Rattle.xc_data.proofs.Laws.{get_map, map_set}
use Rattle.xc_station.proofs.Lent.{kept_files, kept_names, world_kept}

-- ---- steps that speak of no pipe and no pair keep them all
-- objects that are neither have no pipe of any number
no_pipe_in : (objects : List Object) (num : Num) → All HasNoData objects → Contains objects (object.Pipe num) → ⊥
no_pipe_in objects num none at = All-contains HasNoData objects (object.Pipe num) none at (Bytes num []) refl

no_pair_in : (objects : List Object) (num : Num) → All HasNoData objects → Contains objects (object.Pair num) → ⊥
no_pair_in objects num none at = All-contains HasNoData objects (object.Pair num) none at (Message num 0 []) refl

-- a world that changed in such objects alone keeps them
keeps_by : (objects : List Object) (w x : World) → All HasNoData objects → ChangesOnly objects w x → KeepsData (contents_of w) (contents_of x)
keeps_by objects w x none changes =
    record {
      pipes = λ num is. subst (λ p. is_some p ≡ true) (changes.others (object.Pipe num) (no_pipe_in objects num none)) is;
      pairs = λ num is. subst (λ p. is_some p ≡ true) (changes.others (object.Pair num) (no_pair_in objects num none)) is;
    }

-- a world agrees with itself
agrees : (objects : List Object) (w : World) → All (AgreeAt w w) objects
agrees objects w = All-weaker (Contains objects) (AgreeAt w w) (λ o at. agree_itself w o) objects (All-contains_itself objects)

module _ (call : Call) (was : CallView) (off : is_on_data call ≡ false) where
  abbrev there : World
  there = world_of was.contents

  -- so a call keeps them that is done
  pub keeps_called : (is : CallView) (reply : Reply) → ActsAsPlain call was is reply → KeepsData was.contents is.contents
  keeps_called is reply acts =
      let objects = spoken_of call was.me was.number (length there.words) in
      let alike = act_alike there there was.me was.number call (answer_of reply) refl (agrees objects there) in
      subst (KeepsData was.contents) (ap (λ (s : Stepped). contents_of s.world) (acts.step there))
      (keeps_by objects there (act there was.me was.number call (answer_of reply)).world (no_data_spoken was.me (length there.words) was.number call off)
      alike.worlds.left)

  -- and one that did its part
  pub keeps_part : (is : Contents) (made : List Undo) → DidPart call was is made → KeepsData was.contents is
  keeps_part is made did =
      let objects = spoken_of call was.me was.number (length there.words) in
      let alike = act_alike there there was.me was.number call did.answer refl (agrees objects there) in
      subst (KeepsData was.contents) (ap contents_of (did.world there))
      (keeps_by objects there (act there was.me was.number call did.answer).world (no_data_spoken was.me (length there.words) was.number call off)
      alike.worlds.left)

-- ---- a compensation
-- what it doesn't speak of is backed as before
pub backed_beside : (c : Contents) (u : Undo) (end : UndoEnd) (items : List KeptItem) → AreElsewhere (objects_of u) items → All (IsBacked c) items
    → All (IsBacked (contents_of (undone_to (world_of c) u end))) items
backed_beside c u end [] away backed = All-nil (IsBacked (contents_of (undone_to (world_of c) u end)))
backed_beside c u end (item ∷ items) away backed =
    let P : KeptItem → Type 0 = λ x. Contains (objects_of u) (item_object x) → ⊥ in
    let Q = IsBacked (contents_of (undone_to (world_of c) u end)) in
    All-cons Q item items (each item (All-head P item items away) (All-head (IsBacked c) item items backed))
    (backed_beside c u end items (All-tail P item items away) (All-tail (IsBacked c) item items backed))
  where
    changes : ChangesOnly (objects_of u) (world_of c) (undone_to (world_of c) u end)
    changes = (undone_to_alike (world_of c) (world_of c) u end (agrees (objects_of u) (world_of c))).left

    each : (item : KeptItem) → (Contains (objects_of u) (item_object item) → ⊥) → IsBacked c item
        → IsBacked (contents_of (undone_to (world_of c) u end)) item
    each (Bytes num bytes) away is = record { fit = is.fit; there = subst (λ p. is_some p ≡ true) (changes.others (object.Pipe num) away) is.there }
    each (Message num side bytes) away is = record { fit = is.fit; there = subst (λ p. is_some p ≡ true) (changes.others (object.Pair num) away) is.there }

-- ---- what is there with kept data in front is there without
-- an open file
pub open_below : (c : Contents) (items : List KeptItem) (p : Place) → IsOpenIn (with_kept c items) p → IsOpenIn c p
open_below c items (place.File num at) is =
    subst (λ (files : map.FinMap num_cmp (List ℕ)). (is_some (map.get files num) ≡ true) × (length (unwrap_or (map.get files num) []) ≤ 65536))
    (kept_files c items) is
open_below c items place.Vacant is = tt
open_below c items (place.Pipe num) is = tt
open_below c items (place.Pair num side) is = tt

-- what a record tells of, where nothing is kept of what it speaks of
pub covered_below : (c : Contents) (items : List KeptItem) (u : Undo) → AreElsewhere (objects_of u) items → IsCovered (world_of (with_kept c items)) u
    → IsCovered (world_of c) u
covered_below c items (undo.Overwrite file at before after n) away is =
    subst (λ (files : map.FinMap num_cmp (List ℕ)). (is_some (map.get files file) ≡ true) × (at + n ≤ length (unwrap_or (map.get files file) [])))
    (kept_files c items) is
covered_below c items (undo.Append file from after n) away is =
    subst (λ (files : map.FinMap num_cmp (List ℕ)). (is_some (map.get files file) ≡ true) × (from + n ≤ length (unwrap_or (map.get files file) [])))
    (kept_files c items) is
covered_below c items (undo.Create name num) away is = (
  ap (λ (names : map.FinMap name_cmp Num). map.get names name) (sym (kept_names c items)) ∙ is.0,
  ap (λ (files : map.FinMap num_cmp (List ℕ)). is_some (map.get files num)) (sym (kept_files c items)) ∙ is.1,
)
covered_below c items (undo.Rename from to) away is = (
  ap (λ (names : map.FinMap name_cmp Num). map.get names from) (sym (kept_names c items)) ∙ is.0,
  ap (λ (names : map.FinMap name_cmp Num). is_some (map.get names to)) (sym (kept_names c items)) ∙ is.1,
)
covered_below c items (undo.NewPipe num) away is =
    ap is_some (given_away (world_of c) items (object.Pipe num) (each_away (objects_of (undo.NewPipe num)) (object.Pipe num)
    (0, omega arith, refl) items away)) ∙ is
covered_below c items (undo.NewPair num) away is =
    ap is_some (given_away (world_of c) items (object.Pair num) (each_away (objects_of (undo.NewPair num)) (object.Pair num)
    (0, omega arith, refl) items away)) ∙ is

-- ---- what a late call names
either : (a b : Bool) → (a || b) ≡ true → (a ≡ true) ⊎ (b ≡ true)
either true b is = inl refl
either false b is = inr is

or_there : (a b : Bool) → (a ≡ true → b ≡ true) → (a || b) ≡ true → b ≡ true
or_there true b held is = held refl
or_there false b held is = is

-- a pipe that something backed is kept of is there
kept_pipe : (c : Contents) (items : List KeptItem) (num : Num) → All (IsBacked c) items → keeps_from (source.Pipe num) items ≡ true
    → is_some (map.get c.pipes num) ≡ true
kept_pipe c [] num backed keeps = cc keeps
kept_pipe c (item ∷ items) num backed keeps =
    elim (either (is_from (source.Pipe num) item) (keeps_from (source.Pipe num) items) keeps) [
      | inl first ↦ its_pipe item (All-head (IsBacked c) item items backed) first
      | inr rest ↦ kept_pipe c items num (All-tail (IsBacked c) item items backed) rest
    ]
  where
    its_pipe : (item : KeptItem) → IsBacked c item → is_from (source.Pipe num) item ≡ true → is_some (map.get c.pipes num) ≡ true
    its_pipe (Bytes n bytes) is from =
        let same : source.Pipe num ≡ source.Pipe n = source_one (source.Pipe num) (source.Pipe n) from in
        let one : num ≡ n = cc same in
        ap (λ k. is_some (map.get c.pipes k)) one ∙ is.there
    its_pipe (Message n side bytes) is from = cc from

-- so is a pair
kept_pair : (c : Contents) (items : List KeptItem) (num : Num) → All (IsBacked c) items → keeps_pair num items ≡ true
    → is_some (map.get c.pairs num) ≡ true
kept_pair c [] num backed keeps = cc keeps
kept_pair c (item ∷ items) num backed keeps =
    elim (either (is_of_pair num item) (keeps_pair num items) keeps) [
      | inl first ↦ its_pair item (All-head (IsBacked c) item items backed) first
      | inr rest ↦ kept_pair c items num (All-tail (IsBacked c) item items backed) rest
    ]
  where
    its_pair : (item : KeptItem) → IsBacked c item → is_of_pair num item ≡ true → is_some (map.get c.pairs num) ≡ true
    its_pair (Bytes n bytes) is from = cc from
    its_pair (Message n side bytes) is from = ap (λ k. is_some (map.get c.pairs k)) (tied num_total num_exact num n from) ∙ is.there

-- an object that is there with backed data in front is there without
pub there_below : (c : Contents) (items : List KeptItem) → All (IsBacked c) items → (o : Object) → is_there (given_back (world_of c) items) o ≡ true
    → is_there (world_of c) o ≡ true
there_below c items backed (object.File num) is = ap (λ (files : map.FinMap num_cmp (List ℕ)). is_some (map.get files num)) (sym (kept_files c items)) ∙ is
there_below c items backed (object.Pipe num) is =
    or_there (keeps_from (source.Pipe num) items) (world_has_pipe (world_of c) num) (kept_pipe c items num backed)
    (sym (pipe_is_there (world_of c) items num) ∙ is)
there_below c items backed (object.Pair num) is =
    or_there (keeps_pair num items) (world_has_pair (world_of c) num) (kept_pair c items num backed)
    (sym (pair_is_there (world_of c) items num) ∙ is)
there_below c items backed (object.Word n) is = is
there_below c items backed (object.Name name) is = is
there_below c items backed object.Jobs is = is

-- so is what a late call names
pub late_below : (c : Contents) (items : List KeptItem) → All (IsBacked c) items → (call : LateCall) → IsThereFor (with_kept c items) call
    → IsThereFor c call
late_below c items backed (late_call.Unlink name) is = is
late_below c items backed (late_call.Thread body) is = is
late_below c items backed (late_call.Sync num) is = there_below c items backed (object.File num) is
late_below c items backed (late_call.WritePipe num bytes) is = there_below c items backed (object.Pipe num) is
late_below c items backed (late_call.Send num side bytes) is = there_below c items backed (object.Pair num) is
late_below c items backed (late_call.Shutdown o) is =
    there_below c items backed o (subst (λ w. is_there w o ≡ true) (world_kept c items) is)

-- ---- after a compensation
-- all is backed as before, where nothing is kept, and nobody has taken, of what it speaks of
pub backed_undone : (c : Contents) (kept : List KeptItem) (jobs : List Job) (at : ℕ) (was job : Job) (u : Undo) (end : UndoEnd) → slice_get jobs at ≡ Some was
    → AreElsewhere (objects_of u) kept → ((j : ℕ) (tx : TxView) → IsActiveAt (job_views jobs) j tx → AreElsewhere (objects_of u) tx.taken)
    → ((tx : TxView) → active_of (job_view job) ≡ Some tx → (before : TxView) × IsActiveAt (job_views jobs) at before × (before.taken ≡ tx.taken))
    → AreBacked c kept (job_views jobs) → AreBacked (contents_of (undone_to (world_of c) u end)) kept (job_views (slice_set jobs at job))
backed_undone c kept jobs at was job u end stands away took mine are =
    let d = contents_of (undone_to (world_of c) u end) in
    subst (AreBacked d kept) (sym (map_set job_view jobs at job)) (record {
      kept = backed_beside c u end kept away are.kept;
      taken = λ j tx a. dite (ℕ_discrete j at)
          (λ (q : j ≡ at).
          let before = mine tx (active_is (job_views jobs) at (job_view was) (get_map job_view jobs at was stands) (job_view job) tx
          (subst (λ k. IsActiveAt (slice_set (job_views jobs) at (job_view job)) k tx) q a)) in
          subst (All (IsBacked d)) before.2
          (backed_beside c u end (before.0).taken (took at before.0 before.1) (are.taken at before.0 before.1)))
          (λ (ne : j ≢ at).
          let before = active_before (job_views jobs) at j (job_view job) tx ne a in
          backed_beside c u end tx.taken (took j tx before) (are.taken j tx before));
    })
