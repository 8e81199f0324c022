-- What a running transaction's calls need of pipes and pairs is there.
use Rattle.std.proofs.Common.{◌≡◌, ℕ, Bool, true, false, cond, Option, Some, None, is_some, List, [], ◌∷◌, length, refl, ap, sym, ◌∙◌, subst, arith}
use Rattle.std.proofs.lemmas.List.Elements.{All-contains_itself}
use Rattle.std.specs.Prelude.{All, Contains, ◌||◌, if◌then◌else◌}
use Rattle.std.specs.FinMap as map
use Rattle.std.specs.List.{filter, flat_map, list_any}
use Rattle.xc_buffers.specs.Items.{item_bytes, keeps_from, keeps_pair, kept_bytes}
use Rattle.xc_buffers.specs.Sources.{is_from}
use Rattle.xc_buffers.specs.Worlds.{world_has_pair, world_has_pipe}
use Rattle.xc_buffers.specs.declared.source.Endpoint.TheVariants as source
use Rattle.xc_buffers.proofs.Laws.{pair_is_there, pipe_is_there}
use Rattle.xc_data.specs.Claims.{objects}
use Rattle.xc_data.specs.Private.{place_of}
use Rattle.xc_data.specs.declared.call.Call.{Call}
use Rattle.xc_data.specs.declared.call.Call.TheVariants as call
use Rattle.xc_data.specs.declared.entry.KeptItem.{KeptItem}
use Rattle.xc_data.specs.declared.object.Num.{Num}
use Rattle.xc_data.specs.declared.object.Object.{Object}
use Rattle.xc_data.specs.declared.object.Object.TheVariants as object
use Rattle.xc_data.specs.declared.private.Place.{Place}
use Rattle.xc_data.specs.declared.private.Place.TheVariants as place
use Rattle.xc_calls.proofs.Laws.{passed_checks}
use Rattle.xc_host.specs.Contents.{Contents, world_of}
use Rattle.xc_host.specs.Kept.{with_kept}
use Rattle.xc_pipe.specs.Reading.{IsPipeIn}
use Rattle.xc_socket.specs.Checks.{IsPairIn}
use Rattle.xc_world.specs.Act.Names.{next_num}
use Rattle.xc_world.specs.Checks.{is_refused, refusal_of}
use Rattle.xc_world.specs.Modes.{mode_of}
use Rattle.xc_world.specs.Sound.{IsKnown}
use Rattle.xc_world.specs.Touch.{object_at, touch}
use Rattle.xc_world.proofs.Laws.{objects_of_claims}
use Rattle.xc_model.specs.declared.phase.Phase.TheVariants.{Running}
use Rattle.xc_model.specs.Rivals.{HasNoRival}
use Rattle.xc_model.specs.Movers.{IsActiveAt}
use Rattle.xc_model.specs.PlainSteps.{claims_at}
use Rattle.xc_model.specs.Moment.{TxView, Moment}
use Rattle.xc_model.specs.Setting.{Setting}
use Rattle.xc_refines.specs.InFlight.{AreInFlight}
use Rattle.xc_refines.proofs.Laws.{claimed_there, free_now}
use Rattle.xc_station.specs.Acting.{IsFreeFor, IsLentFor, IsSourceIn}
use Rattle.xc_station.specs.Lent.{IsBacked}
use Rattle.xc_station.proofs.Backed.{there_below}

first_false : (a b : Bool) → (a || b) ≡ false → a ≡ false
first_false false b is = refl
first_false true b is = cc is

rest_false : (a b : Bool) → (a || b) ≡ false → b ≡ false
rest_false false b is = is
rest_false true b is = cc is

lacks : {A : Type 0} (o : Option A) → o ≡ None → is_some o ≡ false
lacks None is = refl
lacks (Some x) is = cc is

-- where none passes a test, none is left of it
unfiltered : {A : Type 0} (p : A → Bool) (xs : List A) → list_any p xs ≡ false → filter p xs ≡ []
unfiltered p [] none = refl
unfiltered p (x ∷ xs) none =
    ap (λ b. cond b (x ∷ filter p xs) (filter p xs)) (first_false (p x) (list_any p xs) none)
    ∙ unfiltered p xs (rest_false (p x) (list_any p xs) none)

-- of a pipe of which no item is kept no byte is
none_kept : (num : Num) (items : List KeptItem) → keeps_from (source.Pipe num) items ≡ false → kept_bytes num items ≡ []
none_kept num items none = ap (flat_map item_bytes) (unfiltered (is_from (source.Pipe num)) items none)

module _ (s : Setting) (now : Moment) (at : ℕ) (tx : TxView) (c : Contents) (kept : List KeptItem) (told : now.contents ≡ with_kept c kept)
    (flying : AreInFlight s now) (active : IsActiveAt now.jobs at tx) (runs : tx.phase ≡ Running) (backed : All (IsBacked c) kept) where
  pipe_below : (p : Place) → IsKnown (world_of now.contents) p → IsPipeIn c p
  pipe_below (place.Pipe num) known =
      there_below c kept backed (object.Pipe num) (subst (λ (k : Contents). is_some (map.get k.pipes num) ≡ true) told known)
  pipe_below (place.File num at) known = tt
  pipe_below (place.Pair num side) known = tt
  pipe_below place.Vacant known = tt

  pair_below : (p : Place) → IsKnown (world_of now.contents) p → IsPairIn c p
  pair_below (place.Pair num side) known =
      there_below c kept backed (object.Pair num) (subst (λ (k : Contents). is_some (map.get k.pairs num) ≡ true) told known.0)
  pair_below (place.File num at) known = tt
  pair_below (place.Pipe num) known = tt
  pair_below place.Vacant known = tt

  -- a call through a handle that no check refuses claims what is open there
  claims_open : (d : Call) (h : ℕ) → touch d tx.me (length now.words)
      ≡ (if is_refused d tx.me (length now.words) then [] else object_at (place_of tx.me.places h))
      → is_refused d tx.me (length now.words) ≡ false → All (Contains (objects (claims_at now tx d))) (object_at (place_of tx.me.places h))
  claims_open d h touches passes =
      let mine = object_at (place_of tx.me.places h) in
      let touched : objects (claims_at now tx d) ≡ mine =
      objects_of_claims (mode_of d) (touch d tx.me (length now.words)) ∙ touches ∙ ap (λ (b : Bool). if b then [] else mine) passes in
      subst (λ (os : List Object). All (Contains os) mine) (sym touched) (All-contains_itself mine)

  -- it finds there what it takes from
  source_there : (d : Call) → All (HasNoRival now.jobs at) (claims_at now tx d) → refusal_of d tx.me ≡ None → IsSourceIn c tx.me d
  source_there (call.XReadPipe h n) free passes =
      let d = call.XReadPipe h n in
      pipe_below (place_of tx.me.places h)
      (claimed_there s now flying at active.0 tx d active.1 active.2 runs free h
      (claims_open d h refl (passed_checks tx.me d (length now.words) passes)))
  source_there (call.XRecvmsg h) free passes =
      let d = call.XRecvmsg h in
      pair_below (place_of tx.me.places h)
      (claimed_there s now flying at active.0 tx d active.1 active.2 runs free h
      (claims_open d h refl (passed_checks tx.me d (length now.words) passes)))
  source_there _ free passes = tt

  -- nothing has the number of what it makes
  number_free : (d : Call) → IsFreeFor c kept (next_num tx.me tx.number) d
  number_free call.XPipe =
      let num = next_num tx.me tx.number in
      let none : is_some (map.get now.contents.pipes num) ≡ false =
      lacks (map.get now.contents.pipes num) (free_now s now flying at active.0 tx active.1 active.2 runs tx.me.made (omega arith)).pipe in
      let both : (keeps_from (source.Pipe num) kept || world_has_pipe (world_of c) num) ≡ false =
      sym (pipe_is_there (world_of c) kept num) ∙ ap (λ (k : Contents). is_some (map.get k.pipes num)) (sym told) ∙ none in (
        rest_false (keeps_from (source.Pipe num) kept) (world_has_pipe (world_of c) num) both,
        none_kept num kept (first_false (keeps_from (source.Pipe num) kept) (world_has_pipe (world_of c) num) both),
      )
  number_free call.XPair =
      let num = next_num tx.me tx.number in
      let none : is_some (map.get now.contents.pairs num) ≡ false =
      lacks (map.get now.contents.pairs num) (free_now s now flying at active.0 tx active.1 active.2 runs tx.me.made (omega arith)).pair in
      let both : (keeps_pair num kept || world_has_pair (world_of c) num) ≡ false =
      sym (pair_is_there (world_of c) kept num) ∙ ap (λ (k : Contents). is_some (map.get k.pairs num)) (sym told) ∙ none in (
        rest_false (keeps_pair num kept) (world_has_pair (world_of c) num) both,
        first_false (keeps_pair num kept) (world_has_pair (world_of c) num) both,
      )
  number_free _ = tt

  -- each call has what it needs
  pub lent_for : (d : Call) → All (HasNoRival now.jobs at) (claims_at now tx d) → IsLentFor tx.me tx.number d c kept
  lent_for d free = record { source = source_there d free; free = number_free d }
