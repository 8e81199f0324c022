-- A call that takes from a pipe or a pair: what it took is of one that the host has, and so is what is kept after it.
use Rattle.std.proofs.Common.{◌≡◌, ℕ, Bool, true, false, Option, Some, None, is_some, List, [], ◌∷◌, ◌++◌, length, refl, ap, sym, ◌∙◌, subst, arith}
use Rattle.std.proofs.lemmas.List.Elements.{All-nil, All-cons, All-head, All-tail, All-weaker}
use Rattle.std.specs.Prelude.{All, IfOk, OnErr, IsTrue, ◌≤◌, Result, Ok, Err, not, ◌||◌, ◌==◌, if◌then◌else◌}
use Rattle.std.specs.FinMap as map
use Rattle.xc_buffers.specs.Items.{is_fit, is_of_pair}
use Rattle.xc_buffers.specs.Sources.{is_from}
use Rattle.xc_buffers.specs.declared.source.Endpoint.TheVariants as source
use Rattle.xc_buffers.proofs.Laws.{own_source, All-both, pair_is_there, pipe_is_there}
use Rattle.xc_buffers.specs.Worlds.{world_has_pair, world_has_pipe}
use Rattle.xc_data.specs.Private.{IsSided, place_of}
use Rattle.xc_data.specs.declared.call.Call.{Call}
use Rattle.xc_data.specs.declared.call.Call.TheVariants as call
use Rattle.xc_data.specs.declared.call.Reply.{Reply}
use Rattle.xc_data.specs.declared.call.Reply.TheVariants as reply
use Rattle.xc_data.specs.declared.entry.KeptItem.{KeptItem}
use Rattle.xc_data.specs.declared.entry.KeptItem.TheVariants.{Bytes, Message}
use Rattle.xc_data.specs.Step.{Step}
use Rattle.xc_data.specs.declared.memory.NoMemory.{NoMemory}
use Rattle.xc_data.specs.declared.object.Num.{Num}
use Rattle.xc_data.specs.declared.object.Object.TheVariants as object
use Rattle.xc_data.specs.declared.private.Place.{Place}
use Rattle.xc_data.specs.declared.private.Place.TheVariants as place
use Rattle.xc_data.specs.declared.private.Private.{Private}
use Rattle.xc_calls.specs.Calls.{CallState, IsHostCall}
use Rattle.xc_calls.proofs.Laws.{refused_acts}
use Rattle.xc_host.specs.Fronted.{Fronted, fronted}
use Rattle.xc_host.specs.Model.{HostModel}
use Rattle.xc_host.specs.Contents.{Contents, contents_of, with_contents, world_of}
use Rattle.xc_host.specs.Kept.{with_kept}
use Rattle.xc_maps.proofs.Laws.{alike, num_exact, num_total}
use Rattle.xc_pipe.specs.Reading.{IsPipeIn}
use Rattle.xc_calls.specs.Taking.{Notes}
use Rattle.xc_socket.specs.Checks.{IsPairIn}
use Rattle.xc_world.specs.Act.{act}
use Rattle.xc_world.specs.Act.Step.{Stepped, step_to}
use Rattle.xc_world.specs.Checks.{IsChecked, is_bad_handle, is_pair, is_pipe, is_too_big, is_too_much, refusal_of}
use Rattle.xc_world.specs.Effects.{takes_data}
use Rattle.xc_world.specs.Fits.{answer_of}
use Rattle.xc_world.specs.Run.{bytes_taken, given_back, gives, message_taken, taken_by}
use Rattle.xc_world.specs.Sound.{IsKnown}
use Rattle.xc_world.specs.World.{World}
use Rattle.xc_world.proofs.Laws.{KnowsHandle, act_takes}
use Rattle.xc_station.specs.Acting.{IsSidedFor, IsSourceIn, StopsTaking}
use Rattle.xc_station.specs.Lent.{IsBacked, is_source_there}
use Rattle.xc_station.proofs.Backed.{there_below}

-- ---- what it took
-- no check answers with bytes
never_got : (bad big much : Bool) (bytes : List ℕ)
    → (if bad then Some reply.BadHandle else if big then Some reply.TooBig else if much then Some reply.TooMuch else None) ≡ Some (reply.Got bytes) → ⊥
never_got true big much bytes is = cc
never_got false true much bytes is = cc
never_got false false true bytes is = cc
never_got false false false bytes is = cc

-- so a call that brings some was refused by none
pub got_passes : (c : Call) (me : Private) (bytes : List ℕ) → IsChecked (refusal_of c me) c (reply.Got bytes) → refusal_of c me ≡ None
got_passes c me bytes checked = by_case (refusal_of c me) refl checked
  where
    by_case : (o : Option Reply) → refusal_of c me ≡ o → IsChecked o c (reply.Got bytes) → refusal_of c me ≡ None
    by_case None is checked = is
    by_case (Some refused) is checked = absurd (never_got _ _ _ bytes (is ∙ ap Some (sym checked)))

backed_if : (c : Contents) (num : Num) (bytes : List ℕ) (b : Bool) → is_some (map.get c.pipes num) ≡ true
    → All (λ t. is_fit t ≡ true) (if b then [] else Bytes num bytes ∷ []) → All (IsBacked c) (if b then [] else Bytes num bytes ∷ [])
backed_if c num bytes true there fit = All-nil (IsBacked c)
backed_if c num bytes false there fit =
    All-cons (IsBacked c) (Bytes num bytes) [] (record { fit = All-head (λ t. is_fit t ≡ true) (Bytes num bytes) [] fit; there = there }) (All-nil (IsBacked c))

bytes_backed : (c : Contents) (p : Place) (bytes : List ℕ) → IsPipeIn c p → All (λ t. is_fit t ≡ true) (bytes_taken p bytes)
    → All (IsBacked c) (bytes_taken p bytes)
bytes_backed c (place.Pipe num) bytes there fit = backed_if c num bytes (length bytes == 0) there fit
bytes_backed c (place.File num at) bytes there fit = All-nil (IsBacked c)
bytes_backed c (place.Pair num side) bytes there fit = All-nil (IsBacked c)
bytes_backed c place.Vacant bytes there fit = All-nil (IsBacked c)

message_backed : (c : Contents) (p : Place) (bytes : List ℕ) → IsPairIn c p → All (λ t. is_fit t ≡ true) (message_taken p bytes)
    → All (IsBacked c) (message_taken p bytes)
message_backed c (place.Pair num side) bytes there fit =
    let message = Message num side bytes in
    All-cons (IsBacked c) message [] (record { fit = All-head (λ t. is_fit t ≡ true) message [] fit; there = there }) (All-nil (IsBacked c))
message_backed c (place.Pipe num) bytes there fit = All-nil (IsBacked c)
message_backed c (place.File num at) bytes there fit = All-nil (IsBacked c)
message_backed c place.Vacant bytes there fit = All-nil (IsBacked c)

got_backed : (c : Contents) (d : Call) (me : Private) (bytes : List ℕ) → IsSourceIn c me d
    → All (λ t. is_fit t ≡ true) (taken_by d me (reply.Got bytes)) → All (IsBacked c) (taken_by d me (reply.Got bytes))
got_backed c (call.XReadPipe h n) me bytes there fit = bytes_backed c (place_of me.places h) bytes there fit
got_backed c (call.XRecvmsg h) me bytes there fit = message_backed c (place_of me.places h) bytes there fit
got_backed c _ me bytes there fit = All-nil (IsBacked c)

-- no other reply took anything
only_got : (d : Call) (me : Private) (r : Reply) → ((bytes : List ℕ) → r ≡ reply.Got bytes → ⊥) → taken_by d me r ≡ []
only_got (call.XReadPipe h n) me (reply.Got bytes) other = absurd (other bytes refl)
only_got (call.XReadPipe h n) me _ other = refl
only_got (call.XRecvmsg h) me (reply.Got bytes) other = absurd (other bytes refl)
only_got (call.XRecvmsg h) me _ other = refl
only_got _ me r other = refl

-- what it took is of a pipe or a pair of the host's
pub took_backed : (c : Contents) (d : Call) (me : Private) (r : Reply) → (refusal_of d me ≡ None → IsSourceIn c me d)
    → IsChecked (refusal_of d me) d r → All (λ t. is_fit t ≡ true) (taken_by d me r) → All (IsBacked c) (taken_by d me r)
took_backed c d me (reply.Got bytes) there checked fit = got_backed c d me bytes (there (got_passes d me bytes checked)) fit
took_backed c d me r there checked fit = subst (All (IsBacked c)) (sym (only_got d me r (λ bytes is. cc is))) (All-nil (IsBacked c))

All-second : {X : Type 0} (P : X → Type 0) (xs ys : List X) → All P (xs ++ ys) → All P ys
All-second P [] ys all = all
All-second P (x ∷ xs) ys all = All-second P xs ys (All-tail P x (xs ++ ys) all)

-- so is what it notes
pub note_backed : (c : Contents) (d : Call) (me : Private) (notes : Step (List KeptItem)) (r : Result Reply NoMemory)
    → (refusal_of d me ≡ None → IsSourceIn c me d) → IfOk r (IsChecked (refusal_of d me) d) → Notes d me notes r
    → IfOk r (λ reply. All (λ t. is_fit t ≡ true) notes.new) → IfOk r (λ reply. All (IsBacked c) (taken_by d me reply))
note_backed c d me notes (Ok reply) there checked noted fit =
    let P : KeptItem → Type 0 = λ t. is_fit t ≡ true in
    took_backed c d me reply there checked (All-second P notes.old (taken_by d me reply) (subst (All P) noted fit))
note_backed c d me notes (Err e) there checked noted fit = tt

-- ---- given back
-- a call that no check refuses has a good handle
good_handle : (bad big much : Bool)
    → (if bad then Some reply.BadHandle else if big then Some reply.TooBig else if much then Some reply.TooMuch else None) ≡ None
    → bad ≡ false
good_handle true big much is = cc
good_handle false big much is = refl

is_good : (c : Call) (me : Private) → refusal_of c me ≡ None → is_bad_handle c me ≡ false
is_good c me free = good_handle (is_bad_handle c me) (is_too_big c) (is_too_much c me) free

-- the world has each pipe and each pair of the host's
record HasSources (w : World) (c : Contents) : Type 0 where
  pipes : (num : Num) → is_some (map.get c.pipes num) ≡ true → is_some (map.get w.pipes num) ≡ true
  pairs : (num : Num) → is_some (map.get c.pairs num) ≡ true → is_some (map.get w.pairs num) ≡ true

pipe_known : (w : World) (c : Contents) (p : Place) → not (is_pipe p) ≡ false → IsPipeIn c p → HasSources w c → IsKnown w p
pipe_known w c (place.Pipe num) good there above = above.pipes num there
pipe_known w c (place.File num at) good there above = cc good
pipe_known w c (place.Pair num side) good there above = cc good
pipe_known w c place.Vacant good there above = cc good

pair_known : (w : World) (c : Contents) (p : Place) → not (is_pair p) ≡ false → IsPairIn c p → IsSided p → HasSources w c → IsKnown w p
pair_known w c (place.Pair num side) good there sided above = (above.pairs num there, omega (arith, sided))
pair_known w c (place.File num at) good there sided above = cc good
pair_known w c (place.Pipe num) good there sided above = cc good
pair_known w c place.Vacant good there sided above = cc good

-- the world knows what it takes from
source_known : (w : World) (c : Contents) (d : Call) (me : Private) → refusal_of d me ≡ None → IsSourceIn c me d → IsSidedFor me d
    → HasSources w c → KnowsHandle w me d
source_known w c (call.XReadPipe h n) me free there sided above = pipe_known w c (place_of me.places h) (is_good (call.XReadPipe h n) me free) there above
source_known w c (call.XRecvmsg h) me free there sided above = pair_known w c (place_of me.places h) (is_good (call.XRecvmsg h) me free) there sided above
source_known w c _ me free there sided above = tt

or_right : (a b : Bool) → b ≡ true → (a || b) ≡ true
or_right true b is = refl
or_right false b is = is

-- a pipe of the host's is there with what is kept in front
there_above : (c : Contents) (items : List KeptItem) (num : Num) → is_some (map.get c.pipes num) ≡ true
    → is_some (map.get (with_kept c items).pipes num) ≡ true
there_above c items num is = pipe_is_there (world_of c) items num ∙ or_right _ (world_has_pipe (world_of c) num) is

-- so is a pair
pair_above : (c : Contents) (items : List KeptItem) (num : Num) → is_some (map.get c.pairs num) ≡ true
    → is_some (map.get (with_kept c items).pairs num) ≡ true
pair_above c items num is = pair_is_there (world_of c) items num ∙ or_right _ (world_has_pair (world_of c) num) is

-- a call of a transaction that takes, with its reply: the worlds and the private states before and after it
pub record TakingCall : Type 0 where
  pub world : Step World
  pub me : Step Private
  pub number : ℕ
  pub call : Call
  pub reply : Reply

-- what it took
abbrev pub taking_took : TakingCall → List KeptItem
taking_took taking = taken_by taking.call taking.me.old taking.reply

-- it is the plain machine's, from a world of these contents with these items in front
pub record IsTakingStep (taking : TakingCall) (c : Contents) (items : List KeptItem) : Type 0 where
  pub takes : takes_data taking.call ≡ true
  pub told : contents_of taking.world.old ≡ with_kept c items
  pub step : act taking.world.old taking.me.old taking.number taking.call (answer_of taking.reply) ≡ step_to taking.world.new taking.me.new taking.reply
  pub there : refusal_of taking.call taking.me.old ≡ None → IsSourceIn c taking.me.old taking.call
  pub sided : IsSidedFor taking.me.old taking.call

-- a refused one took nothing, and changed nothing
no_taken : (d : Call) (me : Private) (r : Reply) → (bad big much : Bool)
    → (if bad then Some reply.BadHandle else if big then Some reply.TooBig else if much then Some reply.TooMuch else None) ≡ Some r
    → taken_by d me r ≡ []
no_taken d me r bad big much is = only_got d me r (λ bytes got. never_got bad big much bytes (is ∙ ap Some got))

module _ (taking : TakingCall) (c : Contents) (items : List KeptItem) (is : IsTakingStep taking c items) where
  -- what it took, given back, leads to what was there
  taking_back : refusal_of taking.call taking.me.old ≡ None → given_back taking.world.new (taking_took taking) ≡ taking.world.old
  taking_back free =
      let above : HasSources taking.world.old c = record {
        pipes = λ num at. subst (λ (k : Contents). is_some (map.get k.pipes num) ≡ true) (sym is.told) (there_above c items num at);
        pairs = λ num at. subst (λ (k : Contents). is_some (map.get k.pairs num) ≡ true) (sym is.told) (pair_above c items num at);
      } in
      let known = source_known taking.world.old c taking.call taking.me.old free (is.there free) is.sided above in
      let took = act_takes taking.world.old taking.me.old taking.number taking.call (answer_of taking.reply) is.takes known in
      ap (λ (s : Stepped). given_back s.world (taken_by taking.call taking.me.old s.reply)) (sym is.step) ∙ took.back

  -- so it does whether a check refuses it or not
  pub taking_returns : given_back taking.world.new (taking_took taking) ≡ taking.world.old
  taking_returns = by_case (refusal_of taking.call taking.me.old) refl
    where
      by_case : (o : Option Reply) → refusal_of taking.call taking.me.old ≡ o → given_back taking.world.new (taking_took taking) ≡ taking.world.old
      by_case None free = taking_back free
      by_case (Some refused) refuses =
          let same : step_to taking.world.new taking.me.new taking.reply ≡ step_to taking.world.old taking.me.old refused =
          sym is.step ∙ refused_acts taking.world.old taking.me.old taking.number taking.call (answer_of taking.reply) refused refuses in
          let none : taking_took taking ≡ [] =
          ap (λ (s : Stepped). taken_by taking.call taking.me.old s.reply) same ∙ no_taken taking.call taking.me.old refused _ _ _ refuses in
          ap (given_back taking.world.new) none ∙ ap (λ (s : Stepped). s.world) same

-- ---- what is kept after it
or_left : (a b : Bool) → a ≡ true → (a || b) ≡ true
or_left true b is = refl
or_left false b is = cc is

placed_more : (w : World) (items : List KeptItem) (u : KeptItem) → is_source_there (contents_of w) u ≡ true
    → is_source_there (contents_of (given_back w items)) u ≡ true
placed_more w items (Bytes num bytes) is = pipe_is_there w items num ∙ or_right _ (world_has_pipe w num) is
placed_more w items (Message num side bytes) is = pair_is_there w items num ∙ or_right _ (world_has_pair w num) is

placed_first : (w : World) (t : KeptItem) → is_source_there (contents_of (gives w t)) t ≡ true
placed_first w (Bytes num bytes) =
    pipe_is_there w (Bytes num bytes ∷ []) num
    ∙ or_left _ (world_has_pipe w num) (or_left (is_from (source.Pipe num) (Bytes num bytes)) false (own_source (source.Pipe num)))
placed_first w (Message num side bytes) =
    pair_is_there w (Message num side bytes ∷ []) num ∙ or_left _ (world_has_pair w num) (or_left _ false (of_pair num))
  where
    of_pair : (k : Num) → is_of_pair k (Message k side bytes) ≡ true
    of_pair k = alike num_total num_exact k

-- each item's pipe or pair is there with it in front
kept_placed : (w : World) (items : List KeptItem) → All (λ t. is_source_there (contents_of (given_back w items)) t ≡ true) items
kept_placed w [] = All-nil (λ t. is_source_there (contents_of w) t ≡ true)
kept_placed w (t ∷ ts) =
    let x = given_back w ts in
    let P : KeptItem → Type 0 = λ u. is_source_there (contents_of x) u ≡ true in
    let Q : KeptItem → Type 0 = λ u. is_source_there (contents_of (gives x t)) u ≡ true in
    All-cons Q t ts (placed_first x t) (All-weaker P Q (λ u is. placed_more x (t ∷ []) u is) ts (kept_placed w ts))

placed_below : (c : Contents) (items : List KeptItem) → All (IsBacked c) items → (t : KeptItem) → is_source_there (with_kept c items) t ≡ true
    → is_source_there c t ≡ true
placed_below c items backed (Bytes num bytes) is = there_below c items backed (object.Pipe num) is
placed_below c items backed (Message num side bytes) is = there_below c items backed (object.Pair num) is

-- what is kept then is of pipes and pairs that the host had before
pub kept_backed : (taking : TakingCall) (c d : Contents) (kept kept' : List KeptItem) → IsTakingStep taking c kept
    → contents_of taking.world.new ≡ with_kept d kept' → All (λ t. is_fit t ≡ true) kept' → All (IsBacked c) kept → All (IsBacked c) kept'
kept_backed taking c d kept kept' is told fit backed =
    let x = taking.world.new in
    let taken = taking_took taking in
    let placed : All (λ t. is_source_there (contents_of x) t ≡ true) kept' =
    subst (λ (k : Contents). All (λ t. is_source_there k t ≡ true) kept') (sym told) (kept_placed (world_of d) kept') in
    All-both (λ t. is_fit t ≡ true) (λ t. is_source_there (contents_of x) t ≡ true) (IsBacked c)
    (λ t is_fit_item at. record {
      fit = is_fit_item;
      there = placed_below c kept backed t
          (subst (λ (k : Contents). is_source_there k t ≡ true) (ap contents_of (taking_returns taking c kept is) ∙ is.told) (placed_more x taken t at));
    })
    kept' fit placed

-- the same where memory ran out, and what is there is as before
pub kept_still : (c d : Contents) (kept kept' : List KeptItem) → with_kept d kept' ≡ with_kept c kept → All (λ t. is_fit t ≡ true) kept'
    → All (IsBacked c) kept → All (IsBacked c) kept'
kept_still c d kept kept' same fit backed =
    let placed : All (λ t. is_source_there (with_kept c kept) t ≡ true) kept' =
    subst (λ (k : Contents). All (λ t. is_source_there k t ≡ true) kept') same (kept_placed (world_of d) kept') in
    All-both (λ t. is_fit t ≡ true) (λ t. is_source_there (with_kept c kept) t ≡ true) (IsBacked c)
    (λ t is_fit_item at. record { fit = is_fit_item; there = placed_below c kept backed t at }) kept' fit placed

-- whatever it came to
pub taking_keeps : {H : Type 0} (model : HostModel H) (d : Call) (old new : CallState (Fronted H)) (r : Result Reply NoMemory) → takes_data d ≡ true
    → IfOk r (λ reply. IsHostCall (fronted model) d old new (Ok reply))
    → IsTrue model.tells
    → OnErr r (with_kept (model.contents new.host.host) new.host.items ≡ with_kept (model.contents old.host.host) old.host.items)
    → (refusal_of d old.me ≡ None → IsSourceIn (model.contents old.host.host) old.me d) → IsSidedFor old.me d
    → All (λ t. is_fit t ≡ true) new.host.items → All (IsBacked (model.contents old.host.host)) old.host.items
    → All (IsBacked (model.contents old.host.host)) new.host.items
taking_keeps model d old new (Ok reply) takes k tells err there sided fit backed =
    let c = model.contents old.host.host in
    let v = world_of (with_kept c old.host.items) in
    let taking : TakingCall = record {
      world = record { old = v; new = with_contents v (with_kept (model.contents new.host.host) new.host.items) };
      me = record { old = old.me; new = new.me };
      number = old.number;
      call = d;
      reply = reply;
    } in
    kept_backed taking c (model.contents new.host.host) old.host.items new.host.items
    (record { takes = takes; told = refl; step = (k.acts tells).step v; there = there; sided = sided }) refl fit backed
taking_keeps model d old new (Err e) takes k tells err there sided fit backed =
    kept_still (model.contents old.host.host) (model.contents new.host.host) old.host.items new.host.items err fit backed

-- a call notes one item at most
one_if : (num : Num) (bytes : List ℕ) (b : Bool) → length (if b then [] else Bytes num bytes ∷ []) ≤ 1
one_if num bytes true = omega arith
one_if num bytes false = omega arith

one_read : (p : Place) (bytes : List ℕ) → length (bytes_taken p bytes) ≤ 1
one_read (place.Pipe num) bytes = one_if num bytes (length bytes == 0)
one_read (place.File num at) bytes = omega arith
one_read (place.Pair num side) bytes = omega arith
one_read place.Vacant bytes = omega arith

one_received : (p : Place) (bytes : List ℕ) → length (message_taken p bytes) ≤ 1
one_received (place.Pipe num) bytes = omega arith
one_received (place.File num at) bytes = omega arith
one_received (place.Pair num side) bytes = omega arith
one_received place.Vacant bytes = omega arith

-- so it takes one at most
pub one_taken : (d : Call) (me : Private) (r : Reply) → length (taken_by d me r) ≤ 1
one_taken (call.XReadPipe h n) me (reply.Got bytes) = one_read (place_of me.places h) bytes
one_taken (call.XReadPipe h n) me _ = omega arith
one_taken (call.XRecvmsg h) me (reply.Got bytes) = one_received (place_of me.places h) bytes
one_taken (call.XRecvmsg h) me _ = omega arith
one_taken _ me r = omega arith

-- what a call says of its checks
pub ok_checked : {H : Type 0} (model : HostModel H) (c : Call) (old new : CallState H) (r : Result Reply NoMemory)
    → IfOk r (λ reply. IsHostCall model c old new (Ok reply)) → IfOk r (IsChecked (refusal_of c old.me) c)
ok_checked model c old new (Ok reply) k = k.checked
ok_checked model c old new (Err e) k = tt

-- a call of which one thing is known wanted memory so
pub taking_stops : {H : Type 0} (model : HostModel H) (d : Call) (old new : CallState (Fronted H)) (r : Result Reply NoMemory)
    → IsHostCall (fronted model) d old new r
    → OnErr r (StopsTaking model d (record { old = old.host.host; new = new.host.host }) (record { old = old.me; new = new.me }))
taking_stops model d old new (Ok reply) k = tt
taking_stops model d old new (Err e) k =
    record {
      uses = record { made = k.uses.made; named = k.uses.named; used = record { called = k.uses.used.called; plan = k.uses.used.plan } };
      faults = k.cause;
      me = k.memory.me;
    }
