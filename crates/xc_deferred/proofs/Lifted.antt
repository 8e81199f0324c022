-- Late calls at a host with kept items in front of what it holds.
use Rattle.std.proofs.Common.{◌≡◌, ℕ, zero, suc, ◌+◌, ◌-◌, ◌<◌, ◌≤◌, ◌==◌, ◌&&◌, ◌||◌, Bool, true, false, not, min, inl, inr, IsTrue, Option, None, Some, List}
use Rattle.std.proofs.Common.{[], ◌∷◌}
use Rattle.std.proofs.Common.{length, take, refl, ap, sym, ◌∙◌, subst, arith, append-nil, length-append}
use Rattle.std.specs.Prelude.{◌⊎◌, nat_lt, if◌then◌else◌, is_some, unwrap_or}
use Rattle.std.specs.FinMap as map
use Rattle.std.proofs.Math.Dec.{eqb-suc-zero}
use Rattle.std.proofs.lemmas.Bool.{lt-ltb, le-ltb}
use Rattle.xc_data.specs.declared.call.LateCall.{LateCall}
use Rattle.xc_data.specs.declared.call.LateCall.TheVariants.{Unlink, Sync, WritePipe, Shutdown, Send, Thread}
use Rattle.xc_data.specs.declared.call.LateEnd.{LateEnd}
use Rattle.xc_data.specs.declared.call.LateEnd.TheVariants as end
use Rattle.xc_data.specs.declared.call.LateAnswer.{LateAnswer}
use Rattle.xc_data.specs.declared.call.LateAnswer.TheVariants as answer
use Rattle.xc_data.specs.declared.entry.KeptItem.{KeptItem}
use Rattle.xc_data.specs.declared.entry.KeptItem.TheVariants.{Bytes, Message}
use Rattle.xc_data.specs.declared.object.Num.{Num}
use Rattle.xc_data.specs.declared.object.Object.{Object}
use Rattle.xc_data.specs.declared.object.Object.TheVariants as object
use Rattle.xc_data.specs.declared.script.HostCallKind.{HostCallKind}
use Rattle.xc_maps.proofs.Laws.{insert-get_same, num_total, num_exact}
use Rattle.xc_world.specs.World.{World, Pipe, pipe_of, with_pipe, empty_pipe}
use Rattle.xc_world.specs.Fits.{late_fits, late_answer_of, late_may_stop}
use Rattle.xc_world.specs.Late.{Ended, late, ends, stopped, unlinked, room, with_put, pipe_written, shut_down}
use Rattle.xc_world.specs.Run.{given_back}
use Rattle.xc_host.specs.Contents.{Contents, with_contents, world_of}
use Rattle.xc_host.specs.Fronted.{fronted, before}
use Rattle.xc_host.specs.Kept.{with_kept}
use Rattle.xc_host.specs.Model.{HostModel}
use Rattle.xc_host.specs.Pipes.{has_pipe, pipe_in, put_front}
use Rattle.xc_host.specs.Uses.{Uses}
use Rattle.xc_buffers.specs.Items.{kept_bytes}
use Rattle.xc_buffers.specs.Worlds.{with_front}
use Rattle.xc_buffers.proofs.Laws.{Commutes, given_passes, held_alone, put_stays, shut_stays, pipe_front}
use Rattle.xc_deferred.specs.Does.{EndsAsPlain}
use Rattle.xc_deferred.specs.Ended.{EndsAt}
use Rattle.xc_deferred.specs.Puts.{Writes}

-- ---- worlds with the contents of a host and what is kept
-- the names stay
names_stay : (x : World) (items : List KeptItem) → (given_back x items).names ≡ x.names
names_stay x items = ap (λ (v : World). v.names) (held_alone x x items)

-- a world with the host's contents and kept items in front is the one with the host's contents, to which they are given back
pub world_with : (w : World) (c : Contents) (items : List KeptItem) → with_contents w (with_kept c items) ≡ given_back (with_contents w c) items
world_with w c items =
    let g = given_back (world_of c) items in
    ap (λ (v : World). let u : World = record w { names = v.names; files = v.files; pipes = g.pipes; pairs = g.pairs } in u)
    (held_alone (world_of c) (world_of c) items)
    ∙ sym (held_alone (with_contents w c) (world_of c) items)

-- ---- calls that what is kept doesn't touch, and the mark of a pipe or a pair
abbrev pub is_lifted : LateCall → Bool
is_lifted (Unlink name) = true
is_lifted (Sync num) = true
is_lifted (Shutdown object) = true
is_lifted (WritePipe num bytes) = false
is_lifted (Send num side bytes) = false
is_lifted (Thread body) = false

abbrev world_without_name : List ℕ → World → World
world_without_name name x = record x { names = map.remove x.names name }

name_gone : (x : World) (name : List ℕ) (items : List KeptItem) → given_back (world_without_name name x) items ≡ world_without_name name (given_back x items)
name_gone x name items = given_passes (world_without_name name) items (λ k d lt. passes _) x
  where
    passes : (t : KeptItem) → Commutes (world_without_name name) t
    passes (Bytes pipe bytes) y = refl
    passes (Message pair side bytes) y = refl

unlinked_lifted : (x : World) (name : List ℕ) (items : List KeptItem) (found : Option Num)
    → unlinked (given_back x items) name found ≡ ends (given_back (unlinked x name found).world items) (unlinked x name found).end
unlinked_lifted x name items None = refl
unlinked_lifted x name items (Some num) = ap (λ v. ends v end.Done) (sym (name_gone x name items))

shut_lifted : (x : World) (o : Object) (items : List KeptItem)
    → shut_down (given_back x items) o ≡ ends (given_back (shut_down x o).world items) (shut_down x o).end
shut_lifted x (object.Pipe num) items = ap (λ v. ends v end.Done) (sym (shut_stays x items (object.Pipe num)))
shut_lifted x (object.Pair num) items = ap (λ v. ends v end.Done) (sym (shut_stays x items (object.Pair num)))
shut_lifted x (object.Word at) items = refl
shut_lifted x (object.Name name) items = refl
shut_lifted x (object.File num) items = refl
shut_lifted x object.Jobs items = refl

-- such a call does with kept items what it does without them
late_lifted : (x : World) (call : LateCall) (a : LateAnswer) (items : List KeptItem) → is_lifted call ≡ true
    → late (given_back x items) call a ≡ ends (given_back (late x call a).world items) (late x call a).end
late_lifted x (Unlink name) answer.Fine items e =
    ap (λ names. unlinked (given_back x items) name (map.get names name)) (names_stay x items) ∙ unlinked_lifted x name items (map.get x.names name)
late_lifted x (Unlink name) (answer.Fault n) items e = refl
late_lifted x (Unlink name) (answer.NoMemory n) items e = refl
late_lifted x (Sync num) answer.Fine items e = refl
late_lifted x (Sync num) (answer.Fault n) items e = refl
late_lifted x (Sync num) (answer.NoMemory n) items e = refl
late_lifted x (Shutdown o) answer.Fine items e = shut_lifted x o items
late_lifted x (Shutdown o) (answer.Fault n) items e = refl
late_lifted x (Shutdown o) (answer.NoMemory n) items e = refl
late_lifted x (WritePipe num bytes) a items e = cc
late_lifted x (Send num side bytes) a items e = cc
late_lifted x (Thread body) a items e = cc

fits_lifted : (x y : World) (call : LateCall) (a : LateAnswer) → is_lifted call ≡ true → IsTrue (late_fits x call a) → IsTrue (late_fits y call a)
fits_lifted x y (Unlink name) answer.Fine e h = h
fits_lifted x y (Unlink name) (answer.Fault n) e h = h
fits_lifted x y (Unlink name) (answer.NoMemory n) e h = h
fits_lifted x y (Sync num) answer.Fine e h = h
fits_lifted x y (Sync num) (answer.Fault n) e h = h
fits_lifted x y (Sync num) (answer.NoMemory n) e h = h
fits_lifted x y (Shutdown o) answer.Fine e h = h
fits_lifted x y (Shutdown o) (answer.Fault n) e h = h
fits_lifted x y (Shutdown o) (answer.NoMemory n) e h = h
fits_lifted x y (WritePipe num bytes) a e h = cc
fits_lifted x y (Send num side bytes) a e h = cc
fits_lifted x y (Thread body) a e h = cc

does_lifted : (was is : Contents) (call : LateCall) (e : LateEnd) (items : List KeptItem) → is_lifted call ≡ true → EndsAsPlain was is call e
    → EndsAsPlain (with_kept was items) (with_kept is items) call e
does_lifted was is call e items lifted d =
    let a = late_answer_of e in
    record {
      fits = fits_lifted (world_of was) (world_of (with_kept was items)) call a lifted d.fits;
      step = λ w.
          ap (λ v. late v call a) (world_with w was items) ∙ late_lifted (with_contents w was) call a items lifted
          ∙ ap (λ (s : Ended). ends (given_back s.world items) s.end) (d.step w) ∙ ap (λ v. ends v e) (sym (world_with w is items));
    }

module _ {H : Type 0} (model : HostModel H) (items : List KeptItem) where
  -- a host that was used is so with kept items in front
  pub uses_fronted : {IsMade : List HostCallKind → Type 0} (a b : H) → Uses model (record { old = a; new = b }) IsMade
      → Uses (fronted model) (record { old = before a items; new = before b items }) IsMade
  uses_fronted a b u = record { made = u.made; named = u.named; used = record { called = u.used.called; plan = u.used.plan } }

  -- and so does such a call end
  pub ends_fronted : (a b : H) (call : LateCall) (e : LateEnd) → is_lifted call ≡ true → EndsAt model call (record { old = a; new = b }) e
      → EndsAt (fronted model) call (record { old = before a items; new = before b items }) e
  ends_fronted a b call e lifted at = record {
    cause = at.cause;
    uses = uses_fronted a b at.uses;
    does = λ t. does_lifted (model.contents a) (model.contents b) call e items lifted (at.does t);
  }

-- ---- a write to a pipe
-- bytes that are put at the host, in a world with its contents
put_world : (w : World) (c : Contents) (pipe : Num) (bytes : List ℕ) → has_pipe c pipe ≡ true
    → with_contents w (put_front c pipe bytes) ≡ with_put (with_contents w c) pipe bytes
put_world w c pipe (b ∷ bs) there = refl
put_world w c pipe [] there =
    let x = with_contents w c in
    let p = pipe_in c pipe in
    sym (ap (λ held. with_pipe x pipe (record p { held = held })) (append-nil p.held)
    ∙ ap (λ m. record x { pipes = m }) (insert-get_same num_total num_exact c.pipes pipe p (by_case (map.get c.pipes pipe) there)))
  where
    by_case : (o : Option Pipe) → is_some o ≡ true → o ≡ Some (unwrap_or o empty_pipe)
    by_case None e = cc
    by_case (Some q) e = refl

-- the worlds before and after it, with kept items
put_kept : (w : World) (c d : Contents) (pipe : Num) (bytes : List ℕ) (items : List KeptItem) → has_pipe c pipe ≡ true → d ≡ put_front c pipe bytes
    → with_put (given_back (with_contents w c) items) pipe bytes ≡ with_contents w (with_kept d items)
put_kept w c d pipe bytes items there did =
    sym (world_with w d items ∙ ap (λ x. given_back (with_contents w x) items) did
    ∙ ap (λ x. given_back x items) (put_world w c pipe bytes there)
    ∙ put_stays (with_contents w c) items pipe bytes)

-- a choice whose test fails
pub if_false : {T : Type 0} (b : Bool) (x y : T) → b ≡ false → (if b then x else y) ≡ y
if_false true x y e = cc
if_false false x y e = refl

-- and one whose test holds
pub if_true : {T : Type 0} (b : Bool) (x y : T) → b ≡ true → (if b then x else y) ≡ x
if_true true x y e = refl
if_true false x y e = cc

module _ (w : World) (c : Contents) (pipe : Num) (items : List KeptItem) where
  -- the pipe with kept items in front
  whole_pipe : pipe_of (given_back (with_contents w c) items) pipe ≡ with_front (kept_bytes pipe items) (pipe_in c pipe)
  whole_pipe = pipe_front (with_contents w c) items pipe

  -- its mark, and its room
  mark_there : (b : Bool) → (pipe_in c pipe).shut ≡ b → (pipe_of (given_back (with_contents w c) items) pipe).shut ≡ b
  mark_there b e = ap (λ (p : Pipe). p.shut) whole_pipe ∙ e

  room_there : (r : ℕ) → r ≡ 4096 - (length (kept_bytes pipe items) + length (pipe_in c pipe).held)
      → room (pipe_of (given_back (with_contents w c) items) pipe) ≡ r
  room_there r e =
      ap room whole_pipe ∙ ap (λ n. 4096 - n) (length-append (kept_bytes pipe items) (pipe_in c pipe).held) ∙ sym e

-- a world with a pipe that isn't shut and has so much room
record HasPipeRoom (x : World) (pipe : Num) (r : ℕ) : Type 0 where
  mark : (pipe_of x pipe).shut ≡ false
  room_is : room (pipe_of x pipe) ≡ r

written_all : (x : World) (pipe : Num) (r : ℕ) (bytes : List ℕ) → HasPipeRoom x pipe r → length bytes ≤ r
    → pipe_written x pipe bytes ≡ ends (with_put x pipe bytes) end.Done
written_all x pipe r bytes h le =
    if_false (pipe_of x pipe).shut _ _ h.mark
    ∙ if_false (nat_lt (room (pipe_of x pipe)) (length bytes)) _ _ (ap (λ n. nat_lt n (length bytes)) h.room_is ∙ le-ltb _ _ le)

written_front : (x : World) (pipe : Num) (r : ℕ) (bytes : List ℕ) → HasPipeRoom x pipe r → r < length bytes
    → pipe_written x pipe bytes ≡ ends (with_put x pipe (take r bytes)) (end.Full r)
written_front x pipe r bytes h lt =
    if_false (pipe_of x pipe).shut _ _ h.mark
    ∙ if_true (nat_lt (room (pipe_of x pipe)) (length bytes)) _ _ (ap (λ n. nat_lt n (length bytes)) h.room_is ∙ lt-ltb _ _ lt)
    ∙ ap (λ n. ends (with_put x pipe (take n bytes)) (end.Full n)) h.room_is

stopped_at : (x : World) (pipe : Num) (r n : ℕ) (bytes : List ℕ) → HasPipeRoom x pipe r → suc n < r
    → stopped x (WritePipe pipe bytes) (suc n) ≡ with_put x pipe (take (suc n) bytes)
stopped_at x pipe r n bytes h lt =
    let least : min (suc n) (room (pipe_of x pipe)) ≡ suc n = omega (arith, h.room_is, lt) in
    if_false (suc n == 0 || (pipe_of x pipe).shut) _ _ (ap (λ b. b || (pipe_of x pipe).shut) (eqb-suc-zero n) ∙ h.mark)
    ∙ ap (λ k. with_put x pipe (take k bytes)) least

may_stop_at : (x : World) (pipe : Num) (r n : ℕ) (bytes : List ℕ) → HasPipeRoom x pipe r → n < length bytes → n < r
    → late_may_stop x (WritePipe pipe bytes) n ≡ true
may_stop_at x pipe r n bytes h lt lt' =
    ap (λ b. not b && nat_lt n (min (length bytes) (room (pipe_of x pipe)))) h.mark
    ∙ lt-ltb n (min (length bytes) (room (pipe_of x pipe))) (omega (arith, h.room_is, lt, lt'))

-- a call that did nothing
pub nothing_done : (c d : Contents) (call : LateCall) (items : List KeptItem) (e : LateEnd) → d ≡ c
    → ((x : World) → late x call (late_answer_of e) ≡ ends x e) → ((x : World) → IsTrue (late_fits x call (late_answer_of e)))
    → EndsAsPlain (with_kept c items) (with_kept d items) call e
nothing_done c d call items e same step fits = record {
  fits = fits (world_of (with_kept c items));
  step = λ w. step (with_contents w (with_kept c items)) ∙ ap (λ x. ends (with_contents w (with_kept x items)) e) (sym same);
}

module _ (c d : Contents) (pipe : Num) (bytes : List ℕ) (items : List KeptItem) where
  -- a write to a pipe that is shut
  pub shut_written : d ≡ c → (pipe_in c pipe).shut ≡ true → EndsAsPlain (with_kept c items) (with_kept d items) (WritePipe pipe bytes) end.Shut
  shut_written same shut = record {
    fits = refl;
    step = λ w.
        let x = given_back (with_contents w c) items in
        ap (λ v. pipe_written v pipe bytes) (world_with w c items) ∙ if_true (pipe_of x pipe).shut _ _ (mark_there w c pipe items true shut)
        ∙ ap (λ v. ends v end.Shut) (sym (world_with w c items) ∙ ap (λ x. with_contents w (with_kept x items)) (sym same));
  }

module _ (c d : Contents) (pipe : Num) (bytes : List ℕ) (items : List KeptItem) (r : ℕ) (there : has_pipe c pipe ≡ true)
    (mark : (pipe_in c pipe).shut ≡ false) (room_is : r ≡ 4096 - (length (kept_bytes pipe items) + length (pipe_in c pipe).held)) where
  has_room : (w : World) → HasPipeRoom (given_back (with_contents w c) items) pipe r
  has_room w = record { mark = mark_there w c pipe items false mark; room_is = room_there w c pipe items r room_is }

  some_stopped : (n : ℕ) → n < length bytes → n < r → d ≡ put_front c pipe (take n bytes) → (w : World)
      → stopped (with_contents w (with_kept c items)) (WritePipe pipe bytes) n ≡ with_contents w (with_kept d items)
  some_stopped zero lt lt' did w = ap (λ x. with_contents w (with_kept x items)) (sym did)
  some_stopped (suc n) lt lt' did w =
      ap (λ x. stopped x (WritePipe pipe bytes) (suc n)) (world_with w c items)
      ∙ stopped_at (given_back (with_contents w c) items) pipe r n bytes (has_room w) lt'
      ∙ put_kept w c d pipe (take (suc n) bytes) items there did

  none_stopped : (n : ℕ) → n ≡ 0 → d ≡ put_front c pipe (take n bytes) → (w : World)
      → stopped (with_contents w (with_kept c items)) (WritePipe pipe bytes) n ≡ with_contents w (with_kept d items)
  none_stopped zero e did w = ap (λ x. with_contents w (with_kept x items)) (sym did)
  none_stopped (suc n) e did w = cc

  stopped_there : (n : ℕ) → (n ≡ 0) ⊎ ((n < length bytes) × (n < r)) → d ≡ put_front c pipe (take n bytes) → (w : World)
      → stopped (with_contents w (with_kept c items)) (WritePipe pipe bytes) n ≡ with_contents w (with_kept d items)
  stopped_there n (inl e) did w = none_stopped n e did w
  stopped_there n (inr h) did w = some_stopped n h.0 h.1 did w

  abbrev here : World
  here = world_of (with_kept c items)

  room_here : HasPipeRoom here pipe r
  room_here = subst (λ x. HasPipeRoom x pipe r) (sym (world_with here c items)) (has_room here)

  fault_fits : (n : ℕ) → (n ≡ 0) ⊎ ((n < length bytes) × (n < r)) → IsTrue (late_fits here (WritePipe pipe bytes) (answer.Fault n))
  fault_fits zero h = refl
  fault_fits (suc n) (inl e) = cc
  fault_fits (suc n) (inr h) = if_false (suc n == 0) _ _ (eqb-suc-zero n) ∙ may_stop_at here pipe r (suc n) bytes room_here h.0 h.1

  memory_fits : (n : ℕ) → (n ≡ 0) ⊎ ((n < length bytes) × (n < r)) → IsTrue (late_fits here (WritePipe pipe bytes) (answer.NoMemory n))
  memory_fits zero h = refl
  memory_fits (suc n) (inl e) = cc
  memory_fits (suc n) (inr h) = if_false (suc n == 0) _ _ (eqb-suc-zero n) ∙ may_stop_at here pipe r (suc n) bytes room_here h.0 h.1

  -- a write that ended so is the plain machine's
  pub writes_does : (e : LateEnd) → Writes (record { old = c; new = d }) pipe bytes r e
      → EndsAsPlain (with_kept c items) (with_kept d items) (WritePipe pipe bytes) e
  writes_does end.Done did = record {
    fits = refl;
    step = λ w.
        ap (λ x. pipe_written x pipe bytes) (world_with w c items) ∙ written_all (given_back (with_contents w c) items) pipe r bytes (has_room w) did.0
        ∙ ap (λ x. ends x end.Done) (put_kept w c d pipe bytes items there did.1);
  }
  writes_does (end.Full n) did =
      let full : d ≡ put_front c pipe (take r bytes) = did.2 ∙ ap (λ k. put_front c pipe (take k bytes)) did.0 in
      record {
        fits = refl;
        step = λ w.
            ap (λ x. pipe_written x pipe bytes) (world_with w c items)
            ∙ written_front (given_back (with_contents w c) items) pipe r bytes (has_room w) did.1
            ∙ ap (λ x. ends x (end.Full r)) (put_kept w c d pipe (take r bytes) items there full)
            ∙ ap (λ k. ends (with_contents w (with_kept d items)) (end.Full k)) (sym did.0);
      }
  writes_does (end.Fault n) did = record {
    fits = fault_fits n did.0;
    step = λ w. ap (λ x. ends x (end.Fault n)) (stopped_there n did.0 did.1 w);
  }
  writes_does (end.NoMemory n) did = record {
    fits = memory_fits n did.0;
    step = λ w. ap (λ x. ends x (end.NoMemory n)) (stopped_there n did.0 did.1 w);
  }
  writes_does end.Shut did = absurd did
  writes_does end.NoName did = absurd did
  writes_does end.NoScript did = absurd did
