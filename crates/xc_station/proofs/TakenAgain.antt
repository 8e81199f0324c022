-- What becomes of kept data with a call that takes none, and where what a call took is given back for want of memory.
use Rattle.std.proofs.Common.{◌≡◌, inl, ℕ, ◌<◌, true, false, List, [], refl, ap, sym, ◌∙◌, subst}
use Rattle.std.specs.Prelude.{All, Result, Ok, Err, IsErr}
use Rattle.xc_buffers.specs.Items.{is_fit}
use Rattle.xc_data.specs.Private.{IsSided, place_of}
use Rattle.xc_data.specs.Step.{Step}
use Rattle.xc_data.specs.declared.call.Call.{Call}
use Rattle.xc_data.specs.declared.call.Call.TheVariants as call
use Rattle.xc_data.specs.declared.call.Reply.{Reply}
use Rattle.xc_data.specs.declared.call.Reply.TheVariants as reply
use Rattle.xc_data.specs.declared.entry.KeptItem.{KeptItem}
use Rattle.xc_data.specs.declared.memory.NoMemory.{NoMemory}
use Rattle.xc_data.specs.declared.object.Num.{Num}
use Rattle.xc_data.specs.declared.private.Place.{Place}
use Rattle.xc_data.specs.declared.private.Place.TheVariants as place
use Rattle.xc_data.specs.declared.private.Private.{Private}
use Rattle.xc_world.specs.Effects.{takes_data}
use Rattle.xc_world.specs.Run.{bytes_taken, given_back, message_taken, taken_by}
use Rattle.xc_world.specs.World.{World}
use Rattle.xc_calls.specs.Taking.{HasTaken, HoldsMore, ReadsAt, ReadsKept, ReceivesAt, ReceivesKept}
use Rattle.xc_pipe.proofs.Laws.{read_given_back}
use Rattle.xc_socket.proofs.Laws.{given_message}
use Rattle.xc_station.specs.Acting.{IsSidedFor}

-- a call that takes no data leaves what is kept
pub still_kept : (c : Call) (me : Private) (kept : Step (List KeptItem)) (r : Result Reply NoMemory) → takes_data c ≡ false → kept.new ≡ kept.old
    → HasTaken c me kept r
still_kept (call.XReadPipe h n) me kept r untaken same = cc untaken
still_kept (call.XRecvmsg h) me kept r untaken same = cc untaken
still_kept _ me kept r untaken same = same

-- and that is all that is said of it
pub same_kept : (c : Call) (me : Private) (kept : Step (List KeptItem)) (r : Result Reply NoMemory) → takes_data c ≡ false → HasTaken c me kept r
    → kept.new ≡ kept.old
same_kept (call.XReadPipe h n) me kept r untaken taken = cc untaken
same_kept (call.XRecvmsg h) me kept r untaken taken = cc untaken
same_kept _ me kept r untaken same = same

-- ---- for want of memory nothing was taken
-- of a pipe
none_read : (p : Place) (n : ℕ) (items : List KeptItem) (e : NoMemory) → ReadsAt p n (record { old = items; new = items }) (Err e)
none_read (place.Pipe pipe) n items e = ([], λ w. refl)
none_read (place.Pair num side) n items e = refl
none_read (place.File num at) n items e = refl
none_read place.Vacant n items e = refl

-- of a side of a pair
none_received : (p : Place) (items : List KeptItem) (e : NoMemory) → ReceivesAt p (record { old = items; new = items }) (Err e)
none_received (place.Pair num side) items e = inl (λ w. refl)
none_received (place.Pipe num) items e = refl
none_received (place.File num at) items e = refl
none_received place.Vacant items e = refl

-- by any call
pub none_given : (c : Call) (me : Private) (items : List KeptItem) (e : NoMemory) → HasTaken c me (record { old = items; new = items }) (Err e)
none_given (call.XReadPipe h n) me items e = none_read (place_of me.places h) n items e
none_given (call.XRecvmsg h) me items e = none_received (place_of me.places h) items e
none_given _ me items e = refl

-- the same where what is kept is the same
pub none_taken_for : (c : Call) (me : Private) (kept : Step (List KeptItem)) (e : NoMemory) → kept.new ≡ kept.old → HasTaken c me kept (Err e)
none_taken_for c me kept e same =
    subst (λ items. HasTaken c me (record { old = kept.old; new = items }) (Err e)) (sym same) (none_given c me kept.old e)

-- the same of an answer
pub err_taken : (c : Call) (me : Private) (kept : Step (List KeptItem)) (r : Result Reply NoMemory) → IsErr r → HasTaken c me kept (Err (record {}))
    → HasTaken c me kept r
err_taken c me kept (Ok reply) failed has = cc
err_taken c me kept (Err e) failed has = has

-- ---- what was taken is given back
-- of a place, with this reply
abbrev read_of : Place → Reply → List KeptItem
read_of p (reply.Got bytes) = bytes_taken p bytes
read_of p _ = []

abbrev received_at : Place → Reply → List KeptItem
received_at p (reply.Got bytes) = message_taken p bytes
received_at p _ = []

is_read : (h n : ℕ) (me : Private) (r : Reply) → read_of (place_of me.places h) r ≡ taken_by (call.XReadPipe h n) me r
is_read h n me (reply.Got bytes) = refl
is_read h n me _ = refl

is_received : (h : ℕ) (me : Private) (r : Reply) → received_at (place_of me.places h) r ≡ taken_by (call.XRecvmsg h) me r
is_received h me (reply.Got bytes) = refl
is_received h me _ = refl

none_of_read : (p : Place) (r : Reply) → ((bytes : List ℕ) → bytes_taken p bytes ≡ []) → read_of p r ≡ []
none_of_read p (reply.Got bytes) none = none bytes
none_of_read p _ none = refl

none_of_received : (p : Place) (r : Reply) → ((bytes : List ℕ) → message_taken p bytes ≡ []) → received_at p r ≡ []
none_of_received p (reply.Got bytes) none = none bytes
none_of_received p _ none = refl

module _ (old mid new : List KeptItem) where
  -- to a pipe
  pipe_again : (pipe : Num) (n : ℕ) (r : Reply) → ReadsKept pipe n (record { old = old; new = mid }) r
      → ((w : World) → given_back w new ≡ given_back (given_back w mid) (read_of (place.Pipe pipe) r))
      → HoldsMore (place.Pipe pipe) (record { old = old; new = new })
  pipe_again pipe n (reply.Got bytes) takes given = read_given_back old mid new pipe n bytes takes given
  pipe_again pipe n reply.Empty takes given = ([], λ w. given w ∙ takes.0 w)
  pipe_again pipe n reply.End takes given = ([], λ w. given w ∙ takes.0 w)
  pipe_again pipe n (reply.Fault k) takes given = (takes.0, λ w. given w ∙ takes.1 w)
  pipe_again pipe n _ same given = ([], λ w. given w ∙ ap (given_back w) same)

  read_again : (p : Place) (n : ℕ) (r : Reply) (e : NoMemory) → ReadsAt p n (record { old = old; new = mid }) (Ok r)
      → ((w : World) → given_back w new ≡ given_back (given_back w mid) (read_of p r)) → (read_of p r ≡ [] → new ≡ mid)
      → ReadsAt p n (record { old = old; new = new }) (Err e)
  read_again (place.Pipe pipe) n r e takes given none = pipe_again pipe n r takes given
  read_again (place.Pair num side) n r e same given none = none (none_of_read (place.Pair num side) r (λ bytes. refl)) ∙ same
  read_again (place.File num at) n r e same given none = none (none_of_read (place.File num at) r (λ bytes. refl)) ∙ same
  read_again place.Vacant n r e same given none = none (none_of_read place.Vacant r (λ bytes. refl)) ∙ same

  -- to a side of a pair
  side_again : (num : Num) (side : ℕ) (r : Reply) → All (λ t. is_fit t ≡ true) old → side < 2
      → ReceivesKept num side (record { old = old; new = mid }) r
      → ((w : World) → given_back w new ≡ given_back (given_back w mid) (received_at (place.Pair num side) r))
      → HoldsMore (place.Pair num side) (record { old = old; new = new })
  side_again num side (reply.Got bytes) fit lt takes given = given_message old mid new num side bytes fit lt takes given
  side_again num side reply.Empty fit lt takes given = inl (λ w. given w ∙ ap (given_back w) takes.0)
  side_again num side reply.End fit lt takes given = inl (λ w. given w ∙ ap (given_back w) takes.0)
  side_again num side (reply.Fault k) fit lt takes given = inl (λ w. given w ∙ ap (given_back w) takes.0)
  side_again num side _ fit lt same given = inl (λ w. given w ∙ ap (given_back w) same)

  received_again : (p : Place) (r : Reply) (e : NoMemory) → All (λ t. is_fit t ≡ true) old → IsSided p
      → ReceivesAt p (record { old = old; new = mid }) (Ok r)
      → ((w : World) → given_back w new ≡ given_back (given_back w mid) (received_at p r)) → (received_at p r ≡ [] → new ≡ mid)
      → ReceivesAt p (record { old = old; new = new }) (Err e)
  received_again (place.Pair num side) r e fit lt takes given none = side_again num side r fit lt takes given
  received_again (place.Pipe num) r e fit sided same given none = none (none_of_received (place.Pipe num) r (λ bytes. refl)) ∙ same
  received_again (place.File num at) r e fit sided same given none = none (none_of_received (place.File num at) r (λ bytes. refl)) ∙ same
  received_again place.Vacant r e fit sided same given none = none (none_of_received place.Vacant r (λ bytes. refl)) ∙ same

  -- what a call took is given back: all that was kept is, and what the host gave behind it
  pub taken_again : (d : Call) (me : Private) (r : Reply) (e : NoMemory) → takes_data d ≡ true → All (λ t. is_fit t ≡ true) old → IsSidedFor me d
      → HasTaken d me (record { old = old; new = mid }) (Ok r)
      → ((w : World) → given_back w new ≡ given_back (given_back w mid) (taken_by d me r)) → (taken_by d me r ≡ [] → new ≡ mid)
      → HasTaken d me (record { old = old; new = new }) (Err e)
  taken_again (call.XReadPipe h n) me r e takes fit sided has given none =
      read_again (place_of me.places h) n r e has
      (λ w. given w ∙ ap (given_back (given_back w mid)) (sym (is_read h n me r))) (λ nil. none (sym (is_read h n me r) ∙ nil))
  taken_again (call.XRecvmsg h) me r e takes fit sided has given none =
      received_again (place_of me.places h) r e fit sided has
      (λ w. given w ∙ ap (given_back (given_back w mid)) (sym (is_received h me r))) (λ nil. none (sym (is_received h me r) ∙ nil))
  taken_again _ me r e takes fit sided has given none = cc takes
