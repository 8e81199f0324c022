-- Writes that a check refuses.
use Rattle.std.proofs.Common.{◌≡◌, ℕ, Bool, Option, Some, None}
use Rattle.std.proofs.Common.{List, [], length, refl, ap, sym, ◌∙◌, if◌then◌else◌}
use Rattle.std.specs.Prelude.{not}
use Rattle.xc_data.specs.declared.call.Call.{Call}
use Rattle.xc_data.specs.declared.call.Call.TheVariants as call
use Rattle.xc_data.specs.declared.call.Reply.{Reply}
use Rattle.xc_data.specs.declared.call.Reply.TheVariants as reply
use Rattle.xc_data.specs.declared.private.Place.{Place}
use Rattle.xc_data.specs.declared.private.Place.TheVariants as place
use Rattle.xc_data.specs.declared.private.Private.{Private}
use Rattle.xc_data.specs.Private.{place_of}
use Rattle.xc_world.specs.World.{World}
use Rattle.xc_world.specs.Checks.{is_bad_handle, is_too_big, is_too_much, refusal_of}
use Rattle.xc_world.specs.Trail.{recorded, overwrite_record, append_record, done_of}
use Rattle.xc_calls.proofs.Laws.{plain_first}

-- an overwrite of nothing leaves no record
nothing_done : (w : World) (bytes : List ℕ) (p : Place) → overwrite_record w bytes 0 p ≡ []
nothing_done w bytes (place.File num at) = refl
nothing_done w bytes place.Vacant = refl
nothing_done w bytes (place.Pipe num) = refl
nothing_done w bytes (place.Pair num side) = refl

-- an append of nothing leaves no record
nothing_appended : (w : World) (bytes : List ℕ) (p : Place) → append_record w bytes 0 p ≡ []
nothing_appended w bytes (place.File num at) = refl
nothing_appended w bytes place.Vacant = refl
nothing_appended w bytes (place.Pipe num) = refl
nothing_appended w bytes (place.Pair num side) = refl

-- a write of either kind that is refused did nothing
refused_done : (call : Call) (me : Private) (all : ℕ) (r : Reply) → refusal_of call me ≡ Some r → done_of all r ≡ 0
refused_done call me all r e = (plain_first (is_bad_handle call me) (is_too_big call) (is_too_much call me) r e).done all

-- a refused overwrite leaves no record
pub refused_overwrite : (me : Private) (h : ℕ) (bytes : List ℕ) (r : Reply) → refusal_of (call.XWriteOvr h bytes) me ≡ Some r
    → (w : World) (number : ℕ) → [] ≡ recorded w me number (call.XWriteOvr h bytes) r
refused_overwrite me h bytes r e w number =
    let p = place_of me.places h in
    sym (ap (λ n. overwrite_record w bytes n p) (refused_done (call.XWriteOvr h bytes) me (length bytes) r e) ∙ nothing_done w bytes p)

-- a refused append leaves no record
pub refused_append : (me : Private) (h : ℕ) (bytes : List ℕ) (r : Reply) → refusal_of (call.XWriteSeq h bytes) me ≡ Some r
    → (w : World) (number : ℕ) → [] ≡ recorded w me number (call.XWriteSeq h bytes) r
refused_append me h bytes r e w number =
    let p = place_of me.places h in
    sym (ap (λ n. append_record w bytes n p) (refused_done (call.XWriteSeq h bytes) me (length bytes) r e) ∙ nothing_appended w bytes p)

-- what the checks say of a call that needs an open file, by whether it is one
abbrev pub by_kind : Bool → Option Reply
by_kind is_open = if not is_open then Some reply.BadHandle else None
