-- Each pair is open at one of its two sides, at the opening and after each call.
use Rattle.std.proofs.Common.{◌≡◌, ℕ, zero, suc, ◌+◌, ◌-◌, ◌==◌, Bool, true, false, List, [], ◌∷◌, length, sym, subst, arith, if◌then◌else◌}
use Rattle.std.proofs.lemmas.List.Elements.{All-nil, All-cons, All-head, All-tail, All-append, All-replicate, All-set}
use Rattle.std.specs.Prelude.{All, slice_set}
use Rattle.xc_data.specs.Private.{IsSided, place_of}
use Rattle.xc_data.specs.declared.call.Call.{Call}
use Rattle.xc_data.specs.declared.call.Call.TheVariants as call
use Rattle.xc_data.specs.declared.call.Reply.{Reply}
use Rattle.xc_data.specs.declared.call.Reply.TheVariants as reply
use Rattle.xc_data.specs.declared.private.Place.{Place}
use Rattle.xc_data.specs.declared.private.Place.TheVariants.{Vacant, File, Pipe, Pair}
use Rattle.xc_data.specs.declared.private.Private.{Private}
use Rattle.xc_data.specs.declared.script.Opened.{Opened}
use Rattle.xc_data.specs.declared.script.Opened.TheVariants as opened
use Rattle.xc_data.specs.declared.script.Outline.{Outline}
use Rattle.xc_world.specs.After.{ArePlaces, IsAppendedAt, at_position, further}
use Rattle.xc_world.specs.Opening.{handles_of, line_num, opening_handles}
use Rattle.xc_world.specs.Act.Names.{next_num}
use Rattle.xc_world.specs.Trail.{done_of}

-- at each handle
pub sided_at : (places : List Place) (h : ℕ) → All IsSided places → IsSided (place_of places h)
sided_at [] h all = tt
sided_at (p ∷ ps) zero all = All-head IsSided p ps all
sided_at (p ∷ ps) (suc h) all = sided_at ps h (All-tail IsSided p ps all)

sided_further : (p : Place) (n : ℕ) → IsSided p → IsSided (further p n)
sided_further Vacant n is = is
sided_further (File num at) n is = is
sided_further (Pipe num) n is = is
sided_further (Pair num side) n is = is

sided_moved : (p : Place) (to : ℕ) → IsSided p → IsSided (at_position p to)
sided_moved Vacant to is = is
sided_moved (File num at) to is = is
sided_moved (Pipe num) to is = is
sided_moved (Pair num side) to is = is

same_sided : (places is : List Place) → is ≡ places → All IsSided places → All IsSided is
same_sided places is same all = subst (All IsSided) (sym same) all

set_sided : (places is : List Place) (h : ℕ) (p : Place) → is ≡ slice_set places h p → IsSided p → All IsSided places → All IsSided is
set_sided places is h p set one all = subst (All IsSided) (sym set) (All-set IsSided places h p one all)

moved_sided : (places is : List Place) (h n : ℕ) (b : Bool) → is ≡ (if b then places else slice_set places h (further (place_of places h) n))
    → All IsSided places → All IsSided is
moved_sided places is h n true same all = same_sided places is same all
moved_sided places is h n false set all =
    set_sided places is h (further (place_of places h) n) set (sided_further (place_of places h) n (sided_at places h all)) all

appended_sided : (places is : List Place) (h n : ℕ) → IsAppendedAt places h n is → All IsSided places → All IsSided is
appended_sided places is h zero same all = same_sided places is same all
appended_sided places is h (suc n) (end, set) all =
    set_sided places is h (at_position (place_of places h) (end + suc n)) set
    (sided_moved (place_of places h) (end + suc n) (sided_at places h all)) all

-- so they are after a call
pub sided_after : (tx : ℕ) (c : Call) (me : Private) (r : Reply) (is : List Place) → ArePlaces tx c me r is → All IsSided me.places → All IsSided is
sided_after tx (call.XOpen name) me (reply.Made h) is (lowest, num, set) all = set_sided me.places is h (File num 0) set tt all
sided_after tx (call.XOpen name) me r is same all = same_sided me.places is same all
sided_after tx (call.XCreate name) me (reply.Made h) is (lowest, set) all = set_sided me.places is h (File (next_num me tx) 0) set tt all
sided_after tx (call.XCreate name) me r is same all = same_sided me.places is same all
sided_after tx call.XPipe me (reply.Made h) is (lowest, set) all = set_sided me.places is h (Pipe (next_num me tx)) set tt all
sided_after tx call.XPipe me r is same all = same_sided me.places is same all
sided_after tx call.XPair me (reply.MadePair h g) is (lowest, next, set) all =
    let num = next_num me tx in
    let first = slice_set me.places h (Pair num 0) in
    set_sided first is g (Pair num 1) set (omega arith) (All-set IsSided me.places h (Pair num 0) (omega arith) all)
sided_after tx call.XPair me r is same all = same_sided me.places is same all
sided_after tx (call.XRead h n) me (reply.Got bytes) is set all = moved_sided me.places is h (length bytes) (length bytes == 0) set all
sided_after tx (call.XRead h n) me r is same all = same_sided me.places is same all
sided_after tx (call.XWriteOvr h bytes) me r is set all =
    moved_sided me.places is h (done_of (length bytes) r) (done_of (length bytes) r == 0) set all
sided_after tx (call.XWriteSeq h bytes) me r is set all = appended_sided me.places is h (done_of (length bytes) r) set all
sided_after tx (call.XSeek h to) me reply.Done is set all =
    set_sided me.places is h (at_position (place_of me.places h) to) set (sided_moved (place_of me.places h) to (sided_at me.places h all)) all
sided_after tx (call.XSeek h to) me r is same all = same_sided me.places is same all
sided_after tx (call.XClose h) me reply.Done is set all = set_sided me.places is h Vacant set tt all
sided_after tx (call.XClose h) me r is same all = same_sided me.places is same all
sided_after tx c me r is same all = same_sided me.places is same all

handles_sided : (k : ℕ) (objects : List Opened) → All IsSided (handles_of k objects)
handles_sided k [] = All-nil IsSided
handles_sided k (opened.File name bytes ∷ objects) = handles_sided (k + 1) objects
handles_sided k (opened.Pipe bytes ∷ objects) =
    All-cons IsSided (Pipe (line_num k)) (handles_of (k + 1) objects) tt (handles_sided (k + 1) objects)
handles_sided k (opened.Pair ∷ objects) =
    let rest = handles_of (k + 1) objects in
    let two = Pair (line_num k) 1 ∷ rest in
    All-cons IsSided (Pair (line_num k) 0) two (omega arith)
    (All-cons IsSided (Pair (line_num k) 1) rest (omega arith) (handles_sided (k + 1) objects))

-- and at the opening
pub opened_sided : (script : Outline) → All IsSided (opening_handles script)
opened_sided script =
    let handles = handles_of 0 script.prologue.objects in
    All-append IsSided handles _ (handles_sided 0 script.prologue.objects) (All-replicate IsSided (256 - length handles) Vacant tt)
