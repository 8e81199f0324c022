-- The private state of a transaction, put back as it was before a call.
use Rattle.std.proofs.Common.{◌≡◌, ℕ, zero, suc, Bool, true, false, List, [], ◌∷◌, ◌≤◌, length, refl, ap, sym, ◌∙◌, arith}
use Rattle.std.proofs.lemmas.List.Quantifiers.{position-Some}
use Rattle.std.proofs.lemmas.Option.{unwrap_or-slice_get}
use Rattle.std.specs.Prelude.{◌==◌, slice_set, if◌then◌else◌, Option}
use Rattle.std.specs.declared.option.Option.TheVariants.{None, Some}
use Rattle.xc_data.specs.Private.{is_vacant, lowest_vacant, place_of}
use Rattle.xc_data.specs.declared.call.Call.{Call}
use Rattle.xc_data.specs.declared.call.Call.TheVariants as call
use Rattle.xc_data.specs.declared.call.Reply.{Reply}
use Rattle.xc_data.specs.declared.call.Reply.TheVariants as reply
use Rattle.xc_data.specs.declared.private.Place.{Place}
use Rattle.xc_data.specs.declared.private.Place.TheVariants.{Vacant, File, Pipe, Pair}
use Rattle.xc_data.specs.declared.private.Private.{Private}
use Rattle.xc_script.specs.Answers.{value_in}
use Rattle.xc_world.specs.After.{ArePlaces, IsAppendedAt, IsMeAfter, further}
use Rattle.xc_world.specs.Trail.{done_of}
use Rattle.xc_station.specs.PutBack.{changed_at, place_before, place_put_at}

put_again : (xs : List Place) (h : ℕ) (p : Place) → slice_set (slice_set xs h p) h (place_of xs h) ≡ xs
put_again [] h p = refl
put_again (x ∷ xs) zero p = refl
put_again (x ∷ xs) (suc h) p = ap (λ ys. x ∷ ys) (put_again xs h p)

put_same : (xs : List Place) (h : ℕ) → slice_set xs h (place_of xs h) ≡ xs
put_same [] h = refl
put_same (x ∷ xs) zero = refl
put_same (x ∷ xs) (suc h) = ap (λ ys. x ∷ ys) (put_same xs h)

-- after places that are as they were, or that changed at the handle
back_same : (xs is : List Place) (h : ℕ) → is ≡ xs → slice_set is h (place_of xs h) ≡ xs
back_same xs is h same = ap (λ ys. slice_set ys h (place_of xs h)) same ∙ put_same xs h

back_set : (xs is : List Place) (h : ℕ) (p : Place) → is ≡ slice_set xs h p → slice_set is h (place_of xs h) ≡ xs
back_set xs is h p set = ap (λ ys. slice_set ys h (place_of xs h)) set ∙ put_again xs h p

moved : (xs is : List Place) (h n : ℕ) (b : Bool) → is ≡ (if b then xs else slice_set xs h (further (place_of xs h) n)) → slice_set is h (place_of xs h) ≡ xs
moved xs is h n true same = back_same xs is h same
moved xs is h n false set = back_set xs is h (further (place_of xs h) n) set

appended : (xs is : List Place) (h n : ℕ) → IsAppendedAt xs h n is → slice_set is h (place_of xs h) ≡ xs
appended xs is h zero same = back_same xs is h same
appended xs is h (suc n) (end, set) = back_set xs is h _ set

-- a handle that was given was vacant
none_there : (p : Place) → is_vacant p ≡ true → p ≡ Vacant
none_there Vacant is = refl
none_there (File num at) is = cc is
none_there (Pipe num) is = cc is
none_there (Pair num side) is = cc is

given : (xs is : List Place) (h : ℕ) (p : Place) → lowest_vacant xs ≡ Some h → is ≡ slice_set xs h p → slice_set is h Vacant ≡ xs
given xs is h p lowest set =
    let vacant : place_of xs h ≡ Vacant =
    none_there (place_of xs h) (ap is_vacant (unwrap_or-slice_get xs h Vacant) ∙ (position-Some is_vacant xs h Vacant lowest).1) in
    ap (λ q. slice_set is h q) (sym vacant) ∙ back_set xs is h p set

-- the places after a call, with the one before it where it may have changed one, are those before it
pub places_back : (tx : ℕ) (c : Call) (me : Private) (r : Reply) (is : List Place) → ArePlaces tx c me r is → (value_in r ≡ None → ⊥)
    → place_put_at (changed_at c r) (place_before c me.places) is ≡ me.places
places_back tx (call.XOpen name) me (reply.Made h) is (lowest, num, set) brings = given me.places is h (File num 0) lowest set
places_back tx (call.XOpen name) me r is same brings = same
places_back tx (call.XCreate name) me (reply.Made h) is (lowest, set) brings = given me.places is h _ lowest set
places_back tx (call.XCreate name) me r is same brings = same
places_back tx call.XPipe me (reply.Made h) is (lowest, set) brings = given me.places is h _ lowest set
places_back tx call.XPipe me r is same brings = same
places_back tx call.XPair me (reply.MadePair h g) is set brings = absurd (brings refl)
places_back tx call.XPair me r is same brings = same
places_back tx (call.XRead h n) me (reply.Got bytes) is set brings = moved me.places is h (length bytes) (length bytes == 0) set
places_back tx (call.XRead h n) me r is same brings = back_same me.places is h same
places_back tx (call.XWriteOvr h bytes) me r is set brings = moved me.places is h (done_of (length bytes) r) (done_of (length bytes) r == 0) set
places_back tx (call.XWriteSeq h bytes) me r is set brings = appended me.places is h (done_of (length bytes) r) set
places_back tx (call.XSeek h to) me reply.Done is set brings = back_set me.places is h _ set
places_back tx (call.XSeek h to) me r is same brings = back_same me.places is h same
places_back tx (call.XClose h) me reply.Done is set brings = back_set me.places is h Vacant set
places_back tx (call.XClose h) me r is same brings = back_same me.places is h same
places_back tx c me r is same brings = same

-- past the last handle there is nothing to put
pub set_past : (xs : List Place) (h : ℕ) (p : Place) → length xs ≤ h → slice_set xs h p ≡ xs
set_past [] h p past = refl
set_past (x ∷ xs) zero p past = absurd (omega (arith, past))
set_past (x ∷ xs) (suc h) p past = ap (λ ys. x ∷ ys) (set_past xs h p (omega (arith, past)))

-- so are those that were put back
pub put_back_is : (tx : ℕ) (c : Call) (r : Reply) (was is : Private) (at : Option ℕ) (p : Place) (places : List Place) → IsMeAfter tx c r was is
    → (value_in r ≡ None → ⊥) → at ≡ changed_at c r → p ≡ place_before c was.places → places ≡ place_put_at at p is.places → places ≡ was.places
put_back_is tx c r was is at p places after brings there stood put =
    put ∙ (λ i. place_put_at (there i) (stood i) is.places) ∙ places_back tx c was r is.places after.places brings
