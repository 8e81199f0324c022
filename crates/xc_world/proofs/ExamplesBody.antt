-- A body of four calls, computed: a create, an append, a rename and a message taken.
use Rattle.std.proofs.Common.{◌≡◌, ◌≢◌, ℕ, false, Some, None, List, [], ◌∷◌, ◌∙◌, ap, get_or, refl}
use Rattle.std.specs.Prelude.{codes}
use Rattle.std.proofs.lemmas.Bool.{eqb-false}
use Rattle.std.specs.FinMap as map
use Rattle.std.specs.Cmp.Lexicographic.{nat_list_cmp_total}
use Rattle.std.proofs.lemmas.Map.Lookups.{exact_bytes}
use Rattle.xc_data.specs.declared.object.Num.{Num}
use Rattle.xc_data.specs.declared.object.Object.TheVariants as object
use Rattle.xc_data.specs.declared.undo.Undo.TheVariants as undo
use Rattle.xc_data.specs.declared.call.CallWithAnswer.{CallWithAnswer}
use Rattle.xc_data.specs.declared.call.Call.TheVariants as call
use Rattle.xc_data.specs.declared.call.Answer.TheVariants as answer
use Rattle.xc_data.specs.declared.call.Reply.TheVariants as reply
use Rattle.xc_data.specs.declared.private.Place.TheVariants as place
use Rattle.xc_data.specs.declared.private.Private.{Private}
use Rattle.xc_data.specs.declared.claim.Mode.TheVariants.{Exclusive}
use Rattle.xc_data.specs.declared.entry.KeptItem.TheVariants.{Message}
use Rattle.xc_data.specs.Claims.{claim, held_of}
use Rattle.xc_maps.specs.Keys.{num_cmp, name_cmp}
use Rattle.xc_maps.proofs.Laws.{get-insert_same, get-insert_other, num_total, num_exact}
use Rattle.xc_world.specs.World.{World, Pair}
use Rattle.xc_world.specs.Run.{body}

abbrev first : Num
first = record { tx = 0; k = 0 }

abbrev new : Num
new = record { tx = 1; k = 0 }

abbrev waits : Pair
waits = record { first = []; second = codes "m" ∷ []; shut = false }

-- a pair with a message for side 1, and nothing else
abbrev one_message_world : World
one_message_world =
    record { words = 7 ∷ []; names = map.empty; files = map.empty; pipes = map.empty; pairs = map.insert map.empty first waits; started = []; blocks = [] }

abbrev me : Private
me = record { places = place.Pair first 1 ∷ place.Vacant ∷ []; made = 0; stored = 0 }

abbrev calls : List CallWithAnswer
calls =
    record { call = call.XCreate (codes "a"); answer = answer.Fine } ∷ record { call = call.XWriteSeq 1 (codes "hi"); answer = answer.Fine }
    ∷ record { call = call.XRename (codes "a") (codes "b"); answer = answer.Fine } ∷ record { call = call.XRecvmsg 0; answer = answer.Fine } ∷ []

-- what the maps hold where they are asked
abbrev empty_names : map.FinMap name_cmp Num
empty_names = map.empty

no_name : (name : List ℕ) → map.get empty_names name ≡ None
no_name name = map.get-empty name_cmp name

pair_there : map.get (map.insert {R = num_cmp} map.empty first waits) first ≡ Some waits
pair_there = get-insert_same num_total num_exact map.empty first waits

file_there : map.get {X = List ℕ} (map.insert {R = num_cmp} map.empty new []) new ≡ Some []
file_there = get-insert_same num_total num_exact map.empty new []

name_there : map.get (map.insert {R = name_cmp} map.empty (codes "a") new) (codes "a") ≡ Some new
name_there = get-insert_same nat_list_cmp_total exact_bytes map.empty (codes "a") new

other_name : codes "b" ≢ codes "a"
other_name e = eqb-false 98 97 refl (ap (λ (xs : List ℕ). get_or xs 0 0) e)

none_there : map.get (map.insert {R = name_cmp} map.empty (codes "a") new) (codes "b") ≡ None
none_there = get-insert_other nat_list_cmp_total exact_bytes map.empty (codes "a") (codes "b") new other_name ∙ no_name (codes "b")

-- each call's reply
pub replies_of_four_calls : (body one_message_world me 1 calls).replies ≡ reply.Made 1 ∷ reply.Done ∷ reply.Done ∷ reply.Got (codes "m") ∷ []
replies_of_four_calls = rw (no_name (codes "a"), file_there, name_there, none_there, pair_there) refl

-- three records
pub trail_of_four_calls : (body one_message_world me 1 calls).trail
    ≡ undo.Create (codes "a") new ∷ undo.Append new 0 (codes "hi") 2 ∷ undo.Rename (codes "a") (codes "b") ∷ []
trail_of_four_calls = rw (no_name (codes "a"), file_there, name_there, none_there) refl

-- the message
pub taken_of_four_calls : (body one_message_world me 1 calls).taken ≡ Message first 1 (codes "m") ∷ []
taken_of_four_calls = rw (no_name (codes "a"), file_there, name_there, none_there, pair_there) refl

-- each object in the order of the calls
pub touched_of_four_calls : (body one_message_world me 1 calls).touched
    ≡ claim Exclusive (object.Name (codes "a")) ∷ claim Exclusive (object.File new)
    ∷ claim Exclusive (object.Name (codes "a")) ∷ claim Exclusive (object.Name (codes "b")) ∷ claim Exclusive (object.Pair first) ∷ []
touched_of_four_calls = rw (no_name (codes "a"), file_there, name_there, none_there) refl

-- the name is held once
pub held_of_four_calls : held_of (body one_message_world me 1 calls).touched
    ≡ claim Exclusive (object.Name (codes "a")) ∷ claim Exclusive (object.File new)
    ∷ claim Exclusive (object.Name (codes "b")) ∷ claim Exclusive (object.Pair first) ∷ []
held_of_four_calls = ap held_of touched_of_four_calls
