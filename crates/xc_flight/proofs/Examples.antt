-- Two jobs on a small world, computed.
use Rattle.std.proofs.Common.{◌≡◌, ℕ, suc, zero, Some, None, [], ◌∷◌, refl, arith}
use Rattle.std.specs.FinMap as map
use Rattle.xc_maps.specs.Keys.{num_cmp}
use Rattle.xc_data.specs.declared.object.Object.TheVariants as object
use Rattle.xc_data.specs.declared.claim.Mode.TheVariants.{Shared, Exclusive}
use Rattle.xc_data.specs.declared.call.CallWithAnswer.{CallWithAnswer}
use Rattle.xc_data.specs.declared.call.Call.TheVariants as call
use Rattle.xc_data.specs.declared.call.Answer.TheVariants as answer
use Rattle.xc_data.specs.declared.call.Reply.TheVariants as reply
use Rattle.xc_data.specs.declared.private.Private.{Private}
use Rattle.xc_data.specs.Claims.{claim}
use Rattle.xc_world.specs.World.{World, beginning}
use Rattle.xc_flight.specs.Active.{Tx, num}
use Rattle.xc_flight.specs.State.{FlightState, active_at, InFlight}
use Rattle.xc_flight.specs.Turns.{starting, claiming, world_seen, noting_call, after_call, GoTogether}
use Rattle.xc_flight.proofs.Rows.{starts, begin_keeps}

-- a world of two words
abbrev two_word_world : World
two_word_world = record { words = 5 ∷ 6 ∷ []; names = map.empty; files = map.empty; pipes = map.empty; pairs = map.empty; started = []; blocks = [] }

-- two jobs, none of which has a transaction
abbrev idle : FlightState
idle = record { state = two_word_world; now = two_word_world; active = None ∷ None ∷ []; next = 1 }

abbrev nothing_yet : Private
nothing_yet = beginning []

nobody : (job : ℕ) → active_at idle job ≡ None
nobody zero = refl
nobody (suc zero) = refl
nobody (suc (suc job)) = refl

-- the first job's transaction has number 1, the second's number 2
pub two_begin :
    InFlight (record idle { active = Some (starting 1 nothing_yet) ∷ Some (starting 2 nothing_yet) ∷ []; next = 3 })
two_begin =
    let opening = starts idle nobody refl (λ m k le. record {
      file = map.get-empty num_cmp (num m k);
      pipe = map.get-empty num_cmp
          (num m k);
      pair = map.get-empty num_cmp (num m k);
    }) in
    begin_keeps (record idle { active = Some (starting 1 nothing_yet) ∷ None ∷ []; next = 2 }) 1 nothing_yet
    (begin_keeps idle 0 nothing_yet opening (omega arith) refl) (omega arith) refl

-- one that holds the first word exclusively, and the second one shared
abbrev first_tx : Tx
first_tx = claiming (starting 1 nothing_yet) (claim Exclusive (object.Word 0) ∷ claim Shared (object.Word 1) ∷ [])

abbrev store : CallWithAnswer
store = record { call = call.Store 0 9; answer = answer.Fine }

-- its store is noted, and waits: it sees it, and the station's words are as before
pub a_store_waits : (after_call two_word_world first_tx store).words ≡ 5 ∷ 6 ∷ []
a_store_waits = refl

-- and it sees it
pub it_sees_its_store : (world_seen two_word_world (noting_call two_word_world first_tx store ((0, 9) ∷ []))).words ≡ 9 ∷ 6 ∷ []
it_sees_its_store = refl

-- with this reply
pub its_reply : (noting_call two_word_world first_tx store ((0, 9) ∷ [])).replies ≡ reply.Done ∷ []
its_reply = refl

-- two may hold a word shared, and none holds it beside one that holds it exclusively
pub both_may_read : GoTogether (claim Shared (object.Word 1)) (claim Shared (object.Word 1))
both_may_read clash = (let no = clash.1 in cc no)

-- but none does beside one that holds it exclusively
pub a_writer_is_alone : GoTogether (claim Exclusive (object.Word 1)) (claim Shared (object.Word 1)) → ⊥
a_writer_is_alone together = together (refl, refl)
