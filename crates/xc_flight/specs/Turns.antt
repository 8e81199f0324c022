-- The turns of one transaction: what it is afterwards, and what each turn has to show.
use Rattle.std.specs.Prelude.{◌≡◌, ◌≢◌, ℕ, false, List, [], ◌∷◌, ◌++◌, All, IsTrue, length, Option}
use Rattle.std.specs.declared.option.Option.TheVariants.{None, Some}
use Rattle.xc_data.specs.declared.call.Call.{Call}
use Rattle.xc_data.specs.declared.call.Call.TheVariants as call
use Rattle.xc_data.specs.declared.call.Reply.TheVariants as reply
use Rattle.xc_data.specs.declared.object.Object.{Object}
use Rattle.xc_data.specs.declared.object.Object.TheVariants as object
use Rattle.xc_data.specs.declared.claim.Claim.{Claim}
use Rattle.xc_data.specs.declared.call.CallWithAnswer.{CallWithAnswer}
use Rattle.xc_data.specs.declared.call.LateCall.{LateCall}
use Rattle.xc_data.specs.declared.call.LateEnd.{LateEnd}
use Rattle.xc_data.specs.declared.call.LateAnswer.{LateAnswer}
use Rattle.xc_data.specs.declared.entry.KeptItem.{KeptItem}
use Rattle.xc_data.specs.declared.undo.Undo.{Undo}
use Rattle.xc_data.specs.declared.undo.UndoEnd.{UndoEnd}
use Rattle.xc_data.specs.declared.private.Private.{Private}
use Rattle.xc_data.specs.Claims.{Clash}
use Rattle.xc_txmem.specs.Overlay.{overlaid}
use Rattle.xc_world.specs.World.{World}
use Rattle.xc_world.specs.Act.{act}
use Rattle.xc_world.specs.Act.Step.{Stepped}
use Rattle.xc_world.specs.Late.{kept_call, late}
use Rattle.xc_world.specs.Fits.{is_back, fits, late_fits, answer_of, late_answer_of}
use Rattle.xc_world.specs.Trail.{recorded}
use Rattle.xc_world.specs.Modes.{claims_of}
use Rattle.xc_world.specs.Run.{run, asked_of, taken_by}
use Rattle.xc_world.specs.Ends.{remains, with_remains}
use Rattle.xc_world.specs.Own.{IsNumbered}
use Rattle.xc_flight.specs.Active.{Tx, Saved, Phase, Running, Undoing, Has, Own, Covers, IsBelow}
use Rattle.xc_flight.specs.State.{FlightState, IsActive}

-- ---- it begins
-- a transaction that has done nothing
abbrev pub starting : ℕ → Private → Tx
starting number began =
    record {
      number = number;
      phase = Running;
      began = began;
      me = began;
      calls = [];
      replies = [];
      unnoted = [];
      held = [];
      writes = [];
      pending = [];
      ended = [];
      taken = [];
      late = [];
      late_ends = [];
      saved = None;
    }

-- ---- it claims
-- the transaction with these claims held
abbrev pub claiming : Tx → List Claim → Tx
claiming t held = record t { held = held }

-- no other active transaction made the object, and it has no number that is still to be given
pub record IsOpenFor (s : FlightState) (job : ℕ) (o : Object) : Type 0 where
  pub below : IsBelow s.next o
  pub foreign : (j : ℕ) (u : Tx) → j ≢ job → IsActive s j u → IsNumbered u.number o → ⊥

-- two claims go together: they don't clash
abbrev pub GoTogether : Claim → Claim → Type 0
GoTogether c d = Clash c d → ⊥

-- a job's claim goes together with all that others hold
abbrev pub FitsOthers : FlightState → ℕ → Claim → Type 0
FitsOthers s job c = (j : ℕ) (u : Tx) → j ≢ job → IsActive s j u → All (GoTogether c) u.held

-- it may be granted
pub record MayBeGranted (s : FlightState) (job : ℕ) (c : Claim) : Type 0 where
  pub object : IsOpenFor s job c.object
  pub together : FitsOthers s job c

-- the claims of two transactions go together, and neither has what the other made
pub record AreIndependent (t u : Tx) : Type 0 where
  pub numbers : t.number ≢ u.number
  pub together : All (λ c. All (GoTogether c) u.held) t.held
  pub foreign : (o : Object) → Has t o → IsNumbered u.number o → ⊥
  pub foreign_too : (o : Object) → Has u o → IsNumbered t.number o → ⊥

-- ---- it makes a call
-- what it sees: the station's world, its stores laid over the words
abbrev pub world_seen : World → Tx → World
world_seen now t = record now { words = overlaid now.words t.writes }

-- the call's step in what it sees
abbrev pub did : World → Tx → CallWithAnswer → Stepped
did now t asked = act (world_seen now t) t.me t.number asked.call asked.answer

-- the record of the call, where it leaves one
abbrev pub record_of_call : World → Tx → CallWithAnswer → List Undo
record_of_call now t asked = recorded (world_seen now t) t.me t.number asked.call (did now t asked).reply

-- what it took from a pipe or a pair
abbrev pub taken_by_call : World → Tx → CallWithAnswer → List KeptItem
taken_by_call now t asked = taken_by asked.call t.me (did now t asked).reply

-- what a save keeps of it
abbrev pub copy_of : Tx → Saved
copy_of t = record { places = t.me.places; writes = t.writes; late = t.late; trail = t.pending; taken = t.taken }

-- the block that a call opens or closes: a save's copy is that of the transaction after it
abbrev pub saved_after : Call → Option Saved → Saved → Option Saved
saved_after call.Save kept copy = Some copy
saved_after call.Keep kept copy = None
saved_after call.Back kept copy = None
-- any other call is made in the block that is open, also one yet to come
saved_after _ kept copy = kept

-- the transaction with the call noted, and with these stores
abbrev pub noting_call : World → Tx → CallWithAnswer → List (ℕ × ℕ) → Tx
noting_call now t asked writes =
    let s = did now t asked in
    let pending = t.pending ++ record_of_call now t asked in
    let taken = t.taken ++ taken_by_call now t asked in
    let late = t.late ++ kept_call asked.call t.me s.reply in
    record t {
      me = s.me;
      calls = t.calls ++ asked.call ∷ [];
      replies = t.replies ++ s.reply ∷ [];
      writes = writes;
      pending = pending;
      taken = taken;
      late = late;
      saved = saved_after asked.call t.saved
          (record { places = s.me.places; writes = writes; late = late; trail = pending; taken = taken });
    }

-- the station's world after it: its stores wait
abbrev pub after_call : World → Tx → CallWithAnswer → World
after_call now t asked = record (did now t asked).world { words = now.words }

-- a call may be made: it doesn't go back, its answer fits, and its claims are held
pub record MayDo (now : World) (t : Tx) (asked : CallWithAnswer) : Type 0 where
  pub ahead : is_back asked.call ≡ false
  pub fit : IsTrue (fits (world_seen now t) t.me t.number asked.call asked.answer)
  pub covers : Covers t.held (claims_of asked.call t.me (length now.words))

-- it is noted: the answer is read off the reply, and these are the stores with its own
pub record IsNoted (now : World) (t : Tx) (asked : CallWithAnswer) (writes : List (ℕ × ℕ)) : Type 0 where
  pub told : answer_of (did now t asked).reply ≡ asked.answer
  pub words : overlaid now.words writes ≡ (did now t asked).world.words
  pub stored : All (λ s. Own t (object.Word s.0)) writes

-- the call did its part, and memory ran out for its reply: it isn't noted, and the transaction turns back
abbrev pub wanting_memory : World → Tx → CallWithAnswer → Tx
wanting_memory now t asked =
    record t {
      phase = Undoing;
      unnoted = asked ∷ [];
      pending = t.pending ++ record_of_call now t asked;
      taken = t.taken ++ taken_by_call now t asked;
    }

-- ---- it commits, or turns back
abbrev pub in_phase : Tx → Phase → Tx
in_phase t phase = record t { phase = phase }

-- ---- it does a late call
abbrev pub with_end : Tx → LateEnd → Tx
with_end t end = record t { late_ends = t.late_ends ++ end ∷ [] }

-- the call is its next late call, and its answer fits the station's world and is read off its end
pub record IsDoneLate (now : World) (t : Tx) (call : LateCall) (answer : LateAnswer) : Type 0 where
  pub front : List LateCall
  pub rest : List LateCall
  pub split : t.late ≡ front ++ call ∷ rest
  pub done : length front ≡ length t.late_ends
  pub fit : IsTrue (late_fits now call answer)
  pub told : late_answer_of (late now call answer).end ≡ answer

-- ---- it compensates
-- the newest record without an end has this one
abbrev pub with_undone : Tx → List Undo → Undo → UndoEnd → Tx
with_undone t older u end = record t { pending = older; ended = (u, end) ∷ t.ended }

-- ---- its block went back
-- all is as the save kept it, and the back is noted, with so many faults on the way
abbrev pub went_back : Tx → Saved → ℕ → Tx
went_back t kept faults =
    record t {
      phase = Running;
      me = record t.me { places = kept.places };
      calls = t.calls ++ call.Back ∷ [];
      replies = t.replies ++ reply.Undone faults ∷ [];
      writes = kept.writes;
      pending = kept.trail;
      ended = [];
      taken = kept.taken;
      late = kept.late;
      saved = None;
    }

-- a block may end its way back: each of its records is undone, none of the older ones is begun, and all that it took is given back
pub record IsWayBack (t : Tx) (kept : Saved) (back : List KeptItem) : Type 0 where
  pub block : t.saved ≡ Some kept
  pub noted : t.unnoted ≡ []
  pub older : t.pending ≡ kept.trail
  pub none : remains t.ended ≡ []
  pub taken : t.taken ≡ kept.taken ++ back

-- ---- its entry
-- S after the entry of a commit: its body and its late calls are run
abbrev pub after_commit : World → Tx → World
after_commit w t = (run w t.began t.number (asked_of t.calls t.replies) t.late_ends).late.world

-- S after the entry of an abort: what remains of its records is there
abbrev pub after_abort : World → Tx → World
after_abort w t = with_remains w (remains t.ended)
