-- One active transaction in flight: against the journal's state w, and the station's world `now`.
use Rattle.std.specs.Prelude.{◌≡◌, ℕ, ◌≤◌, Bool, true, List, [], ◌++◌, length, take, map, All, IsTrue, Option}
use Rattle.std.specs.List.{list_any}
use Rattle.std.specs.declared.option.Option.TheVariants.{None, Some}
use Rattle.xc_data.specs.declared.object.Object.{Object}
use Rattle.xc_data.specs.declared.entry.KeptItem.{KeptItem}
use Rattle.xc_data.specs.Claims.{is_object}
use Rattle.xc_data.specs.declared.object.Object.TheVariants as object
use Rattle.xc_data.specs.declared.call.CallWithAnswer.{CallWithAnswer}
use Rattle.xc_data.specs.declared.call.LateCall.{LateCall}
use Rattle.xc_data.specs.declared.call.LateAnswer.{LateAnswer}
use Rattle.xc_data.specs.declared.undo.Undo.{Undo}
use Rattle.xc_txmem.specs.Overlay.{overlaid}
use Rattle.xc_world.specs.World.{World}
use Rattle.xc_world.specs.Run.{BodyResult, BlockState, LateResult, runs_on, body_state, body_fits, given_back, item_object, lates}
use Rattle.xc_world.specs.Run.{lates_fit, asked_of, late_asked_of}
use Rattle.xc_world.specs.Ends.{remains, with_remains}
use Rattle.xc_world.specs.Effects.{whole}
use Rattle.xc_world.specs.Sound.{IsFree}
use Rattle.xc_world.specs.Own.{AgreeOn, Owns}
use Rattle.xc_data.specs.declared.claim.Claim.{Claim}
use Rattle.xc_flight.specs.Active.{Tx, Saved, Phase, Running, Committing, Undoing, Own, Covers, num}

-- ---- its body on a world
-- its calls that have a reply, and in an open block its save
abbrev pub stood : World → Tx → BlockState
stood w t = body_state w t.began t.number (asked_of t.calls t.replies)

-- its calls that have a reply
abbrev pub noted : World → Tx → BodyResult
noted w t = (stood w t).now

-- all that it did
abbrev pub ran : World → Tx → BodyResult
ran w t = (runs_on t.number (stood w t) t.unnoted).now

-- all its calls with their answers
abbrev pub asked : Tx → List CallWithAnswer
asked t = asked_of t.calls t.replies ++ t.unnoted

-- the late calls that are done, with the answers that their ends tell
abbrev pub late_done : World → Tx → List (LateCall × LateAnswer)
late_done w t = late_asked_of (take (length t.late_ends) (ran w t).late) t.late_ends

-- where they lead
abbrev pub late_result : World → Tx → LateResult
late_result w t = lates (ran w t).world (late_done w t)

-- what stands of its records: those with no end yet, whole, and of the others what remains
abbrev pub effects : Tx → List (Undo × ℕ)
effects t = whole t.pending ++ remains t.ended

-- ---- what it left
-- the world that tells what it left at what it owns: a commit has to come before its stores count
abbrev pub left : World → Tx → Phase → World
left w t Running = record (ran w t).world { words = w.words }
left w t Committing = (late_result w t).world
left w t Undoing = with_remains w (effects t)

-- the world that is to be so: while it undoes, what it took from pipes and pairs is still to be given back
abbrev pub returned : World → Tx → Phase → World
returned now t Undoing = given_back now t.taken
returned now t Running = now
returned now t Committing = now

-- ---- what each phase says
-- a running one: its stores wait
pub record IsRunningFlight (w : World) (t : Tx) : Type 0 where
  pub none : t.ended ≡ []
  pub all_noted : t.unnoted ≡ []
  pub no_late_ends : t.late_ends ≡ []
  -- its stores laid over S give the words of its body, and each stored place is its own
  pub words : (ran w t).world.words ≡ overlaid w.words t.writes
  pub stored : All (λ s. Own t (object.Word s.0)) t.writes

-- a committing one: its late calls so far ended as their ends tell
pub record IsCommittingFlight (w : World) (t : Tx) : Type 0 where
  pub none : t.ended ≡ []
  pub all_noted : t.unnoted ≡ []
  -- the ends so far are those of its first late calls
  pub few : length t.late_ends ≤ length t.late
  pub ends : (late_result w t).ends ≡ t.late_ends
  pub fits : IsTrue (lates_fit (ran w t).world (late_done w t))

-- a transaction in a phase
abbrev pub IsPhase : World → Tx → Phase → Type 0
IsPhase w t Running = IsRunningFlight w t
IsPhase w t Committing = IsCommittingFlight w t
IsPhase w t Undoing = t.late_ends ≡ []

-- ---- an open block
-- what the save kept is what the body was there; the words are those that the stores before it give
pub record IsCopy (w : World) (number : ℕ) (held : List Claim) (was : BodyResult) (kept : Saved) : Type 0 where
  pub places : was.me.places ≡ kept.places
  pub late : was.late ≡ kept.late
  pub trail : was.trail ≡ kept.trail
  pub taken : was.taken ≡ kept.taken
  pub words : was.world.words ≡ overlaid w.words kept.writes
  pub stored : All (λ s. Owns number held (object.Word s.0)) kept.writes

-- a block is open in the body where one is open in the station
abbrev pub IsSaved : World → ℕ → List Claim → Option BodyResult → Option Saved → Type 0
IsSaved w number held None None = Unit {0}
IsSaved w number held (Some was) (Some kept) = IsCopy w number held was kept
IsSaved w number held _ _ = ⊥

-- ---- what it took from
-- whether an item was taken from the object
abbrev pub is_source : List KeptItem → Object → Bool
is_source items o = list_any (λ k. is_object (item_object k) o) items

-- an object of its own from which it took
abbrev pub Source : Tx → Object → Type 0
Source t o = Own t o × (is_source t.taken o ≡ true)

-- while it undoes, that object is in the station as its body left it: no compensation speaks of it
abbrev pub IsSourced : World → World → Tx → Phase → Type 0
IsSourced w now t Undoing = AgreeOn (Source t) now (left w t Running)
IsSourced w now t Running = Unit {0}
IsSourced w now t Committing = Unit {0}

-- ---- the flight
-- what a transaction is, free of the station's world
pub record Inside (w : World) (t : Tx) : Type 0 where
  -- S has no object with its number
  pub new : (k : ℕ) → IsFree w (num t.number k)
  -- its body on S gave what it noted
  pub fits : IsTrue (body_fits w t.began t.number (asked t))
  pub replies : (noted w t).replies ≡ t.replies
  pub me : (noted w t).me ≡ t.me
  pub late : (noted w t).late ≡ t.late
  pub trail : (ran w t).trail ≡ t.pending ++ map (λ r. r.0) t.ended
  pub taken : (ran w t).taken ≡ t.taken
  -- it holds what its body claims
  pub covers : Covers t.held (ran w t).touched
  pub phase : IsPhase w t t.phase
  pub saved : IsSaved w t.number t.held (stood w t).saved t.saved

-- a transaction in flight
pub record Flight (w now : World) (t : Tx) : Type 0 where
  pub inside : Inside w t
  -- what it owns is in the station as it left it
  pub owns : AgreeOn (Own t) (returned now t t.phase) (left w t t.phase)
  pub sources : IsSourced w now t t.phase
