-- An active transaction as plain data, and what it has and owns.
use Rattle.std.specs.Prelude.{ℕ, ◌<◌, List, Contains, Option}
use Rattle.xc_data.specs.declared.private.Place.{Place}
use Rattle.xc_data.specs.declared.object.Num.{Num}
use Rattle.xc_data.specs.declared.object.Object.{Object}
use Rattle.xc_data.specs.declared.object.Object.TheVariants as object
use Rattle.xc_data.specs.declared.claim.Claim.{Claim}
use Rattle.xc_data.specs.declared.call.Call.{Call}
use Rattle.xc_data.specs.declared.call.CallWithAnswer.{CallWithAnswer}
use Rattle.xc_data.specs.declared.call.Reply.{Reply}
use Rattle.xc_data.specs.declared.call.LateCall.{LateCall}
use Rattle.xc_data.specs.declared.call.LateEnd.{LateEnd}
use Rattle.xc_data.specs.declared.entry.KeptItem.{KeptItem}
use Rattle.xc_data.specs.declared.undo.Undo.{Undo}
use Rattle.xc_data.specs.declared.private.Private.{Private}
use Rattle.xc_data.specs.Claims.{objects, owned}
use Rattle.xc_world.specs.Ends.{Ending}
use Rattle.xc_world.specs.Own.{Sees, Owns}

-- it makes calls; or it is committed and does its late calls; or it turned back and undoes what it did
pub data Phase : Type 0 where
  Running : Phase
  Committing : Phase
  Undoing : Phase

-- what an open block's save keeps: the handles, the stores, the late calls, the records and what was taken
pub record Saved : Type 0 where
  pub places : List Place
  pub writes : List (ℕ × ℕ)
  pub late : List LateCall
  pub trail : List Undo
  pub taken : List KeptItem

-- an active transaction
pub record Tx : Type 0 where
  pub number : ℕ
  pub phase : Phase
  -- its job's private state at its begin, and now
  pub began : Private
  pub me : Private
  -- its calls with their replies, and a call that did its part before memory ran out for the reply: none, or one
  pub calls : List Call
  pub replies : List Reply
  pub unnoted : List CallWithAnswer
  -- the claims that it holds
  pub held : List Claim
  -- its stores, the oldest first: they wait for the commit
  pub writes : List (ℕ × ℕ)
  -- its records with no end yet, and those that have one
  pub pending : List Undo
  pub ended : List Ending
  -- what it took from pipes and pairs, to be given back where it undoes
  pub taken : List KeptItem
  -- its late calls, and the ends of the first of them
  pub late : List LateCall
  pub late_ends : List LateEnd
  -- in an open block what its save kept
  pub saved : Option Saved

-- what it has: it holds the object, or the object has its number
abbrev pub Has : Tx → Object → Type 0
Has t o = Sees t.number t.held o

-- what it owns: it holds the object exclusively, or the object has its number
abbrev pub Own : Tx → Object → Type 0
Own t o = Owns t.number t.held o

-- held claims cover others: their objects are held, and exclusively where they are exclusive
pub record Covers (held claims : List Claim) : Type 0 where
  pub objects : (o : Object) → Contains (objects claims) o → Contains (objects held) o
  pub owned : (o : Object) → Contains (owned claims) o → Contains (owned held) o

-- two lists of claims cover each other: they hold the same
pub record HoldTheSame (a b : List Claim) : Type 0 where
  pub left : Covers a b
  pub right : Covers b a

-- the k-th object that a transaction makes
abbrev pub num : ℕ → ℕ → Num
num tx k = record { tx = tx; k = k }

-- an object whose number, where it has one, is of a transaction that has begun
abbrev pub IsBelow : ℕ → Object → Type 0
IsBelow next (object.File num) = num.tx < next
IsBelow next (object.Pipe num) = num.tx < next
IsBelow next (object.Pair num) = num.tx < next
IsBelow next _ = Unit {0}
