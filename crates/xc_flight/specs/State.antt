-- All active transactions together, and a move of one of them.
use Rattle.std.specs.Prelude.{◌≡◌, ◌≢◌, ℕ, ◌<◌, ◌≤◌, ◌+◌, List, [], ◌∷◌, ◌++◌, length, get_or, slice_set, Option}
use Rattle.std.specs.declared.option.Option.TheVariants.{None, Some}
use Rattle.xc_data.specs.declared.object.Object.{Object}
use Rattle.xc_data.specs.declared.private.Place.{Place}
use Rattle.xc_world.specs.World.{World, beginning}
use Rattle.xc_world.specs.Sound.{IsFree, IsSound}
use Rattle.xc_world.specs.Laws.{AgreeAt}
use Rattle.xc_world.specs.Own.{KeepsBut}
use Rattle.xc_flight.specs.Active.{Tx, Phase, Has, Own, num, IsBelow}
use Rattle.xc_flight.specs.Flight.{Flight}

-- where several transactions stand
pub record FlightState : Type 0 where
  -- the journal's state, S
  pub state : World
  -- the station's world: its words, and what is outside
  pub now : World
  -- the active transaction of each job, where it has one
  pub active : List (Option Tx)
  -- the next transaction's number
  pub next : ℕ

-- a job's active transaction, where it has one
abbrev pub active_at : FlightState → ℕ → Option Tx
active_at s job = get_or s.active job None

-- this transaction is the active one of the job
abbrev pub IsActive : FlightState → ℕ → Tx → Type 0
IsActive s job t = active_at s job ≡ Some t

-- ---- what a job has by its active transaction
abbrev pub HasSome : Option Tx → Object → Type 0
HasSome None o = ⊥
HasSome (Some t) o = Has t o

-- what the transaction owns, where there is one
abbrev pub OwnSome : Option Tx → Object → Type 0
OwnSome None o = ⊥
OwnSome (Some t) o = Own t o

-- what a job has
abbrev pub HasAt : FlightState → ℕ → Object → Type 0
HasAt s job o = HasSome (active_at s job) o

-- what a job owns
abbrev pub OwnAt : FlightState → ℕ → Object → Type 0
OwnAt s job o = OwnSome (active_at s job) o

-- ---- all together
pub record InFlight (s : FlightState) : Type 0 where
  pub count : length s.now.words ≡ length s.state.words
  pub blocks : s.now.blocks ≡ s.state.blocks
  pub flights : (job : ℕ) (t : Tx) → IsActive s job t → Flight s.state s.now t
  -- what one owns no other has
  pub apart : (i j : ℕ) (o : Object) → i ≢ j → OwnAt s i o → HasAt s j o → ⊥
  -- what nobody owns is as in S
  pub free : (o : Object) → ((job : ℕ) → OwnAt s job o → ⊥) → AgreeAt s.now s.state o
  -- the numbers: each active one has its own, that was given; S and the active ones have none that is still to be given
  pub single : (i j : ℕ) (t u : Tx) → IsActive s i t → IsActive s j u → t.number ≡ u.number → i ≡ j
  pub begun : (job : ℕ) (t : Tx) → IsActive s job t → t.number < s.next
  pub names : (job : ℕ) (o : Object) → HasAt s job o → IsBelow s.next o
  pub future : (m k : ℕ) → s.next ≤ m → IsFree s.state (num m k)

-- all are in flight, and this is the active transaction of the job, in this phase
pub record Flies (s : FlightState) (job : ℕ) (t : Tx) (stage : Phase) : Type 0 where
  pub all : InFlight s
  pub active : IsActive s job t
  pub phase : t.phase ≡ stage

-- the transaction of one job begins, goes on or ends
pub record Move (s s' : FlightState) (job : ℕ) : Type 0 where
  -- S and the station's world change at most where it owned something
  pub state : KeepsBut (OwnAt s job) s.state s'.state
  pub now : KeepsBut (OwnAt s job) s.now s'.now
  pub others : (j : ℕ) → j ≢ job → active_at s' j ≡ active_at s j
  -- its flight afterwards
  pub mine : (t : Tx) → IsActive s' job t → Flight s'.state s'.now t
  -- what it owns now no other has, and what it has now no other owns
  pub gains : (j : ℕ) (o : Object) → j ≢ job → OwnAt s' job o → HasAt s j o → ⊥
  pub joins : (j : ℕ) (o : Object) → j ≢ job → HasAt s' job o → OwnAt s j o → ⊥
  -- what it gave up is as in S
  pub free : (o : Object) → OwnAt s job o → (OwnAt s' job o → ⊥) → AgreeAt s'.now s'.state o
  -- the numbers
  pub single : (j : ℕ) (t u : Tx) → j ≢ job → IsActive s j t → IsActive s' job u → t.number ≢ u.number
  pub begun : (t : Tx) → IsActive s' job t → t.number < s'.next
  pub names : (o : Object) → HasAt s' job o → IsBelow s'.next o
  pub rises : s.next ≤ s'.next
  pub future : (m k : ℕ) → s'.next ≤ m → IsFree s'.state (num m k)

-- ---- beside the flights
-- the world is sound for a transaction's begin
abbrev pub IsSoundFor : World → Tx → Type 0
IsSoundFor w t = IsSound w t.began t.number

-- S is, for each active one
abbrev pub AreSound : FlightState → Type 0
AreSound s = (job : ℕ) (t : Tx) → IsActive s job t → IsSoundFor s.state t

-- a job with these handles may begin its next transaction
abbrev pub IsIdleSound : World → ℕ → List Place → Type 0
IsIdleSound w next places = (m : ℕ) → next ≤ m → IsSound w (beginning places) m

-- ---- the standing after a turn
-- the station's world is this, and the job's active transaction this
abbrev pub turned : FlightState → ℕ → Option Tx → World → FlightState
turned s job t now = record s { now = now; active = slice_set s.active job t }

-- the job has an active transaction, and its number is given
abbrev pub begun : FlightState → ℕ → Tx → FlightState
begun s job t = record s { active = slice_set s.active job (Some t); next = s.next + 1 }

-- the journal's state is this too, and the job has none any more
abbrev pub entered : FlightState → ℕ → World → World → FlightState
entered s job state now = record s { state = state; now = now; active = slice_set s.active job None }

-- a job more, which has none
abbrev pub job_joined : FlightState → FlightState
job_joined s = record s { active = s.active ++ None ∷ [] }
