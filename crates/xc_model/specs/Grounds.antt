-- Conflicts that name a holder, and revocations that name an older transaction.
use Rattle.std.specs.Prelude.{◌≡◌, ◌≢◌, ◌⊎◌, ℕ, ◌<◌, ◌≤◌, Bool, List, ◌++◌, length, get_or, slice_get, Option, Contains, IsTrue}
use Rattle.std.specs.declared.option.Option.TheVariants.{None, Some}
use Rattle.xc_data.specs.Claims.{Clash}
use Rattle.xc_data.specs.declared.object.Object.{Object}
use Rattle.xc_data.specs.declared.claim.Claim.{Claim}
use Rattle.xc_data.specs.declared.entry.Cause.{Cause}
use Rattle.xc_data.specs.declared.entry.Cause.TheVariants.{Asked, Conflict, NoMemory, Revoked, Stuck}

-- what a conflict or a revocation is judged by: an entry, or an active transaction
pub record Part : Type 0 where
  pub number : ℕ
  pub job : ℕ
  pub rank : ℕ
  pub began : ℕ
  pub held : List Claim
  -- what the call claims that it is asked next
  pub wanted : List Claim
  -- why it is aborted, or will be at its next turn, where it is
  pub cause : Option Cause

-- what they are judged against: whether the host tells, those in the journal, and of each job its active one
pub record Scene : Type 0 where
  pub tells : Bool
  pub log : List Part
  pub active : List (Option Part)

-- these
abbrev pub scene_of : Bool → List Part → List (Option Part) → Scene
scene_of tells log active = record { tells = tells; log = log; active = active }

-- what they name: an object, another transaction by its number, and the length that the journal had
pub record Blame : Type 0 where
  pub object : Object
  pub number : ℕ
  pub at : ℕ

-- it stands in the journal at this place or later, or is active
abbrev pub IsPresent : Scene → ℕ → Part → Type 0
IsPresent scene at who =
    ((p : ℕ) × (slice_get scene.log p ≡ Some who) × (at ≤ p)) ⊎ ((j : ℕ) × (get_or scene.active j None ≡ Some who))

-- the transaction of this number, of another job, that had begun by then and hadn't ended
pub record Other (scene : Scene) (number at job : ℕ) : Type 0 where
  pub who : Part
  pub present : IsPresent scene at who
  pub numbered : who.number ≡ number
  pub other : who.job ≢ job
  pub began : who.began ≤ at

-- one of these claims is of this object
pub record HoldsObject (held : List Claim) (object : Object) : Type 0 where
  pub claim : Claim
  pub names : claim.object ≡ object
  pub among : Contains held claim

-- among these claims one is of the same object, and the two don't go together
abbrev pub Clashes : List Claim → Claim → Type 0
Clashes wanted held = (c : Claim) × Contains wanted c × Clash c held

-- a conflict of the one at this place: it had begun by then, and names a holder; over a host that tells, the call that
-- it was asked next touches what that one holds
pub record Ground (scene : Scene) (place : ℕ) (e : Part) (blame : Blame) : Type 0 where
  pub before : e.began ≤ blame.at
  pub within : blame.at ≤ place
  pub named : Other scene blame.number blame.at e.job
  pub holds : HoldsObject named.who.held blame.object
  pub clash : IsTrue scene.tells → Clashes e.wanted holds.claim

-- a revocation of the one at this place: it had begun by then, holds the object, and names an older transaction; over a
-- host that tells, that one holds what this one holds, or the call that it was asked next touches it
pub record Revocation (scene : Scene) (place : ℕ) (e : Part) (blame : Blame) : Type 0 where
  pub before : e.began ≤ blame.at
  pub within : blame.at ≤ place
  pub named : Other scene blame.number blame.at e.job
  pub older : named.who.rank < e.rank
  pub holds : HoldsObject e.held blame.object
  pub clash : IsTrue scene.tells → Clashes (named.who.held ++ named.who.wanted) holds.claim

-- why one is aborted is grounded
abbrev pub IsGrounded : Scene → ℕ → Part → Option Cause → Type 0
IsGrounded scene place e (Some (Conflict object holder at)) =
    Ground scene place e (record { object = object; number = holder; at = at })
IsGrounded scene place e (Some (Revoked object by at)) = Revocation scene place e (record { object = object; number = by; at = at })
-- no other cause names a holder
IsGrounded scene place e (Some Asked) = Unit {0}
IsGrounded scene place e (Some NoMemory) = Unit {0}
IsGrounded scene place e (Some (Stuck failed)) = Unit {0}
IsGrounded scene place e None = Unit {0}

-- of all, those in the journal and the active ones, by job
pub record AreGrounded (scene : Scene) : Type 0 where
  pub entries : (i : ℕ) (e : Part) → slice_get scene.log i ≡ Some e → IsGrounded scene i e e.cause
  pub actives : (j : ℕ) (e : Part) → get_or scene.active j None ≡ Some e → IsGrounded scene (length scene.log) e e.cause
