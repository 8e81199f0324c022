-- The first transaction whose conflict or revocation isn't grounded.
use Rattle.std.specs.Prelude.{◌≡◌, ◌≢◌, ℕ, ◌<◌, ◌≤◌, Bool, List, [], slice_get, Contains, IsTrue}
use Rattle.std.specs.declared.option.Option.TheVariants.{Some}
use Rattle.xc_data.specs.declared.claim.Claim.{Claim}
use Rattle.xc_data.specs.declared.object.Object.{Object}
use Rattle.xc_model.specs.Grounds.{Blame, Clashes, IsGrounded, Part, Scene, scene_of}

-- these are judged against one another, over a host that tells; of each it is known which call it was asked last, or of none
abbrev pub scene : Bool → List Part → Scene
scene known parts = scene_of known parts []

-- why the one at this place is aborted is grounded
abbrev pub IsGroundedAt : Bool → List Part → ℕ → Part → Type 0
IsGroundedAt known parts place e = IsGrounded (scene known parts) place e e.cause

-- this one isn't grounded, and all before it are
pub record IsFirstGroundless (known : Bool) (parts : List Part) (place : ℕ) : Type 0 where
  pub part : Part
  pub at : slice_get parts place ≡ Some part
  pub groundless : IsGroundedAt known parts place part → ⊥
  pub before : (i : ℕ) (e : Part) → i < place → slice_get parts i ≡ Some e → IsGroundedAt known parts i e

-- this is held, and where the other claims are known one of them clashes with it
abbrev pub ClashesIn : Bool → List Claim → List Claim → Claim → Type 0
ClashesIn known held others claim = Contains held claim × (IsTrue known → Clashes others claim)

-- of the held claims one is of this object, and where the others are known one of them clashes with it
abbrev pub ClashesOver : Bool → List Claim → List Claim → Object → Type 0
ClashesOver known held others object = (claim : Claim) × (claim.object ≡ object) × ClashesIn known held others claim

-- what names them
abbrev pub blame : Object → ℕ → ℕ → Blame
blame object number at = record { object = object; number = number; at = at }

-- two at these places: both had begun by then, neither had ended, and they are of two jobs
pub record AreTwo (e : Part) (place : ℕ) (who : Part) (there at : ℕ) : Type 0 where
  pub before : e.began ≤ at
  pub within : at ≤ place
  pub began : who.began ≤ at
  pub present : at ≤ there
  pub other : who.job ≢ e.job

-- how another transaction is named: by its number, and by the length that the journal had when they met
pub record Mention : Type 0 where
  pub number : ℕ
  pub at : ℕ

-- the one of this number, at this length
abbrev pub mention : ℕ → ℕ → Mention
mention number at = record { number = number; at = at }

-- the other transaction, which the one at this place names so
pub record IsNamed (parts : List Part) (place : ℕ) (e : Part) (m : Mention) (who : Part) : Type 0 where
  pub there : ℕ
  pub stands : slice_get parts there ≡ Some who
  pub numbered : who.number ≡ m.number
  pub two : AreTwo e place who there m.at
