-- What a whole body depends on, and what it may change.
use Rattle.std.specs.Prelude.{◌≡◌, ◌⊎◌, ℕ, List, [], All, Contains, length}
use Rattle.xc_data.specs.declared.object.Object.{Object}
use Rattle.xc_data.specs.declared.object.Object.TheVariants as object
use Rattle.xc_data.specs.declared.call.LateCall.{LateCall}
use Rattle.xc_data.specs.declared.call.LateCall.TheVariants.{Sync}
use Rattle.xc_data.specs.Remaining.{objects_of}
use Rattle.xc_world.specs.World.{World}
use Rattle.xc_world.specs.Laws.{AgreeAt, late_objects}
use Rattle.xc_data.specs.declared.claim.Claim.{Claim}
use Rattle.xc_data.specs.Claims.{objects, owned}
use Rattle.xc_world.specs.Run.{BodyResult, Run}

-- an object that has a number of this transaction's
abbrev pub IsNumbered : ℕ → Object → Type 0
IsNumbered tx (object.File num) = num.tx ≡ tx
IsNumbered tx (object.Pipe num) = num.tx ≡ tx
IsNumbered tx (object.Pair num) = num.tx ≡ tx
IsNumbered tx _ = ⊥

-- a transaction that claims this may look at the object
abbrev pub Sees : ℕ → List Claim → Object → Type 0
Sees tx claims o = Contains (objects claims) o ⊎ IsNumbered tx o

-- the object is its own: claimed exclusively, or numbered with its number
abbrev pub Owns : ℕ → List Claim → Object → Type 0
Owns tx claims o = Contains (owned claims) o ⊎ IsNumbered tx o

-- two worlds have the same at each object of a kind
abbrev pub AgreeOn : (Object → Type 0) → World → World → Type 0
AgreeOn P w v = (o : Object) → P o → AgreeAt w v o

-- the second world differs from the first in these objects at most
pub record KeepsBut (own : Object → Type 0) (w v : World) : Type 0 where
  pub others : (o : Object) → (own o → ⊥) → AgreeAt w v o
  pub count : length v.words ≡ length w.words
  pub blocks : v.blocks ≡ w.blocks

-- two bodies gave the same
pub record GaveAlike (r q : BodyResult) : Type 0 where
  pub me : r.me ≡ q.me
  pub replies : r.replies ≡ q.replies
  pub late : r.late ≡ q.late
  pub trail : r.trail ≡ q.trail
  pub taken : r.taken ≡ q.taken
  pub touched : r.touched ≡ q.touched

-- two bodies that began in the worlds w and v gave the same, agree on what they see, and changed nothing but their own
pub record RanAlike (tx : ℕ) (w v : World) (r q : BodyResult) : Type 0 where
  pub gave : GaveAlike r q
  pub agree : AgreeOn (Sees tx r.touched) r.world q.world
  pub left : KeepsBut (Owns tx r.touched) w r.world
  pub right : KeepsBut (Owns tx q.touched) v q.world

-- ---- what a body leaves
-- what a late call may change: a sync changes nothing
abbrev pub late_changes : LateCall → List Object
late_changes (Sync num) = []
late_changes c = late_objects c

-- a late call speaks of objects that are seen, and changes its own alone
pub record LooksWithin (sees own : Object → Type 0) (c : LateCall) : Type 0 where
  pub looks : All sees (late_objects c)
  pub changes : All own (late_changes c)

-- its records and its late calls speak of its own objects, and a sync of one that it sees
pub record SpeaksOfOwn (tx : ℕ) (r : BodyResult) : Type 0 where
  pub trail : All (λ u. All (Owns tx r.touched) (objects_of u)) r.trail
  pub late : All (LooksWithin (Sees tx r.touched) (Owns tx r.touched)) r.late

-- two runs ended alike, agree on what they see, and changed nothing but their own
pub record RunAlike (tx : ℕ) (w v : World) (r q : Run) : Type 0 where
  pub body : RanAlike tx w v r.body q.body
  pub ends : r.late.ends ≡ q.late.ends
  pub agree : AgreeOn (Sees tx r.body.touched) r.late.world q.late.world
  pub left : KeepsBut (Owns tx r.body.touched) w r.late.world
  pub right : KeepsBut (Owns tx q.body.touched) v q.late.world
