-- Claims on objects, and what a list of them holds.
use Rattle.std.specs.Prelude.{◌≡◌, ◌≤◌, Bool, true, false, count_by, List, [], ◌∷◌, ◌++◌, map, Option, if◌then◌else◌}
use Rattle.std.specs.List.{fold, list_any, filter_map}
use Rattle.std.specs.declared.option.Option.TheVariants.{None, Some}
use Rattle.xc_data.specs.declared.object.Object.{Object}
use Rattle.xc_data.specs.contracts.object.ObjectPartialEq.TheImpl as same_object
use Rattle.xc_data.specs.declared.claim.Mode.{Mode}
use Rattle.xc_data.specs.declared.claim.Mode.TheVariants.{Shared, Exclusive}
use Rattle.xc_data.specs.declared.claim.Claim.{Claim}
use Rattle.xc_data.specs.declared.kept_claim.ClaimForm.{ClaimForm}
use Rattle.xc_data.specs.declared.kept_claim.ClaimForm.TheVariants as kept
use Rattle.xc_data.specs.declared.object.Object.TheVariants as object

-- two objects are one
abbrev pub is_object : Object → Object → Bool
is_object = same_object.ghosts.eq

-- the claim on an object in a mode
abbrev pub claim : Mode → Object → Claim
claim m o = record { object = o; mode = m }

-- the claim that lies in memory in such a form
abbrev pub claim_of : ClaimForm → Claim
claim_of (kept.Word m at) = claim m (object.Word at)
claim_of (kept.Name m name) = claim m (object.Name name)
claim_of (kept.File m num) = claim m (object.File num)
claim_of (kept.Pipe m num) = claim m (object.Pipe num)
claim_of (kept.Pair m num) = claim m (object.Pair num)
claim_of (kept.Jobs m) = claim m object.Jobs

-- a mode that keeps all others away
abbrev pub is_exclusive : Mode → Bool
is_exclusive Exclusive = true
is_exclusive Shared = false

-- a claim that does
abbrev pub exclusive : Claim → Bool
exclusive c = is_exclusive c.mode

-- two transactions may hold one object in these modes
abbrev pub compatible : Mode → Mode → Bool
compatible Shared Shared = true
compatible _ _ = false

-- the two are on one object, in modes in which two transactions may not hold it
abbrev pub Clash : Claim → Claim → Type 0
Clash wanted held = (held.object ≡ wanted.object) × (compatible wanted.mode held.mode ≡ false)

-- the objects of claims
abbrev pub objects : List Claim → List Object
objects claims = map (λ c. c.object) claims

-- the object of an exclusive claim
abbrev pub owned_object : Claim → Option Object
owned_object c = if exclusive c then Some c.object else None

-- the objects that are claimed exclusively
abbrev pub owned : List Claim → List Object
owned claims = filter_map owned_object claims

-- ---- what is held: each object once, where it was first claimed, exclusively where a claim is
-- exclusive where one of two modes is
abbrev pub stronger : Mode → Mode → Mode
stronger Exclusive m = Exclusive
stronger Shared m = m

-- a held claim after a new one
abbrev pub merged : Claim → Claim → Claim
merged new held = if is_object new.object held.object then record held { mode = stronger held.mode new.mode } else held

-- what is held after a new claim
abbrev pub holding_one : List Claim → Claim → List Claim
holding_one held new = if list_any (is_object new.object) (objects held) then map (merged new) held else held ++ new ∷ []

-- what is held after several
abbrev pub holding : List Claim → List Claim → List Claim
holding held claims = fold holding_one held claims

-- what is held after these alone
abbrev pub held_of : List Claim → List Claim
held_of claims = holding [] claims

-- each object is in a list once at most
abbrev pub AreOnceAtMost : List Object → Type 0
AreOnceAtMost os = (o : Object) → count_by (is_object o) os ≤ 1
