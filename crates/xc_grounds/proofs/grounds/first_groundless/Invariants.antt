use Rattle.std.proofs.Common.{◌≡◌, ℕ, ◌<◌}
use Rattle.std.specs.Prelude.{Some, slice_get}
use Rattle.xc_model.specs.Grounds.{Part}
use Rattle.xc_grounds.specs.Groundless.{IsGroundedAt}
use Rattle.xc_grounds.proofs.grounds.first_groundless.Given as goal

-- those so far are grounded
abbrev pub invariant-loop-place : goal.invariant-loop-place
invariant-loop-place l = (i : ℕ) (e : Part) → i < l.place → slice_get l.parts i ≡ Some e → IsGroundedAt l.known l.parts i e
