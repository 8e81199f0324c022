-- The five reading calls leave the world as it was.
use Rattle.std.proofs.Common.{◌≡◌, ℕ, Option, Some, None, length, refl}
use Rattle.std.specs.Prelude.{◌==◌, nat_le}
use Rattle.std.specs.FinMap as map
use Rattle.xc_data.specs.declared.object.Num.{Num}
use Rattle.xc_data.specs.declared.call.Call.{Call}
use Rattle.xc_data.specs.declared.call.Call.TheVariants as call
use Rattle.xc_data.specs.declared.call.Answer.{Answer}
use Rattle.xc_data.specs.declared.call.Answer.TheVariants as answer
use Rattle.xc_data.specs.declared.private.Place.{Place}
use Rattle.xc_data.specs.declared.private.Place.TheVariants as place
use Rattle.xc_data.specs.declared.private.Private.{Private}
use Rattle.xc_data.specs.Private.{place_of, lowest_vacant}
use Rattle.xc_world.specs.World.{World, file_of}
use Rattle.xc_world.specs.Act.{act, done}
use Rattle.xc_world.specs.Act.Step.{Stepped}
use Rattle.xc_world.specs.Act.Names.{open_step}
use Rattle.xc_world.specs.Act.Files.{read_at, len_at}
use Rattle.xc_world.proofs.SoundParts.{chosen_so}
use Rattle.xc_world.proofs.UndoingBody.{act-cases}
use Rattle.xc_data.specs.declared.claim.Mode.TheVariants.{Shared}
use Rattle.xc_world.specs.Modes.{mode_of}

-- a call leaves the world as it is
abbrev pub LeavesWorld : World → Stepped → Type 0
LeavesWorld w s = s.world ≡ w

read_leaves : (w : World) (me : Private) (h n : ℕ) (p : Place) → LeavesWorld w (read_at w me h n p)
read_leaves w me h n (place.File num at) =
    chosen_so (LeavesWorld w) (n == 0) _ _ (λ _. refl) (λ _. chosen_so (LeavesWorld w) (nat_le (length (file_of w num)) at) _ _ (λ _. refl) (λ _. refl))
read_leaves w me h n place.Vacant = refl
read_leaves w me h n (place.Pipe num) = refl
read_leaves w me h n (place.Pair num side) = refl

len_leaves : (w : World) (me : Private) (p : Place) → LeavesWorld w (len_at w me p)
len_leaves w me (place.File num at) = refl
len_leaves w me place.Vacant = refl
len_leaves w me (place.Pipe num) = refl
len_leaves w me (place.Pair num side) = refl

open_leaves : (w : World) (me : Private) (o : Option Num) (vacant : Option ℕ) → LeavesWorld w (open_step w me o vacant)
open_leaves w me None vacant = refl
open_leaves w me (Some num) None = refl
open_leaves w me (Some num) (Some h) = refl

done_leaves : (w : World) (me : Private) (tx : ℕ) (c : Call) (a : Answer) → mode_of c ≡ Shared → LeavesWorld w (done w me tx c a)
done_leaves w me tx (call.Load at) answer.Fine shared = refl
done_leaves w me tx (call.Load at) (answer.Fault n) shared = refl
done_leaves w me tx (call.Load at) (answer.Undone k) shared = refl
done_leaves w me tx (call.XOpen name) answer.Fine shared = open_leaves w me (map.get w.names name) (lowest_vacant me.places)
done_leaves w me tx (call.XOpen name) (answer.Fault n) shared = refl
done_leaves w me tx (call.XOpen name) (answer.Undone k) shared = refl
done_leaves w me tx (call.XRead h n) answer.Fine shared = read_leaves w me h n (place_of me.places h)
done_leaves w me tx (call.XRead h n) (answer.Fault k) shared = refl
done_leaves w me tx (call.XRead h n) (answer.Undone k) shared = refl
done_leaves w me tx (call.XLen h) answer.Fine shared = len_leaves w me (place_of me.places h)
done_leaves w me tx (call.XLen h) (answer.Fault n) shared = refl
done_leaves w me tx (call.XLen h) (answer.Undone k) shared = refl
done_leaves w me tx (call.XSync h slot) answer.Fine shared = refl
done_leaves w me tx (call.XSync h slot) (answer.Fault n) shared = refl
done_leaves w me tx (call.XSync h slot) (answer.Undone k) shared = refl
done_leaves w me tx c a shared = cc

-- a call that claims nothing exclusively leaves the world as it is
pub act_leaves : (w : World) (me : Private) (tx : ℕ) (c : Call) (a : Answer) → mode_of c ≡ Shared → (act w me tx c a).world ≡ w
act_leaves w me tx c a shared = act-cases w me tx c a (LeavesWorld w) refl refl refl refl (done_leaves w me tx c a shared)
