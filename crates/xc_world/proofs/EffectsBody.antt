-- A body keeps all sound.
use Rattle.std.proofs.Common.{◌≡◌, ◌≢◌, ℕ, true, is_some, Option, None, Some, List, [], ◌∷◌, ap, sym, ◌∙◌, refl, arith}
use Rattle.std.specs.FinMap as map
use Rattle.std.specs.Prelude.{IsTrue}
use Rattle.xc_data.specs.declared.private.Private.{Private}
use Rattle.xc_world.specs.World.{World}
use Rattle.xc_world.specs.Sound.{IsFree, IsKnown, IsSound}
use Rattle.xc_data.specs.declared.object.Num.{Num}
use Rattle.xc_data.specs.declared.private.Place.{Place}
use Rattle.xc_data.specs.declared.private.Place.TheVariants as place
use Rattle.xc_world.specs.Run.{BodyResult, begins, step, after_calls, plain_fits, gone_back, opens, body, body_fits}
use Rattle.xc_data.specs.declared.call.CallWithAnswer.{CallWithAnswer}
use Rattle.xc_world.proofs.Sound.{act_well, act_sound, others_sound}
use Rattle.xc_world.proofs.Blocks.{FitEach, Fits, fit_all, runs_keep}

-- ---- what is free after plain calls was free before
known_on : (tx : ℕ) (r : BodyResult) (asked : List CallWithAnswer) → FitEach tx (Fits tx) r asked → IsSound r.world r.me tx → (p : Place) → IsKnown r.world p
    → IsKnown (after_calls tx r asked).world p
known_on tx r [] fit sound p known = known
known_on tx r (c ∷ asked) fit sound p known =
    let well = act_well r.world r.me tx c.call c.answer fit.0 sound in
    known_on tx (step tx r c) asked fit.1 well.sound p (well.grows.known p known)

none_before : {X : Type 0} (was is : Option X) → (is_some was ≡ true → is_some is ≡ true) → is ≡ None → was ≡ None
none_before {X = X} None is keeps none = refl
none_before {X = X} (Some x) is keeps none = let bad : is_some {T = X} None ≡ true = ap is_some (sym none) ∙ keeps refl in cc

free_before : (w v : World) (q : Num) → ((p : Place) → IsKnown w p → IsKnown v p) → IsFree v q → IsFree w q
free_before w v q keeps free =
    record {
      file = none_before (map.get w.files q) (map.get v.files q) (keeps (place.File q 0)) free.file;
      pipe = none_before (map.get w.pipes q) (map.get v.pipes q) (keeps (place.Pipe q)) free.pipe;
      pair = none_before (map.get w.pairs q) (map.get v.pairs q) (λ there. (keeps (place.Pair q 0) (there, omega arith)).0) free.pair;
    }

-- ---- a block that went back is sound
abbrev pub IsSoundAt : ℕ → BodyResult → Type 0
IsSoundAt tx r = IsSound r.world r.me tx

-- a call that fits keeps a body sound
pub step_sound : (tx : ℕ) (r : BodyResult) (c : CallWithAnswer) → Fits tx r c → IsSoundAt tx r → IsSoundAt tx (step tx r c)
step_sound tx r c fit sound = act_sound r.world r.me tx c.call c.answer fit sound

-- so does a back
pub back_sound : (tx : ℕ) (s : BodyResult) (calls : List CallWithAnswer) → FitEach tx (Fits tx) s calls → IsSoundAt tx s → IsSoundAt tx (after_calls tx s calls)
    → IsSoundAt tx (gone_back s (after_calls tx s calls))
back_sound tx s calls fit was is =
    record {
      world = was.world;
      made = is.made;
      stored = is.stored;
      new = λ k le. free_before s.world (after_calls tx s calls).world (record { tx = tx; k = k }) (known_on tx s calls fit was) (is.new k le);
      handles = was.handles;
    }

-- a sound state stays sound over calls that their answers fit
pub goes_on-sound : (tx : ℕ) (r : BodyResult) (asked : List CallWithAnswer) → FitEach tx (Fits tx) r asked → IsSoundAt tx r
    → IsSoundAt tx (after_calls tx r asked)
goes_on-sound tx r [] fit sound = sound
goes_on-sound tx r (c ∷ asked) fit sound = goes_on-sound tx (step tx r c) asked fit.1 (step_sound tx r c fit.0 sound)

-- a body that its answers fit leaves its world and private state sound
pub body-sound : (w : World) (me : Private) (tx : ℕ) (asked : List CallWithAnswer) → IsSound w me tx → IsTrue (body_fits w me tx asked)
    → IsSound (body w me tx asked).world (body w me tx asked).me tx
body-sound w me tx asked sound fit =
    (runs_keep tx (Fits tx) (IsSoundAt tx) (record { plain = step_sound tx; back = back_sound tx }) (opens w me) asked (fit_all tx (opens w me) asked fit)
    (record { now = sound; saved = tt })).now

-- and another transaction's private state
pub record BothSound (tx ty : ℕ) (you : Private) (r : BodyResult) : Type 0 where
  pub mine : IsSoundAt tx r
  pub yours : IsSound r.world you ty

-- a body that its answers fit leaves another transaction's private state sound
pub body-others_sound : (w : World) (me you : Private) (tx ty : ℕ) (asked : List CallWithAnswer) → IsSound w me tx → IsTrue (body_fits w me tx asked)
    → IsSound w you ty → (ty ≢ tx) → IsSound (body w me tx asked).world you ty
body-others_sound w me you tx ty asked sound fit other apart =
    (runs_keep tx (Fits tx) (BothSound tx ty you)
    (record {
      plain = λ r c fit so. record {
        mine = step_sound tx r c fit so.mine;
        yours = others_sound r.world r.me you tx ty c.call c.answer fit apart so.mine so.yours;
      };
      back = λ s calls fit was is. record { mine = back_sound tx s calls fit was.mine is.mine; yours = was.yours };
    })
    (opens w me) asked (fit_all tx (opens w me) asked fit)
    (record { now = record { mine = sound; yours = other }; saved = tt })).now.yours
