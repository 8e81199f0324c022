-- What an open block took and recorded, on the world of its save.
use Rattle.std.proofs.Common.{◌≡◌, ℕ, ◌&&◌, Bool, true, false, Option, Some, List, [], ◌∷◌, ap, sym, ◌∙◌, subst, refl}
use Rattle.std.specs.Prelude.{IsTrue}
use Rattle.xc_data.specs.declared.call.CallWithAnswer.{CallWithAnswer}
use Rattle.xc_data.specs.declared.private.Private.{Private}
use Rattle.xc_world.specs.World.{World}
use Rattle.xc_world.specs.Fits.{fits}
use Rattle.xc_world.specs.Sound.{IsSound}
use Rattle.xc_world.specs.Run.{BodyResult, begins, step, after_calls, plain_body, plain_fits, given_back, body_state, body_fits}
use Rattle.xc_world.specs.Joined.{behind}
use Rattle.xc_world.specs.Ends.{with_remains}
use Rattle.xc_world.specs.Effects.{whole}
use Rattle.xc_world.specs.Inner.{IsInnerBlock}
use Rattle.xc_world.proofs.Blocks.{FitEach, Fits, SavedHolds, fit_each, plain_keeps}
use Rattle.xc_world.proofs.Joined.{goes_on_behind}
use Rattle.xc_world.proofs.Taken.{ReturnsTaken, begins_returns, kept_returns, state_returns}

both_true : (a b : Bool) → a ≡ true → b ≡ true → (a && b) ≡ true
both_true true b p q = q
both_true false b p q = p

-- what fits each fits where they begin
each_plain : (tx : ℕ) (r : BodyResult) (asked : List CallWithAnswer) → FitEach tx (Fits tx) r asked → IsTrue (plain_fits r.world r.me tx asked)
each_plain tx r [] fit = refl
each_plain tx r (c ∷ asked) fit =
    both_true (fits r.world r.me tx c.call c.answer) (plain_fits (step tx r c).world (step tx r c).me tx asked) fit.0
    (each_plain tx (step tx r c) asked fit.1)

-- an open block of a body that its answers fit
pub open_block : (w : World) (me : Private) (tx : ℕ) (asked : List CallWithAnswer) → IsSound w me tx → IsTrue (body_fits w me tx asked)
    → (s : BodyResult) → (body_state w me tx asked).saved ≡ Some s → IsInnerBlock w s (body_state w me tx asked).now
open_block w me tx asked sound fit s e =
    let b = body_state w me tx asked in
    let so = subst (λ o. SavedHolds tx (Fits tx) (ReturnsTaken w tx) o b.now) e (state_returns w me tx asked sound fit).saved in
    let l = so.1 in
    let block = plain_body s.world s.me tx l.calls in
    let is : b.now ≡ behind s block = l.led ∙ goes_on_behind tx s l.calls in
    let returns = plain_keeps tx (Fits tx) (ReturnsTaken s.world tx) (kept_returns s.world tx) (begins s.world s.me) l.calls
    (fit_each tx (begins s.world s.me) l.calls (each_plain tx s l.calls l.fit)) (begins_returns s.world s.me tx so.0.sound) in
    record {
      taken = block.taken;
      trail = block.trail;
      all_taken = ap (λ (r : BodyResult). r.taken) is;
      all_records = ap (λ (r : BodyResult). r.trail) is;
      back = subst (λ (r : BodyResult). given_back r.world block.taken ≡ record (with_remains s.world (whole block.trail)) { words = r.world.words })
          (sym is) returns.back;
      before = so.0.back;
    }
