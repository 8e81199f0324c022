-- Bodies with inner blocks: what the plain calls of a body keep, and a back, the whole body keeps.
use Rattle.std.proofs.Common.{◌≡◌, ℕ, ◌&&◌, true, false, Option, Some, None, List, [], ◌∷◌, ◌++◌, ap, ap₂, sym, ◌∙◌, subst, refl}
use Rattle.std.specs.Prelude.{IsTrue}
use Rattle.std.proofs.lemmas.Bool.{and_parts}
use Rattle.std.proofs.lemmas.List.Sums.{fold-append, fold_push}
use Rattle.xc_data.specs.declared.call.Call.{Call}
use Rattle.xc_data.specs.declared.call.Call.TheVariants as call
use Rattle.xc_data.specs.declared.call.CallWithAnswer.{CallWithAnswer}
use Rattle.xc_data.specs.declared.private.Private.{Private}
use Rattle.xc_world.specs.World.{World}
use Rattle.xc_world.specs.Fits.{fits, is_back}
use Rattle.xc_world.specs.Run.{BodyResult, BlockState, begins, step, after_calls, plain_fits, gone_back, back_from, marked, block_step, runs_on, opens}
use Rattle.xc_world.specs.Run.{body_state, fits_on, body_fits}

-- by what a call does to the block
pub marked_by : (P : BlockState → Type 0) (c : Call) (saved : Option BodyResult) (now : BodyResult)
    → P (record { now = now; saved = Some now }) → P (record { now = now; saved = None }) → P (record { now = back_from saved now; saved = None })
    → P (record { now = now; saved = saved }) → P (marked c saved now)
marked_by P call.Save saved now save keep back other = save
marked_by P call.Keep saved now save keep back other = keep
marked_by P call.Back saved now save keep back other = back
marked_by P _ saved now save keep back other = other

-- a call that doesn't go back leaves the body as a plain call does
pub marked_now : (c : Call) (saved : Option BodyResult) (now : BodyResult) → is_back c ≡ false → (marked c saved now).now ≡ now
marked_now call.Save saved now ahead = refl
marked_now call.Keep saved now ahead = refl
marked_now call.Back saved now ahead = cc
marked_now _ saved now ahead = refl

-- and every call has its reply
back_replies : (saved : Option BodyResult) (now : BodyResult) → (back_from saved now).replies ≡ now.replies
back_replies None now = refl
back_replies (Some s) now = refl

-- also where a call opens or closes a block
pub marked_replies : (c : Call) (saved : Option BodyResult) (now : BodyResult) → (marked c saved now).now.replies ≡ now.replies
marked_replies c saved now = marked_by (λ b. b.now.replies ≡ now.replies) c saved now refl refl (back_replies saved now) refl

-- calls one after another, each of which fits where it is made
module _ (tx : ℕ) (Fit : BodyResult → CallWithAnswer → Type 0) where
  abbrev pub FitEach : BodyResult → List CallWithAnswer → Type 0
  FitEach r [] = Unit {0}
  FitEach r (c ∷ asked) = Fit r c × FitEach (step tx r c) asked

  -- the same in a body with blocks
  abbrev pub FitAll : BlockState → List CallWithAnswer → Type 0
  FitAll b [] = Unit {0}
  FitAll b (c ∷ asked) = Fit b.now c × FitAll (block_step tx b c) asked

  -- and one call more
  pub each_more : (r : BodyResult) (asked : List CallWithAnswer) (c : CallWithAnswer) → FitEach r asked → Fit (after_calls tx r asked) c
      → FitEach r (asked ++ c ∷ [])
  each_more r [] c each fit = (fit, tt)
  each_more r (d ∷ asked) c each fit = (each.0, each_more (step tx r d) asked c each.1 fit)

-- what a save was is led to what is now by such calls
pub record LedByCalls (tx : ℕ) (Fit : BodyResult → CallWithAnswer → Type 0) (saved now : BodyResult) : Type 0 where
  pub calls : List CallWithAnswer
  pub fit : FitEach tx Fit saved calls
  pub led : now ≡ after_calls tx saved calls

-- ---- what holds of a body and of its open block's save
module _ (tx : ℕ) (Fit : BodyResult → CallWithAnswer → Type 0) (P : BodyResult → Type 0) where
  abbrev pub SavedHolds : Option BodyResult → BodyResult → Type 0
  SavedHolds None now = Unit {0}
  SavedHolds (Some s) now = P s × LedByCalls tx Fit s now

  -- P is true of what is now, and of the save of an open block, which such calls led to what is now
  pub record BlockHolds (b : BlockState) : Type 0 where
    pub now : P b.now
    pub saved : SavedHolds b.saved b.now

-- what plain calls keep, and a way back
pub record Kept (tx : ℕ) (Fit : BodyResult → CallWithAnswer → Type 0) (P : BodyResult → Type 0) : Type 0 where
  pub plain : (r : BodyResult) (c : CallWithAnswer) → Fit r c → P r → P (step tx r c)
  pub back : (s : BodyResult) (calls : List CallWithAnswer) → FitEach tx Fit s calls → P s → P (after_calls tx s calls)
      → P (gone_back s (after_calls tx s calls))

module _ (tx : ℕ) (Fit : BodyResult → CallWithAnswer → Type 0) (P : BodyResult → Type 0) (kept : Kept tx Fit P) where
  led_more : (s now : BodyResult) (c : CallWithAnswer) → Fit now c → LedByCalls tx Fit s now → LedByCalls tx Fit s (step tx now c)
  led_more s now c fit l =
      record {
        calls = l.calls ++ c ∷ [];
        fit = each_more tx Fit s l.calls c l.fit (subst (λ r. Fit r c) l.led fit);
        led = ap (λ r. step tx r c) l.led ∙ sym (fold_push (step tx) s l.calls c);
      }

  holds_more : (saved : Option BodyResult) (now : BodyResult) (c : CallWithAnswer) → Fit now c → SavedHolds tx Fit P saved now
      → SavedHolds tx Fit P saved (step tx now c)
  holds_more None now c fit so = tt
  holds_more (Some s) now c fit so = (so.0, led_more s now c fit so.1)

  goes_back : (saved : Option BodyResult) (now : BodyResult) → P now → SavedHolds tx Fit P saved now → P (back_from saved now)
  goes_back None now p so = p
  goes_back (Some s) now p so =
      let l = so.1 in
      subst (λ r. P (gone_back s r)) (sym l.led) (kept.back s l.calls l.fit so.0 (subst P l.led p))

  -- one call more keeps it
  pub block_keeps : (b : BlockState) (c : CallWithAnswer) → Fit b.now c → BlockHolds tx Fit P b → BlockHolds tx Fit P (block_step tx b c)
  block_keeps b c fit so =
      let next = kept.plain b.now c fit so.now in
      let more = holds_more b.saved b.now c fit so.saved in
      let r = step tx b.now c in
      marked_by (BlockHolds tx Fit P) c.call b.saved r
      (record { now = next; saved = (next, record { calls = []; fit = tt; led = refl }) })
      (record { now = next; saved = tt })
      (record { now = goes_back b.saved r next more; saved = tt })
      (record { now = next; saved = more })

  -- and calls one after another
  pub runs_keep : (b : BlockState) (asked : List CallWithAnswer) → FitAll tx Fit b asked → BlockHolds tx Fit P b → BlockHolds tx Fit P (runs_on tx b asked)
  runs_keep b [] fit so = so
  runs_keep b (c ∷ asked) fit so = runs_keep (block_step tx b c) asked fit.1 (block_keeps b c fit.0 so)

  -- so do plain calls
  pub plain_keeps : (r : BodyResult) (asked : List CallWithAnswer) → FitEach tx Fit r asked → P r → P (after_calls tx r asked)
  plain_keeps r [] fit so = so
  plain_keeps r (c ∷ asked) fit so = plain_keeps (step tx r c) asked fit.1 (kept.plain r c fit.0 so)

-- ---- the answers that fit
abbrev pub Fits : ℕ → BodyResult → CallWithAnswer → Type 0
Fits tx r c = IsTrue (fits r.world r.me tx c.call c.answer)

-- answers that fit one after another fit each call
pub fit_all : (tx : ℕ) (b : BlockState) (asked : List CallWithAnswer) → IsTrue (fits_on tx b asked) → FitAll tx (Fits tx) b asked
fit_all tx b [] fit = tt
fit_all tx b (c ∷ asked) fit =
    let both = and_parts (fits b.now.world b.now.me tx c.call c.answer) (fits_on tx (block_step tx b c) asked) fit in
    (both.0, fit_all tx (block_step tx b c) asked both.1)

-- ---- calls of any kind
abbrev pub Any : BodyResult → CallWithAnswer → Type 0
Any r c = Unit {0}

-- nothing is asked of calls one after another
pub any_all : (tx : ℕ) (b : BlockState) (asked : List CallWithAnswer) → FitAll tx Any b asked
any_all tx b [] = tt
any_all tx b (c ∷ asked) = (tt, any_all tx (block_step tx b c) asked)

-- nor of such calls in no block
pub any_each : (tx : ℕ) (r : BodyResult) (asked : List CallWithAnswer) → FitEach tx Any r asked
any_each tx r [] = tt
any_each tx r (c ∷ asked) = (tt, any_each tx (step tx r c) asked)

-- answers that fit one after another in no block fit each call
pub fit_each : (tx : ℕ) (r : BodyResult) (asked : List CallWithAnswer) → IsTrue (plain_fits r.world r.me tx asked) → FitEach tx (Fits tx) r asked
fit_each tx r [] fit = tt
fit_each tx r (c ∷ asked) fit =
    let both = and_parts (fits r.world r.me tx c.call c.answer) (plain_fits (step tx r c).world (step tx r c).me tx asked) fit in
    (both.0, fit_each tx (step tx r c) asked both.1)
