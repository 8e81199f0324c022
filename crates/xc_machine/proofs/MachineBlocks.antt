-- One call more of a body that is made call by call, and what a way back leaves of it.
use Rattle.std.proofs.Common.{◌≡◌, ℕ, ◌+◌, ◌<◌, ◌≤◌, Option, Some, None, List, [], ◌∷◌, ◌++◌, length, get_or, take, ap, ap₂, sym, ◌∙◌, subst, refl, arith}
use Rattle.std.proofs.Common.{length-append}
use Rattle.std.specs.Prelude.{All, IsTrue}
use Rattle.std.proofs.lemmas.Bool.{and_from}
use Rattle.std.proofs.lemmas.List.{take-append-le, take_all, take_more}
use Rattle.std.proofs.lemmas.List.Sums.{fold-append}
use Rattle.std.proofs.lemmas.List.Elements.{All-append, All-nil, All-weaker}
use Rattle.xc_data.specs.Step.{Step}
use Rattle.xc_data.specs.declared.call.CallWithAnswer.{CallWithAnswer}
use Rattle.xc_data.specs.declared.private.Private.{Private}
use Rattle.xc_data.specs.Claims.{holding, holding_one}
use Rattle.xc_world.specs.World.{World}
use Rattle.xc_world.specs.Act.{act}
use Rattle.xc_world.specs.Act.Step.{Stepped}
use Rattle.xc_world.specs.Modes.{claims_of}
use Rattle.xc_world.specs.Fits.{fits}
use Rattle.xc_world.specs.Late.{kept_call}
use Rattle.xc_world.specs.Run.{BodyResult, BlockState, step, block_step, opens, body, body_state, body_fits}
use Rattle.xc_world.specs.Sound.{IsReady, IsSound}
use Rattle.xc_world.proofs.Laws.{Fits, fit_all, runs_keep, body_keeps, back_sound, body-sound, body_last, body_fits_last, act_sound, act_keeps_ready}
use Rattle.xc_world.proofs.Laws.{act_leaves_ready}
use Rattle.xc_machine.specs.declared.body.MachineBody.{MachineBody}
use Rattle.xc_machine.specs.declared.body.SavedBody.{SavedBody}
use Rattle.xc_machine.specs.declared.run.Replied.{Replied}
use Rattle.xc_machine.specs.Blocks.{IsListFront, IsMachineSave, StandsAt}

-- ---- the late calls that a body leaves are ready at its end
-- it is sound, and they are ready
record ReadiesBody (tx : ℕ) (r : BodyResult) : Type 0 where
  sound : IsSound r.world r.me tx
  ready : All (IsReady r.world) r.late

step_readies : (tx : ℕ) (r : BodyResult) (c : CallWithAnswer) → Fits tx r c → ReadiesBody tx r → ReadiesBody tx (step tx r c)
step_readies tx r c fit so =
    let s = act r.world r.me tx c.call c.answer in
    record {
      sound = act_sound r.world r.me tx c.call c.answer fit so.sound;
      ready = All-append (IsReady s.world) r.late (kept_call c.call r.me s.reply)
          (All-weaker (IsReady r.world) (IsReady s.world) (λ d. act_keeps_ready r.world r.me tx c.call c.answer d fit so.sound) r.late so.ready)
          (act_leaves_ready r.world r.me tx c.call c.answer fit so.sound);
    }

-- those of a body that its answers fit
pub leaves_ready : (w : World) (me : Private) (tx : ℕ) (asked : List CallWithAnswer) → IsSound w me tx → IsTrue (body_fits w me tx asked)
    → All (IsReady (body w me tx asked).world) (body w me tx asked).late
leaves_ready w me tx asked sound fit =
    (runs_keep tx (Fits tx) (ReadiesBody tx) (record {
      plain = step_readies tx;
      back = λ s calls fits was is. record { sound = back_sound tx s calls fits was.sound is.sound; ready = was.ready };
    }) (opens w me) asked (fit_all tx (opens w me) asked fit)
    (record { now = record { sound = sound; ready = All-nil (IsReady w) }; saved = tt })).now.ready

-- ---- one call more, which opens or closes no block
front_more : {T : Type 0} (n : ℕ) (now saved more : List T) → IsListFront n now saved → IsListFront n (now ++ more) saved
front_more n now saved more so =
    let within = so.within in
    record { within = omega (arith, within, length-append now more); front = take-append-le n now more so.within ∙ so.front }

saved_more : (tx : ℕ) (kept : Option SavedBody) (saved : Option BodyResult) (now : BodyResult) (c : CallWithAnswer) → IsMachineSave kept saved now
    → IsMachineSave kept saved (step tx now c)
saved_more tx None None now c so = tt
saved_more tx None (Some s) now c so = absurd so
saved_more tx (Some k) None now c so = absurd so
saved_more tx (Some k) (Some s) now c so =
    let reply = (act now.world now.me tx c.call c.answer).reply in
    record {
      world = so.world;
      places = so.places;
      late = front_more k.late now.late s.late (kept_call c.call now.me reply) so.late;
    }

-- what such a call adds, made in this world and with this private state
pub record AddsToBody (tx : ℕ) (v : World) (m : Private) (c : CallWithAnswer) (step : Step Replied) : Type 0 where
  pub late : step.new.late ≡ step.old.late ++ kept_call c.call m (act v m tx c.call c.answer).reply
  pub held : step.new.held.items ≡ holding step.old.held.items (claims_of c.call m (length v.words))

-- a body that such a call is added to stands a step further
pub stands_more : (tx : ℕ) (v x : World) (m n : Private) (made next : MachineBody) (b : BlockState) (c : CallWithAnswer)
    → AddsToBody tx v m c (record { old = made.replied; new = next.replied })
    → next.saved ≡ made.saved → x ≡ (act v m tx c.call c.answer).world → n ≡ (act v m tx c.call c.answer).me → StandsAt v m made b
    → StandsAt x n next (record { now = step tx b.now c; saved = b.saved })
stands_more tx v x m n made next b c gave keeps world me so =
    let same = ap₂ (λ w p. act w p tx c.call c.answer) so.world_is so.me_is in
    let reply = ap (λ (s : Stepped). s.reply) same in
    record {
      world_is = world ∙ ap (λ (s : Stepped). s.world) same;
      me_is = me ∙ ap (λ (s : Stepped). s.me) same;
      gave = record {
        late = gave.late ∙ ap₂ (λ ls k. ls ++ k) so.gave.late (ap₂ (kept_call c.call) so.me_is reply);
        held =
            gave.held ∙ ap₂ holding so.gave.held (ap₂ (λ p (w : World). claims_of c.call p (length w.words)) so.me_is so.world_is)
            ∙ sym (fold-append holding_one [] b.now.touched (claims_of c.call b.now.me (length b.now.world.words)));
      };
      saved = saved_more tx next.saved b.saved b.now c (subst (λ k. IsMachineSave k b.saved b.now) (sym keeps) so.saved);
    }

-- ---- calls one after another
module _ (w : World) (me : Private) (tx : ℕ) (asked : List CallWithAnswer) where
  -- where the plain machine's body stands after so many calls
  abbrev pub so_far : ℕ → BlockState
  so_far i = body_state w me tx (take i asked)

  -- after so many calls, each of which its answer fitted
  pub record IsMadeSoFar (i : ℕ) (v : World) (m : Private) (made : MachineBody) : Type 0 where
    pub stands : StandsAt v m made (so_far i)
    pub fits : IsTrue (body_fits w me tx (take i asked))
    pub sound : IsSound v m tx
    pub words : length v.words ≡ length w.words

  -- one call more is one step more
  pub state_more : (i : ℕ) (c : CallWithAnswer) → i < length asked → c ≡ get_or asked i c → so_far (i + 1) ≡ block_step tx (so_far i) c
  state_more i c lt e = ap (body_state w me tx) (take_more asked i c lt ∙ ap (λ x. take i asked ++ x ∷ []) (sym e)) ∙ body_last w me tx (take i asked) c

  pub fits_more : (i : ℕ) (c : CallWithAnswer) → i < length asked → c ≡ get_or asked i c → IsTrue (body_fits w me tx (take i asked))
      → IsTrue (fits (so_far i).now.world (so_far i).now.me tx c.call c.answer) → IsTrue (body_fits w me tx (take (i + 1) asked))
  fits_more i c lt e before one =
      ap (body_fits w me tx) (take_more asked i c lt ∙ ap (λ x. take i asked ++ x ∷ []) (sym e)) ∙ body_fits_last w me tx (take i asked) c
      ∙ and_from (body_fits w me tx (take i asked)) (fits (so_far i).now.world (so_far i).now.me tx c.call c.answer) before one

  -- where the body stands, it is sound
  stands_sound : (i : ℕ) (v : World) (m : Private) (made : MachineBody) → IsSound w me tx → IsTrue (body_fits w me tx (take i asked))
      → StandsAt v m made (so_far i) → IsSound v m tx
  stands_sound i v m made sound fit stands =
      subst (λ x. IsSound x m tx) (sym stands.world_is)
      (subst (λ n. IsSound (so_far i).now.world n tx) (sym stands.me_is) (body-sound w me tx (take i asked) sound fit))

  -- it begins
  pub made_none : (made : MachineBody) → IsSound w me tx → StandsAt w me made (opens w me) → IsMadeSoFar 0 w me made
  made_none made sound stands = record { stands = stands; fits = refl; sound = sound; words = refl }

  -- and goes on by a call that its answer fits
  pub body_made_more : (i : ℕ) (c : CallWithAnswer) (v : World) (m : Private) (made : MachineBody) → IsSound w me tx → i < length asked → c ≡ get_or asked i c
      → IsTrue (body_fits w me tx (take i asked)) → IsTrue (fits (so_far i).now.world (so_far i).now.me tx c.call c.answer)
      → StandsAt v m made (block_step tx (so_far i) c) → IsMadeSoFar (i + 1) v m made
  body_made_more i c v m made sound lt e before one stands =
      let fit = fits_more i c lt e before one in
      let here = subst (StandsAt v m made) (sym (state_more i c lt e)) stands in
      record {
        stands = here;
        fits = fit;
        sound = stands_sound (i + 1) v m made sound fit here;
        words = ap (λ (x : World). length x.words) here.world_is ∙ (body_keeps w me tx (take (i + 1) asked)).count;
      }

  -- what it is at the end: the whole body, which leaves late calls ready
  pub record MadeWhole (v : World) (m : Private) (made : MachineBody) : Type 0 where
    pub stands : StandsAt v m made (body_state w me tx asked)
    pub ready : All (IsReady v) made.replied.late

  pub made_whole : (i : ℕ) (v : World) (m : Private) (made : MachineBody) → IsSound w me tx → length asked ≤ i → IsMadeSoFar i v m made → MadeWhole v m made
  made_whole i v m made sound le so =
      let all = take_all i asked le in
      let r = body w me tx asked in
      let stands = subst (λ xs. StandsAt v m made (body_state w me tx xs)) all so.stands in
      let fit = subst (λ xs. IsTrue (body_fits w me tx xs)) all so.fits in
      record {
        stands = stands;
        ready = subst (λ x. All (IsReady x) made.replied.late) (sym stands.world_is)
            (subst (All (IsReady r.world)) (sym stands.gave.late) (leaves_ready w me tx asked sound fit));
      }
