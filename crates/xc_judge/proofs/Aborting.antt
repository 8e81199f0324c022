-- After an aborted entry: its records were made one after another, and what remains of them leaves a state open to other numbers.
use Rattle.std.proofs.Common.{inl, inr, ◌≡◌, ◌≢◌, ℕ, ◌+◌, ◌-◌, Option, Some, List, [], ◌∷◌, ◌++◌, ap, sym, ◌∙◌, subst}
use Rattle.std.specs.Prelude.{All, IsTrue, map, slice_get, slice_set, unwrap_or}
use Rattle.std.proofs.lemmas.Bool.{and_from}
use Rattle.std.proofs.lemmas.List.{append-nil}
use Rattle.std.proofs.lemmas.List.Elements.{All-append, All-cons, All-nil}
use Rattle.xc_data.specs.declared.call.Answer.{Answer}
use Rattle.xc_data.specs.declared.call.Call.{Call}
use Rattle.xc_data.specs.declared.call.Call.TheVariants as call
use Rattle.xc_data.specs.declared.call.CallWithAnswer.{CallWithAnswer}
use Rattle.xc_data.specs.declared.call.Reply.{Reply}
use Rattle.xc_data.specs.declared.entry.Cause.{Cause}
use Rattle.xc_data.specs.declared.entry.Cause.TheVariants as cause
use Rattle.xc_data.specs.declared.private.Place.{Place}
use Rattle.xc_data.specs.declared.private.Private.{Private}
use Rattle.xc_data.specs.declared.undo.Undo.{Undo}
use Rattle.xc_script.specs.declared.ask.Ask.{Ask}
use Rattle.xc_script.specs.declared.ask.Ask.TheVariants as ask
use Rattle.xc_world.specs.Act.{act}
use Rattle.xc_world.specs.Effects.{AreMadeIn, SparesNew}
use Rattle.xc_world.specs.Ends.{Ending, remains, with_remains}
use Rattle.xc_world.specs.Fits.{fits}
use Rattle.xc_world.specs.Run.{BodyResult, BlockState, body, body_fits, opens, step}
use Rattle.xc_world.specs.Sound.{IsSound}
use Rattle.xc_world.specs.Trail.{recorded}
use Rattle.xc_world.specs.World.{World, beginning, no_handles}
use Rattle.xc_world.proofs.Laws.{Fits, fit_all, runs_keep, remains-sound, body-made, body_last, body_fits_last}
use Rattle.xc_data.specs.declared.entry.Entry.{Entry}
use Rattle.xc_data.specs.declared.entry.Outcome.{Outcome}
use Rattle.xc_data.specs.declared.entry.Outcome.TheVariants.{Aborted}
use Rattle.xc_data.specs.declared.entry.Report.{Report}
use Rattle.xc_machine.proofs.Laws.{remains_words}
use Rattle.xc_model.specs.Course.{Course, Standing, after_course, course_abort, course_outcome, course_standing, standing_abort, standing_of}
use Rattle.xc_model.specs.EntryEnds.{AreLeft, AreLeftBy, AreRecords}
use Rattle.xc_model.specs.Progress.{words_left}
use Rattle.xc_judge.specs.Judged.{IsInSomeTurn}
use Rattle.xc_judge.proofs.Committing.{course_of}
use Rattle.xc_judge.proofs.Recording.{each_recorded}

-- ---- the records of one transaction make nothing that another is still to make
module _ (you : Private) (ty tx : ℕ) (apart : ty ≢ tx) where
  -- a record that makes nothing of another, alone
  one : (u : Undo) → SparesNew you ty u → All (SparesNew you ty) (u ∷ [])
  one u spares = All-cons (SparesNew you ty) u [] spares (All-nil (SparesNew you ty))

  -- what a call leaves
  recorded_spares : (w : World) (me : Private) (c : Call) (r : Reply) → All (SparesNew you ty) (recorded w me tx c r)
  recorded_spares w me c r =
      each_recorded (All (SparesNew you ty)) w me tx c r (record {
        none = All-nil (SparesNew you ty);
        overwrite = λ write file at before after n. one _ tt;
        append = λ write file from after n. one _ tt;
        create = λ name. one _ (λ e. absurd (apart (sym e)));
        rename = λ from to. one _ tt;
        pipe = one _ (λ e. absurd (apart (sym e)));
        pair = one _ (λ e. absurd (apart (sym e)));
      })

  -- all records of a body are such
  record Spares (r : BodyResult) : Type 0 where
    spares : All (SparesNew you ty) r.trail

  -- so it stays with one call more
  step_spares : (r : BodyResult) (c : CallWithAnswer) → Fits tx r c → Spares r → Spares (step tx r c)
  step_spares r c fit so =
      record {
        spares = All-append (SparesNew you ty) r.trail (recorded r.world r.me tx c.call (act r.world r.me tx c.call c.answer).reply) so.spares
            (recorded_spares r.world r.me c.call (act r.world r.me tx c.call c.answer).reply);
      }

  -- all records of a body
  pub body_spares : (w : World) (me : Private) (asked : List CallWithAnswer) → IsTrue (body_fits w me tx asked)
      → All (SparesNew you ty) (body w me tx asked).trail
  body_spares w me asked fit =
      (runs_keep tx (Fits tx) Spares (record { plain = step_spares; back = λ s calls fits was is. record { spares = was.spares } })
      (opens w me) asked (fit_all tx (opens w me) asked fit)
      (record { now = record { spares = All-nil (SparesNew you ty) }; saved = tt })).now.spares

-- ---- the records of an entry
-- those of a body and of one call more were made one after another
made_with : (w : World) (me : Private) (tx : ℕ) (asked : List CallWithAnswer) (c : Call) (a : Answer) → IsSound w me tx
    → IsTrue (body_fits w me tx asked) → IsTrue (fits (body w me tx asked).world (body w me tx asked).me tx c a)
    → AreMadeIn w ((body w me tx asked).trail ++ recorded (body w me tx asked).world (body w me tx asked).me tx c
    (act (body w me tx asked).world (body w me tx asked).me tx c a).reply)
made_with w me tx asked call.Back a sound fit one =
    subst (AreMadeIn w) (sym (append-nil (body w me tx asked).trail)) (body-made w me tx asked sound fit)
made_with w me tx asked c a sound fit one =
    let more : CallWithAnswer = record { call = c; answer = a } in
    let all_fit : IsTrue (body_fits w me tx (asked ++ more ∷ [])) =
    body_fits_last w me tx asked more
    ∙ and_from (body_fits w me tx asked) (fits (body w me tx asked).world (body w me tx asked).me tx c a) fit one in
    subst (λ (b : BlockState). AreMadeIn w b.now.trail) (body_last w me tx asked more) (body-made w me tx (asked ++ more ∷ []) sound all_fit)

-- what an entry's records need: they were made one after another, and make nothing that another transaction is still to make
pub record AreOwn (w : World) (you : Private) (ty : ℕ) (us : List Undo) : Type 0 where
  pub made : AreMadeIn w us
  pub spares : All (SparesNew you ty) us

module _ (w : World) (me : Private) (tx : ℕ) (asked : List CallWithAnswer) (sound : IsSound w me tx) (fit : IsTrue (body_fits w me tx asked))
    (you : Private) (ty : ℕ) (apart : ty ≢ tx) where
  -- the body
  abbrev ran : BodyResult
  ran = body w me tx asked

  -- the records of the calls are such
  own_trail : AreOwn w you ty ran.trail
  own_trail = record { made = body-made w me tx asked sound fit; spares = body_spares you ty tx apart w me asked fit }

  -- and no more are
  own_none : (us more : List Undo) → us ≡ ran.trail ++ more → more ≡ [] → AreOwn w you ty us
  own_none us more is none = subst (AreOwn w you ty) (sym (is ∙ ap (λ m. ran.trail ++ m) none ∙ append-nil ran.trail)) own_trail

  -- with those of one call more
  own_more : (us more : List Undo) (c : Call) (a : Answer) → us ≡ ran.trail ++ more → IsTrue (fits ran.world ran.me tx c a)
      → more ≡ recorded ran.world ran.me tx c (act ran.world ran.me tx c a).reply → AreOwn w you ty us
  own_more us more c a is one left =
      subst (AreOwn w you ty) (sym (is ∙ ap (λ m. ran.trail ++ m) left)) (record {
        made = made_with w me tx asked c a sound fit one;
        spares = All-append (SparesNew you ty) ran.trail _ (body_spares you ty tx apart w me asked fit)
            (recorded_spares you ty tx apart ran.world ran.me c (act ran.world ran.me tx c a).reply);
      })

  -- with what a call left
  own_left_by : (us more : List Undo) (c : Call) → us ≡ ran.trail ++ more → AreLeftBy ran tx c more → AreOwn w you ty us
  own_left_by us more c is (inl none) = own_none us more is none
  own_left_by us more c is (inr so) = own_more us more c so.0 is so.1 so.2

  -- with what was left of what is asked
  own_left : (us more : List Undo) (last : Ask) → us ≡ ran.trail ++ more → AreLeft ran tx last more → AreOwn w you ty us
  own_left us more (ask.Call c) is left = own_left_by us more c is left
  own_left us more ask.Commit is left = own_none us more is left
  own_left us more ask.Abort is left = own_none us more is left
  own_left us more ask.End is left = own_none us more is left

  -- the records of an aborted entry are such
  pub own_records : (last : Ask) (why : Cause) (us : List Undo) → AreRecords ran tx last why us → AreOwn w you ty us
  own_records last cause.NoMemory us so = own_left us so.0 last so.2 so.1
  own_records last cause.Asked us so = subst (AreOwn w you ty) (sym so) own_trail
  own_records last (cause.Conflict object holder at) us so = subst (AreOwn w you ty) (sym so) own_trail
  own_records last (cause.Revoked object by at) us so = subst (AreOwn w you ty) (sym so) own_trail
  own_records last (cause.Stuck failed) us so = subst (AreOwn w you ty) (sym so) own_trail

-- ---- after the entry
-- what remains of them leaves a state open to another number
pub open_remains : (w : World) (tx ty : ℕ) (hs : List (List Place)) (records : List Ending)
    → ((you : Private) → AreOwn w you ty (map (λ r. r.0) records))
    → ((job : ℕ) → IsSound w (beginning (unwrap_or (slice_get hs (job - 1)) no_handles)) ty)
    → (job : ℕ) → IsSound (with_remains w (remains records)) (beginning (unwrap_or (slice_get hs (job - 1)) no_handles)) ty
open_remains w tx ty hs records own opens job =
    let you = beginning (unwrap_or (slice_get hs (job - 1)) no_handles) in
    let so = own you in
    remains-sound w you ty records so.made so.spares (opens job)

-- what is known of an entry of a started job that was aborted
pub after_abort : (c : Course) (e : Entry) (f : Standing) (report : Report) → standing_of c e ≡ Some f → e.outcome ≡ Aborted report
    → after_course c e ≡ record (course_abort c f e report) { entered = c.entered + 1; words = c.words }
after_abort c e f report started outcome =
    ap (λ (o : Option Standing). record (course_standing c e o) { entered = c.entered + 1; words = words_left c.words e.calls e.outcome }) started
    ∙ ap (λ (x : Outcome). record (course_outcome c f e x) { entered = c.entered + 1; words = words_left c.words e.calls x }) outcome

-- what the code has after it is what the entry leads to
pub abort_led : (w x : World) (hs : List (List Place)) (js jobs : List Standing) (n : ℕ) (e : Entry) (report : Report)
    → x ≡ with_remains w (remains report.records)
    → ((f : Standing) → slice_get js (e.job - 1) ≡ Some f → jobs ≡ slice_set js (e.job - 1) (standing_abort n f e report.cause))
    → IsInSomeTurn (course_of w hs js n) e → e.outcome ≡ Aborted report → course_of x hs jobs (n + 1) ≡ after_course (course_of w hs js n) e
abort_led w x hs js jobs n e report world changed numbered outcome =
    let c : Course = course_of w hs js n in
    let f = numbered.standing in
    let jobs_now = changed f numbered.in_turn.started in
    let words : x.words ≡ w.words = ap (λ (v : World). v.words) world ∙ remains_words w (remains report.records) in
    (λ i. record { state = record { world = world i; handles = hs }; jobs = jobs_now i; entered = n + 1; words = words i })
    ∙ sym (after_abort c e f report numbered.in_turn.started outcome)
