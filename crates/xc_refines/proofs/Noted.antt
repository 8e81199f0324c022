-- What an active transaction noted is what the plain machine's body gives in the world that the journal left.
use Rattle.std.proofs.Common.{◌≡◌, inl, inr, ℕ, ◌+◌, ◌-◌, ◌<◌, zero, suc, true, List, [], ◌∷◌, ◌++◌, Some, length, take, map, ap, sym, ◌∙◌, subst, refl, arith}
use Rattle.std.specs.Prelude.{slice_get, option_map, unwrap_or, IsTrue}
use Rattle.std.proofs.lemmas.Bool.{and_parts}
use Rattle.std.proofs.lemmas.List.{append-nil}
use Rattle.std.proofs.lemmas.Option.{slice_get-map, slice_get_within}
use Rattle.xc_data.specs.declared.call.CallWithAnswer.{CallWithAnswer}
use Rattle.xc_data.specs.declared.entry.Cause.TheVariants as cause
use Rattle.xc_data.specs.declared.private.Place.{Place}
use Rattle.xc_data.specs.declared.private.Private.{Private}
use Rattle.xc_data.specs.declared.undo.Undo.{Undo}
use Rattle.xc_script.specs.declared.ask.Ask.{Ask}
use Rattle.xc_script.specs.declared.ask.Ask.TheVariants as ask
use Rattle.xc_world.specs.World.{World, beginning, no_handles}
use Rattle.xc_world.specs.Act.{act}
use Rattle.xc_world.specs.Ends.{Ending}
use Rattle.xc_world.specs.Fits.{fits}
use Rattle.xc_world.specs.Run.{BodyResult, BlockState, step, runs_on, body_state, body, body_fits, asked_of, fits_on, lates, lates_fit, late_asked_of}
use Rattle.xc_world.proofs.Laws.{marked_now, body_keeps}
use Rattle.xc_world.specs.Trail.{recorded}
use Rattle.xc_model.specs.declared.phase.Phase.{Phase}
use Rattle.xc_model.specs.declared.phase.Phase.TheVariants.{Running, Committing, Undoing, Backing}
use Rattle.xc_model.specs.Setting.{Setting}
use Rattle.xc_model.specs.Progress.{progress_of, private_of}
use Rattle.xc_model.specs.Played.{HoldsFor, IsPlayedSoFar, RecordsFor, played_late_result, played_late}
use Rattle.xc_model.specs.EntryEnds.{AreLeft, AreLeftBy}
use Rattle.xc_model.specs.Movers.{asked_at}
use Rattle.xc_model.specs.Stories.{StoriesHold}
use Rattle.xc_model.specs.Moment.{TxView, JobView, Moment, active_of}
use Rattle.xc_flight.specs.Flight.{IsPhase}
use Rattle.xc_refines.specs.InFlight.{IsUnnoted, flown, flown_phase, ran_at, state_of, AreInFlight}
use Rattle.xc_refines.proofs.FlownJobs.{flight_there, fits_there, rest_fits}

at_place : {X : Type 0} (xs : List X) (i : ℕ) → i < length xs → (x : X) × (slice_get xs i ≡ Some x)
at_place [] i lt = let none = lt in absurd (omega (arith, none))
at_place (x ∷ xs) zero lt = (x, refl)
at_place (x ∷ xs) (suc i) lt = at_place xs i (omega (arith, lt))

-- ---- the records
none_left : (r : BodyResult) (tx : ℕ) (next : Ask) → AreLeft r tx next []
none_left r tx (ask.Call call) = inl refl
none_left r tx ask.Commit = refl
none_left r tx ask.Abort = refl
none_left r tx ask.End = refl

all_told : (r : BodyResult) (tx : ℕ) (next : Ask) (p : Phase) (records : List Undo) → records ≡ r.trail → RecordsFor r tx next p records
all_told r tx next Running records e = e
all_told r tx next Committing records e = e
all_told r tx next Backing records e = e
all_told r tx next (Undoing (cause.Stuck failed)) records e = e
all_told r tx next (Undoing cause.Asked) records e = e
all_told r tx next (Undoing (cause.Conflict object holder at)) records e = e
all_told r tx next (Undoing (cause.Revoked object by at)) records e = e
all_told r tx next (Undoing cause.NoMemory) records e = ([], none_left r tx next, e ∙ sym (append-nil r.trail))

-- they are those of a body's calls, and of the one that isn't noted
records_for : (tx : ℕ) (b : BlockState) (p : Phase) (next : Ask) (us : List CallWithAnswer) (records : List Undo) → IsUnnoted p next us
    → IsTrue (fits_on tx b us) → (runs_on tx b us).now.trail ≡ records → RecordsFor b.now tx next p records
records_for tx b p next [] records was fit e = all_told b.now tx next p records (sym e)
records_for tx b (Undoing cause.NoMemory) (ask.Call call) (a ∷ []) records was fit e =
    let r = b.now in (
      recorded r.world r.me tx a.call (act r.world r.me tx a.call a.answer).reply,
      subst (λ c. AreLeftBy r tx c (recorded r.world r.me tx a.call (act r.world r.me tx a.call a.answer).reply)) was.0
          (inr (a.answer, (and_parts (fits r.world r.me tx a.call a.answer) true fit).0, refl)),
      sym e ∙ ap (λ (q : BodyResult). q.trail) (marked_now a.call b.saved (step tx r a) was.1),
    )
records_for tx b p next (a ∷ us) records was fit e = absurd was

-- ---- the late calls that are done
abbrev EndSo : BodyResult → TxView → Type 0
EndSo r tx = ((played_late_result r tx).ends ≡ tx.ends) × IsTrue (lates_fit r.world (played_late r tx))

none_done : (r : BodyResult) (tx : TxView) → tx.ends ≡ [] → EndSo r tx
none_done r tx none =
    subst (λ es. ((lates r.world (late_asked_of (take (length es) r.late) es)).ends ≡ es)
    × IsTrue (lates_fit r.world (late_asked_of (take (length es) r.late) es))) (sym none) (refl, refl)

-- they ended as the plain machine's do
end_so : (w : World) (began : Private) (us : List CallWithAnswer) (tx : TxView) (p : Phase) → IsPhase w (flown began us tx) (flown_phase p)
    → EndSo (ran_at w began tx) tx
end_so w began us tx Running i = none_done (ran_at w began tx) tx i.no_late_ends
end_so w began us tx Committing i =
    subst (λ (r : BodyResult). EndSo r tx) (ap (λ l. (runs_on tx.number (body_state w began tx.number (asked_of tx.calls tx.replies)) l).now) i.all_noted)
    (i.ends, i.fits)
end_so w began us tx (Undoing c) none = none_done (ran_at w began tx) tx none
end_so w began us tx Backing none = none_done (ran_at w began tx) tx none

module _ (s : Setting) (now : Moment) (told : StoriesHold s (length now.words) now.marks now.journal now.jobs) (all : AreInFlight s now) (at : ℕ)
    (job : JobView) (tx : TxView)
    (there : slice_get now.jobs at ≡ Some job) (active : active_of job ≡ Some tx) where
  fresh : job.me ≡ beginning job.me.places
  fresh =
      let within = slice_get_within now.jobs at job there in
      let count = told.count in
      let f = at_place (progress_of s.script now.journal).jobs at (omega (arith, within, count)) in
      (told.jobs_told at f.0 job f.1 there).fresh

  handles : unwrap_or (slice_get (state_of s now).handles (at + 1 - 1)) no_handles ≡ job.me.places
  handles =
      let place : at + 1 - 1 ≡ at = omega arith in
      ap (λ k. unwrap_or (slice_get (state_of s now).handles k) no_handles) place
      ∙ ap (λ (hs : List (List Place)). unwrap_or (slice_get hs at) no_handles) all.handles
      ∙ ap (λ o. unwrap_or o no_handles) (slice_get-map (λ (j : JobView). j.me.places) now.jobs at ∙ ap (option_map (λ (j : JobView). j.me.places)) there)

  -- the private state that the journal left of the job is the one that it began with
  private : job.me ≡ private_of (state_of s now) (at + 1)
  private = fresh ∙ ap beginning (sym handles)

  -- it is played so far
  pub played_there : IsPlayedSoFar (asked_at s job) (length now.words) (progress_of s.script now.journal) at tx
  played_there =
      let i = (flight_there s now all at job tx there active).inside in
      let w = (state_of s now).world in
      let asked = asked_of tx.calls tx.replies in
      let next = asked_at s job in
      let ended = subst (λ me. EndSo (body w me tx.number asked) tx) private (end_so w job.me (all.unnoted at) tx tx.phase i.phase) in
      let records = tx.undo.pending ++ map (λ (r : Ending). r.0) tx.undo.ended in
      record {
        fits = subst (λ me. IsTrue (body_fits w me tx.number asked)) private (fits_there s now all at job tx there active);
        replies = ap (λ me. (body w me tx.number asked).replies) (sym private) ∙ i.replies;
        me = ap (λ me. (body w me tx.number asked).me) (sym private) ∙ i.me;
        late = ap (λ me. (body w me tx.number asked).late) (sym private) ∙ i.late;
        ends = ended.0;
        late_fits = ended.1;
        records = subst (λ me. RecordsFor (body w me tx.number asked) tx.number next tx.phase records) private
            (records_for tx.number (body_state w job.me tx.number asked) tx.phase next (all.unnoted at) records (all.was_asked at job tx there active)
            (rest_fits s now all at job tx there active) i.trail);
        holds = subst (λ me. HoldsFor (body w me tx.number asked) next tx.phase tx.held) private (all.holds at job tx there active);
        count = ap (λ me. length (body w me tx.number asked).world.words) (sym private) ∙ (body_keeps w job.me tx.number asked).count
            ∙ sym all.flies.count;
      }
