-- The handles of all jobs, and which calls of the host were made, where one job goes on in its place.
use Rattle.std.proofs.Common.{◌≡◌, ℕ, ◌-◌, ◌+◌, Option, Some, List, [], ◌∷◌, ◌++◌, length, map, refl, ap, ap₂, sym, ◌∙◌, subst, arith}
use Rattle.std.specs.Prelude.{replicate, slice_get, slice_set, sum_by, unwrap_or}
use Rattle.std.proofs.lemmas.List.{map-append}
use Rattle.xc_data.proofs.Laws.{get_map, map_set, map_set_same}
use Rattle.xc_data.specs.Calls.{thread_asked, thread_in}
use Rattle.xc_data.specs.Counts.{RisesBy}
use Rattle.xc_data.specs.declared.entry.Entry.{Entry}
use Rattle.xc_data.specs.declared.entry.Outcome.{Outcome}
use Rattle.xc_data.specs.declared.entry.Outcome.TheVariants.{Committed, Aborted}
use Rattle.xc_data.specs.declared.entry.Report.{Report}
use Rattle.xc_data.specs.declared.private.Place.{Place}
use Rattle.xc_data.specs.declared.script.HostCallKind.{HostCallKind}
use Rattle.xc_host.specs.Cause.{IsCalled, times}
use Rattle.xc_host.proofs.Laws.{rises_sum}
use Rattle.xc_script.specs.declared.ask.Ask.{Ask}
use Rattle.xc_script.specs.Blocks.{kept_calls}
use Rattle.xc_world.specs.Opening.{opening_handles}
use Rattle.xc_model.specs.Called.{EndMakes}
use Rattle.xc_model.specs.Entering.{behind_commit, entry_of, started_job, started_jobs}
use Rattle.xc_model.specs.Handles.{AreHandled, HandlesCalls, HandlesEntry, Reached, handled_anew, handles_behind, opened_reach}
use Rattle.xc_model.specs.Handling.{HandlesAgree, HasMade, MadeBy, handled_in, places_of}
use Rattle.xc_model.specs.LateCalls.{started_late}
use Rattle.xc_model.specs.Moment.{TxView, JobView, active_of}
use Rattle.xc_model.specs.Movers.{asked_at}
use Rattle.xc_model.specs.Opened.{opened_job}
use Rattle.xc_model.specs.Setting.{Setting}
use Rattle.xc_model.proofs.Laws.{started_same}
use Rattle.xc_turns.proofs.Grown.{started_idle}
use Rattle.xc_turns.proofs.HandledMade.{MadeAt, grown_times, made_at, made_grown, made_set, no_mades, opened_made, opened_times}
use Rattle.xc_turns.proofs.HandledTx.{times_append}
use Rattle.xc_turns.proofs.Lists.{sum_set_place}
use Rattle.xc_turns.proofs.StoryEntries.{place_of_number}

-- these handles and these calls
abbrev reach : List (List Place) → List HostCallKind → Reached
reach places made = record { places = places; made = made }

-- ---- one entry more
-- it follows those before it
entry_more : (was : Reached) (lasts : List Ask) (journal : List Entry) (last : Ask) (e : Entry) (now is : Reached) → AreHandled was lasts journal now
    → HandlesEntry now last e is → AreHandled was (lasts ++ last ∷ []) (journal ++ e ∷ []) is
entry_more was lasts [] last e now is h one =
    subst (λ (ls : List Ask). AreHandled was (ls ++ last ∷ []) (e ∷ []) is) (sym h.0)
    (is, subst (λ (x : Reached). HandlesEntry x last e is) h.1 one, (refl, refl))
entry_more was [] (d ∷ journal) last e now is h one = absurd h
entry_more was (first ∷ lasts) (d ∷ journal) last e now is h one =
    (h.0, h.1, entry_more h.0 lasts journal last e now is h.2 one)

-- ---- jobs with the same handles
-- a list of such
places_each : (job_of : List ℕ → JobView) (names : List (List ℕ)) (places : List Place) → ((name : List ℕ) → (job_of name).me.places ≡ places)
    → places_of (map job_of names) ≡ replicate (length names) places
places_each job_of [] places same = refl
places_each job_of (name ∷ names) places same =
    ap₂ (λ (p : List Place) (ps : List (List Place)). p ∷ ps) (same name) (places_each job_of names places same)

-- the jobs of a script before their first transactions
pub opened_handled : (s : Setting) (names : List (List ℕ)) (calls : HostCallKind → ℕ) → names ≡ s.script.outline.jobs → ((kind : HostCallKind) → calls kind ≡ 0)
    → HandlesAgree s [] [] (map (opened_job s.script) names) calls
opened_handled s names calls are none =
    let outline = s.script.outline in
    let jobs = map (opened_job s.script) names in
    let places : places_of jobs ≡ replicate (length outline.jobs) (opening_handles outline) =
    places_each (opened_job s.script) names (opening_handles outline) (λ name. refl)
    ∙ ap (λ (ns : List (List ℕ)). replicate (length ns) (opening_handles outline)) are in
    record {
      entered = [];
      entries = (refl, ap (λ (ps : List (List Place)). reach ps []) places);
      under_way = no_mades jobs;
      active = opened_made s names;
      called = λ kind.
          let zero = opened_times kind s names in
          let all : 0 ≡ 0 + sum_by (times kind) (no_mades jobs) = omega (arith, zero) in
          subst (λ n. RisesBy n 0 (calls kind)) all (none kind);
    }

module _ (s : Setting) (lasts : List Ask) (journal : List Entry) (jobs : List JobView) (calls : HostCallKind → ℕ) (at : ℕ) (job : JobView)
    (stands : slice_get jobs at ≡ Some job) (h : HandlesAgree s lasts journal jobs calls) where
  -- which calls of the host its active transaction made
  abbrev pub there : MadeAt s job h.under_way at
  there = made_at s jobs h.under_way at job h.active stands

  -- a job with its handles stands in its place
  places_stay : (job' : JobView) → job'.me.places ≡ job.me.places → places_of (slice_set jobs at job') ≡ places_of jobs
  places_stay job' same = map_set_same (λ (x : JobView). x.me.places) jobs at job' job stands same

  -- the count of calls rises by those that it made
  more_called : (made' more : List HostCallKind) (calls' : HostCallKind → ℕ)
      → ((kind : HostCallKind) → times kind made' ≡ times kind there.made + times kind more)
      → IsCalled more calls calls' → (kind : HostCallKind)
      → RisesBy (times kind h.entered + sum_by (times kind) (slice_set h.under_way at made')) 0 (calls' kind)
  more_called made' more calls' grown used kind =
      let set = sum_set_place (times kind) h.under_way at there.made made' there.there in
      let own = grown kind in
      let total : (times kind h.entered + sum_by (times kind) h.under_way) + times kind more
      ≡ times kind h.entered + sum_by (times kind) (slice_set h.under_way at made') = omega (arith, set, own) in
      subst (λ n. RisesBy n 0 (calls' kind)) total
      (rises_sum (times kind h.entered + sum_by (times kind) h.under_way) (times kind more) 0 (calls kind) (calls' kind) (h.called kind) (used kind))

  -- it goes on with its handles, and made more calls
  pub stays_handled : (job' : JobView) (made' more : List HostCallKind) (calls' : HostCallKind → ℕ) → job'.me.places ≡ job.me.places
      → MadeBy s job' (active_of job') made' → ((kind : HostCallKind) → times kind made' ≡ times kind there.made + times kind more)
      → IsCalled more calls calls' → HandlesAgree s lasts journal (slice_set jobs at job') calls'
  stays_handled job' made' more calls' same by grown used =
      record {
        entered = h.entered;
        entries = subst (λ (ps : List (List Place)). AreHandled (opened_reach s.script.outline) lasts journal (reach ps h.entered))
            (sym (places_stay job' same)) h.entries;
        under_way = slice_set h.under_way at made';
        active = made_set s jobs h.under_way at job job' made' h.active stands by;
        called = more_called made' more calls' grown used;
      }

  module _ (tx : TxView) (made : HasMade s job tx there.made) where
    -- what was asked last of it
    abbrev last : Ask
    last = asked_at s job

    -- its entry leads to these handles
    enters_handled : (o : Outcome) (ends : List HostCallKind) (places : List (List Place)) → EndMakes last tx.late o ends
        → places ≡ handles_behind (places_of jobs) (entry_of tx at o) tx.me.places o
        → AreHandled (opened_reach s.script.outline) (lasts ++ last ∷ []) (journal ++ entry_of tx at o ∷ []) (reach places (h.entered ++ made.body ++ ends))
    enters_handled o ends places uses behind =
        let found : unwrap_or (slice_get (places_of jobs) (at + 1 - 1)) [] ≡ job.me.places =
        ap (λ i. unwrap_or (slice_get (places_of jobs) i) []) (place_of_number at)
        ∙ ap (λ (p : Option (List Place)). unwrap_or p []) (get_map (λ (x : JobView). x.me.places) jobs at job stands) in
        let now = reach (places_of jobs) h.entered in
        let next = reach places (h.entered ++ made.body ++ ends) in
        entry_more (opened_reach s.script.outline) lasts journal last (entry_of tx at o) now next h.entries (record {
          left = handled_in tx made.body;
          calls = subst (λ (ps : List Place). HandlesCalls tx.number tx.calls tx.replies (handled_anew ps) (handled_in tx made.body)) (sym found) made.calls;
          ends = ends;
          uses = uses;
          places = behind;
          made = refl;
        })

    -- the count of calls is as before where its entry takes its calls over
    entered_called : (ends : List HostCallKind) (calls' : HostCallKind → ℕ)
        → ((kind : HostCallKind) → times kind there.made ≡ times kind made.body + times kind ends)
        → ((kind : HostCallKind) → calls' kind ≡ calls kind) → (kind : HostCallKind)
        → RisesBy (times kind (h.entered ++ made.body ++ ends) + sum_by (times kind) (slice_set h.under_way at [])) 0 (calls' kind)
    entered_called ends calls' all same kind =
        let set = sum_set_place (times kind) h.under_way at there.made [] there.there in
        let none : times kind [] ≡ 0 = refl in
        let own = all kind in
        let first = times_append kind (h.entered ++ made.body) ends in
        let second = times_append kind h.entered made.body in
        let total : times kind h.entered + sum_by (times kind) h.under_way
        ≡ times kind (h.entered ++ made.body ++ ends) + sum_by (times kind) (slice_set h.under_way at []) =
        omega (arith, set, none, own, first, second) in
        subst (λ n. RisesBy n 0 (calls' kind)) total
        (subst (RisesBy (times kind h.entered + sum_by (times kind) h.under_way) 0) (sym (same kind)) (h.called kind))

    -- it was aborted: the handles stay
    pub aborted_handled : (report : Report) (job' : JobView) (ends : List HostCallKind) (calls' : HostCallKind → ℕ) → job'.me.places ≡ job.me.places
        → EndMakes last tx.late (Aborted report) ends → MadeBy s job' (active_of job') []
        → ((kind : HostCallKind) → times kind there.made ≡ times kind made.body + times kind ends) → ((kind : HostCallKind) → calls' kind ≡ calls kind)
        → HandlesAgree s (lasts ++ last ∷ []) (journal ++ entry_of tx at (Aborted report) ∷ []) (slice_set jobs at job') calls'
    aborted_handled report job' ends calls' same uses by all rest =
        record {
          entered = h.entered ++ made.body ++ ends;
          entries = enters_handled (Aborted report) ends (places_of (slice_set jobs at job')) uses (places_stay job' same);
          under_way = slice_set h.under_way at [];
          active = made_set s jobs h.under_way at job job' [] h.active stands by;
          called = entered_called ends calls' all rest;
        }

    -- it committed: its job has those of its end, and so have the jobs that it started
    pub committed_handled : (calls' : HostCallKind → ℕ) → map thread_in tx.late ≡ map thread_asked (kept_calls tx.calls tx.replies)
        → ((kind : HostCallKind) → times kind there.made ≡ times kind made.body + times kind made.lates) → ((kind : HostCallKind) → calls' kind ≡ calls kind)
        → HandlesAgree s (lasts ++ last ∷ []) (journal ++ entry_of tx at (Committed tx.ends) ∷ [])
        (slice_set jobs at (behind_commit job tx) ++ started_jobs s.script job tx) calls'
    committed_handled calls' kept all rest =
        let job' = behind_commit job tx in
        let left = tx.me.places in
        let blocks = started_late tx.late tx.ends in
        let more = started_jobs s.script job tx in
        let places = λ (x : JobView). x.me.places in
        let mades = slice_set h.under_way at [] in
        record {
          entered = h.entered ++ made.body ++ made.lates;
          entries = enters_handled (Committed tx.ends) made.lates (places_of (slice_set jobs at job' ++ more)) made.ended
              (map-append places (slice_set jobs at job') more
              ∙ ap₂ (λ (xs ys : List (List Place)). xs ++ ys)
              (map_set places jobs at job' ∙ ap (λ i. slice_set (places_of jobs) i left) (sym (place_of_number at)))
              (places_each (started_job s.script job') blocks left (λ name. refl)
              ∙ ap (λ (bs : List (List ℕ)). replicate (length bs) left) (started_same tx.late (kept_calls tx.calls tx.replies) tx.ends kept)));
          under_way = mades ++ no_mades more;
          active = made_grown s (slice_set jobs at job') mades more (made_set s jobs h.under_way at job job' [] h.active stands refl)
              (started_idle s.script job' blocks);
          called = λ kind.
              subst (λ n. RisesBy (times kind (h.entered ++ made.body ++ made.lates) + n) 0 (calls' kind)) (sym (grown_times kind mades more))
              (entered_called made.lates calls' all rest kind);
        }
