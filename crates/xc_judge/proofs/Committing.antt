-- What the code has after a committed entry is what the entry leads to.
use Rattle.std.proofs.Common.{arith, length-append, ◌≡◌, ◌≢◌, ℕ, ◌+◌, ◌-◌, Option, Some, List, ◌++◌, length, replicate, ap, sym, ◌∙◌, subst}
use Rattle.std.specs.Prelude.{map, slice_get, slice_set}
use Rattle.std.proofs.lemmas.List.{length-map, length-replicate, length-set}
use Rattle.xc_data.specs.declared.call.Call.{Call}
use Rattle.xc_data.specs.declared.call.LateEnd.{LateEnd}
use Rattle.xc_data.specs.declared.call.Reply.{Reply}
use Rattle.xc_data.specs.declared.entry.Entry.{Entry}
use Rattle.xc_data.specs.declared.entry.Outcome.{Outcome}
use Rattle.xc_data.specs.declared.entry.Outcome.TheVariants.{Committed}
use Rattle.xc_data.specs.declared.private.Place.{Place}
use Rattle.xc_data.specs.declared.private.Private.{Private}
use Rattle.xc_data.specs.declared.script.Outline.{Outline}
use Rattle.xc_script.specs.Blocks.{kept_calls}
use Rattle.xc_world.specs.Run.{asked_of, body, late_asked_of}
use Rattle.xc_world.specs.Opening.{bare_world, opening, opening_handles}
use Rattle.xc_world.specs.Sound.{IsSound}
use Rattle.xc_world.specs.World.{State, World}
use Rattle.xc_world.proofs.Laws.{body-sound, body-others_sound, opening_words}
use Rattle.xc_machine.specs.Replay.{AreReplayed, AreEnded, led_by}
use Rattle.xc_machine.proofs.Laws.{from_body, to_body, from_lates, led_to, to_lates}
use Rattle.xc_model.specs.Course.{Course, Standing, after_course, course_commit, course_outcome, course_standing, opening_course, standing_anew, standing_of}
use Rattle.xc_model.specs.EntryEnds.{IsCommit}
use Rattle.xc_model.specs.Machine.{IsPlayedBody}
use Rattle.xc_model.specs.Progress.{body_of, private_of, run_of, started_blocks, words_left}
use Rattle.xc_model.specs.WordCalls.{words_behind}
use Rattle.xc_judge.specs.Judged.{IsInSomeTurn}
use Rattle.xc_judge.specs.Ran.{IsLedOn}
use Rattle.xc_judge.proofs.Lates.{lates_words}
use Rattle.xc_judge.proofs.PlainReplies.{body_words}

-- ---- what is played is replayed, and the other way round
pub replayed_from : (s : State) (e : Entry) → IsPlayedBody s e → AreReplayed s.world (private_of s e.job) e.tx e.calls e.replies
replayed_from s e played = from_body s.world (private_of s e.job) e.tx e.calls e.replies (played.fits, played.replies)

-- and the other way round
pub played_from : (s : State) (e : Entry) → AreReplayed s.world (private_of s e.job) e.tx e.calls e.replies → IsPlayedBody s e
played_from s e all =
    let both = to_body s.world (private_of s e.job) e.tx e.calls e.replies all in
    record { fits = both.0; replies = both.1 }

-- late calls that end as recorded are those of a commit
pub commit_from_lates : (s : State) (e : Entry) (late : List LateEnd) → AreEnded (body_of s e).world (body_of s e).late late → IsCommit s e late
commit_from_lates s e late all =
    let both = to_lates (body_of s e).world (body_of s e).late late all in
    record { ends = both.1; late_fits = both.0 }

-- and the other way round
pub ended_from : (s : State) (e : Entry) (late : List LateEnd) → IsCommit s e late → AreEnded (body_of s e).world (body_of s e).late late
ended_from s e late so = from_lates (body_of s e).world (body_of s e).late late (so.late_fits, so.ends)

-- ---- after a commit
-- what is known of an entry of a started job that committed
pub after_commit : (c : Course) (e : Entry) (f : Standing) (late : List LateEnd) → standing_of c e ≡ Some f → e.outcome ≡ Committed late
    → after_course c e ≡ record (course_commit c f e late) { entered = c.entered + 1; words = words_behind c.words e.calls }
after_commit c e f late started outcome =
    ap (λ (o : Option Standing). record (course_standing c e o) { entered = c.entered + 1; words = words_left c.words e.calls e.outcome }) started
    ∙ ap (λ (x : Outcome). record (course_outcome c f e x) { entered = c.entered + 1; words = words_left c.words e.calls x }) outcome

-- where a journal led, by the parts that the code has
abbrev pub course_of : World → List (List Place) → List Standing → ℕ → Course
course_of w hs js n = record { state = record { world = w; handles = hs }; jobs = js; entered = n; words = w.words }

module _ (w : World) (hs : List (List Place)) (js : List Standing) (n : ℕ) (e : Entry) (late : List LateEnd) where
  -- the blocks of the jobs that it started
  abbrev pub started_here : List (List ℕ)
  started_here = started_blocks (kept_calls e.calls e.replies) late

  -- its private state at its begin
  abbrev pub me_at : Private
  me_at = private_of (record { world = w; handles = hs }) e.job

  -- what the code has after it
  pub record StandsCommitted (m : Private) (x : World) (handles : List (List Place)) (jobs : List Standing) : Type 0 where
    pub me_is : m ≡ (body w me_at e.tx (asked_of e.calls e.replies)).me
    pub world_is : x ≡ led_by (body w me_at e.tx (asked_of e.calls e.replies)).world (body w me_at e.tx (asked_of e.calls e.replies)).late late
    pub handles_are : handles ≡ slice_set hs (e.job - 1) m.places ++ replicate (length started_here) m.places
    pub jobs_are : (f : Standing) → slice_get js (e.job - 1) ≡ Some f
        → jobs ≡ slice_set js (e.job - 1) (standing_anew f.block (n + 1)) ++ map (λ block. standing_anew block (n + 1)) started_here

  -- that is what the entry leads to
  pub commit_led : (m : Private) (x : World) (handles : List (List Place)) (jobs : List Standing) → StandsCommitted m x handles jobs
      → IsInSomeTurn (course_of w hs js n) e → e.outcome ≡ Committed late → IsPlayedBody (record { world = w; handles = hs }) e
      → IsCommit (record { world = w; handles = hs }) e late → course_of x handles jobs (n + 1) ≡ after_course (course_of w hs js n) e
  commit_led m x handles jobs has numbered outcome played ended =
      let s : State = record { world = w; handles = hs } in
      let c : Course = course_of w hs js n in
      let f = numbered.standing in
      let r = body w me_at e.tx (asked_of e.calls e.replies) in
      let world : x ≡ (run_of s e late).late.world = has.world_is ∙ led_to r.world r.late late (ended_from s e late ended) in
      let words : x.words ≡ words_behind w.words e.calls =
      ap (λ (v : World). v.words) world ∙ lates_words r.world (late_asked_of r.late late)
      ∙ body_words w me_at e.tx e.calls e.replies (replayed_from s e played) in
      let places : handles ≡ slice_set hs (e.job - 1) r.me.places ++ replicate (length started_here) r.me.places =
      has.handles_are ∙ ap (λ (q : Private). slice_set hs (e.job - 1) q.places ++ replicate (length started_here) q.places) has.me_is in
      let jobs_now = has.jobs_are f numbered.in_turn.started in
      (λ i. record { state = record { world = world i; handles = places i }; jobs = jobs_now i; entered = n + 1; words = words i })
      ∙ sym (after_commit c e f late numbered.in_turn.started outcome)

  -- the same of what the code has of the entry and of the place of its job
  pub has_committed : (calls : List Call) (replies : List Reply) (m : Private) (x : World) (handles : List (List Place)) (jobs : List Standing)
      (started : List (List ℕ)) (at count : ℕ) → IsLedOn x m (body_of (record { world = w; handles = hs }) e) late → calls ≡ e.calls
      → replies ≡ e.replies → at ≡ e.job - 1 → started ≡ started_blocks (kept_calls calls replies) late → count ≡ length started
      → handles ≡ slice_set hs at m.places ++ replicate count m.places
      → ((f : Standing) → slice_get js at ≡ Some f
      → jobs ≡ slice_set js at (standing_anew f.block (n + 1)) ++ map (λ block. standing_anew block (n + 1)) started)
      → StandsCommitted m x handles jobs
  has_committed calls replies m x handles jobs started at count so calls_are replies_are place started_is count_is handles_are jobs_are =
      let began : started ≡ started_here = started_is ∙ (λ i. started_blocks (kept_calls (calls_are i) (replies_are i)) late) in
      let places = m.places in
      record {
        me_is = so.me_is;
        world_is = so.world_is;
        handles_are = handles_are ∙ (λ i. slice_set hs (place i) places ++ replicate ((count_is ∙ ap length began) i) places);
        jobs_are = λ f there.
            jobs_are f (ap (slice_get js) place ∙ there)
            ∙ (λ i. slice_set js (place i) (standing_anew f.block (n + 1)) ++ map (λ block. standing_anew block (n + 1)) (began i));
      }

-- ---- open to other numbers
-- a body and late calls that led on from it leave others sound
pub led_others : (s : State) (e : Entry) (late : List LateEnd) (x : World) (m you : Private) (ty : ℕ) → IsSound s.world (private_of s e.job) e.tx
    → IsPlayedBody s e → IsLedOn x m (body_of s e) late → (ty ≢ e.tx) → IsSound s.world you ty → IsSound x you ty
led_others s e late x m you ty sound played so apart before =
    so.sound you ty
    (body-others_sound s.world (private_of s e.job) you e.tx ty (asked_of e.calls e.replies) sound played.fits before apart)

-- and its own private state too
pub led_own : (s : State) (e : Entry) (late : List LateEnd) (x : World) (m : Private) → IsSound s.world (private_of s e.job) e.tx → IsPlayedBody s e
    → IsLedOn x m (body_of s e) late → IsSound x m e.tx
led_own s e late x m sound played so =
    subst (λ (me : Private). IsSound x me e.tx) (sym so.me_is)
    (so.sound (body_of s e).me e.tx (body-sound s.world (private_of s e.job) e.tx (asked_of e.calls e.replies) sound played.fits))

-- as many handles as jobs
pub as_many_jobs : (hs handles : List (List Place)) (js changed jobs : List Standing) (p : List Place) (at count since : ℕ) (f : Standing)
    (started : List (List ℕ)) → length hs ≡ length js → handles ≡ slice_set hs at p ++ replicate count p → changed ≡ slice_set js at f
    → jobs ≡ changed ++ map (λ block. standing_anew block since) started → count ≡ length started → length handles ≡ length jobs
as_many_jobs hs handles js changed jobs p at count since f started same handles_are changed_is jobs_are count_is =
    let anew : List ℕ → Standing = λ block. standing_anew block since in
    let a = ap length handles_are ∙ length-append (slice_set hs at p) (replicate count p) in
    let b = length-set hs at p in
    let c = length-replicate count p in
    let d = ap length jobs_are ∙ length-append changed (map anew started) in
    let g = ap length changed_is ∙ length-set js at f in
    let h = length-map started anew in
    omega (arith, same, a, b, c, d, g, h, count_is)

-- ---- before the first entry
-- what the code has is where a journal begins
pub opened_course : (outline : Outline) (w : World) (hs : List (List Place)) (js : List Standing) → w ≡ opening outline
    → hs ≡ replicate (length outline.jobs) (opening_handles outline) → js ≡ map (λ name. standing_anew name 0) outline.jobs
    → course_of w hs js 0 ≡ opening_course outline
opened_course outline w hs js world handles jobs =
    let words : w.words ≡ outline.words = ap (λ (v : World). v.words) world ∙ opening_words (bare_world outline) 0 outline.prologue.objects in
    λ i. record { state = record { world = world i; handles = handles i }; jobs = jobs i; entered = 0; words = words i }
