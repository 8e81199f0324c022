-- From a journal that is true of both parts at once to the two parts, and back.
use Rattle.std.proofs.Common.{◌≡◌, List, [], ◌∷◌, map, refl, ap, ap₂, sym, ◌∙◌, subst}
use Rattle.std.specs.Prelude.{Option, option_map, IsTrue}
use Rattle.std.specs.declared.option.Option.TheVariants.{None, Some}
use Rattle.xc_data.specs.declared.entry.Entry.{Entry}
use Rattle.xc_data.specs.declared.entry.Outcome.{Outcome}
use Rattle.xc_data.specs.declared.entry.Outcome.TheVariants.{Committed, Aborted}
use Rattle.xc_script.specs.declared.ask.Ask.{Ask}
use Rattle.xc_model.specs.Asked.{AreAskedBy, IsAskedBy, IsAskedEntry, ScriptJob, StartsJobs, last_asked, lasts_from, lasts_of}
use Rattle.xc_model.specs.Asked.{script_job_of}
use Rattle.xc_model.specs.Course.{Course, Standing, opening_course}
use Rattle.xc_model.specs.Grounds.{Part, AreGrounded, scene_of}
use Rattle.xc_model.specs.Joint.{AreTrue, IsAskedFor, IsEntry, IsJointJournal, IsPlayedOutcome, IsTrueEntry, entry_parts}
use Rattle.xc_model.specs.Joint.{part_of, parts_from}
use Rattle.xc_model.specs.Live.{IsScripted}
use Rattle.xc_model.specs.Machine.{AreMachineTrue, HasLates, HasRecordsOf, IsEndAsked, IsMachineEntry, IsMachineTrue}
use Rattle.xc_model.specs.Machine.{machine_parts}
use Rattle.xc_model.specs.Progress.{Following, Progress, after_entry, following_of, opening_progress}
use Rattle.xc_model.specs.Setting.{Setting}
use Rattle.xc_model.specs.Truth.{IsTrueJournal, terms_of}
use Rattle.xc_turns.proofs.Halves.{course_in, course_more, course_opened, jobs_in, jobs_more, jobs_opened, map_twice, script_job_in, script_job_there}
use Rattle.xc_turns.proofs.Halves.{standing_in, standing_there}

-- ---- one entry, to its two parts
module _ (s : Setting) (p : Progress) (e : Entry) (next : Ask) where
  lates_part : (o : Outcome) → IsAskedFor s.rules.undo_tries e next o → (IsTrue s.tells → IsPlayedOutcome p next e o)
      → HasLates (terms_of s) (course_in p) e o
  lates_part (Committed late) asked played = record { count = asked.1; played = played }
  lates_part (Aborted report) asked played = tt

  records_part : (o : Outcome) → IsAskedFor s.rules.undo_tries e next o → (IsTrue s.tells → IsPlayedOutcome p next e o)
      → HasRecordsOf (terms_of s) (course_in p) next e o
  records_part (Committed late) asked played = tt
  records_part (Aborted report) asked played = record { counted = asked.1; played = played }

  asked_part : (o : Outcome) → IsAskedFor s.rules.undo_tries e next o → IsEndAsked next e o
  asked_part (Committed late) asked = asked.0
  asked_part (Aborted report) asked = asked.0

machine_entry : (s : Setting) (p : Progress) (f : Following) (last : Ask) (e : Entry) → IsEntry s p f last e
    → IsMachineEntry (terms_of s) (course_in p) last (standing_in f) e
machine_entry s p f last e h =
    let story = h.story in
    record {
      numbers = record { since = story.since; began = story.began };
      story = record {
        goes_on = story.goes_on;
        rank = story.rank;
        failures = story.failures;
      };
      replies = record {
        words = h.words;
        in_time = h.in_time;
        faults = story.faults;
        played = λ tells. record { fits = (h.played tells).fits; replies = (h.played tells).replies };
      };
      lates = lates_part s p e last e.outcome story.asked (λ tells. (h.played tells).outcome);
      records = records_part s p e last e.outcome story.asked (λ tells. (h.played tells).outcome);
      held = λ tells. (h.played tells).held;
      asked = asked_part s p e last e.outcome story.asked;
    }

blocks_same : (p : Progress) → map (λ (j : ScriptJob). j.block) (jobs_in p) ≡ map (λ (f : Following). f.block) p.jobs
blocks_same p = map_twice (λ (j : ScriptJob). j.block) script_job_in p.jobs

-- the machine's part
machine_true : (s : Setting) (p : Progress) (last : Ask) (e : Entry) → IsTrueEntry s p last e → IsMachineTrue (terms_of s) (course_in p) last e
machine_true s p last e one =
    record {
      standing = standing_in one.following;
      numbered = one.numbered;
      started = standing_there p e ∙ ap (option_map standing_in) one.started;
      entry = machine_entry s p one.following last e one.entry;
    }

-- the script's part
asked_entry : (s : Setting) (p : Progress) (last : Ask) (e : Entry) → IsTrueEntry s p last e → IsAskedEntry s.script (jobs_in p) last e
asked_entry s p last e one =
    let h = one.entry in
    record {
      asking = script_job_in one.following;
      started = script_job_there p e ∙ ap (option_map script_job_in) one.started;
      asked = record { left = h.story.left; scripted = h.story.scripted };
      starts = subst (λ blocks. StartsJobs s.script blocks e e.outcome) (sym (blocks_same p)) h.starts;
    }

-- ---- each entry, to its two parts
machine_all : (s : Setting) (p : Progress) (lasts : List Ask) (journal : List Entry) → AreTrue s p lasts journal
    → AreMachineTrue (terms_of s) (course_in p) lasts journal
machine_all s p lasts [] h = h
machine_all s p [] (e ∷ journal) h = absurd h
machine_all s p (last ∷ lasts) (e ∷ journal) h = (
  machine_true s p last e h.0,
  subst (λ (c : Course). AreMachineTrue (terms_of s) c lasts journal) (course_more s.script p e)
      (machine_all s (after_entry s.script p e) lasts journal h.1),
)

asked_all : (s : Setting) (p : Progress) (lasts : List Ask) (journal : List Entry) → AreTrue s p lasts journal
    → AreAskedBy s.script (jobs_in p) lasts journal
asked_all s p lasts [] h = h
asked_all s p [] (e ∷ journal) h = absurd h
asked_all s p (last ∷ lasts) (e ∷ journal) h = (
  asked_entry s p last e h.0,
  subst (λ (js : List ScriptJob). AreAskedBy s.script js lasts journal) (jobs_more s.script p e)
      (asked_all s (after_entry s.script p e) lasts journal h.1),
)

-- both judge conflicts by the same
parts_same_from : (s : Setting) (p : Progress) (lasts : List Ask) (journal : List Entry)
    → parts_from s p lasts journal ≡ machine_parts (course_in p) lasts journal
parts_same_from s p lasts [] = refl
parts_same_from s p [] (e ∷ journal) = refl
parts_same_from s p (last ∷ lasts) (e ∷ journal) =
    ap (λ (ps : List Part). part_of p last e ∷ ps)
    (parts_same_from s (after_entry s.script p e) lasts journal ∙ ap (λ (c : Course). machine_parts c lasts journal) (course_more s.script p e))

-- of a whole journal
pub parts_same : (s : Setting) (lasts : List Ask) (journal : List Entry)
    → entry_parts s lasts journal ≡ machine_parts (opening_course s.script.outline) lasts journal
parts_same s lasts journal =
    parts_same_from s (opening_progress s.script) lasts journal ∙ ap (λ (c : Course). machine_parts c lasts journal) (course_opened s.script)

-- ---- the script's own list
-- what it asked last of an entry is what it asks
last_is : (s : Setting) (p : Progress) (last : Ask) (e : Entry) → IsScripted s.script → IsTrueEntry s p last e
    → last ≡ last_asked s.script (script_job_of (jobs_in p) e) e.replies
last_is s p last e own one =
    (one.entry.story.scripted own).after
    ∙ ap (λ o. last_asked s.script o e.replies) (sym (script_job_there p e ∙ ap (option_map script_job_in) one.started))

lasts_are_from : (s : Setting) (p : Progress) (lasts : List Ask) (journal : List Entry) → IsScripted s.script → AreTrue s p lasts journal
    → lasts ≡ lasts_from s.script (jobs_in p) journal
lasts_are_from s p lasts [] own h = h
lasts_are_from s p [] (e ∷ journal) own h = absurd h
lasts_are_from s p (last ∷ lasts) (e ∷ journal) own h =
    let after = after_entry s.script p e in
    ap₂ (λ (x : Ask) (xs : List Ask). x ∷ xs) (last_is s p last e own h.0)
    (lasts_are_from s after lasts journal own h.1 ∙ ap (λ (js : List ScriptJob). lasts_from s.script js journal) (jobs_more s.script p e))

-- so of a true journal there is one list
pub lasts_are : (s : Setting) (lasts : List Ask) (journal : List Entry) → IsScripted s.script → AreTrue s (opening_progress s.script) lasts journal
    → lasts ≡ lasts_of s.script journal
lasts_are s lasts journal own h =
    lasts_are_from s (opening_progress s.script) lasts journal own h
    ∙ ap (λ (js : List ScriptJob). lasts_from s.script js journal) (jobs_opened s.script)

-- a journal that is true of both at once has both parts
pub parts_of_joint : (s : Setting) (journal : List Entry) → IsJointJournal s journal → IsTrueJournal s journal
parts_of_joint s journal h =
    let p = opening_progress s.script in
    record {
      lasts = h.lasts;
      machine = record {
        entries = subst (λ (c : Course). AreMachineTrue (terms_of s) c h.lasts journal) (course_opened s.script) (machine_all s p h.lasts journal h.entries);
        numbers = h.numbers;
        begins = h.begins;
        grounded = subst (λ (ps : List Part). AreGrounded (scene_of s.tells ps [])) (parts_same s h.lasts journal) h.grounded;
        handled = h.handled;
      };
      asked = subst (λ (js : List ScriptJob). AreAskedBy s.script js h.lasts journal) (jobs_opened s.script) (asked_all s p h.lasts journal h.entries);
    }

-- ---- and back
module _ (s : Setting) (p : Progress) (e : Entry) (last : Ask) where
  asked_back : (o : Outcome) → IsEndAsked last e o → HasLates (terms_of s) (course_in p) e o → HasRecordsOf (terms_of s) (course_in p) last e o
      → IsAskedFor s.rules.undo_tries e last o
  asked_back (Committed late) asked lates records = (asked, lates.count)
  asked_back (Aborted report) asked lates records = (asked, records.counted)

  outcome_back : (o : Outcome) → HasLates (terms_of s) (course_in p) e o → HasRecordsOf (terms_of s) (course_in p) last e o
      → IsTrue s.tells → IsPlayedOutcome p last e o
  outcome_back (Committed late) lates records tells = lates.played tells
  outcome_back (Aborted report) lates records tells = records.played tells

entry_back : (s : Setting) (p : Progress) (f : Following) (last : Ask) (e : Entry) → IsMachineEntry (terms_of s) (course_in p) last (standing_in f) e
    → IsAskedBy s.script f.job last e → StartsJobs s.script (map (λ (g : Following). g.block) p.jobs) e e.outcome → IsEntry s p f last e
entry_back s p f last e m a starts =
    record {
      story = record {
        goes_on = m.story.goes_on;
        left = a.left;
        since = m.numbers.since;
        began = m.numbers.began;
        rank = m.story.rank;
        failures = m.story.failures;
        scripted = a.scripted;
        asked = asked_back s p e last e.outcome m.asked m.lates m.records;
        faults = m.replies.faults;
      };
      words = m.replies.words;
      in_time = m.replies.in_time;
      starts = starts;
      played = λ tells. record {
        fits = (m.replies.played tells).fits;
        replies = (m.replies.played tells).replies;
        held = m.held tells;
        outcome = outcome_back s p e last e.outcome m.lates m.records tells;
      };
    }

-- the one job of which both parts are told
record Both (o : Option Following) (standing : Standing) (j : ScriptJob) : Type 0 where
  f : Following
  is : o ≡ Some f
  standing_is : standing_in f ≡ standing
  job_is : script_job_in f ≡ j

both : (o : Option Following) (standing : Standing) (j : ScriptJob) → option_map standing_in o ≡ Some standing → option_map script_job_in o ≡ Some j
    → Both o standing j
both None standing j a b = cc
both (Some f) standing j a b =
    let same_standing : standing_in f ≡ standing = cc in
    let same_job : script_job_in f ≡ j = cc in
    record { f = f; is = refl; standing_is = same_standing; job_is = same_job }

one_back : (s : Setting) (p : Progress) (last : Ask) (e : Entry) → IsMachineTrue (terms_of s) (course_in p) last e
    → IsAskedEntry s.script (jobs_in p) last e → IsTrueEntry s p last e
one_back s p last e m a =
    let b = both (following_of p e) m.standing a.asking (sym (standing_there p e) ∙ m.started) (sym (script_job_there p e) ∙ a.started) in
    record {
      following = b.f;
      numbered = m.numbered;
      started = b.is;
      entry = entry_back s p b.f last e
          (subst (λ (st : Standing). IsMachineEntry (terms_of s) (course_in p) last st e) (sym b.standing_is) m.entry)
          (subst (λ (j : ScriptJob). IsAskedBy s.script j.job last e) (sym b.job_is) a.asked)
          (subst (λ blocks. StartsJobs s.script blocks e e.outcome) (blocks_same p) a.starts);
    }

true_back : (s : Setting) (p : Progress) (lasts : List Ask) (journal : List Entry) → AreMachineTrue (terms_of s) (course_in p) lasts journal
    → AreAskedBy s.script (jobs_in p) lasts journal → AreTrue s p lasts journal
true_back s p lasts [] m a = m
true_back s p [] (e ∷ journal) m a = absurd m
true_back s p (last ∷ lasts) (e ∷ journal) m a = (
  one_back s p last e m.0 a.0,
  true_back s (after_entry s.script p e) lasts journal
      (subst (λ (c : Course). AreMachineTrue (terms_of s) c lasts journal) (sym (course_more s.script p e)) m.1)
      (subst (λ (js : List ScriptJob). AreAskedBy s.script js lasts journal) (sym (jobs_more s.script p e)) a.1),
)

-- both parts make a journal that is true of both at once
pub joint_of_parts : (s : Setting) (journal : List Entry) → IsTrueJournal s journal → IsJointJournal s journal
joint_of_parts s journal h =
    record {
      lasts = h.lasts;
      entries = true_back s (opening_progress s.script) h.lasts journal
          (subst (λ (c : Course). AreMachineTrue (terms_of s) c h.lasts journal) (sym (course_opened s.script)) h.machine.entries)
          (subst (λ (js : List ScriptJob). AreAskedBy s.script js h.lasts journal) (sym (jobs_opened s.script)) h.asked);
      numbers = h.machine.numbers;
      begins = h.machine.begins;
      grounded = subst (λ (ps : List Part). AreGrounded (scene_of s.tells ps [])) (sym (parts_same s h.lasts journal)) h.machine.grounded;
      handled = h.machine.handled;
    }
