-- The lines of a true end are false for no reason.
use Rattle.std.proofs.Common.{◌≡◌, ◌∙◌, ◌&&◌, not, inl, inr, ℕ, suc, List, [], ◌∷◌, ◌++◌, length, map, refl, ap, sym, subst}
use Rattle.std.specs.List.{AllByRecursion}
use Rattle.std.specs.Prelude.{All, Bool, true, false, IsPermutation}
use Rattle.std.proofs.lemmas.List.{length-map}
use Rattle.std.proofs.lemmas.List.Elements.{All-from_recursion}
use Rattle.xc_asked.specs.Walking.{last_told}
use Rattle.xc_data.specs.declared.call.Call.{Call}
use Rattle.xc_data.specs.declared.call.Reply.{Reply}
use Rattle.xc_data.specs.declared.entry.Entry.{Entry}
use Rattle.xc_data.specs.declared.entry.JobLine.{JobLine}
use Rattle.xc_data.specs.declared.entry.KeptItem.{KeptItem}
use Rattle.xc_alike.proofs.Laws.{totals_alike}
use Rattle.xc_grounds.specs.Groundless.{IsFirstGroundless}
use Rattle.xc_grounds.specs.Numbered.{AreNumbered, entry_begins}
use Rattle.xc_grounds.proofs.Laws.{are_numbered}
use Rattle.xc_judge.specs.Judged.{telling_terms as telling_rules}
use Rattle.xc_judge.specs.Stepped.{MeetsSo}
use Rattle.xc_judge.specs.declared.reason.Reason.{Reason}
use Rattle.xc_judge.specs.declared.reason.Reason.TheVariants as reason
use Rattle.xc_model.specs.Asked.{AreAskedBy, IsAskedEntry, ScriptJob, opening_jobs, script_job_of}
use Rattle.xc_model.specs.Course.{Course, after_course, opening_course}
use Rattle.xc_model.specs.Grounds.{AreGrounded, Part, scene_of}
use Rattle.xc_model.specs.Live.{has_clients}
use Rattle.xc_model.specs.Machine.{AreMachineTrue, BeginInOrder, IsMachineTrue, Terms, counting, machine_parts, numbers_of}
use Rattle.xc_model.specs.Progress.{Following, progress_of}
use Rattle.xc_model.specs.Setting.{Setting}
use Rattle.xc_model.specs.Stories.{entry_begin}
use Rattle.xc_model.specs.Truth.{terms_of}
use Rattle.xc_model.specs.WordCalls.{AreWordRepliesFrom, WordState, begin_words, word_step}
use Rattle.xc_print.specs.Kept.{joined}
use Rattle.xc_print.specs.Totals.{totals_of}
use Rattle.xc_script.specs.declared.ask.Ask.{Ask}
use Rattle.xc_sheet.specs.Ends.{line_of_totals, lines_of_jobs, lines_of_kept, lines_of_words}
use Rattle.xc_sheet.specs.declared.lines.Line.{Line}
use Rattle.xc_shown.specs.Shown.{IsReplied, bare, shown_of, tail_lines}
use Rattle.xc_shown.specs.declared.shown.Shown.{Shown}
use Rattle.xc_tail.specs.Tails.{IsTail, Led}
use Rattle.xc_text.specs.declared.script.Script.{Script}
use Rattle.xc_turns.proofs.Laws.{script_job_in, standing_in}
use Rattle.xc_check.specs.Fronts.{are_calls_known, begins_shown, course_behind, last_behind, journal_led, parts_of, script_behind}
use Rattle.xc_check.specs.Refusals.{IsFalseEntry, IsFalseGround, IsFalseIn, IsFalseTail, MeetsBehind, MeetsSoBehind}
use Rattle.xc_check.specs.TrueTexts.{IsTrueAsPrinted, IsTrueBy}
use Rattle.xc_check.specs.Untold.{basis_of, is_untold, lacked_memory, looks_at_last}
use Rattle.xc_check.specs.Verdicts.{IsAccepting, IsVerdictIn}
use Rattle.xc_check.specs.declared.verdict.CheckWhy.{CheckWhy}
use Rattle.xc_check.specs.declared.verdict.CheckWhy.TheVariants as why
use Rattle.xc_check.specs.declared.verdict.Verdict.{Verdict}
use Rattle.xc_check.specs.declared.verdict.Verdict.TheVariants.{Yes, No, Untold}
use Rattle.xc_check.proofs.Bare.{asked_with_records}
use Rattle.xc_check.proofs.Clients.{lacked_bare, last_bare, told_asked, told_meets}
use Rattle.xc_check.proofs.Fronts.{lasts_are, terms_tell, true_cut}
use Rattle.xc_check.proofs.Led.{course_is, jobs_are}
use Rattle.xc_check.proofs.Forgotten.{grounded_told}
use Rattle.xc_check.proofs.Stepping.{begins_are, begins_shown_with, numbered_to_one}
use Rattle.xc_check.proofs.Truths.{courses_alike, heads_same, parts_alike, scripts_alike, tails_alike}

-- ---- a journal cut at an entry that is shown so
-- the entry, and those before it
record IsCutAt (journal : List Entry) (before : List Shown) (shown : Shown) : Type 0 where
  front : List Entry
  entry : Entry
  behind : List Entry
  parts : journal ≡ front ++ entry ∷ behind
  fronted : map shown_of front ≡ before
  shows : shown_of entry ≡ shown

-- a journal that is shown in parts has these parts
cut_shown : (journal : List Entry) (before : List Shown) (shown : Shown) (behind : List Shown) → map shown_of journal ≡ before ++ shown ∷ behind
    → IsCutAt journal before shown
cut_shown [] [] shown behind h = cc
cut_shown [] (x ∷ before) shown behind h = cc
cut_shown (e ∷ journal) [] shown behind h =
    record {
      front = [];
      entry = e;
      behind = journal;
      parts = refl;
      fronted = refl;
      shows = heads_same (shown_of e) shown (map shown_of journal) behind h;
    }
cut_shown (e ∷ journal) (x ∷ before) shown behind h =
    let rest = cut_shown journal before shown behind (tails_alike (shown_of e) x (map shown_of journal) (before ++ shown ∷ behind) h) in
    let first : shown_of e ≡ x = heads_same (shown_of e) x (map shown_of journal) (before ++ shown ∷ behind) h in
    record {
      front = e ∷ rest.front;
      entry = rest.entry;
      behind = rest.behind;
      parts = ap (λ xs. e ∷ xs) rest.parts;
      fronted = (λ i. first i ∷ rest.fronted i);
      shows = rest.shows;
    }

-- ---- behind two fronts that are shown alike
-- the script asked an entry that is shown so behind a front
abbrev IsAskedBehind : Setting → List Entry → Shown → Type 0
IsAskedBehind s front shown = IsAskedEntry s.script (script_behind s.script front) (last_behind s.script front shown.entry) shown.entry

module _ (s : Setting) (front other : List Entry) (alike : map shown_of front ≡ map shown_of other) (shown : Shown) where
  -- the script's jobs stand alike
  scripts_same : script_behind s.script front ≡ script_behind s.script other
  scripts_same = scripts_alike s.script front other (opening_jobs s.script) alike

  -- so the same was asked last of an entry
  lasts_same : last_behind s.script front shown.entry ≡ last_behind s.script other shown.entry
  lasts_same = ap (λ (jobs : List ScriptJob). last_told s.script (script_job_of jobs shown.entry) shown.entry) scripts_same

  -- what meets a reason by the machine behind the one meets it behind the other
  meets_too : (r : Reason) → MeetsSoBehind s front shown r → MeetsSoBehind s other shown r
  meets_too r h =
      subst (λ (last : Ask). MeetsSo (basis_of s) (course_behind s.script other) last shown r) lasts_same
      (subst (λ (c : Course). MeetsSo (basis_of s) c (last_behind s.script front shown.entry) shown r)
      (courses_alike front other (opening_course s.script.outline) alike) h)

  -- what was asked behind the one was asked behind the other
  asked_too : IsAskedBehind s front shown → IsAskedBehind s other shown
  asked_too h =
      subst (λ (last : Ask). IsAskedEntry s.script (script_behind s.script other) last shown.entry) lasts_same
      (subst (λ (jobs : List ScriptJob). IsAskedEntry s.script jobs (last_behind s.script front shown.entry) shown.entry) scripts_same h)

-- what goes on in order, meets a reason by the machine and was asked meets it
meets_all : (s : Setting) (count : ℕ) (front : List Entry) (shown : Shown) → AreNumbered count (entry_begins front ++ entry_begin shown.entry ∷ [])
    → IsAskedBehind s front shown → (r : Reason) → MeetsSoBehind s front shown r → MeetsBehind s count front shown r
meets_all s count front shown numbered asked reason.Numbers meets = (numbered, meets)
meets_all s count front shown numbered asked reason.Reply meets = meets
meets_all s count front shown numbered asked reason.Late meets = meets
meets_all s count front shown numbered asked reason.Records meets = meets
meets_all s count front shown numbered asked reason.Held meets = meets
meets_all s count front shown numbered asked reason.Story meets = (meets, asked)

-- ---- a true journal, over any host
-- each call has its reply, as calls on words have
replied_to : (state : WordState) (calls : List Call) (replies : List Reply) → AreWordRepliesFrom state calls replies → length calls ≡ length replies
replied_to state [] replies h = sym (ap length h)
replied_to state (call ∷ calls) [] h = absurd h
replied_to state (call ∷ calls) (reply ∷ replies) h = ap suc (replied_to (word_step state call) calls replies h.1)

all_replied : (t : Terms) (c : Course) (lasts : List Ask) (journal : List Entry) → AreMachineTrue t c lasts journal → AllByRecursion IsReplied journal
all_replied t c lasts [] h = tt
all_replied t c [] (e ∷ journal) h = absurd h
all_replied t c (last ∷ lasts) (e ∷ journal) h =
    (replied_to (begin_words c.words) e.calls e.replies h.0.entry.replies.words, all_replied t (after_course c e) lasts journal h.1)

-- ---- a true journal, over a host that tells
-- a journal of a script or of clients is true with what was asked last, and its conflicts and revocations with what is told
record IsToldTrue (s : Setting) (journal : List Entry) : Type 0 where
  lasts : List Ask
  machine : AreMachineTrue (terms_of s) (opening_course s.script.outline) lasts journal
  numbers : IsPermutation (numbers_of journal) (counting 1 (length journal))
  begins : BeginInOrder journal
  asked : AreAskedBy s.script (opening_jobs s.script) lasts journal
  grounded : AreGrounded (scene_of (are_calls_known s) (parts_of s.script journal) [])

told_true : (s : Setting) (journal : List Entry) → s.tells ≡ true → IsTrueBy (has_clients s.script) s journal → IsToldTrue s journal
told_true s journal tells all = go (has_clients s.script) refl all
  where
    known : (b : Bool) → has_clients s.script ≡ b → are_calls_known s ≡ not b
    known b is = (λ i. tells i && not (is i))

    go : (b : Bool) → has_clients s.script ≡ b → IsTrueBy b s journal → IsToldTrue s journal
    go true is h =
        record {
          lasts = h.lasts;
          machine = h.machine.entries;
          numbers = h.machine.numbers;
          begins = h.machine.begins;
          asked = h.asked;
          grounded = subst (λ k. AreGrounded (scene_of k (parts_of s.script journal) [])) (sym (known true is))
              (grounded_told (terms_of s) s.script (opening_course s.script.outline) (opening_jobs s.script) h.lasts journal h.machine.entries
              h.machine.grounded);
        }
    go false is h =
        record {
          lasts = h.lasts;
          machine = h.machine.entries;
          numbers = h.machine.numbers;
          begins = h.machine.begins;
          asked = h.asked;
          grounded = subst (λ k. AreGrounded (scene_of k (parts_of s.script journal) [])) (tells ∙ sym (known false is))
              (subst (λ (lasts : List Ask). AreGrounded (scene_of s.tells (machine_parts (opening_course s.script.outline) lasts journal) []))
              (lasts_are s.script (opening_jobs s.script) h.lasts journal is h.asked) h.machine.grounded);
        }

-- each call of a true journal has its reply
pub each_replied : (s : Setting) (journal : List Entry) → s.tells ≡ true → IsTrueBy (has_clients s.script) s journal → All IsReplied journal
each_replied s journal tells all =
    let h = told_true s journal tells all in
    All-from_recursion IsReplied journal (all_replied (terms_of s) (opening_course s.script.outline) h.lasts journal h.machine)

module _ (s : Setting) (journal : List Entry) (tells : s.tells ≡ true) (h : IsToldTrue s journal) where
  -- its numbers go on in order, as they are shown
  numbered_so : AreNumbered (length (map shown_of journal)) (begins_shown (map shown_of journal))
  numbered_so =
      subst (λ bs. AreNumbered (length (map shown_of journal)) bs) (begins_are journal)
      (subst (λ n. AreNumbered n (entry_begins journal)) (sym (length-map journal shown_of))
      (are_numbered journal h.numbers h.begins))

  -- ---- one of its entries, behind its front
  module _ (front : List Entry) (e : Entry) (behind : List Entry) (parts : journal ≡ front ++ e ∷ behind) where
    -- it is true, and was asked, with what was asked last
    there_so : (last : Ask) × IsMachineTrue (terms_of s) (course_behind s.script front) last e
        × IsAskedEntry s.script (script_behind s.script front) last e
    there_so =
        true_cut s.script e (terms_of s) (opening_course s.script.outline) (opening_jobs s.script) h.lasts front behind
        (subst (λ (es : List Entry). AreMachineTrue (terms_of s) (opening_course s.script.outline) h.lasts es) parts h.machine)
        (subst (λ (es : List Entry). AreAskedBy s.script (opening_jobs s.script) h.lasts es) parts h.asked)

    -- as it is shown, what is told of it is what was asked last
    bare_last : last_behind s.script front e ≡ last_behind s.script front (bare e)
    bare_last = sym (last_bare s.script (script_job_of (script_behind s.script front) e) e)

    -- so it meets each reason of which its text tells
    meets_there : (r : Reason) → is_untold s (bare e) r ≡ false → MeetsSoBehind s front (shown_of e) r
    meets_there r told =
        let there = there_so in
        let machine : IsMachineTrue (telling_rules (basis_of s)) (course_behind s.script front) there.0 e =
        subst (λ (t : Terms). IsMachineTrue t (course_behind s.script front) there.0 e) (terms_tell s tells) there.1 in
        let left : is_untold s e r ≡ false =
        ap (λ b. has_clients s.script && (b && looks_at_last r)) (sym (lacked_bare e)) ∙ told in
        subst (λ (x : Ask). MeetsSo (basis_of s) (course_behind s.script front) x (shown_of e) r) bare_last
        (told_meets (basis_of s) (course_behind s.script front) e s.script (script_behind s.script front) there.0 machine there.2 r left)

    -- and the script asked it
    shown_there : IsAskedBehind s front (shown_of e)
    shown_there =
        let there = there_so in
        subst (λ (x : Ask). IsAskedEntry s.script (script_behind s.script front) x (bare e)) bare_last
        (asked_with_records e s.script (script_behind s.script front) (last_behind s.script front e)
        (told_asked s.script (script_behind s.script front) there.0 e there.2))

  -- no entry of it is false
  none_refused : (line : ℕ) (r : Reason) → IsFalseEntry s (map shown_of journal) line r → ⊥
  none_refused line r entry =
      let count = length (map shown_of journal) in
      let at = entry.refused in
      let other = at.refused.front in
      let cut = cut_shown journal at.before at.shown at.behind at.parts in
      let alike : map shown_of cut.front ≡ map shown_of other = cut.fronted ∙ sym at.refused.shows in
      let numbered : AreNumbered count (entry_begins other ++ entry_begin at.shown.entry ∷ []) =
      subst (λ bs. AreNumbered count bs) (begins_shown_with other at.before at.shown at.refused.shows)
      (numbered_to_one count at.before at.shown at.behind (subst (λ xs. AreNumbered count (begins_shown xs)) at.parts numbered_so)) in
      let meets : MeetsSoBehind s cut.front at.shown r =
      subst (λ (x : Shown). is_untold s x.entry r ≡ false → MeetsSoBehind s cut.front x r) cut.shows
      (meets_there cut.front cut.entry cut.behind cut.parts r) entry.told in
      let asked : IsAskedBehind s cut.front at.shown =
      subst (λ (x : Shown). IsAskedBehind s cut.front x) cut.shows (shown_there cut.front cut.entry cut.behind cut.parts) in
      at.refused.refused.fails (meets_all s count other at.shown numbered (asked_too s cut.front other alike at.shown asked) r
      (meets_too s cut.front other alike at.shown r meets))

  -- no conflict or revocation of it is groundless
  none_groundless : (line : ℕ) → IsFalseGround s (map shown_of journal) line → ⊥
  none_groundless line found =
      let same : parts_of s.script found.journal ≡ parts_of s.script journal =
      parts_alike s.script found.journal journal (opening_course s.script.outline) (opening_jobs s.script) found.shows in
      let first : IsFirstGroundless (are_calls_known s) (parts_of s.script journal) found.place =
      subst (λ (parts : List Part). IsFirstGroundless (are_calls_known s) parts found.place) same found.groundless in
      first.groundless (h.grounded.entries found.place first.part first.at)

-- ---- where journals that are shown alike led
-- jobs are what the machine tells of them, and what the script does
jobs_by_halves : (fs gs : List Following) → map standing_in fs ≡ map standing_in gs → map script_job_in fs ≡ map script_job_in gs → fs ≡ gs
jobs_by_halves [] [] told asked = refl
jobs_by_halves [] (g ∷ gs) told asked = cc
jobs_by_halves (f ∷ fs) [] told asked = cc
jobs_by_halves (f ∷ fs) (g ∷ gs) told asked =
    let standing : standing_in f ≡ standing_in g = heads_same (standing_in f) (standing_in g) (map standing_in fs) (map standing_in gs) told in
    let job : script_job_in f ≡ script_job_in g = heads_same (script_job_in f) (script_job_in g) (map script_job_in fs) (map script_job_in gs) asked in
    let more = jobs_by_halves fs gs (tails_alike (standing_in f) (standing_in g) (map standing_in fs) (map standing_in gs) told)
    (tails_alike (script_job_in f) (script_job_in g) (map script_job_in fs) (map script_job_in gs) asked) in
    (λ i. record {
      block = (standing i).block;
      job = (job i).job;
      first = (standing i).first;
      failed = (standing i).failed;
      starved = (standing i).starved;
      since = (standing i).since;
    } ∷ more i)

-- journals that are shown alike led alike
led_alike : (script : Script) (journal other : List Entry) → map shown_of journal ≡ map shown_of other → journal_led script journal ≡ journal_led script other
led_alike script journal other alike =
    let count : length journal ≡ length other = sym (length-map journal shown_of) ∙ ap length alike ∙ length-map other shown_of in
    let course = sym (course_is script journal) ∙ courses_alike journal other (opening_course script.outline) alike ∙ course_is script other in
    let asked = sym (jobs_are script journal) ∙ scripts_alike script journal other (opening_jobs script) alike ∙ jobs_are script other in
    let jobs = jobs_by_halves (progress_of script journal).jobs (progress_of script other).jobs (ap (λ (c : Course). c.jobs) course) asked in
    let totals = totals_alike journal other alike in
    (λ i. record { entries = count i; jobs = jobs i; world = (course i).state.world; totals = totals i })

-- ---- a true end, over a host that tells
module _ (s : Setting) (journal : List Entry) (jobs : List JobLine) (words : List ℕ) (kept : List KeptItem) (tells : s.tells ≡ true)
    (h : IsTrueAsPrinted s journal jobs words kept) where
  -- the lines behind its entries are those of an end to which it leads
  tail_so : IsTail s (journal_led s.script journal) (tail_lines journal jobs words kept)
  tail_so =
      record {
        job_lines = jobs;
        kept = kept;
        shown = ap (λ (ws : List ℕ). lines_of_jobs 1 jobs
            ++ (lines_of_words 0 ws ++ (lines_of_kept (joined kept) ++ line_of_totals (totals_of journal) ∷ []))) h.words_are;
        ends = h.ends;
        front = h.front;
      }

  -- so the lines aren't a false tail
  none_untailed : (line : ℕ) → IsFalseTail s (map shown_of journal) (tail_lines journal jobs words kept) line → ⊥
  none_untailed line found =
      found.fails (subst (λ (led : Led). IsTail s led (tail_lines journal jobs words kept))
      (led_alike s.script journal found.journal (sym found.shows)) tail_so)

  -- a true end that is shown so is false for no reason
  pub is_not_false : (line : ℕ) (r : CheckWhy) → IsFalseIn s (map shown_of journal) (tail_lines journal jobs words kept) line r → ⊥
  is_not_false line (why.Entry r) found = none_refused s journal tells (told_true s journal tells h.is_true) line r found
  is_not_false line why.Grounds found = none_groundless s journal tells (told_true s journal tells h.is_true) line found
  is_not_false line why.Tail found = none_untailed line found
  is_not_false line why.TooLong found = found
  is_not_false line why.Script found = found
  is_not_false line why.Form found = found

  -- so the verdict on its lines is not no, and of a script it is yes
  says_so : (b : Bool) → has_clients s.script ≡ b → (v : Verdict) → IsVerdictIn s (map shown_of journal) (tail_lines journal jobs words kept) v
      → IsAccepting b v
  says_so true is Yes so = inl refl
  says_so true is (No line why) so = absurd (is_not_false line why so)
  says_so true is (Untold line) so = inr (line, refl)
  says_so false is Yes so = refl
  says_so false is (No line why) so = absurd (is_not_false line why so)
  says_so false is (Untold line) so =
      let wrong : false ≡ true =
      ap (λ b. b && (lacked_memory so.refused.shown.entry.outcome && looks_at_last so.reason)) (sym is) ∙ so.untold in
      cc wrong

  -- also where a text was parted into these
  pub says_so_of : (entries : List Shown) (tail : List Line) (v : Verdict) → map shown_of journal ≡ entries → tail ≡ tail_lines journal jobs words kept
      → IsVerdictIn s entries tail v → IsAccepting (has_clients s.script) v
  says_so_of entries tail v shows behind so =
      says_so (has_clients s.script) refl v (subst (λ (lines : List Line). IsVerdictIn s (map shown_of journal) lines v) behind
      (subst (λ (es : List Shown). IsVerdictIn s es tail v) (sym shows) so))
