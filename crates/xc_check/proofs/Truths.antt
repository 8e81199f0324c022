-- A true text has no first reason for which it is false; and what was found true is a true text.
use Rattle.std.proofs.Common.{◌≡◌, ◌∙◌, ◌&&◌, not, ℕ, Bool, true, false, List, [], ◌∷◌, ◌++◌, length, map, drop, get_or, refl, ap, sym, subst}
use Rattle.std.specs.List.{fold}
use Rattle.std.proofs.lemmas.List.{length-map}
use Rattle.xc_asked.specs.Walking.{last_told}
use Rattle.xc_data.specs.declared.entry.Entry.{Entry}
use Rattle.xc_alike.proofs.Laws.{course_alike, jobs_alike, part_alike}
use Rattle.xc_grounds.proofs.Laws.{are_counted}
use Rattle.xc_model.specs.Asked.{ScriptJob, after_jobs, script_job_of}
use Rattle.xc_model.specs.Course.{Course, after_course}
use Rattle.xc_model.specs.Grounds.{AreGrounded, scene_of}
use Rattle.xc_model.specs.Live.{has_clients}
use Rattle.xc_model.specs.Machine.{machine_part, machine_parts}
use Rattle.xc_model.specs.Progress.{progress_of}
use Rattle.xc_model.specs.Setting.{Setting}
use Rattle.xc_sheet.specs.Ends.{lines_of_entries}
use Rattle.xc_sheet.specs.Places.{lines_text}
use Rattle.xc_sheet.specs.declared.lines.Line.{Line}
use Rattle.xc_sheet.proofs.Laws.{text_is}
use Rattle.xc_shown.specs.Shown.{shown_lines, shown_of}
use Rattle.xc_shown.specs.declared.shown.Shown.{Shown}
use Rattle.xc_shown.proofs.Laws.{entries_show}
use Rattle.xc_text.specs.declared.script.Script.{Script}
use Rattle.xc_check.specs.Fronts.{IsTrueFront, are_calls_known, lasts_told, parts_of, told_from}
use Rattle.xc_check.specs.TrueTexts.{IsTrueBy, IsTrueText}
use Rattle.xc_check.specs.Verdicts.{IsTrueIn}
use Rattle.xc_check.proofs.Clients.{last_bare}

-- ---- what was found true
front_size : (s : Setting) (entries : List Shown) (tail : List Line) (h : IsTrueIn s entries tail) → length entries ≡ length h.journal
front_size s entries tail h = sym (ap length h.shows) ∙ length-map h.journal shown_of

-- a journal is true as its text tells it, of a script or of clients
true_by : (s : Setting) (journal : List Entry) → s.tells ≡ true → IsTrueFront s (length journal) journal
    → AreGrounded (scene_of (are_calls_known s) (parts_of s.script journal) []) → IsTrueBy (has_clients s.script) s journal
true_by s journal tells front grounded = go (has_clients s.script) refl
  where
    known : (b : Bool) → has_clients s.script ≡ b → are_calls_known s ≡ not b
    known b is = (λ i. tells i && not (is i))

    go : (b : Bool) → has_clients s.script ≡ b → IsTrueBy b s journal
    go true is =
        record {
          lasts = lasts_told s.script journal;
          machine = record {
            entries = front.machine;
            numbers = (are_counted journal front.numbered).0;
            begins = (are_counted journal front.numbered).1;
            grounded = subst (λ k. AreGrounded (scene_of k (parts_of s.script journal) [])) (known true is) grounded;
          };
          asked = front.asked;
        }
    go false is =
        record {
          lasts = lasts_told s.script journal;
          machine = record {
            entries = front.machine;
            numbers = (are_counted journal front.numbered).0;
            begins = (are_counted journal front.numbered).1;
            grounded = subst (λ k. AreGrounded (scene_of k (parts_of s.script journal) [])) (known false is ∙ sym tells) grounded;
            handled = λ opaque. (let wrong : true ≡ false = sym tells ∙ opaque in cc wrong);
          };
          asked = front.asked;
        }

-- what was found true is a true text
pub true_text : (s : Setting) (entries : List Shown) (tail lines : List Line) (text : List ℕ) → s.tells ≡ true → IsTrueIn s entries tail
    → lines ≡ shown_lines entries ++ tail → text ≡ lines_text lines → IsTrueText s text
true_text s entries tail lines text tells h parts written =
    let journal = h.journal in
    let words = (progress_of s.script journal).state.world.words in
    let front : IsTrueFront s (length journal) journal = subst (λ n. IsTrueFront s n journal) (front_size s entries tail h) h.front in
    record {
      journal = journal;
      jobs = h.ends.job_lines;
      words = words;
      kept = h.ends.kept;
      is_true = record {
        is_true = true_by s journal tells front h.grounded;
        words_are = refl;
        ends = h.ends.ends;
        front = h.ends.front;
      };
      printed = written ∙ ap lines_text (parts ∙ ap (λ xs. shown_lines xs ++ tail) (sym h.shows)
          ∙ ap (λ ls. ls ++ tail) (sym (entries_show journal)) ∙ ap (λ ls. lines_of_entries journal ++ ls) h.ends.shown)
          ∙ sym (text_is journal h.ends.job_lines words h.ends.kept);
    }

-- ---- journals that are shown alike
pub heads_same : {A : Type 0} (x y : A) (xs ys : List A) → x ∷ xs ≡ y ∷ ys → x ≡ y
heads_same x y xs ys h = ap (λ zs. get_or zs 0 x) h

-- the rest of two lists that are one
pub tails_alike : {A : Type 0} (x y : A) (xs ys : List A) → x ∷ xs ≡ y ∷ ys → xs ≡ ys
tails_alike x y xs ys h = ap (λ zs. drop 1 zs) h

-- they lead the machine to one place
pub courses_alike : (journal other : List Entry) (c : Course) → map shown_of journal ≡ map shown_of other
    → fold after_course c journal ≡ fold after_course c other
courses_alike [] [] c h = refl
courses_alike [] (f ∷ other) c h = cc
courses_alike (e ∷ journal) [] c h = cc
courses_alike (e ∷ journal) (f ∷ other) c h =
    let first : shown_of e ≡ shown_of f = heads_same (shown_of e) (shown_of f) (map shown_of journal) (map shown_of other) h in
    let rest : map shown_of journal ≡ map shown_of other = tails_alike (shown_of e) (shown_of f) (map shown_of journal) (map shown_of other) h in
    ap (λ (x : Course). fold after_course x journal) (course_alike e f first c) ∙ courses_alike journal other (after_course c f) rest

-- and the script
pub scripts_alike : (script : Script) (journal other : List Entry) (jobs : List ScriptJob) → map shown_of journal ≡ map shown_of other
    → fold (after_jobs script) jobs journal ≡ fold (after_jobs script) jobs other
scripts_alike script [] [] jobs h = refl
scripts_alike script [] (f ∷ other) jobs h = cc
scripts_alike script (e ∷ journal) [] jobs h = cc
scripts_alike script (e ∷ journal) (f ∷ other) jobs h =
    let first : shown_of e ≡ shown_of f = heads_same (shown_of e) (shown_of f) (map shown_of journal) (map shown_of other) h in
    let rest : map shown_of journal ≡ map shown_of other = tails_alike (shown_of e) (shown_of f) (map shown_of journal) (map shown_of other) h in
    ap (λ (x : List ScriptJob). fold (after_jobs script) x journal) (jobs_alike e f first script jobs)
    ∙ scripts_alike script journal other (after_jobs script jobs f) rest

-- of two entries that are shown alike the same was asked last, as far as a text tells it
told_alike : (script : Script) (jobs : List ScriptJob) (e f : Entry) → shown_of e ≡ shown_of f
    → last_told script (script_job_of jobs e) e ≡ last_told script (script_job_of jobs f) f
told_alike script jobs e f alike =
    sym (last_bare script (script_job_of jobs e) e) ∙ ap (λ (x : Shown). last_told script (script_job_of jobs x.entry) x.entry) alike
    ∙ last_bare script (script_job_of jobs f) f

-- and their conflicts are judged by the same
pub parts_alike : (script : Script) (journal other : List Entry) (c : Course) (jobs : List ScriptJob) → map shown_of journal ≡ map shown_of other
    → machine_parts c (told_from script jobs journal) journal ≡ machine_parts c (told_from script jobs other) other
parts_alike script [] [] c jobs h = refl
parts_alike script [] (f ∷ other) c jobs h = cc
parts_alike script (e ∷ journal) [] c jobs h = cc
parts_alike script (e ∷ journal) (f ∷ other) c jobs h =
    let first : shown_of e ≡ shown_of f = heads_same (shown_of e) (shown_of f) (map shown_of journal) (map shown_of other) h in
    let rest : map shown_of journal ≡ map shown_of other = tails_alike (shown_of e) (shown_of f) (map shown_of journal) (map shown_of other) h in
    let last : last_told script (script_job_of jobs e) e ≡ last_told script (script_job_of jobs f) f = told_alike script jobs e f first in
    (λ i. machine_part c.state (last i) e ∷ machine_parts (course_alike e f first c i) (told_from script (jobs_alike e f first script jobs i) journal) journal)
    ∙ (λ i. part_alike e f first c.state (last_told script (script_job_of jobs f) f) i
    ∷ parts_alike script journal other (after_course c f) (after_jobs script jobs f) rest i)
