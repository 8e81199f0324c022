-- A front of a journal with one entry more, and a journal cut at an entry.
use Rattle.std.proofs.Common.{◌≡◌, true, List, [], ◌∷◌, ◌++◌, refl, ap, sym, ◌∙◌}
use Rattle.std.specs.List.{fold}
use Rattle.xc_asked.specs.Walking.{last_told, told_of}
use Rattle.xc_data.specs.declared.entry.Entry.{Entry}
use Rattle.xc_model.specs.Live.{IsScripted, has_clients}
use Rattle.xc_model.specs.Asked.{AreAskedBy, IsAskedEntry, ScriptJob, after_jobs, last_asked, script_job_of}
use Rattle.xc_model.specs.Course.{Course, after_course}
use Rattle.xc_model.specs.Grounds.{Part}
use Rattle.xc_model.specs.Machine.{AreMachineTrue, IsMachineTrue, Terms, machine_part, machine_parts}
use Rattle.xc_model.specs.Setting.{Setting}
use Rattle.xc_model.specs.Truth.{terms_of}
use Rattle.xc_judge.specs.Judged.{telling_terms as telling_rules}
use Rattle.xc_script.specs.declared.ask.Ask.{Ask}
use Rattle.xc_text.specs.declared.script.Script.{Script}
use Rattle.xc_check.specs.Fronts.{told_from}
use Rattle.xc_check.specs.Untold.{basis_of}

-- the terms of a script over a host that tells
pub terms_tell : (s : Setting) → s.tells ≡ true → terms_of s ≡ telling_rules (basis_of s)
terms_tell s tells = λ i. record { rules = s.rules; tells = tells i; clients = has_clients s.script }

-- where a list leads with one more
pub fold_more : {A B : Type 0} → (f : B → A → B) (init : B) (xs : List A) (x : A) → fold f init (xs ++ x ∷ []) ≡ f (fold f init xs) x
fold_more f init [] x = refl
fold_more f init (y ∷ xs) x = fold_more f (f init y) xs x

-- ---- one entry more
module _ (script : Script) (e : Entry) where
  -- what was asked last of it, from these jobs on
  abbrev last_from : List ScriptJob → List Entry → Ask
  last_from jobs front = last_told script (script_job_of (fold (after_jobs script) jobs front) e) e

  -- what was asked last of all
  pub lasts_more : (jobs : List ScriptJob) (front : List Entry)
      → told_from script jobs (front ++ e ∷ []) ≡ told_from script jobs front ++ last_from jobs front ∷ []
  lasts_more jobs [] = refl
  lasts_more jobs (x ∷ front) =
      ap (λ (lasts : List Ask). last_told script (script_job_of jobs x) x ∷ lasts) (lasts_more (after_jobs script jobs x) front)

  -- the machine's part
  pub machine_more : (t : Terms) (c : Course) (jobs : List ScriptJob) (front : List Entry)
      → AreMachineTrue t c (told_from script jobs front) front → IsMachineTrue t (fold after_course c front) (last_from jobs front) e
      → AreMachineTrue t c (told_from script jobs (front ++ e ∷ [])) (front ++ e ∷ [])
  machine_more t c jobs [] all one = (one, refl)
  machine_more t c jobs (x ∷ front) all one = (all.0, machine_more t (after_course c x) (after_jobs script jobs x) front all.1 one)

  -- the script's part
  pub entry_asked_more : (jobs : List ScriptJob) (front : List Entry) → AreAskedBy script jobs (told_from script jobs front) front
      → IsAskedEntry script (fold (after_jobs script) jobs front) (last_from jobs front) e
      → AreAskedBy script jobs (told_from script jobs (front ++ e ∷ [])) (front ++ e ∷ [])
  entry_asked_more jobs [] all one = (one, refl)
  entry_asked_more jobs (x ∷ front) all one = (all.0, entry_asked_more (after_jobs script jobs x) front all.1 one)

  -- what conflicts are judged by
  pub machine_parts_more : (c : Course) (jobs : List ScriptJob) (front : List Entry)
      → machine_parts c (told_from script jobs (front ++ e ∷ [])) (front ++ e ∷ [])
      ≡ machine_parts c (told_from script jobs front) front
      ++ machine_part (fold after_course c front).state (last_from jobs front) e ∷ []
  machine_parts_more c jobs [] = refl
  machine_parts_more c jobs (x ∷ front) =
      ap (λ (parts : List Part). machine_part c.state (last_told script (script_job_of jobs x) x) x ∷ parts)
      (machine_parts_more (after_course c x) (after_jobs script jobs x) front)

  -- ---- a journal cut at an entry
  -- what is behind it
  abbrev cut : List Entry → List Entry → List Entry
  cut front behind = front ++ e ∷ behind

  -- the entry is true, and was asked, with what was asked last of it
  pub true_cut : (t : Terms) (c : Course) (jobs : List ScriptJob) (lasts : List Ask) (front behind : List Entry)
      → AreMachineTrue t c lasts (cut front behind) → AreAskedBy script jobs lasts (cut front behind)
      → (last : Ask) × IsMachineTrue t (fold after_course c front) last e × IsAskedEntry script (fold (after_jobs script) jobs front) last e
  true_cut t c jobs [] [] behind all asked = absurd all
  true_cut t c jobs (last ∷ lasts) [] behind all asked = (last, all.0, asked.0)
  true_cut t c jobs [] (x ∷ front) behind all asked = absurd all
  true_cut t c jobs (last ∷ lasts) (x ∷ front) behind all asked =
      true_cut t (after_course c x) (after_jobs script jobs x) lasts front behind all.1 asked.1

-- what was asked last of the entries of a journal is what the script asks
pub lasts_are : (script : Script) (jobs : List ScriptJob) (lasts : List Ask) (journal : List Entry) → IsScripted script → AreAskedBy script jobs lasts journal
    → lasts ≡ told_from script jobs journal
lasts_are script jobs lasts [] own h = h
lasts_are script jobs [] (e ∷ journal) own h = absurd h
lasts_are script jobs (last ∷ lasts) (e ∷ journal) own h =
    let asked = h.0 in
    ap (λ (x : Ask). x ∷ lasts) ((asked.asked.scripted own).after ∙ ap (λ o. last_asked script o e.replies) (sym asked.started)
    ∙ ap (λ b. told_of b script (script_job_of jobs e) e) (sym own))
    ∙ ap (λ (xs : List Ask). last_told script (script_job_of jobs e) e ∷ xs) (lasts_are script (after_jobs script jobs e) lasts journal own h.1)
