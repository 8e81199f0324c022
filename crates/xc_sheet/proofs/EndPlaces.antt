-- The lines of an end stand each in its place.
use Rattle.std.proofs.Common.{◌≡◌, ℕ, ◌+◌, ◌-◌, ◌^◌, ◌<◌, ◌≤◌, Bool, true, false, cond, List, [], ◌∷◌, ◌++◌, length, refl, ap, ◌∙◌, append_assoc, arith}
use Rattle.std.proofs.Common.{Option}
use Rattle.std.proofs.lemmas.Bool.{ne_eqb, lt-ltb, eq-eqb}
use Rattle.std.specs.Prelude.{◌==◌, is_none, if◌then◌else◌}
use Rattle.std.specs.List.{AllByRecursion}
use Rattle.std.specs.declared.option.Option.TheVariants.{None, Some}
use Rattle.xc_data.specs.Remaining.{remains_from}
use Rattle.xc_data.specs.declared.call.Call.{Call}
use Rattle.xc_data.specs.declared.call.LateEnd.{LateEnd}
use Rattle.xc_data.specs.declared.call.Reply.{Reply}
use Rattle.xc_data.specs.declared.claim.Claim.{Claim}
use Rattle.xc_data.specs.declared.entry.Entry.{Entry}
use Rattle.xc_data.specs.declared.entry.JobLine.{JobLine}
use Rattle.xc_data.specs.declared.entry.KeptItem.{KeptItem}
use Rattle.xc_data.specs.declared.entry.Outcome.{Outcome}
use Rattle.xc_data.specs.declared.entry.Outcome.TheVariants.{Committed, Aborted}
use Rattle.xc_data.specs.declared.undo.Undo.{Undo}
use Rattle.xc_data.specs.declared.undo.UndoEnd.{UndoEnd}
use Rattle.xc_print.specs.Kept.{joined}
use Rattle.xc_print.specs.Totals.{totals_of}
use Rattle.xc_print.specs.declared.totals.Totals.{Totals}
use Rattle.xc_lines.specs.declared.heads.Head.{Head}
use Rattle.xc_lines.specs.declared.shown.JobShown.{JobShown}
use Rattle.xc_lines.specs.declared.shown.EffectShown.{EffectShown}
use Rattle.xc_sheet.specs.declared.lines.Line.{Line}
use Rattle.xc_sheet.specs.declared.lines.Line.TheVariants as line
use Rattle.xc_sheet.specs.declared.places.LinePlace.{LinePlace}
use Rattle.xc_sheet.specs.declared.places.LinePlace.TheVariants as place
use Rattle.xc_sheet.specs.Ends.{kind_shown, effect_shown, job_end_shown, cause_shown, head_shown, lines_of_calls, lines_of_lates, lines_of_undos}
use Rattle.xc_sheet.specs.Ends.{line_of_effect, lines_of_effects}
use Rattle.xc_sheet.specs.Ends.{lines_of_outcome, line_of_held, lines_of_entry, lines_of_entries, lines_of_jobs, line_of_word, lines_of_words}
use Rattle.xc_sheet.specs.Ends.{lines_of_kept, line_of_totals, end_lines}
use Rattle.xc_sheet.specs.EndRanges.{IsOutcomeInRange, IsEntryInRange}
use Rattle.xc_sheet.specs.Places.{behind_line, behind_lines}

-- ---- several lines
behind_append : (o : Option LinePlace) (a b : List Line) → behind_lines o (a ++ b) ≡ behind_lines (behind_lines o a) b
unfolding behind_lines
behind_append None a b = refl
behind_append (Some p) [] b = refl
behind_append (Some p) (l ∷ a) b = behind_append (behind_line p l) a b

then_lines : (p q : LinePlace) (a b : List Line) (r : Option LinePlace) → behind_lines (Some p) a ≡ Some q → behind_lines (Some q) b ≡ r
    → behind_lines (Some p) (a ++ b) ≡ r
then_lines p q a b r e f = behind_append (Some p) a b ∙ ap (λ o. behind_lines o b) e ∙ f

one_step : (p : LinePlace) (l : Line) (lines : List Line) (o r : Option LinePlace) → behind_line p l ≡ o → behind_lines o lines ≡ r
    → behind_lines (Some p) (l ∷ lines) ≡ r
unfolding behind_lines
one_step p l lines o r e f = ap (λ o. behind_lines o lines) e ∙ f

-- ---- what may stand in a place
record AdmitsKept (p : LinePlace) : Type 0 where
  kept : (item : KeptItem) → behind_line p (line.Kept item) ≡ Some place.Kept
  total : (committed aborted faults remains : ℕ) → behind_line p (line.Total committed aborted faults remains) ≡ Some place.Ended

record TakesWords (p : LinePlace) : Type 0 where
  word : (at value : ℕ) → behind_line p (line.Word at value) ≡ Some place.Words
  next : AdmitsKept p

record TakesJobs (p : LinePlace) : Type 0 where
  job : (n : ℕ) (block : List ℕ) (end : JobShown) → behind_line p (line.Job n block end) ≡ Some place.Jobs
  next : TakesWords p

record TakesEntry (p : LinePlace) : Type 0 where
  head : (h : Head) → behind_line p (line.Head h) ≡ Some (if is_none h.cause then place.Commits else place.Aborts)
  next : TakesJobs p

record TakesHeld (p : LinePlace) : Type 0 where
  held : (claims : List Claim) → behind_line p (line.Held claims) ≡ Some place.Between
  next : TakesEntry p

record TakesEffects (p : LinePlace) : Type 0 where
  effect : (shown : EffectShown) → behind_line p (line.Remains shown) ≡ Some place.Remaining
  next : TakesHeld p

kept_takes : AdmitsKept place.Kept
kept_takes =
    record { kept = λ item. refl; total = λ committed aborted faults remains. refl }

words_take : TakesWords place.Words
words_take =
    record {
      word = λ at value. refl;
      next = record { kept = λ item. refl; total = λ committed aborted faults remains. refl };
    }

jobs_take : TakesJobs place.Jobs
jobs_take =
    record {
      job = λ n block end. refl;
      next = record {
        word = λ at value. refl;
        next = record { kept = λ item. refl; total = λ committed aborted faults remains. refl };
      };
    }

between_takes : TakesEntry place.Between
between_takes =
    record {
      head = λ h. refl;
      next = record {
        job = λ n block end. refl;
        next = record {
          word = λ at value. refl;
          next = record { kept = λ item. refl; total = λ committed aborted faults remains. refl };
        };
      };
    }

commits_take : TakesHeld place.Commits
commits_take =
    record {
      held = λ claims. refl;
      next = record {
        head = λ h. refl;
        next = record {
          job = λ n block end. refl;
          next = record {
            word = λ at value. refl;
            next = record { kept = λ item. refl; total = λ committed aborted faults remains. refl };
          };
        };
      };
    }

aborts_take : TakesHeld place.Aborts
aborts_take =
    record {
      held = λ claims. refl;
      next = record {
        head = λ h. refl;
        next = record {
          job = λ n block end. refl;
          next = record {
            word = λ at value. refl;
            next = record { kept = λ item. refl; total = λ committed aborted faults remains. refl };
          };
        };
      };
    }

lates_take : (n : ℕ) → TakesHeld (place.Lates n)
lates_take n =
    record {
      held = λ claims. refl;
      next = record {
        head = λ h. refl;
        next = record {
          job = λ n block end. refl;
          next = record {
            word = λ at value. refl;
            next = record { kept = λ item. refl; total = λ committed aborted faults remains. refl };
          };
        };
      };
    }

undone_takes : TakesEffects (place.Undos 0)
undone_takes =
    record {
      effect = λ shown. refl;
      next = record {
        held = λ claims. refl;
        next = record {
          head = λ h. refl;
          next = record {
            job = λ n block end. refl;
            next = record {
              word = λ at value. refl;
              next = record { kept = λ item. refl; total = λ committed aborted faults remains. refl };
            };
          };
        };
      };
    }

remaining_takes : TakesEffects place.Remaining
remaining_takes =
    record {
      effect = λ shown. refl;
      next = record {
        held = λ claims. refl;
        next = record {
          head = λ h. refl;
          next = record {
            job = λ n block end. refl;
            next = record {
              word = λ at value. refl;
              next = record { kept = λ item. refl; total = λ committed aborted faults remains. refl };
            };
          };
        };
      };
    }

-- these lines lead from a place to the end
abbrev LeadsToEnd : LinePlace → List Line → Type 0
LeadsToEnd p lines = behind_lines (Some p) lines ≡ Some place.Ended

-- they do so from each place of a kind
abbrev Finishes : (LinePlace → Type 0) → List Line → Type 0
Finishes Takes lines = (q : LinePlace) → Takes q → LeadsToEnd q lines

-- ---- behind the entries
-- the kept data, and the totals
kept_walk : (items : List KeptItem) (t : Totals) (p : LinePlace) → AdmitsKept p → LeadsToEnd p (lines_of_kept items ++ line_of_totals t ∷ [])
unfolding behind_lines
kept_walk [] t p h = one_step p (line_of_totals t) [] (Some place.Ended) (Some place.Ended) (h.total t.committed t.aborted t.faults t.remains) refl
kept_walk (item ∷ items) t p h =
    one_step p (line.Kept item) (lines_of_kept items ++ line_of_totals t ∷ []) (Some place.Kept) (Some place.Ended) (h.kept item)
    (kept_walk items t place.Kept kept_takes)

one_word : (at value : ℕ) (b : Bool) (p : LinePlace) (more : List Line) → TakesWords p → Finishes TakesWords more
    → LeadsToEnd p (cond b [] (line.Word at value ∷ []) ++ more)
one_word at value true p more h on = on p h
one_word at value false p more h on = one_step p (line.Word at value) more (Some place.Words) (Some place.Ended) (h.word at value) (on place.Words words_take)

words_walk : (at : ℕ) (values : List ℕ) (p : LinePlace) (rest : List Line) → TakesWords p → Finishes AdmitsKept rest
    → LeadsToEnd p (lines_of_words at values ++ rest)
words_walk at [] p rest h on = on p h.next
words_walk at (value ∷ values) p rest h on =
    ap (behind_lines (Some p)) (append_assoc (line_of_word at value) (lines_of_words (at + 1) values) rest)
    ∙ one_word at value (value == 0) p (lines_of_words (at + 1) values ++ rest) h (λ q takes. words_walk (at + 1) values q rest takes on)

jobs_walk : (n : ℕ) (jobs : List JobLine) (p : LinePlace) (rest : List Line) → TakesJobs p → Finishes TakesWords rest
    → LeadsToEnd p (lines_of_jobs n jobs ++ rest)
jobs_walk n [] p rest h on = on p h.next
jobs_walk n (job ∷ jobs) p rest h on =
    one_step p (line.Job n job.block (job_end_shown job.end)) (lines_of_jobs (n + 1) jobs ++ rest) (Some place.Jobs) (Some place.Ended)
    (h.job n job.block (job_end_shown job.end)) (jobs_walk (n + 1) jobs place.Jobs rest jobs_take on)

-- ---- an entry
-- where lines lead that end an entry but for what it held
record LeadsOn (p : LinePlace) (lines : List Line) : Type 0 where
  to : LinePlace
  leads : behind_lines (Some p) lines ≡ Some to
  takes : TakesHeld to

calls_stay : (p : LinePlace) (calls : List Call) (replies : List Reply) → ((call : Call) (reply : Reply) → behind_line p (line.Call call reply) ≡ Some p)
    → behind_lines (Some p) (lines_of_calls calls replies) ≡ Some p
unfolding behind_lines
calls_stay p [] replies h = refl
calls_stay p (call ∷ calls) [] h = refl
calls_stay p (call ∷ calls) (reply ∷ replies) h =
    one_step p (line.Call call reply) (lines_of_calls calls replies) (Some p) (Some p) (h call reply) (calls_stay p calls replies h)

late_step : (n : ℕ) (end : LateEnd) → n < 2 ^ 32 → behind_line (place.Lates n) (line.Late n end) ≡ Some (place.Lates (n + 1))
late_step n end small = rw (eq-eqb n n refl, lt-ltb n (2 ^ 32) small) refl

lates_walk : (n : ℕ) (ends : List LateEnd) → n + length ends ≤ 2 ^ 32 → LeadsOn (place.Lates n) (lines_of_lates n ends)
unfolding behind_lines
lates_walk n [] few = record { to = place.Lates n; leads = refl; takes = lates_take n }
lates_walk n (end ∷ ends) few =
    let on = lates_walk (n + 1) ends (omega (arith, few)) in
    record {
      to = on.to;
      leads = one_step (place.Lates n) (line.Late n end) (lines_of_lates (n + 1) ends) (Some (place.Lates (n + 1))) (Some on.to)
          (late_step n end (omega (arith, few))) on.leads;
      takes = on.takes;
    }

commits_walk : (ends : List LateEnd) → length ends < 2 ^ 32 → LeadsOn place.Commits (lines_of_lates 1 ends)
unfolding behind_lines
commits_walk [] few = record { to = place.Commits; leads = refl; takes = commits_take }
commits_walk (end ∷ ends) few =
    let on = lates_walk 2 ends (omega (arith, few)) in
    record {
      to = on.to;
      leads = one_step place.Commits (line.Late 1 end) (lines_of_lates 2 ends) (Some (place.Lates 2)) (Some on.to) refl on.leads;
      takes = on.takes;
    }

newest_step : (n : ℕ) (undo : Undo) (end : UndoEnd) → 0 < n → behind_line place.Aborts (line.Undo n (kind_shown undo) end) ≡ Some (place.Undos (n - 1))
newest_step n undo end some = rw (ne_eqb n 0 (λ e. omega (arith, some, e))) refl

undo_step : (n : ℕ) (undo : Undo) (end : UndoEnd) → 0 < n → behind_line (place.Undos n) (line.Undo n (kind_shown undo) end) ≡ Some (place.Undos (n - 1))
undo_step n undo end some = rw (ne_eqb n 0 (λ e. omega (arith, some, e)), eq-eqb n n refl) refl

undos_walk : (n : ℕ) (undo : Undo) (end : UndoEnd) (records : List (Undo × UndoEnd)) → 0 < n
    → behind_lines (Some place.Aborts) (lines_of_undos n ((undo, end) ∷ records)) ≡ Some (place.Undos (n - 1))
unfolding behind_lines
undos_walk n undo end [] some =
    one_step place.Aborts (line.Undo n (kind_shown undo) end) [] (Some (place.Undos (n - 1))) (Some (place.Undos (n - 1))) (newest_step n undo end some) refl
undos_walk n undo end ((older, older_end) ∷ records) some =
    let same : n + 1 - 1 ≡ n = omega arith in
    then_lines place.Aborts (place.Undos n) (lines_of_undos (n + 1) ((older, older_end) ∷ records))
    (line.Undo n (kind_shown undo) end ∷ []) (Some (place.Undos (n - 1)))
    (undos_walk (n + 1) older older_end records (omega arith) ∙ ap (λ m. Some (place.Undos m)) same)
    (one_step (place.Undos n) (line.Undo n (kind_shown undo) end) [] (Some (place.Undos (n - 1))) (Some (place.Undos (n - 1)))
    (undo_step n undo end some) refl)

effect_on : (from : Option ℕ) (undo : Undo) (p : LinePlace) (more : List Line) → TakesEffects p
    → Finishes TakesEffects more → LeadsToEnd p (line_of_effect undo from ++ more)
effect_on None undo p more h on = on p h
effect_on (Some k) undo p more h on =
    one_step p (line.Remains (effect_shown undo k)) more (Some place.Remaining) (Some place.Ended) (h.effect (effect_shown undo k))
    (on place.Remaining remaining_takes)

effects_walk : (records : List (Undo × UndoEnd)) (p : LinePlace) (rest : List Line) → TakesEffects p
    → Finishes TakesHeld rest → LeadsToEnd p (lines_of_effects records ++ rest)
effects_walk [] p rest h on = on p h.next
effects_walk ((undo, end) ∷ records) p rest h on =
    ap (behind_lines (Some p)) (append_assoc (line_of_effect undo (remains_from undo end)) (lines_of_effects records) rest)
    ∙ effect_on (remains_from undo end) undo p (lines_of_effects records ++ rest) h (λ q takes. effects_walk records q rest takes on)

held_walk : (claims : List Claim) (p : LinePlace) (rest : List Line) → TakesHeld p → Finishes TakesEntry rest
    → LeadsToEnd p (line_of_held claims ++ rest)
held_walk [] p rest h on = on p h.next
held_walk (claim ∷ claims) p rest h on =
    one_step p (line.Held (claim ∷ claims)) rest (Some place.Between) (Some place.Ended) (h.held (claim ∷ claims)) (on place.Between between_takes)

-- the place behind an entry's first line
start_of : Outcome → LinePlace
start_of o = if is_none (cause_shown o) then place.Commits else place.Aborts

call_stays : (o : Outcome) (call : Call) (reply : Reply) → behind_line (start_of o) (line.Call call reply) ≡ Some (start_of o)
unfolding start_of
call_stays (Committed late) call reply = refl
call_stays (Aborted report) call reply = refl

aborted_walk : (records : List (Undo × UndoEnd)) (rest : List Line) → Finishes TakesHeld rest
    → LeadsToEnd place.Aborts (lines_of_undos 1 records ++ lines_of_effects records ++ rest)
aborted_walk [] rest on = on place.Aborts aborts_take
aborted_walk ((undo, end) ∷ records) rest on =
    ap (behind_lines (Some place.Aborts)) (append_assoc (lines_of_undos 1 ((undo, end) ∷ records)) (lines_of_effects ((undo, end) ∷ records)) rest)
    ∙ then_lines place.Aborts (place.Undos 0) (lines_of_undos 1 ((undo, end) ∷ records)) (lines_of_effects ((undo, end) ∷ records) ++ rest) (Some place.Ended)
    (undos_walk 1 undo end records (omega arith)) (effects_walk ((undo, end) ∷ records) (place.Undos 0) rest undone_takes on)

outcome_walk : (o : Outcome) (rest : List Line) → IsOutcomeInRange o → Finishes TakesHeld rest
    → LeadsToEnd (start_of o) (lines_of_outcome o ++ rest)
unfolding start_of
outcome_walk (Committed late) rest within on =
    let l = commits_walk late within.0 in
    then_lines place.Commits l.to (lines_of_lates 1 late) rest (Some place.Ended) l.leads (on l.to l.takes)
outcome_walk (Aborted report) rest within on = aborted_walk report.records rest on

four : (a b c rest : List Line) → a ++ (b ++ c) ++ rest ≡ a ++ (b ++ (c ++ rest))
four a b c rest = simp append_assoc

entry_on : (o : Outcome) (calls : List Call) (replies : List Reply) (claims : List Claim) (rest : List Line) → IsOutcomeInRange o
    → Finishes TakesEntry rest
    → LeadsToEnd (start_of o) (lines_of_calls calls replies ++ (lines_of_outcome o ++ line_of_held claims) ++ rest)
entry_on o calls replies claims rest within on =
    ap (behind_lines (Some (start_of o))) (four (lines_of_calls calls replies) (lines_of_outcome o) (line_of_held claims) rest)
    ∙ then_lines (start_of o) (start_of o) (lines_of_calls calls replies) (lines_of_outcome o ++ (line_of_held claims ++ rest)) (Some place.Ended)
    (calls_stay (start_of o) calls replies (call_stays o))
    (outcome_walk o (line_of_held claims ++ rest) within (λ q takes. held_walk claims q rest takes on))

entry_walk : (e : Entry) (p : LinePlace) (rest : List Line) → TakesEntry p → IsEntryInRange e → Finishes TakesEntry rest
    → LeadsToEnd p (lines_of_entry e ++ rest)
unfolding start_of
entry_walk e p rest h within on =
    one_step p (line.Head (head_shown e)) (lines_of_calls e.calls e.replies ++ (lines_of_outcome e.outcome ++ line_of_held e.held) ++ rest)
    (Some (start_of e.outcome)) (Some place.Ended) (h.head (head_shown e)) (entry_on e.outcome e.calls e.replies e.held rest within.outcome on)

entries_walk : (journal : List Entry) (p : LinePlace) (rest : List Line) → TakesEntry p → AllByRecursion IsEntryInRange journal
    → Finishes TakesEntry rest → LeadsToEnd p (lines_of_entries journal ++ rest)
entries_walk [] p rest h all on = on p h
entries_walk (e ∷ journal) p rest h all on =
    ap (behind_lines (Some p)) (append_assoc (lines_of_entry e) (lines_of_entries journal) rest)
    ∙ entry_walk e p (lines_of_entries journal ++ rest) h all.0 (λ q takes. entries_walk journal q rest takes all.1 on)

-- all lines
pub places_are : (journal : List Entry) (jobs : List JobLine) (words : List ℕ) (kept : List KeptItem) → AllByRecursion IsEntryInRange journal
    → behind_lines (Some place.Between) (end_lines journal jobs words kept) ≡ Some place.Ended
places_are journal jobs words kept all =
    entries_walk journal place.Between
    (lines_of_jobs 1 jobs ++ (lines_of_words 0 words ++ (lines_of_kept (joined kept) ++ line_of_totals (totals_of journal) ∷ [])))
    between_takes all
    (λ p takes. jobs_walk 1 jobs p (lines_of_words 0 words ++ (lines_of_kept (joined kept) ++ line_of_totals (totals_of journal) ∷ [])) takes.next
    (λ q words_next. words_walk 0 words q (lines_of_kept (joined kept) ++ line_of_totals (totals_of journal) ∷ []) words_next
    (λ r kept_next. kept_walk (joined kept) (totals_of journal) r kept_next)))
