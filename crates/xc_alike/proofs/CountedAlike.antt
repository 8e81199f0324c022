-- What is counted of an entry is what its text shows.
use Rattle.std.proofs.Common.{◌≡◌, ℕ, ◌+◌, Bool, cond, List, [], ◌∷◌, length, map, Option, None, Some, refl, sym, ap, ◌∙◌}
use Rattle.std.proofs.lemmas.List.{length-append}
use Rattle.std.proofs.lemmas.List.Sums.{sum_by-cons}
use Rattle.std.specs.List.{sum_by, count_by}
use Rattle.std.specs.Prelude.{is_some, not}
use Rattle.xc_data.specs.Faults.{is_commit, is_fault_end, end_faults, undo_faults, outcome_faults, reply_faults, entry_faults}
use Rattle.xc_data.specs.Remaining.{remains_from}
use Rattle.xc_data.specs.declared.entry.Entry.{Entry}
use Rattle.xc_data.specs.declared.entry.Outcome.{Outcome}
use Rattle.xc_data.specs.declared.entry.Outcome.TheVariants.{Committed, Aborted}
use Rattle.xc_data.specs.declared.undo.Undo.{Undo}
use Rattle.xc_data.specs.declared.undo.UndoEnd.{UndoEnd}
use Rattle.xc_world.specs.Remains.{effect_remains}
use Rattle.xc_lines.specs.declared.shown.EffectShown.{EffectShown}
use Rattle.xc_lines.specs.declared.shown.UndoKind.{UndoKind}
use Rattle.xc_print.specs.Totals.{is_committed, is_aborted, outcome_remains, entry_remains, totals_of}
use Rattle.xc_print.specs.declared.totals.Totals.{Totals}
use Rattle.xc_shown.specs.Shown.{records_of, bare_outcome, record_shown, effect_from, effects_shown, shown_of}
use Rattle.xc_shown.specs.declared.shown.Shown.{Shown}

-- the faults of a record that is shown
abbrev shown_faults : UndoKind × UndoEnd → ℕ
shown_faults shown = end_faults shown.1

-- those of an entry that is shown, but for those of its replies
abbrev faults_by : Outcome → List (UndoKind × UndoEnd) → ℕ
faults_by (Committed late) records = count_by is_fault_end late
faults_by (Aborted report) records = sum_by shown_faults records

-- how many effects are shown
abbrev remains_by : Outcome → List EffectShown → ℕ
remains_by (Committed late) effects = 0
remains_by (Aborted report) effects = length effects

-- a sum over a list is that over what a function makes of it
sum_shown : {A B : Type 0} (f : A → ℕ) (g : B → ℕ) (h : A → B) → ((x : A) → f x ≡ g (h x)) → (xs : List A) → sum_by f xs ≡ sum_by g (map h xs)
sum_shown f g h same [] = refl
sum_shown f g h same (x ∷ xs) =
    sum_by-cons f x xs ∙ (λ i. same x i + sum_shown f g h same xs i) ∙ sym (sum_by-cons g (h x) (map h xs))

-- ---- faults
-- the faults of an outcome are those that are shown
outcome_shows_faults : (o : Outcome) → outcome_faults o ≡ faults_by (bare_outcome o) (map record_shown (records_of o))
outcome_shows_faults (Committed late) = refl
outcome_shows_faults (Aborted report) = sum_shown undo_faults shown_faults record_shown (λ r. refl) report.records

-- the faults of an entry that is shown
abbrev faults_in : Shown → ℕ
faults_in shown = sum_by reply_faults shown.entry.replies + faults_by shown.entry.outcome shown.records

-- so are those of an entry
shows_faults : (e : Entry) → entry_faults e ≡ faults_in (shown_of e)
shows_faults e = ap (λ n. sum_by reply_faults e.replies + n) (outcome_shows_faults e.outcome)

-- shown alike, they have as many faults
pub faults_alike : (e f : Entry) → shown_of e ≡ shown_of f → entry_faults e ≡ entry_faults f
faults_alike e f alike = shows_faults e ∙ ap faults_in alike ∙ sym (shows_faults f)

-- ---- effects
-- an effect that stands is shown
one_effect : (undo : Undo) (from : Option ℕ) → cond (is_some from) 1 0 ≡ length (effect_from undo from)
one_effect undo None = refl
one_effect undo (Some k) = refl

-- as many stand as are shown
effects_counted : (records : List (Undo × UndoEnd)) → count_by effect_remains records ≡ length (effects_shown records)
effects_counted [] = refl
effects_counted ((undo, end) ∷ records) =
    let from = remains_from undo end in
    sum_by-cons (λ r. cond (effect_remains r) 1 0) (undo, end) records ∙ (λ i. one_effect undo from i + effects_counted records i)
    ∙ sym (length-append (effect_from undo from) (effects_shown records))

-- of an outcome too
outcome_shows_remains : (o : Outcome) → outcome_remains o ≡ remains_by (bare_outcome o) (effects_shown (records_of o))
outcome_shows_remains (Committed late) = refl
outcome_shows_remains (Aborted report) = effects_counted report.records

-- the effects of an entry that are shown
abbrev remains_in : Shown → ℕ
remains_in shown = remains_by shown.entry.outcome shown.effects

-- and of an entry
shows_remains : (e : Entry) → entry_remains e ≡ remains_in (shown_of e)
shows_remains e = outcome_shows_remains e.outcome

-- shown alike, as many of their effects stand
pub remains_alike : (e f : Entry) → shown_of e ≡ shown_of f → entry_remains e ≡ entry_remains f
remains_alike e f alike = shows_remains e ∙ ap remains_in alike ∙ sym (shows_remains f)

-- ---- commits
-- whether a commit is shown
abbrev is_commit_in : Shown → Bool
is_commit_in shown = is_commit shown.entry.outcome

-- a commit is shown as one
outcome_shows_commit : (o : Outcome) → is_commit o ≡ is_commit (bare_outcome o)
outcome_shows_commit (Committed late) = refl
outcome_shows_commit (Aborted report) = refl

-- so is that of an entry
shows_commit : (e : Entry) → is_committed e ≡ is_commit_in (shown_of e)
shows_commit e = outcome_shows_commit e.outcome

-- shown alike, both are commits or neither is
pub commits_alike : (e f : Entry) → shown_of e ≡ shown_of f → is_committed e ≡ is_committed f
commits_alike e f alike = shows_commit e ∙ ap is_commit_in alike ∙ sym (shows_commit f)

-- ---- totals
-- the totals of entries that are shown
abbrev totals_in : List Shown → Totals
totals_in entries =
    record {
      committed = count_by is_commit_in entries;
      aborted = count_by (λ (shown : Shown). not (is_commit_in shown)) entries;
      faults = sum_by faults_in entries;
      remains = sum_by remains_in entries;
    }

-- the totals of a journal are those of what is shown
totals_shown : (journal : List Entry) → totals_of journal ≡ totals_in (map shown_of journal)
totals_shown journal =
    let committed =
    sum_shown (λ (e : Entry). cond (is_committed e) 1 0) (λ (shown : Shown). cond (is_commit_in shown) 1 0) shown_of
    (λ e. ap (λ (b : Bool). cond b 1 0) (shows_commit e)) journal in
    let aborted =
    sum_shown (λ (e : Entry). cond (is_aborted e) 1 0) (λ (shown : Shown). cond (not (is_commit_in shown)) 1 0) shown_of
    (λ e. ap (λ (b : Bool). cond (not b) 1 0) (shows_commit e)) journal in
    let faults = sum_shown entry_faults faults_in shown_of shows_faults journal in
    let remains = sum_shown entry_remains remains_in shown_of shows_remains journal in
    (λ i. record { committed = committed i; aborted = aborted i; faults = faults i; remains = remains i })

-- journals that are shown alike have the same totals
pub totals_alike : (journal other : List Entry) → map shown_of journal ≡ map shown_of other → totals_of journal ≡ totals_of other
totals_alike journal other alike = totals_shown journal ∙ ap totals_in alike ∙ sym (totals_shown other)
