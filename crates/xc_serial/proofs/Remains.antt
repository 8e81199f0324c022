-- Where no fault is recorded no effect of an aborted transaction remains.
use Rattle.std.proofs.Common.{◌≡◌, ℕ, ◌+◌, ◌≤◌, List, [], ◌∷◌, cond, refl, ap, ap₂, ◌∙◌, arith}
use Rattle.std.specs.Prelude.{count_by, map, sum_by}
use Rattle.std.proofs.lemmas.List.Sums.{sum_by-cons}
use Rattle.xc_data.specs.Faults.{entry_faults, outcome_faults}
use Rattle.xc_data.specs.declared.entry.Entry.{Entry}
use Rattle.xc_data.specs.declared.entry.Outcome.{Outcome}
use Rattle.xc_data.specs.declared.entry.Outcome.TheVariants.{Committed, Aborted}
use Rattle.xc_data.specs.declared.undo.Undo.{Undo}
use Rattle.xc_data.specs.declared.undo.UndoEnd.TheVariants.{Undone}
use Rattle.xc_world.specs.Remains.{effect_remains}
use Rattle.xc_print.specs.Totals.{entry_remains, outcome_remains}
use Rattle.xc_script.specs.declared.ask.Ask.{Ask}
use Rattle.xc_model.specs.Progress.{Progress, after_entry}
use Rattle.xc_model.specs.Setting.{Setting}
use Rattle.xc_model.specs.Joint.{AreTrue, IsAskedFor}
use Rattle.xc_serial.proofs.Calls.{no_sum}
use Rattle.xc_serial.proofs.Entries.{legal_undone, undone_cleanly}

-- a record that was undone leaves nothing
none_stands : (us : List Undo) → count_by effect_remains (undone_cleanly us) ≡ 0
none_stands [] = refl
none_stands (u ∷ us) =
    let rest = none_stands us in sum_by-cons (λ r. cond (effect_remains r) 1 0) (u, Undone 0) (undone_cleanly us) ∙ omega (arith, rest)

none_of_outcome : (tries : ℕ) (e : Entry) (next : Ask) (o : Outcome) → 1 ≤ tries → IsAskedFor tries e next o → outcome_faults o ≡ 0
    → outcome_remains o ≡ 0
none_of_outcome tries e next (Committed late) some asked none = refl
none_of_outcome tries e next (Aborted report) some asked none =
    ap (count_by effect_remains) (legal_undone tries 1 report.records some asked.1.legal none) ∙ none_stands (map (λ r. r.0) report.records)

sum_of : (f : Entry → ℕ) (e : Entry) (entries : List Entry) → f e ≡ 0 → sum_by f entries ≡ 0 → sum_by f (e ∷ entries) ≡ 0
sum_of f e entries here later = sum_by-cons f e entries ∙ ap₂ (λ m n. m + n) here later

-- no effect remains
pub nothing_remains : (s : Setting) (p : Progress) (lasts : List Ask) (entries : List Entry) → 1 ≤ s.rules.undo_tries → AreTrue s p lasts entries
    → sum_by entry_faults entries ≡ 0 → sum_by entry_remains entries ≡ 0
nothing_remains s p lasts [] some told none = refl
nothing_remains s p [] (e ∷ entries) some told none = absurd told
nothing_remains s p (last ∷ lasts) (e ∷ entries) some told none =
    let parts = no_sum entry_faults e entries none in
    let story = told.0.entry.story in
    let outcome : outcome_faults e.outcome ≡ 0 = omega (arith, parts.0) in
    sum_of entry_remains e entries (none_of_outcome s.rules.undo_tries e last e.outcome some story.asked outcome)
    (nothing_remains s (after_entry s.script p e) lasts entries some told.1 parts.1)
