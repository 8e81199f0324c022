-- What is counted of entries as their text shows them is what is counted of the entries.
use Rattle.std.proofs.Common.{◌≡◌, ℕ, ◌+◌, Bool, cond, not, is_some, Option, None, Some, List, [], ◌∷◌, length, refl, ap, ap₂, sym, ◌∙◌, arith}
use Rattle.std.proofs.Common.{length-append}
use Rattle.std.specs.Prelude.{map, count_by, sum_by}
use Rattle.std.proofs.lemmas.List.Recursion.{is_count_by}
use Rattle.std.proofs.lemmas.List.Sums.{sum_by-cons}
use Rattle.xc_data.specs.Faults.{is_commit, undo_faults, outcome_faults, entry_faults, reply_faults}
use Rattle.xc_data.specs.Remaining.{remains_from}
use Rattle.xc_data.specs.declared.entry.Entry.{Entry}
use Rattle.xc_data.specs.declared.entry.Outcome.{Outcome}
use Rattle.xc_data.specs.declared.entry.Outcome.TheVariants.{Committed, Aborted}
use Rattle.xc_data.specs.declared.undo.Undo.{Undo}
use Rattle.xc_data.specs.declared.undo.UndoEnd.{UndoEnd}
use Rattle.xc_world.specs.Remains.{effect_remains}
use Rattle.xc_print.specs.Totals.{is_committed, is_aborted, outcome_remains, entry_remains, totals_of}
use Rattle.xc_print.specs.declared.totals.Totals.{Totals}
use Rattle.xc_shown.specs.Shown.{records_of, bare_outcome, record_shown, effect_from, effects_shown, shown_of}
use Rattle.xc_shown.specs.declared.shown.Shown.{Shown}
use Rattle.xc_tail.specs.ShownTotals.{is_committed_shown, end_faults_shown, faults_shown}

module _ {X : Type 0} where
  -- a count by recursion
  abbrev tally : (X → Bool) → List X → ℕ
  tally p [] = 0
  tally p (x ∷ xs) = cond (p x) (1 + tally p xs) (tally p xs)

  -- which is the count
  tallied : (p : X → Bool) (xs : List X) → tally p xs ≡ count_by p xs
  tallied p xs = is_count_by (tally p) p refl (λ x ys. refl) xs

  -- the count of a list by its first item
  count_first : (p : X → Bool) (x : X) (xs : List X) → count_by p (x ∷ xs) ≡ cond (p x) (1 + count_by p xs) (count_by p xs)
  count_first p x xs = sym (tallied p (x ∷ xs)) ∙ ap (λ n. cond (p x) (1 + n) n) (tallied p xs)

module _ {X Y : Type 0} (f : X → Y) where
  -- what is counted of changed items is counted of the items
  count_mapped : (p : Y → Bool) (q : X → Bool) → ((x : X) → p (f x) ≡ q x) → (xs : List X) → count_by p (map f xs) ≡ count_by q xs
  count_mapped p q same [] = refl
  count_mapped p q same (x ∷ xs) =
      count_first p (f x) (map f xs) ∙ ap (λ n. cond (p (f x)) (1 + n) n) (count_mapped p q same xs)
      ∙ ap (λ b. cond b (1 + count_by q xs) (count_by q xs)) (same x) ∙ sym (count_first q x xs)

  -- so it is with a sum
  sum_mapped : (g : Y → ℕ) (h : X → ℕ) → ((x : X) → g (f x) ≡ h x) → (xs : List X) → sum_by g (map f xs) ≡ sum_by h xs
  sum_mapped g h same [] = refl
  sum_mapped g h same (x ∷ xs) =
      sum_by-cons g (f x) (map f xs) ∙ ap₂ (λ a b. a + b) (same x) (sum_mapped g h same xs) ∙ sym (sum_by-cons h x xs)

-- an outcome without its records is a commit where it is one
committed_alike : (o : Outcome) → is_commit (bare_outcome o) ≡ is_commit o
committed_alike (Committed late) = refl
committed_alike (Aborted report) = refl

-- the faults of the records and of all else are those of the entry
faults_alike : (told : ℕ) (o : Outcome)
    → (told + outcome_faults (bare_outcome o)) + sum_by end_faults_shown (map record_shown (records_of o)) ≡ told + outcome_faults o
faults_alike told (Committed late) = omega arith
faults_alike told (Aborted report) =
    let same = sum_mapped record_shown end_faults_shown undo_faults (λ r. refl) report.records in omega (arith, same)

-- an effect is shown of a record exactly where it stands
effect_counted : (undo : Undo) (end : UndoEnd) (records : List (Undo × UndoEnd)) → length (effects_shown records) ≡ count_by effect_remains records
    → length (effects_shown ((undo, end) ∷ records)) ≡ count_by effect_remains ((undo, end) ∷ records)
effect_counted undo end records rest =
    length-append (effect_from undo (remains_from undo end)) (effects_shown records)
    ∙ by_end (remains_from undo end) ∙ sym (count_first effect_remains (undo, end) records)
  where
    by_end : (o : Option ℕ) → length (effect_from undo o) + length (effects_shown records)
        ≡ cond (is_some o) (1 + count_by effect_remains records) (count_by effect_remains records)
    by_end None = omega (arith, rest)
    by_end (Some k) = ap (λ n. 1 + n) rest

-- so many effects are shown as stand
effects_counted : (records : List (Undo × UndoEnd)) → length (effects_shown records) ≡ count_by effect_remains records
effects_counted [] = refl
effects_counted ((undo, end) ∷ records) = effect_counted undo end records (effects_counted records)

-- so it is of an outcome
remains_alike : (o : Outcome) → length (effects_shown (records_of o)) ≡ outcome_remains o
remains_alike (Committed late) = refl
remains_alike (Aborted report) = effects_counted report.records

-- the totals of what is shown
abbrev pub totals_shown : List Shown → Totals
totals_shown entries = record {
  committed = count_by is_committed_shown entries;
  aborted = count_by (λ (shown : Shown). not (is_committed_shown shown)) entries;
  faults = sum_by faults_shown entries;
  remains = sum_by (λ (shown : Shown). length shown.effects) entries;
}

-- are those of the journal
pub totals_shown_alike : (journal : List Entry) (entries : List Shown) → map shown_of journal ≡ entries → totals_shown entries ≡ totals_of journal
totals_shown_alike journal entries is =
    ap totals_shown (sym is)
    ∙ (λ i. record {
      committed = count_mapped shown_of is_committed_shown is_committed (λ e. committed_alike e.outcome) journal i;
      aborted = count_mapped shown_of (λ (shown : Shown). not (is_committed_shown shown)) is_aborted (λ e. ap not (committed_alike e.outcome)) journal i;
      faults = sum_mapped shown_of faults_shown entry_faults (λ e. faults_alike (sum_by reply_faults e.replies) e.outcome) journal i;
      remains = sum_mapped shown_of (λ (shown : Shown). length shown.effects) entry_remains (λ e. remains_alike e.outcome) journal i;
    })
