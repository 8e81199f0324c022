-- Records in one list, of which the oldest have no end yet.
use Rattle.std.proofs.Common.{◌≡◌, ◌≢◌, ℕ, zero, suc, ◌+◌, ◌-◌, ◌<◌, ◌≤◌, List, [], ◌∷◌, ◌++◌, length, map, take, drop, set, get_or}
use Rattle.std.proofs.Common.{ap, sym, refl, ◌∙◌, arith}
use Rattle.std.proofs.lemmas.List.{take_at, drop_at, take_all, drop_all, take-set, drop-set, drop-set-lt, set-get_or, map-append, length-take-le}
use Rattle.std.proofs.lemmas.List.{length-drop, length-map, get_or_read, take_rest}
use Rattle.std.proofs.lemmas.Grind.{take-set_at}
use Rattle.xc_data.specs.declared.undo.Undo.{Undo}
use Rattle.xc_world.specs.Ends.{Ending}
use Rattle.xc_compensate.specs.Records.{Records, split_records}

-- the records of a list
abbrev pub undos : List Ending → List Undo
undos records = map (λ r. r.0) records

-- what contracts see of the two lists
abbrev pub both_lists : List Undo → List Ending → Records
both_lists pending ended = record { pending = pending; ended = ended }

listed : (records : List Ending) (n : ℕ) (front back : List Ending) → take n records ≡ front → drop n records ≡ back
    → split_records records n ≡ both_lists (undos front) back
listed records n front back before behind = ap (λ rs. both_lists (undos rs) (drop n records)) before ∙ ap (both_lists (undos front)) behind

-- one has no end yet
pub some_pending : (records : List Ending) (n : ℕ) (old : Records) → split_records records n ≡ old → old.pending ≢ [] → 0 < n
some_pending records zero old view some = absurd (some (ap (λ r. r.pending) (sym view)))
some_pending records (suc n) old view some = omega arith

-- each has its end
pub all_ended : (records : List Ending) (n : ℕ) (old : Records) → split_records records n ≡ old → n ≤ length records → old.pending ≡ []
    → records ≡ old.ended
all_ended records n old view within none =
    let size = length-map (take n records) (λ r. r.0) ∙ length-take-le n records within in
    let zero : n ≡ 0 = sym size ∙ ap length (ap (λ r. r.pending) view ∙ none) in
    ap (λ k. drop k records) (sym zero) ∙ ap (λ r. r.ended) view

-- none has an end yet
pub none_ended : (records : List Ending) (n : ℕ) (old : Records) → split_records records n ≡ old → n ≤ length records → old.ended ≡ []
    → n ≡ length records
none_ended records n old view within none = omega (arith, within, length-drop n records, ap length (ap (λ r. r.ended) view ∙ none))

-- all are listed then
pub all_pending : (records : List Ending) (n : ℕ) → length records ≤ n → split_records records n ≡ both_lists (undos records) []
all_pending records n all = listed records n records [] (take_all n records all) (drop_all n records all)

-- those before a place
abbrev pub older : List Ending → ℕ → List Undo
older records at = undos (take at records)

-- those behind it
abbrev pub newer : List Ending → ℕ → List Ending
newer records at = drop (at + 1) records

-- as a slice takes them
pub rest : (records seen : List Ending) (at n : ℕ) → seen ≡ records → n ≡ at + 1 → take (length seen - n) (drop n seen) ≡ newer records at
rest records seen at n same after = take_rest seen n ∙ ap (drop n) same ∙ ap (λ k. drop k records) after

module _ (records : List Ending) (at : ℕ) (there : at < length records) where
  -- so many are older
  pub older_count : length (older records at) ≡ at
  older_count = length-map (take at records) (λ r. r.0) ∙ length-take-le at records (omega (arith, there))

  -- another record at the place is the newest that has no end
  pub record_changed : (r : Ending) (n : ℕ) → n ≡ at + 1
      → split_records (set records at r) n ≡ both_lists (older records at ++ r.0 ∷ []) (newer records at)
  record_changed r n after =
      ap (split_records (set records at r)) after
      ∙ listed (set records at r) (at + 1) (take at records ++ r ∷ []) (newer records at) (take-set_at records at (at + 1) r refl there)
      (drop-set-lt (at + 1) records at r (omega arith))
      ∙ ap (λ us. both_lists us (newer records at)) (map-append (λ r. r.0) (take at records) (r ∷ []))

  -- so is the one that is there
  pub newest : (r : Ending) (n : ℕ) → r ≡ get_or records at r → n ≡ at + 1
      → split_records records n ≡ both_lists (older records at ++ r.0 ∷ []) (newer records at)
  newest r n is after = ap (λ rs. split_records rs n) (sym (set-get_or records at r) ∙ ap (set records at) (sym is)) ∙ record_changed r n after

  -- one that has its end
  pub record_ended : (r : Ending) → split_records (set records at r) at ≡ both_lists (older records at) (r ∷ newer records at)
  record_ended r = listed (set records at r) at (take at records) (r ∷ newer records at) (take-set records at r) (drop-set records at r there)

  -- and where it is gone
  pub record_removed : split_records (take at records ++ newer records at) at ≡ both_lists (older records at) (newer records at)
  record_removed =
      let front = take at records in
      let size = length-take-le at records (omega (arith, there)) in
      listed (front ++ newer records at) at front (newer records at) (take_at front (newer records at) at size) (drop_at front (newer records at) at size)

-- two reads of one place
pub same_read : (records : List Ending) (at : ℕ) (r s : Ending) → at < length records → r ≡ get_or records at r → s ≡ get_or records at s → r ≡ s
same_read records at r s there one other = get_or_read records at r there one s ∙ sym other
