-- What a stack keeps.
use Rattle.std.proofs.Common.{◌≡◌, ℕ, ◌+◌, ◌^◌, ◌<◌, ◌≤◌, Some, Bool, ◌||◌, List, [], ◌∷◌, ◌++◌, length, take, set, get_or}
use Rattle.std.proofs.Common.{ap, refl, sym, ◌∙◌, subst, arith}
use Rattle.std.proofs.lemmas.List.{length-append, length-set, length-take-le, length-drop, map-append}
use Rattle.std.proofs.lemmas.List.Elements.{All-pop, All-push}
use Rattle.std.specs.List.{All, list_any}
use Rattle.xc_data.specs.declared.undo.Undo.{Undo}
use Rattle.xc_data.specs.declared.undo.Undo.TheVariants.{Overwrite, Append, Create, Rename, NewPipe, NewPair}
use Rattle.xc_world.specs.Ends.{Ending}
use Rattle.xc_compensate.specs.Hindered.{hinders}
use Rattle.xc_compensate.specs.Records.{IsRecord, IsStack, split_records, covers, covered}
use Rattle.xc_compensate.proofs.Listing.{both_lists, undos, all_pending, older, newer, newest, record_changed, record_ended, record_removed}

-- what is kept, by what the list shows
is_stack : (records : List Ending) (n : ℕ) (hindered : Bool) (us : List Undo) (back : List Ending) → split_records records n ≡ both_lists us back
    → All IsRecord us → n ≤ length records → length records < 2 ^ 32 → hindered ≡ list_any hinders back → IsStack records n hindered
is_stack records n hindered us back shown kinds within few known = record {
  within = within;
  few = few;
  kinds = subst (All IsRecord) (ap (λ r. r.pending) (sym shown)) kinds;
  known = known ∙ ap (λ r. list_any hinders r.ended) (sym shown);
}

-- one more record, where none has an end yet
pub stack_keeps_more : (records now : List Ending) (n m : ℕ) (hindered : Bool) (r : Ending) → IsStack records n hindered → n ≡ length records → IsRecord r.0
    → now ≡ records ++ r ∷ [] → m ≡ length now → length now < 2 ^ 32 → IsStack now m hindered
stack_keeps_more records now n m hindered r stack none is grown size few =
    let shown = all_pending now m (omega (arith, size)) in
    let before = all_pending records n (omega (arith, none)) in
    is_stack now m hindered (undos now) [] shown
    (subst (All IsRecord) (sym (map-append (λ r. r.0) records (r ∷ [])) ∙ ap undos (sym grown))
    (All-push IsRecord (undos records) r.0 (subst (All IsRecord) (ap (λ r. r.pending) before) stack.kinds) is))
    (omega (arith, size)) few (stack.known ∙ ap (λ r. list_any hinders r.ended) before)

-- a record that covers fewer bytes, but some, is one too
record_covered : (u : Undo) (n : ℕ) → IsRecord u → 1 ≤ n → n ≤ covers u → IsRecord (covered u n)
record_covered (Overwrite file at before after m) n is some within = (some, omega (arith, within, is.1), is.2, is.3)
record_covered (Append file from after m) n is some within = (some, omega (arith, within, is.1), is.2)
record_covered (Create name num) n is some within = is
record_covered (Rename from to) n is some within = is
record_covered (NewPipe num) n is some within = is
record_covered (NewPair num) n is some within = is

module _ (records : List Ending) (at n : ℕ) (hindered : Bool) (r : Ending) (there : at < length records) (is : r ≡ get_or records at r)
    (after : n ≡ at + 1) (stack : IsStack records n hindered) where
  shown : split_records records n ≡ both_lists (older records at ++ r.0 ∷ []) (newer records at)
  shown = newest records at there r n is after

  kinds : All IsRecord (older records at) × IsRecord r.0
  kinds = All-pop IsRecord (older records at ++ r.0 ∷ []) (older records at) (Some r.0) refl
      (subst (All IsRecord) (ap (λ r. r.pending) shown) stack.kinds)

  known : hindered ≡ list_any hinders (newer records at)
  known = stack.known ∙ ap (λ r. list_any hinders r.ended) shown

  -- the newest record covers fewer bytes
  pub keeps_covered : (now : Ending) (covering : ℕ) → now.0 ≡ covered r.0 covering → 1 ≤ covering → covering ≤ covers r.0
      → IsStack (set records at now) n hindered
  keeps_covered now covering cut some within =
      let size = length-set records at now in
      is_stack (set records at now) n hindered (older records at ++ now.0 ∷ []) (newer records at) (record_changed records at there now n after)
      (All-push IsRecord (older records at) now.0 kinds.0 (subst IsRecord (sym cut) (record_covered r.0 covering kinds.1 some within)))
      (omega (arith, size, stack.within)) (omega (arith, size, stack.few)) known

  -- it is gone
  pub keeps_older : (now : List Ending) → now ≡ take at records ++ newer records at → IsStack now at hindered
  keeps_older now left =
      let size = ap length left ∙ length-append (take at records) (newer records at) in
      let front = length-take-le at records (omega (arith, there)) in
      let back = length-drop (at + 1) records in
      is_stack now at hindered (older records at) (newer records at) (ap (λ rs. split_records rs at) left ∙ record_removed records at there) kinds.0
      (omega (arith, size, front)) (omega (arith, size, front, back, there, stack.few)) known

  -- it has its end
  pub keeps_ended : (now : Ending) (next : Bool) → next ≡ (hinders now || hindered) → IsStack (set records at now) at next
  keeps_ended now next more =
      let size = length-set records at now in
      is_stack (set records at now) at next (older records at) (now ∷ newer records at) (record_ended records at there now) kinds.0
      (omega (arith, size, there)) (omega (arith, size, stack.few)) (more ∙ ap (λ h. hinders now || h) known)
