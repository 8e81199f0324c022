-- A transaction whose block goes back: its records and its numbers, and what it is after a turn.
use Rattle.std.proofs.Common.{◌≡◌, ◌⊎◌, inl, inr, ℕ, ◌+◌, ◌*◌, ◌^◌, ◌<◌, ◌≤◌, true, List, [], ◌∷◌, ◌++◌, Option, None, Some, length, map, refl, ap}
use Rattle.std.proofs.Common.{sym, ◌∙◌, append_assoc, arith}
use Rattle.std.specs.Prelude.{All, Contains, sum_by, take, drop}
use Rattle.std.proofs.lemmas.List.{length-append}
use Rattle.std.proofs.lemmas.List.Elements.{All-nil, All-cons, All-contains, All-contains_itself, All-drop, All-head, All-tail, All-take}
use Rattle.std.proofs.lemmas.List.Sums.{sum_by-le}
use Rattle.xc_data.specs.Faults.{end_faults, undo_faults}
use Rattle.xc_data.specs.declared.undo.Undo.{Undo}
use Rattle.xc_data.specs.declared.undo.UndoEnd.{UndoEnd}
use Rattle.xc_data.specs.declared.undo.UndoEnd.TheVariants.{Undone, Failed, Blocked}
use Rattle.xc_compensate.specs.Records.{Records}
use Rattle.xc_compensate.specs.Turns.{turn_of}
use Rattle.xc_compensate.specs.declared.stack.UndoTurn.{UndoTurn}
use Rattle.xc_compensate.specs.declared.stack.UndoTurn.TheVariants as turn
use Rattle.xc_data.specs.declared.entry.Cause.TheVariants as cause
use Rattle.xc_data.specs.declared.entry.KeptItem.{KeptItem}
use Rattle.xc_model.specs.BackingRows.{phase_after}
use Rattle.xc_world.specs.Ends.{AreLegal, Ending, IsLegalEnd, is_undone}
use Rattle.xc_model.specs.declared.phase.Phase.{Phase}
use Rattle.xc_model.specs.declared.phase.Phase.TheVariants.{Backing, Undoing}
use Rattle.xc_model.specs.Moment.{SavedView}
use Rattle.xc_station.specs.Backs.{CanGoBack, HasSave}
use Rattle.xc_station.specs.Jobs.{saved_in, saved_view, trail_of, tx_view}
use Rattle.xc_station.specs.declared.tx.Saved.{Saved}
use Rattle.xc_station.specs.declared.tx.Tx.{Tx}

-- ---- the faults of undone records
few_in : (tries : ℕ) (u : Undo) (end : UndoEnd) (way : Option ℕ) → IsLegalEnd tries u end way → is_undone end ≡ true → end_faults end ≤ tries
few_in tries u (Undone faults) way legal is = let less = legal.1 in omega (arith, less)
few_in tries u (Failed done faults) way legal is = cc is
few_in tries u (Blocked by) way legal is = cc is

few_each : (tries from : ℕ) (es : List Ending) → AreLegal tries from es → All (λ (e : Ending). is_undone e.1 ≡ true) es
    → All (λ (e : Ending). undo_faults e ≤ tries) es
few_each tries from [] legal undone = All-nil (λ (e : Ending). undo_faults e ≤ tries)
few_each tries from ((u, end) ∷ es) legal undone =
    let P : Ending → Type 0 = λ e. is_undone e.1 ≡ true in
    All-cons (λ (e : Ending). undo_faults e ≤ tries) (u, end) es (few_in tries u end _ legal.0 (All-head P (u, end) es undone))
    (few_each tries (from + 1) es legal.1 (All-tail P (u, end) es undone))

-- they are at most so many for each
pub few_faults : (tries from : ℕ) (es : List Ending) → AreLegal tries from es → All (λ (e : Ending). is_undone e.1 ≡ true) es
    → sum_by undo_faults es ≤ length es * tries
few_faults tries from es legal undone = sum_by-le undo_faults tries es (few_each tries from es legal undone)

-- ---- its records
-- the newest of those without an end has one now
pub same_trail : (older : List Undo) (u : Undo) (end : UndoEnd) (was new : Records) → was.pending ≡ older ++ u ∷ []
    → new ≡ record { pending = older; ended = (u, end) ∷ was.ended }
    → new.pending ++ map (λ (e : Ending). e.0) new.ended ≡ was.pending ++ map (λ (e : Ending). e.0) was.ended
same_trail older u end was new pending is =
    let newer = map (λ (e : Ending). e.0) was.ended in
    ap (λ (r : Records). r.pending ++ map (λ (e : Ending). e.0) r.ended) is
    ∙ sym (append_assoc older (u ∷ []) newer) ∙ ap (λ us. us ++ newer) (sym pending)

-- so they are as many
pub same_count : (older : List Undo) (u : Undo) (end : UndoEnd) (was new : Records) → was.pending ≡ older ++ u ∷ []
    → new ≡ record { pending = older; ended = (u, end) ∷ was.ended }
    → length new.pending + length new.ended ≡ length was.pending + length was.ended
same_count older u end was new pending is =
    let before = ap length pending ∙ length-append older (u ∷ []) in
    let pending' = ap (λ (r : Records). length r.pending) is in
    let ended' = ap (λ (r : Records). length r.ended) is in
    omega (arith, before, pending', ended')

module _ (tx : Tx) (undo : Records) (p : Phase) where
  abbrev tried : Tx
  tried = record tx { undo = undo; phase = p }

  saved_tried : (o : Option Saved) → trail_of tried ≡ trail_of tx → saved_in tried o ≡ saved_in tx o
  saved_tried None same = refl
  saved_tried (Some kept) same = ap (λ us. Some (record (saved_view tx kept) { trail = take kept.records us })) same

  -- what its save kept is the same then
  pub tried_view : trail_of tried ≡ trail_of tx → tx_view tried ≡ record (tx_view tx) { phase = p; undo = undo }
  tried_view same = ap (λ (s : Option SavedView). record (tx_view tx) { phase = p; undo = undo; saved = s }) (saved_tried tx.saved same)

  save_tried : (o : Option Saved) → length undo.pending + length undo.ended ≡ length tx.undo.pending + length tx.undo.ended → HasSave tx o
      → HasSave tried o
  save_tried None same has = tt
  save_tried (Some kept) same has =
      record { records = (let few = has.records in omega (arith, few, same)); taken = has.taken; late = has.late; writes = has.writes }

  -- and it may go on
  pub back_again : (tries : ℕ) → length undo.pending + length undo.ended ≡ length tx.undo.pending + length tx.undo.ended → (p ≡ Backing → tx.phase ≡ Backing)
      → CanGoBack tries tx → CanGoBack tries tried
  back_again tries same backing can =
      record {
        save = save_tried tx.saved same can.save;
        room = λ is. let room = can.room (backing is) in record {
          notes = record { calls = room.notes.calls; replies = room.notes.replies };
          faults = subst_faults same room.faults;
        };
      }
    where
      subst_faults : {a b : ℕ} → a ≡ b → b * tries < 2 ^ 32 → a * tries < 2 ^ 32
      subst_faults same less = rw same less

-- ---- after one try
-- it goes on back where the record is undone
pub still_back : (end : UndoEnd) (number : ℕ) (r : UndoTurn) → r ≡ turn_of end → (r ≡ turn.Ended) ⊎ ((faults : ℕ) × (r ≡ turn.Undone faults))
    → phase_after number end ≡ Backing
still_back (Undone faults) number r is which = refl
still_back (Failed done faults) number r is (inl one) = cc (is, one)
still_back (Failed done faults) number r is (inr (k, one)) = cc (is, one)
still_back (Blocked by) number r is (inl one) = cc (is, one)
still_back (Blocked by) number r is (inr (k, one)) = cc (is, one)

-- else it is stuck
pub stuck_so : (end : UndoEnd) (number : ℕ) (r : UndoTurn) → r ≡ turn_of end
    → ((done : ℕ) × (faults : ℕ) × (r ≡ turn.Failed done faults)) ⊎ ((by : ℕ) × (r ≡ turn.Blocked by))
    → phase_after number end ≡ Undoing (cause.Stuck number)
stuck_so (Undone k) number r is (inl (done, faults, one)) = cc (is, one)
stuck_so (Undone k) number r is (inr (by, one)) = cc (is, one)
stuck_so (Failed done faults) number r is which = refl
stuck_so (Blocked by) number r is which = refl

-- ---- what is given back of what was taken
-- what is of its last part was taken
pub drop_among : (n : ℕ) (items : List KeptItem) (item : KeptItem) → Contains (drop n items) item → Contains items item
drop_among n items item there =
    All-contains (Contains items) (drop n items) item (All-drop (Contains items) n items (All-contains_itself items)) there

-- so what is given back of it was taken or was kept before
pub given_part : (n : ℕ) (items old new : List KeptItem)
    → ((item : KeptItem) → Contains new item → Contains (drop n items) item ⊎ Contains old item)
    → (item : KeptItem) → Contains new item → Contains items item ⊎ Contains old item
given_part n items old new among item at = elim (among item at) [
  | inl there ↦ inl (drop_among n items item there)
  | inr there ↦ inr there
]

-- and what is left of it was taken
pub left_among : (n : ℕ) (items : List KeptItem) (item : KeptItem) → Contains (take n items) item → Contains items item
left_among n items item there =
    All-contains (Contains items) (take n items) item (All-take (Contains items) n items (All-contains_itself items)) there
