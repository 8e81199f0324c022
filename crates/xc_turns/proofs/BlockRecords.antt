-- Which records a transaction and its open block have, as its calls go on, and how many faults a way back can meet.
use Rattle.std.proofs.Common.{◌≡◌, ℕ, ◌+◌, ◌-◌, ◌*◌, ◌<◌, ◌≤◌, true, false, List, [], ◌∷◌, ◌++◌, length, refl, ap, sym, ◌∙◌, subst, arith}
use Rattle.std.proofs.Common.{append-nil, append_assoc}
use Rattle.std.specs.Prelude.{All, Option, is_some, sum_by, unwrap_or}
use Rattle.std.specs.Option.{option_map}
use Rattle.std.specs.declared.option.Option.TheVariants.{None, Some}
use Rattle.std.proofs.lemmas.List.Elements.{All-head, All-tail}
use Rattle.std.proofs.lemmas.List.Sums.{sum_by-cons}
use Rattle.xc_data.specs.Faults.{undo_faults}
use Rattle.xc_data.specs.declared.call.Call.{Call}
use Rattle.xc_data.specs.declared.call.Call.TheVariants as call
use Rattle.xc_data.specs.declared.call.Reply.{Reply}
use Rattle.xc_data.specs.declared.call.Reply.TheVariants as reply
use Rattle.xc_data.specs.declared.undo.Undo.{Undo}
use Rattle.xc_data.specs.declared.undo.UndoEnd.TheVariants.{Undone, Failed, Blocked}
use Rattle.xc_world.specs.Ends.{AreLegal, Ending, blocker, is_undone}
use Rattle.xc_world.specs.Fits.{is_back}
use Rattle.xc_world.specs.RecordOf.{left_by}
use Rattle.xc_model.specs.Moment.{SavedView}
use Rattle.xc_model.specs.PlainSteps.{saved_by}
use Rattle.xc_model.specs.RunningRows.{is_way_back}
use Rattle.xc_model.specs.Stories.{IsCountedSave}
use Rattle.xc_model.specs.Recorded.{Recorded, AreFewFaults, IsFewFaults, IsOfBlock, all_records, block_records, records_with, saved_records}

-- ---- one call more
pub records-more : (k : Recorded) (calls : List Call) (replies : List Reply) (c : Call) (r : Reply) → length calls ≡ length replies
    → all_records k (calls ++ c ∷ []) (replies ++ r ∷ []) ≡ records_with (all_records k calls replies) c r
records-more k [] [] c r e = refl
records-more k [] (q ∷ replies) c r e = absurd (omega arith)
records-more k (d ∷ calls) [] c r e = absurd (omega arith)
records-more k (d ∷ calls) (q ∷ replies) c r e = records-more (records_with k d q) calls replies c r (omega arith)

-- with a call more whose reply tells of few faults there are few
pub faults-more : (tries : ℕ) (k : Recorded) (calls : List Call) (replies : List Reply) (c : Call) (r : Reply) → length calls ≡ length replies
    → IsFewFaults tries (block_records (all_records k calls replies)) r → AreFewFaults tries k calls replies
    → AreFewFaults tries k (calls ++ c ∷ []) (replies ++ r ∷ [])
faults-more tries k [] [] c r e one few = (one, tt)
faults-more tries k [] (q ∷ replies) c r e one few = absurd (omega arith)
faults-more tries k (d ∷ calls) [] c r e one few = absurd (omega arith)
faults-more tries k (d ∷ calls) (q ∷ replies) c r e one few =
    (few.0, faults-more tries (records_with k d q) calls replies c r (omega arith) one few.1)

-- a reply that tells of no way back tells of no fault of one
pub no_faults : (tries records : ℕ) (r : Reply) → is_way_back r ≡ false → IsFewFaults tries records r
no_faults tries records (reply.Undone faults) none = cc none
no_faults tries records _ none = tt

-- ---- a call that doesn't go back
-- it adds its record
pub records_now : (k : Recorded) (c : Call) (r : Reply) → is_back c ≡ false → (records_with k c r).now ≡ k.now ++ left_by c r
records_now k call.Save r ahead = sym (append-nil k.now)
records_now k call.Keep r ahead = sym (append-nil k.now)
records_now k call.Back r ahead = cc ahead
records_now k _ r ahead = refl

-- and a save counts those that are there
pub records_saved : (k : Recorded) (c : Call) (r : Reply) (saved : Option SavedView) (copy : SavedView)
    → length copy.trail ≡ length (k.now ++ left_by c r) → IsCountedSave saved k.saved → IsCountedSave (saved_by c saved copy) (records_with k c r).saved
records_saved k call.Save r saved copy count was = count ∙ ap length (append-nil k.now)
records_saved k call.Keep r saved copy count was = tt
records_saved k call.Back r saved copy count was = tt
records_saved k _ r saved copy count was = was

-- a block is open after it in both where it was
pub open_alike : {X Y : Type 0} → (c : Call) (x : Option X) (y : Option Y) (a : X) (b : Y) → is_some x ≡ is_some y
    → is_some (saved_by c x a) ≡ is_some (saved_by c y b)
open_alike call.Save x y a b same = refl
open_alike call.Keep x y a b same = refl
open_alike call.Back x y a b same = refl
open_alike _ x y a b same = same

-- ---- an open block
-- the calls before its save left as many records as were there
pub counted_block : (kept : SavedView) (k : Recorded) → IsCountedSave (Some kept) k.saved
    → (calls : List (Call × Reply)) × (k.saved ≡ Some calls) × (length kept.trail ≡ length calls)
counted_block kept k counted = by_saved k.saved counted
  where
    by_saved : (o : Option (List (Call × Reply))) → IsCountedSave (Some kept) o
        → (calls : List (Call × Reply)) × (o ≡ Some calls) × (length kept.trail ≡ length calls)
    by_saved None so = absurd so
    by_saved (Some calls) so = (calls, refl, so)

-- and stand in front of those of all its calls
abbrev pub IsInFront : Option (List (Call × Reply)) → List (Call × Reply) → Type 0
IsInFront None now = Unit {0}
IsInFront (Some calls) now = (block : List (Call × Reply)) × (now ≡ calls ++ block)

front_more : (o : Option (List (Call × Reply))) (now more : List (Call × Reply)) → IsInFront o now → IsInFront o (now ++ more)
front_more None now more front = tt
front_more (Some calls) now more (block, is) = (block ++ more, ap (λ l. l ++ more) is ∙ append_assoc calls block more)

front_with : (k : Recorded) (c : Call) (r : Reply) → IsInFront k.saved k.now → IsInFront (records_with k c r).saved (records_with k c r).now
front_with k call.Save r front = ([], sym (append-nil k.now))
front_with k call.Keep r front = tt
front_with k call.Back r front = tt
front_with k c r front = front_more k.saved k.now (left_by c r) front

-- so it is of all calls
pub save_in_front : (k : Recorded) (calls : List Call) (replies : List Reply) → IsInFront k.saved k.now
    → IsInFront (all_records k calls replies).saved (all_records k calls replies).now
save_in_front k [] replies front = front
save_in_front k (c ∷ calls) [] front = front
save_in_front k (c ∷ calls) (r ∷ replies) front = save_in_front (records_with k c r) calls replies (front_with k c r front)

-- a record after them is one of the block
pub of_block : (kept : SavedView) (k : Recorded) (number : ℕ) → IsCountedSave (Some kept) k.saved → length kept.trail < number
    → IsOfBlock (saved_records k) number
of_block kept k number counted above =
    let (calls, is, same) = counted_block kept k counted in
    subst (λ (o : Option (List (Call × Reply))). IsOfBlock (option_map length o) number) (sym is) (omega (arith, above, same))

-- each record that was undone met fewer faults than it had tries
pub few_undone : (tries from : ℕ) (ended : List Ending) → AreLegal tries from ended → All (λ e. is_undone e.1 ≡ true) ended
    → sum_by undo_faults ended ≤ length ended * (tries - 1)
few_undone tries from [] legal undone = omega arith
few_undone tries from ((u, Undone faults) ∷ ended) legal undone =
    let rest = few_undone tries (from + 1) ended legal.1 (All-tail (λ (e : Ending). is_undone e.1 ≡ true) (u, Undone faults) ended undone) in
    let few = legal.0.1 in
    omega (arith, rest, few, sum_by-cons undo_faults (u, Undone faults) ended)
few_undone tries from ((u, Failed done faults) ∷ ended) legal undone =
    let bad = All-head (λ (e : Ending). is_undone e.1 ≡ true) (u, Failed done faults) ended undone in cc bad
few_undone tries from ((u, Blocked by) ∷ ended) legal undone =
    let bad = All-head (λ (e : Ending). is_undone e.1 ≡ true) (u, Blocked by) ended undone in cc bad

-- what is undone doesn't stand in the way
pub none_blocks : (from : ℕ) (u : Undo) (ended : List Ending) → All (λ e. is_undone e.1 ≡ true) ended → blocker from u ended ≡ None
none_blocks from u [] undone = refl
none_blocks from u ((v, Undone faults) ∷ ended) undone =
    none_blocks (from + 1) u ended (All-tail (λ (e : Ending). is_undone e.1 ≡ true) (v, Undone faults) ended undone)
none_blocks from u ((v, Failed done faults) ∷ ended) undone =
    let bad = All-head (λ (e : Ending). is_undone e.1 ≡ true) (v, Failed done faults) ended undone in cc bad
none_blocks from u ((v, Blocked by) ∷ ended) undone =
    let bad = All-head (λ (e : Ending). is_undone e.1 ≡ true) (v, Blocked by) ended undone in cc bad

-- a block of which each record is undone met no more faults than that
pub few_in_block : (tries : ℕ) (kept : SavedView) (k : Recorded) (pending : List Undo) (ended : List Ending)
    → IsCountedSave (Some kept) k.saved → length pending ≡ length kept.trail → length pending + length ended ≡ length k.now
    → AreLegal tries (length pending + 1) ended → All (λ e. is_undone e.1 ≡ true) ended
    → sum_by undo_faults ended ≤ block_records k * (tries - 1)
few_in_block tries kept k pending ended counted same all legal undone =
    let (calls, is, before) = counted_block kept k counted in
    let count : length ended ≡ block_records k =
    let here : length ended ≡ length k.now - length calls = omega (arith, all, same, before) in here ∙ sym (unwrapped calls is) in
    subst (λ n. sum_by undo_faults ended ≤ n * (tries - 1)) count (few_undone tries (length pending + 1) ended legal undone)
  where
    unwrapped : (calls : List (Call × Reply)) → k.saved ≡ Some calls → block_records k ≡ length k.now - length calls
    unwrapped calls is = ap (λ o. length k.now - length (unwrap_or o k.now)) is
