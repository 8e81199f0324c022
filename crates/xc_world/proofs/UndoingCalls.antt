-- Undoing what one call left: the world before the call is brought back from the world after it.
use Rattle.std.proofs.Common.{◌≡◌, ℕ, ◌+◌, ◌≤◌, ◌<◌, Bool, true, false, Option, Some, None, is_some, List, [], ◌∷◌, ◌++◌, length, take, drop, refl, ap, sym}
use Rattle.std.proofs.Common.{◌∙◌, subst, arith}
use Rattle.std.specs.Prelude.{IsTrue, ◌==◌, nat_lt, if◌then◌else◌}
use Rattle.std.specs.FinMap as map
use Rattle.std.specs.Ordering.{eq_by_cmp}
use Rattle.std.specs.Cmp.Lexicographic.{nat_list_cmp_total}
use Rattle.std.proofs.lemmas.Map.Lookups.{exact_bytes}
use Rattle.std.proofs.lemmas.Bool.{false≢true, eqb-true, ltb-false, cond_both}
use Rattle.std.proofs.lemmas.List.{length-take-le}
use Rattle.std.proofs.Math.Seq.{take-append_seam}
use Rattle.xc_data.specs.declared.object.Num.{Num}
use Rattle.xc_data.specs.declared.undo.Undo.{Undo}
use Rattle.xc_data.specs.declared.undo.Undo.TheVariants.{Overwrite, Append}
use Rattle.xc_data.specs.declared.private.Place.{Place}
use Rattle.xc_data.specs.declared.private.Place.TheVariants.{Vacant, File, Pipe, Pair}
use Rattle.xc_data.specs.declared.private.Private.{Private}
use Rattle.xc_data.specs.Private.{with_place, lowest_vacant}
use Rattle.xc_maps.specs.Keys.{name_cmp}
use Rattle.xc_maps.proofs.Laws.{get-insert_same, insert-remove_same, num_total, num_exact, insert_undone as removed_again}
use Rattle.xc_world.specs.World.{World, Pair as PairOf, file_of, with_file, pipe_of, empty_pipe, pair_of, empty_pair, waiting, with_waiting}
use Rattle.xc_world.specs.Sound.{IsKnown, IsFree}
use Rattle.xc_world.specs.Act.Step.{Stepped}
use Rattle.xc_world.specs.Act.Names.{next_num, open_step, create_step, rename_step}
use Rattle.xc_world.specs.Act.Files.{read_at, overwritten, overwrite_at, append_at, seek_at, len_at, overwrite_short, append_short}
use Rattle.xc_world.specs.Act.Pipes.{new_pipe, read_pipe_at, pair_made, new_pair, received, receive_at}
use Rattle.xc_world.specs.Fits.{is_done}
use Rattle.xc_world.specs.Trail.{done_of, overwrite_record, append_record, create_record, rename_record, pipe_record, pair_record, move_name, all_undone}
use Rattle.xc_world.specs.Undoing.{IsPairRest, BroughtBack}
use Rattle.xc_world.proofs.UndoingParts.{bytes_restored, rest-all, rest-drop, file-back, pipe-back, pair-back, new_pipe-back, new_pair-back}

-- records that bring the world w back, from a world that was brought back to s
abbrev pub BringsBack : World → World → List Undo → Type 0
BringsBack w s us = (v : World) → BroughtBack s v → BroughtBack w (all_undone v us)

-- a call needs no record to be undone
abbrev pub UndoesNone : World → Stepped → Type 0
UndoesNone w s = BringsBack w s.world []

-- nothing is recorded, and the world is as it was
pub as_is : (w : World) → BringsBack w w []
as_is w v back = back

-- a write of no byte records nothing, any other one record
none_recorded : (w : World) (us : List Undo) (b : Bool) → b ≡ true → BringsBack w w (if b then [] else us)
none_recorded w us b e = subst (λ c. BringsBack w w (if c then [] else us)) (sym e) (as_is w)

one_recorded : (w s : World) (us : List Undo) (b : Bool) → b ≡ false → BringsBack w s us → BringsBack w s (if b then [] else us)
one_recorded w s us b e h = subst (λ c. BringsBack w s (if c then [] else us)) (sym e) h

-- ---- overwrites
abbrev pub UndoesOverwrite : World → List ℕ → Place → Stepped → Type 0
UndoesOverwrite w bytes p s = BringsBack w s.world (overwrite_record w bytes (done_of (length bytes) s.reply) p)

-- the old bytes stand again where n bytes were written
put-undoes : (w : World) (num : Num) (at n : ℕ) (bytes written : List ℕ) → is_some (map.get w.files num) ≡ true → length written ≡ n
    → n ≤ length bytes
    → at + n ≤ length (file_of w num)
    → BringsBack w (with_file w num (overwritten at written (file_of w num))) (Overwrite num at (take (length bytes) (drop at (file_of w num))) bytes n ∷ [])
put-undoes w num at n bytes written there e le inside v back =
    file-back w v num (overwritten at written (file_of w num)) (overwritten at (take n (take (length bytes) (drop at (file_of w num))))) there
    (bytes_restored at n (length bytes) written (file_of w num) e le inside) back

-- the record of an overwrite undoes it
pub overwrite_at-undoes : (w : World) (me : Private) (h : ℕ) (bytes : List ℕ) (p : Place) → IsKnown w p
    → UndoesOverwrite w bytes p (overwrite_at w me h bytes p)
overwrite_at-undoes w me h bytes (File num at) there =
    cond_both (length bytes == 0) _ _ (UndoesOverwrite w bytes (File num at)) (λ none. none_recorded w _ (length bytes == 0) none) (λ some.
    cond_both (nat_lt (length (file_of w num)) (at + length bytes)) _ _ (UndoesOverwrite w bytes (File num at)) (λ _. as_is w) (λ inside.
    one_recorded w _ _ (length bytes == 0) some
    (put-undoes w num at (length bytes) bytes bytes there refl (omega arith) (ltb-false (length (file_of w num)) (at + length bytes) inside))))
overwrite_at-undoes w me h bytes Vacant known = as_is w
overwrite_at-undoes w me h bytes (Pipe num) known = as_is w
overwrite_at-undoes w me h bytes (Pair num side) known = as_is w

-- an overwrite that would be done is within the file
pub done-inside : (w : World) (me : Private) (h : ℕ) (bytes : List ℕ) (num : Num) (at : ℕ) → 0 < length bytes
    → IsTrue (is_done (overwrite_at w me h bytes (File num at)).reply)
    → at + length bytes ≤ length (file_of w num)
done-inside w me h bytes num at some =
    let Inside : Stepped → Type 0 = λ s. IsTrue (is_done s.reply) → at + length bytes ≤ length (file_of w num) in
    cond_both (length bytes == 0) _ _ Inside (λ none _. omega (arith, eqb-true (length bytes) 0 none)) (λ _.
    cond_both (nat_lt (length (file_of w num)) (at + length bytes)) _ _ Inside (λ _ past. absurd (false≢true past)) (λ inside _.
    ltb-false (length (file_of w num)) (at + length bytes) inside))

-- a write stops before its last byte
pub record StopsBefore (n : ℕ) (bytes : List ℕ) (s : Stepped) : Type 0 where
  pub would : IsTrue (is_done s.reply)
  pub before : n < length bytes

-- the record of an overwrite that stops after n bytes undoes it
pub overwrite_short-undoes : (w : World) (me : Private) (h : ℕ) (bytes : List ℕ) (n : ℕ) (p : Place) → IsKnown w p
    → ((n == 0) ≡ false → StopsBefore n bytes (overwrite_at w me h bytes p)) → UndoesOverwrite w bytes p (overwrite_short w me (h, p) bytes n)
overwrite_short-undoes w me h bytes n (File num at) there stops =
    cond_both (n == 0) _ _ (UndoesOverwrite w bytes (File num at)) (λ none. none_recorded w _ (n == 0) none) (λ some.
    let before : n < length bytes = (stops some).before in
    let inside : at + length bytes ≤ length (file_of w num) = done-inside w me h bytes num at (omega arith) (stops some).would in
    one_recorded w _ _ (n == 0) some
    (put-undoes w num at n bytes (take n bytes) there (length-take-le n bytes (omega arith)) (omega arith) (omega arith)))
overwrite_short-undoes w me h bytes n Vacant known stops = as_is w
overwrite_short-undoes w me h bytes n (Pipe num) known stops = as_is w
overwrite_short-undoes w me h bytes n (Pair num side) known stops = as_is w

-- ---- appends
abbrev pub UndoesAppend : World → List ℕ → Place → Stepped → Type 0
UndoesAppend w bytes p s = BringsBack w s.world (append_record w bytes (done_of (length bytes) s.reply) p)

-- the old length cuts off what was appended
appended-undoes : (w : World) (num : Num) (n : ℕ) (bytes written : List ℕ) → is_some (map.get w.files num) ≡ true
    → BringsBack w (with_file w num (file_of w num ++ written)) (Append num (length (file_of w num)) bytes n ∷ [])
appended-undoes w num n bytes written there v back =
    file-back w v num (file_of w num ++ written) (take (length (file_of w num))) there (take-append_seam (file_of w num) written) back

-- the record of an append undoes it
pub append_at-undoes : (w : World) (me : Private) (h : ℕ) (bytes : List ℕ) (p : Place) → IsKnown w p
    → UndoesAppend w bytes p (append_at w me h bytes p)
append_at-undoes w me h bytes (File num at) there =
    cond_both (length bytes == 0) _ _ (UndoesAppend w bytes (File num at)) (λ none. none_recorded w _ (length bytes == 0) none) (λ some.
    cond_both (nat_lt 65536 (length (file_of w num) + length bytes)) _ _ (UndoesAppend w bytes (File num at)) (λ _. as_is w) (λ _.
    one_recorded w _ _ (length bytes == 0) some (appended-undoes w num (length bytes) bytes bytes there)))
append_at-undoes w me h bytes Vacant known = as_is w
append_at-undoes w me h bytes (Pipe num) known = as_is w
append_at-undoes w me h bytes (Pair num side) known = as_is w

-- the record of an append that stops after n bytes undoes it
pub append_short-undoes : (w : World) (me : Private) (h : ℕ) (bytes : List ℕ) (n : ℕ) (p : Place) → IsKnown w p
    → UndoesAppend w bytes p (append_short w me (h, p) bytes n)
append_short-undoes w me h bytes n (File num at) there =
    cond_both (n == 0) _ _ (UndoesAppend w bytes (File num at)) (λ none. none_recorded w _ (n == 0) none) (λ some.
    one_recorded w _ _ (n == 0) some (appended-undoes w num n bytes (take n bytes) there))
append_short-undoes w me h bytes n Vacant known = as_is w
append_short-undoes w me h bytes n (Pipe num) known = as_is w
append_short-undoes w me h bytes n (Pair num side) known = as_is w

-- ---- names
-- a new name and its new file are gone again
pub created-undoes : (w : World) (me : Private) (tx : ℕ) (name : List ℕ) (o : Option Num) (vacant : Option ℕ) → map.get w.names name ≡ o
    → IsFree w (next_num me tx)
    → BringsBack w (create_step w me tx name (o, vacant)).world (create_record me tx name (create_step w me tx name (o, vacant)).reply)
created-undoes w me tx name (Some num) vacant e free v back = back
created-undoes w me tx name None None e free v back = back
created-undoes w me tx name None (Some h) e free v back =
    let num : Num = next_num me tx in
    record {
      names = ap (λ m. map.remove m name) back.names ∙ removed_again nat_list_cmp_total exact_bytes w.names name num e;
      files = ap (λ m. map.remove m num) back.files ∙ removed_again num_total num_exact w.files num [] free.file;
      pipes = back.pipes;
      pairs = back.pairs;
      started = back.started;
      blocks = back.blocks;
      words = back.words;
    }

-- a name that is not there is not there either without another
pub none-removed : (m : map.FinMap name_cmp Num) (from to : List ℕ) → map.get m to ≡ None → map.get (map.remove m from) to ≡ None
none-removed m from to none =
    map.get-remove nat_list_cmp_total m from to
    ∙ cond_both (eq_by_cmp name_cmp to from) None (map.get m to) (λ o. o ≡ None) (λ _. refl) (λ _. none)

-- the file has its old name again
pub renamed-undoes : (w : World) (me : Private) (from to : List ℕ) (o there : Option Num) → map.get w.names from ≡ o → map.get w.names to ≡ there
    → BringsBack w (rename_step w me from to (o, there)).world (rename_record from to (rename_step w me from to (o, there)).reply)
renamed-undoes w me from to None there e f v back = back
renamed-undoes w me from to (Some num) (Some other) e f v back = back
renamed-undoes w me from to (Some num) None e f v back =
    let without = map.remove w.names from in
    let got_to : map.get v.names to ≡ Some num = ap (λ m. map.get m to) back.names ∙ get-insert_same nat_list_cmp_total exact_bytes without to num in
    subst (λ o. BroughtBack w (move_name v to from o)) (sym got_to)
    (record {
      names =
          ap (λ m. map.insert (map.remove m to) from num) back.names
          ∙ (ap (λ m. map.insert m from num) (removed_again nat_list_cmp_total exact_bytes without to num (none-removed w.names from to f))
          ∙ insert-remove_same nat_list_cmp_total exact_bytes w.names from num e);
      files = back.files;
      pipes = back.pipes;
      pairs = back.pairs;
      started = back.started;
      blocks = back.blocks;
      words = back.words;
    })

-- to open a file leaves nothing to undo
pub opened-undoes : (w : World) (me : Private) (o : Option Num) (vacant : Option ℕ) → UndoesNone w (open_step w me o vacant)
opened-undoes w me None vacant v back = back
opened-undoes w me (Some num) None v back = back
opened-undoes w me (Some num) (Some h) v back = back

-- ---- calls on files that change none
pub read_at-undoes : (w : World) (me : Private) (h n : ℕ) (p : Place) → UndoesNone w (read_at w me h n p)
read_at-undoes w me h n (File num at) =
    cond_both (n == 0) _ _ (UndoesNone w) (λ _. as_is w) (λ _.
    cond_both _ _ _ (UndoesNone w) (λ _. as_is w) (λ _. as_is w))
read_at-undoes w me h n Vacant = as_is w
read_at-undoes w me h n (Pipe num) = as_is w
read_at-undoes w me h n (Pair num side) = as_is w

-- to set a handle's position leaves nothing to undo
pub seek_at-undoes : (w : World) (me : Private) (h to : ℕ) (p : Place) → UndoesNone w (seek_at w me h to p)
seek_at-undoes w me h to (File num at) = cond_both (nat_lt 65536 to) _ _ (UndoesNone w) (λ _. as_is w) (λ _. as_is w)
seek_at-undoes w me h to Vacant = as_is w
seek_at-undoes w me h to (Pipe num) = as_is w
seek_at-undoes w me h to (Pair num side) = as_is w

-- to ask for a file's length leaves nothing to undo
pub len_at-undoes : (w : World) (me : Private) (p : Place) → UndoesNone w (len_at w me p)
len_at-undoes w me (File num at) v back = back
len_at-undoes w me Vacant v back = back
len_at-undoes w me (Pipe num) v back = back
len_at-undoes w me (Pair num side) v back = back

-- ---- pipes and pairs: a new one is gone again
pub new_pipe-undoes : (w : World) (me : Private) (tx : ℕ) (vacant : Option ℕ) → IsFree w (next_num me tx)
    → BringsBack w (new_pipe w me tx vacant).world (pipe_record me tx (new_pipe w me tx vacant).reply)
new_pipe-undoes w me tx None free v back = back
new_pipe-undoes w me tx (Some h) free v back = new_pipe-back w v (next_num me tx) empty_pipe free.pipe back

pair_made-undoes : (w : World) (me : Private) (tx h : ℕ) (p : Place) (vacant : Option ℕ) → IsFree w (next_num me tx)
    → BringsBack w (pair_made w (with_place me h p) tx h vacant).world (pair_record me tx (pair_made w (with_place me h p) tx h vacant).reply)
pair_made-undoes w me tx h p None free v back = back
pair_made-undoes w me tx h p (Some g) free v back = new_pair-back w v (next_num me tx) empty_pair free.pair back

-- the record of a new pair undoes it
pub new_pair-undoes : (w : World) (me : Private) (tx : ℕ) (vacant : Option ℕ) → IsFree w (next_num me tx)
    → BringsBack w (new_pair w me tx vacant).world (pair_record me tx (new_pair w me tx vacant).reply)
new_pair-undoes w me tx None free = as_is w
new_pair-undoes w me tx (Some h) free =
    let first = Pair (next_num me tx) 0 in
    pair_made-undoes w me tx h first (lowest_vacant (with_place me h first).places) free

-- ---- what is taken from them stays away
pub read_pipe_at-undoes : (w : World) (me : Private) (n : ℕ) (p : Place) → IsKnown w p → UndoesNone w (read_pipe_at w me n p)
read_pipe_at-undoes w me n (Pipe num) there =
    cond_both (n == 0) _ _ (UndoesNone w) (λ _. as_is w) (λ _.
    cond_both (length (pipe_of w num).held == 0) _ _ (UndoesNone w) (λ _. as_is w) (λ _ v back.
    pipe-back w v num (record (pipe_of w num) { held = drop n (pipe_of w num).held }) there
    (record { shut = refl; held = rest-drop n (pipe_of w num).held }) back))
read_pipe_at-undoes w me n Vacant known = as_is w
read_pipe_at-undoes w me n (File num at) known = as_is w
read_pipe_at-undoes w me n (Pair num side) known = as_is w

-- a side's first message was taken
first-taken : (pair : PairOf) (b : Bool) (message : List ℕ) (messages : List (List ℕ)) → (if b then pair.first else pair.second) ≡ message ∷ messages
    → IsPairRest pair (if b then record pair { first = messages } else record pair { second = messages })
first-taken pair true message messages e = record { shut = refl; first = record { taken = message ∷ []; split = e }; second = rest-all pair.second }
first-taken pair false message messages e = record { shut = refl; first = rest-all pair.first; second = record { taken = message ∷ []; split = e } }

received-undoes : (w : World) (me : Private) (num : Num) (side : ℕ) (messages : List (List ℕ)) → is_some (map.get w.pairs num) ≡ true
    → waiting (pair_of w num) side ≡ messages → UndoesNone w (received w me num side messages)
received-undoes w me num side [] there e v back = back
received-undoes w me num side (message ∷ messages) there e v back =
    pair-back w v num (with_waiting (pair_of w num) side messages) there (first-taken (pair_of w num) (side == 0) message messages e) back

-- a message that was taken stays away
pub receive_at-undoes : (w : World) (me : Private) (p : Place) → IsKnown w p → UndoesNone w (receive_at w me p)
receive_at-undoes w me (Pair num side) known = received-undoes w me num side (waiting (pair_of w num) side) known.0 refl
receive_at-undoes w me Vacant known = as_is w
receive_at-undoes w me (File num at) known = as_is w
receive_at-undoes w me (Pipe num) known = as_is w
