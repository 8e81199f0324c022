-- What the list of the words' holders says of the finite map that contracts see.
use Rattle.std.proofs.Common.{◌≡◌, ◌≢◌, ℕ, zero, suc, ◌+◌, ◌<◌, ◌≤◌, cond, Option, Some, None, List, [], ◌∷◌, ◌++◌, length}
use Rattle.std.proofs.Common.{set, get_or, refl, ap, sym, ◌∙◌, subst, arith}
use Rattle.std.specs.Prelude.{slice_get}
use Rattle.std.specs.declared.cmp.Ordering.{Ordering}
use Rattle.std.specs.declared.cmp.Ordering.TheVariants.{Less, Equal, Greater}
use Rattle.std.specs.Ordering.{nat_cmp, ordering_then, is_eq, eq_by_cmp}
use Rattle.std.specs.Cmp.{nat_cmp_total, ranked, eq_by_cmp_equiv}
use Rattle.std.specs.BTreeMap.{is_at}
use Rattle.std.specs.FinMap as map
use Rattle.std.proofs.lemmas.Map.Lookups.{exact_unsigned}
use Rattle.std.proofs.lemmas.Option.{slice_get_past, slice_get_within, slice_get_read}
use Rattle.std.proofs.lemmas.List.{set-get_or}
use Rattle.xc_data.specs.declared.claim.Mode.{Mode}
use Rattle.xc_maps.proofs.Laws.{get-lookup}
use Rattle.xc_locks.specs.Keys.{WordHolder, word_holder, word_holder_cmp}
use Rattle.xc_locks.specs.Rows.{mode_among, with_mode, entries_at}
use Rattle.xc_locks.specs.Words.{entries_from, words_of}
use Rattle.xc_locks.proofs.Orders.{word_holder_total, word_holder_exact}
use Rattle.xc_locks.proofs.Free.{same_modes}
use Rattle.xc_locks.proofs.Rows.{found_in, held_in, own, passed}

-- ---- one entry of the map is one of the list at its word's place
-- the mode of a transaction at a word, in a list of entries
abbrev mode_found_at : ℕ → ℕ → List (WordHolder × Mode) → Option Mode
mode_found_at = found_in nat_cmp

-- nothing is found of a word before all
before : (v w n : ℕ) (ms : List (List (ℕ × Mode))) → v < w → mode_found_at v n (entries_from w ms) ≡ None
before v w n [] lt = refl
before v w n (m ∷ ms) lt = passed nat_cmp exact_unsigned v w n m (entries_from (w + 1) ms) (λ e. absurd (omega arith)) ∙ before v (w + 1) n ms (omega arith)

-- what is found of a word is in the list at its place
placed : (v w i n : ℕ) (ms : List (List (ℕ × Mode))) → v ≡ w + i → mode_found_at v n (entries_from w ms) ≡ held_in (slice_get ms i) n
placed v w i n [] e = refl
placed v w zero n (m ∷ ms) e =
    let same : w ≡ v = omega arith in
    ap (λ u. mode_found_at v n (entries_from u (m ∷ ms))) same ∙ own nat_cmp nat_cmp_total v n m (entries_from (v + 1) ms) (before v (v + 1) n ms (omega arith))
placed v w (suc i) n (m ∷ ms) e =
    passed nat_cmp exact_unsigned v w n m (entries_from (w + 1) ms) (λ same. absurd (omega arith)) ∙ placed v (w + 1) i n ms (omega arith)

-- the finite map has at a holder what the list at the word's place has at the transaction
get-words_of : (ms : List (List (ℕ × Mode))) (v n : ℕ) → map.get (words_of ms) (word_holder v n) ≡ held_in (slice_get ms v) n
get-words_of ms v n = get-lookup word_holder_total (entries_from 0 ms) (word_holder v n) ∙ placed v 0 v n ms (omega arith)

-- ---- changes of the list
-- a word that nobody holds has no entry after the others
pushed : (w : ℕ) (ms : List (List (ℕ × Mode))) → entries_from w (ms ++ [] ∷ []) ≡ entries_from w ms
pushed w [] = refl
pushed w (m ∷ ms) = ap (λ es. entries_at w m ++ es) (pushed (w + 1) ms)

-- a word more that nobody holds isn't seen
pub words_of-push : (ms : List (List (ℕ × Mode))) → words_of (ms ++ [] ∷ []) ≡ words_of ms
words_of-push ms = ap (λ es. map.from_entries es) (pushed 0 ms)

-- at its place stands what was put there
set_there : (ms : List (List (ℕ × Mode))) (i : ℕ) (k : List (ℕ × Mode)) → i < length ms → slice_get (set ms i k) i ≡ Some k
set_there [] i k lt = absurd (omega arith)
set_there (m ∷ ms) zero k lt = refl
set_there (m ∷ ms) (suc i) k lt = set_there ms i k (omega arith)

-- and elsewhere what stood there
set_elsewhere : (ms : List (List (ℕ × Mode))) (i j : ℕ) (k : List (ℕ × Mode)) → j ≢ i → slice_get (set ms i k) j ≡ slice_get ms j
set_elsewhere [] i j k ne = refl
set_elsewhere (m ∷ ms) zero zero k ne = absurd (ne refl)
set_elsewhere (m ∷ ms) zero (suc j) k ne = refl
set_elsewhere (m ∷ ms) (suc i) zero k ne = refl
set_elsewhere (m ∷ ms) (suc i) (suc j) k ne = set_elsewhere ms i j k (λ e. ne (ap suc e))

-- ---- another list is put where one stands
module _ (ms : List (List (ℕ × Mode))) (i : ℕ) (m k : List (ℕ × Mode)) (there : slice_get ms i ≡ Some m)
    (tx : ℕ) (w : Option Mode) (changes : (n : ℕ) → mode_among k n ≡ cond (is_at (nat_cmp tx) n) w (mode_among m n)) where
  -- the holders of other words stay
  elsewhere : (v n : ℕ) → v ≢ i → held_in (slice_get (set ms i k) v) n ≡ held_in (slice_get ms v) n
  elsewhere v n ne = ap (λ o. held_in o n) (set_elsewhere ms i v k ne)

  -- the word's holders differ at the transaction
  here : (n : ℕ) → held_in (slice_get (set ms i k) i) n ≡ cond (is_eq (nat_cmp n tx)) w (held_in (slice_get ms i) n)
  here n =
      ap (λ o. held_in o n) (set_there ms i k (slice_get_within ms i m there)) ∙ changes n
      ∙ ap (λ b. cond b w (mode_among m n)) ((eq_by_cmp_equiv nat_cmp_total).symm tx n)
      ∙ ap (λ o. cond (is_eq (nat_cmp n tx)) w (held_in o n)) (sym there)

  -- at any word the modes differ there alone
  changed_at : (v n : ℕ) (r : Ordering) → nat_cmp v i ≡ r
      → held_in (slice_get (set ms i k) v) n ≡ cond (is_eq (ordering_then r (nat_cmp n tx))) w (held_in (slice_get ms v) n)
  changed_at v n Less e =
      let less : v < i = ranked v i Less (sym e) in
      elsewhere v n (λ same. absurd (omega arith))
  changed_at v n Equal e =
      let same : i ≡ v = sym (exact_unsigned v i e) in
      subst (λ u. held_in (slice_get (set ms i k) u) n ≡ cond (is_eq (nat_cmp n tx)) w (held_in (slice_get ms u) n)) same (here n)
  changed_at v n Greater e =
      let greater : i < v = ranked v i Greater (sym e) in
      elsewhere v n (λ same. absurd (omega arith))

  -- what differs at one transaction is seen to differ at one holder
  changed : (q : WordHolder) → map.get (words_of (set ms i k)) q ≡ cond (eq_by_cmp word_holder_cmp q (word_holder i tx)) w (map.get (words_of ms) q)
  changed q =
      get-words_of (set ms i k) q.0 q.1 ∙ changed_at q.0 q.1 (nat_cmp q.0 i) refl
      ∙ ap (cond (eq_by_cmp word_holder_cmp q (word_holder i tx)) w) (sym (get-words_of ms q.0 q.1))

-- ---- the list, seen as a finite map
module _ (ms : List (List (ℕ × Mode))) (t : map.FinMap word_holder_cmp Mode) (is : words_of ms ≡ t) where
  -- nobody holds a word beyond the list
  pub none_beyond : (v n : ℕ) → length ms ≤ v → map.get t (word_holder v n) ≡ None
  none_beyond v n past =
      ap (λ s. map.get s (word_holder v n)) (sym is) ∙ get-words_of ms v n ∙ ap (λ o. held_in o n) (slice_get_past ms v past)

  module _ (i : ℕ) (m : List (ℕ × Mode)) (inside : i < length ms) (read : m ≡ get_or ms i m) where
    -- the list at the place, as it was read
    there : slice_get ms i ≡ Some m
    there = slice_get_read ms (length ms) i m refl inside read

    -- the modes of a word's holders are those of the list at its place
    pub mode_there : (n : ℕ) → map.get t (word_holder i n) ≡ mode_among m n
    mode_there n = ap (λ s. map.get s (word_holder i n)) (sym is) ∙ get-words_of ms i n ∙ ap (λ o. held_in o n) there

    -- so the list's modes are those of all its holders
    pub modes_there : mode_among m ≡ (λ n. map.get t (word_holder i n))
    modes_there = same_modes (mode_among m) (λ n. map.get t (word_holder i n)) (λ n. sym (mode_there n))

    module _ (k : List (ℕ × Mode)) where
      -- the same list is put there
      pub word_put_same : k ≡ m → words_of (set ms i k) ≡ t
      word_put_same e = ap (λ l. words_of (set ms i l)) (e ∙ read) ∙ ap words_of (set-get_or ms i m) ∙ is

      -- one that has a mode at a transaction
      put_mode : (tx : ℕ) (mode : Mode) → ((n : ℕ) → mode_among k n ≡ cond (is_at (nat_cmp tx) n) (Some mode) (mode_among m n))
          → words_of (set ms i k) ≡ map.insert t (word_holder i tx) mode
      put_mode tx mode h =
          map.same_map word_holder_total word_holder_exact (words_of (set ms i k)) (map.insert (words_of ms) (word_holder i tx) mode)
          (λ q. changed ms i m k there tx (Some mode) h q ∙ sym (map.get-insert word_holder_total (words_of ms) (word_holder i tx) mode q))
          ∙ ap (λ s. map.insert s (word_holder i tx) mode) is

      -- one that has the stronger mode there
      pub word_put_raised : (tx : ℕ) (mode : Mode)
          → ((n : ℕ) → mode_among k n ≡ cond (is_at (nat_cmp tx) n) (Some (with_mode (mode_among m tx) mode)) (mode_among m n))
          → words_of (set ms i k) ≡ map.insert t (word_holder i tx) (with_mode (map.get t (word_holder i tx)) mode)
      word_put_raised tx mode h =
          put_mode tx (with_mode (mode_among m tx) mode) h ∙ ap (λ was. map.insert t (word_holder i tx) (with_mode was mode)) (sym (mode_there tx))

      -- one that has nothing at a transaction
      pub put_none : (tx : ℕ) → ((n : ℕ) → mode_among k n ≡ cond (is_at (nat_cmp tx) n) None (mode_among m n))
          → words_of (set ms i k) ≡ map.remove t (word_holder i tx)
      put_none tx h =
          map.same_map word_holder_total word_holder_exact (words_of (set ms i k)) (map.remove (words_of ms) (word_holder i tx))
          (λ q. changed ms i m k there tx None h q ∙ sym (map.get-remove word_holder_total (words_of ms) (word_holder i tx) q))
          ∙ ap (λ s. map.remove s (word_holder i tx)) is
