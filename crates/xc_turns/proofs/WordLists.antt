-- Words after one call: how many there are, what is at one place, and what is replied; and stores laid over them.
use Rattle.std.proofs.Common.{◌≡◌, ◌≢◌, ℕ, zero, suc, ◌<◌, ◌&&◌, Bool, true, false, List, [], ◌∷◌, ◌++◌, length, refl, ap, ap₂, sym, ◌∙◌, arith}
use Rattle.std.specs.Prelude.{nat_eq, nat_le, nat_lt, slice_index, slice_set, if◌then◌else◌}
use Rattle.std.proofs.lemmas.Bool.{eqb-false, ltb-true, leb-true, leb-false, ltb-false}
use Rattle.std.proofs.lemmas.List.{append-nil, get_or-set_other, length-set}
use Rattle.std.proofs.lemmas.List.Folds.{list_all-append}
use Rattle.xc_data.specs.declared.call.Call.{Call}
use Rattle.xc_data.specs.declared.call.Call.TheVariants.{Load, Store}
use Rattle.xc_data.specs.declared.call.Reply.TheVariants.{Number, Done, BadWord}
use Rattle.xc_txmem.specs.Overlay.{overlaid, AreWithin}
use Rattle.xc_txmem.proofs.Laws.{overlay_adds, overlay_count}
use Rattle.xc_model.specs.WordCalls.{word_reply, words_after}
use Rattle.xc_model.specs.PlainSteps.{stored_by}
use Rattle.xc_model.specs.Words.{speaks_of, stores_to}

-- ---- one place set
set_alike : (xs ys : List ℕ) (i at x : ℕ) → length xs ≡ length ys → slice_index xs at ≡ slice_index ys at
    → slice_index (slice_set xs i x) at ≡ slice_index (slice_set ys i x) at
set_alike [] [] i at x n e = refl
set_alike [] (y ∷ ys) i at x n e = cc n
set_alike (z ∷ zs) [] i at x n e = cc n
set_alike (z ∷ zs) (y ∷ ys) zero zero x n e = refl
set_alike (z ∷ zs) (y ∷ ys) zero (suc at) x n e = e
set_alike (z ∷ zs) (y ∷ ys) (suc i) zero x n e = e
set_alike (z ∷ zs) (y ∷ ys) (suc i) (suc at) x n e = set_alike zs ys i at x (omega (arith, n)) e

-- ---- after one call
stored_count : (xs : List ℕ) (i x : ℕ) (b : Bool) → length (if b then xs else slice_set xs i x) ≡ length xs
stored_count xs i x true = refl
stored_count xs i x false = length-set xs i x

-- a call changes no count of words
pub after_count : (xs : List ℕ) (c : Call) → length (words_after xs c) ≡ length xs
after_count xs (Store i x) = stored_count xs i x (nat_le (length xs) i)
after_count xs _ = refl

stored_other : (xs : List ℕ) (i at x : ℕ) (b : Bool) → i ≢ at → slice_index (if b then xs else slice_set xs i x) at ≡ slice_index xs at
stored_other xs i at x true ne = refl
stored_other xs i at x false ne = get_or-set_other xs i at x 0 (λ e. ne (sym e))

-- one that doesn't store to a word leaves it
pub after_other : (xs : List ℕ) (c : Call) (at : ℕ) → stores_to at c ≡ false → slice_index (words_after xs c) at ≡ slice_index xs at
after_other xs (Store i x) at away = stored_other xs i at x (nat_le (length xs) i) (eqb-false i at away)
after_other xs _ at away = refl

stored_alike : (xs ys : List ℕ) (i at x : ℕ) (b c : Bool) → length xs ≡ length ys → b ≡ c → slice_index xs at ≡ slice_index ys at
    → slice_index (if b then xs else slice_set xs i x) at ≡ slice_index (if c then ys else slice_set ys i x) at
stored_alike xs ys i at x true true n same e = e
stored_alike xs ys i at x false false n same e = set_alike xs ys i at x n e
stored_alike xs ys i at x true false n same e = cc same
stored_alike xs ys i at x false true n same e = cc same

-- after the same call words agree at a place where they did before
pub after_alike : (xs ys : List ℕ) (c : Call) (at : ℕ) → length xs ≡ length ys → slice_index xs at ≡ slice_index ys at
    → slice_index (words_after xs c) at ≡ slice_index (words_after ys c) at
after_alike xs ys (Store i x) at n e =
    stored_alike xs ys i at x (nat_le (length xs) i) (nat_le (length ys) i) n (ap (λ k. nat_le k i) n) e
after_alike xs ys _ at n e = e

-- and are as many
pub after_counts : (xs ys : List ℕ) (c : Call) → length xs ≡ length ys → length (words_after xs c) ≡ length (words_after ys c)
after_counts xs ys c n = after_count xs c ∙ n ∙ sym (after_count ys c)

-- ---- replies
loaded_alike : (xs ys : List ℕ) (i : ℕ) (b c : Bool) → nat_le (length xs) i ≡ b → b ≡ c → (i < length xs → slice_index xs i ≡ slice_index ys i)
    → (if b then BadWord else Number (slice_index xs i)) ≡ (if c then BadWord else Number (slice_index ys i))
loaded_alike xs ys i true true is same e = refl
loaded_alike xs ys i false false is same e = ap Number (e (leb-false (length xs) i is))
loaded_alike xs ys i true false is same e = cc same
loaded_alike xs ys i false true is same e = cc same

itself : (i : ℕ) → nat_eq i i ≡ true
itself i = grind arith

-- a call replies the same on words that agree where it speaks of them
pub reply_alike : (xs ys : List ℕ) (c : Call) → length xs ≡ length ys
    → ((at : ℕ) → at < length xs → speaks_of at c ≡ true → slice_index xs at ≡ slice_index ys at) → word_reply xs c ≡ word_reply ys c
reply_alike xs ys (Load i) n e =
    loaded_alike xs ys i (nat_le (length xs) i) (nat_le (length ys) i) refl (ap (λ k. nat_le k i) n) (λ lt. e i lt (itself i))
reply_alike xs ys (Store i x) n e = ap (λ k. if nat_le k i then BadWord else Done) n
reply_alike xs ys _ n e = refl

-- ---- stores
laid_store : (xs : List ℕ) (stores : List (ℕ × ℕ)) (i x : ℕ) (b d : Bool) → nat_lt i (length (overlaid xs stores)) ≡ b
    → nat_le (length (overlaid xs stores)) i ≡ d
    → overlaid xs (stores ++ (if b then (i, x) ∷ [] else [])) ≡ (if d then overlaid xs stores else slice_set (overlaid xs stores) i x)
laid_store xs stores i x true false is other = overlay_adds xs stores i x
laid_store xs stores i x false true is other = ap (overlaid xs) (append-nil stores)
laid_store xs stores i x true true is other =
    let lt = ltb-true i (length (overlaid xs stores)) is in
    let le = leb-true (length (overlaid xs stores)) i other in
    absurd (omega (arith, lt, le))
laid_store xs stores i x false false is other =
    let le = ltb-false i (length (overlaid xs stores)) is in
    let lt = leb-false (length (overlaid xs stores)) i other in
    absurd (omega (arith, lt, le))

-- the stores with a call's are the words after the call
pub laid_more : (xs : List ℕ) (stores : List (ℕ × ℕ)) (count : ℕ) (c : Call) → length xs ≡ count
    → overlaid xs (stores ++ stored_by count c) ≡ words_after (overlaid xs stores) c
laid_more xs stores count (Store i x) n =
    ap (λ k. overlaid xs (stores ++ (if nat_lt i k then (i, x) ∷ [] else []))) (sym n ∙ sym (overlay_count xs stores))
    ∙ laid_store xs stores i x (nat_lt i (length (overlaid xs stores))) (nat_le (length (overlaid xs stores)) i) refl refl
laid_more xs stores count _ n = ap (overlaid xs) (append-nil stores)

added_within : (count i x : ℕ) (b : Bool) → nat_lt i count ≡ b → AreWithin count (if b then (i, x) ∷ [] else [])
added_within count i x true is = ap (λ t. t && true) is
added_within count i x false is = refl

stored_within : (count : ℕ) (c : Call) → AreWithin count (stored_by count c)
stored_within count (Store i x) = added_within count i x (nat_lt i count) refl
stored_within count _ = refl

-- the stores with a call's are in range
pub within_more : (count : ℕ) (stores : List (ℕ × ℕ)) (c : Call) → AreWithin count stores → AreWithin count (stores ++ stored_by count c)
within_more count stores c within =
    list_all-append (λ (s : ℕ × ℕ). nat_lt s.0 count) stores (stored_by count c) ∙ ap₂ (λ a b. a && b) within (stored_within count c)
