-- A word in front of a line, by where its bytes begin and end.
use Rattle.std.proofs.Common.{◌≡◌, ℕ, ◌+◌, ◌-◌, ◌<◌, ◌≤◌, ◌==◌, ◌||◌, suc, Bool, true, false, not, cond, List, [], ◌∷◌, length, take, drop, Some, None, Ok}
use Rattle.std.proofs.Common.{refl, sym, ap, ap₂, subst, ◌∙◌, arith, length-drop, if◌then◌else◌}
use Rattle.std.specs.Prelude.{option_map}
use Rattle.std.proofs.lemmas.List.{drop-drop, length-take-le}
use Rattle.std.proofs.lemmas.List.Sums.{prefix_len-le-length}
use Rattle.std.specs.List.{prefix_len, list_any}
use Rattle.xc_tokens.specs.Front.{is_mark}
use Rattle.xc_tokens.specs.Tokens.{Word, is_blank, past_blanks, run_len, unquoted_run_len, word_from, token_at}
use Rattle.xc_tokens.proofs.Windows.{shown, none_before, run_within, run_past, next_run}

past_first : (b : ℕ) (bs : List ℕ) (t : Bool) → past_blanks bs ≡ drop (prefix_len is_blank bs) bs →
    (if t then past_blanks bs else b ∷ bs) ≡ drop (cond t (1 + prefix_len is_blank bs) 0) (b ∷ bs)
past_first b bs true others =
    let more : suc (prefix_len is_blank bs) ≡ 1 + prefix_len is_blank bs = omega arith in
    others ∙ ap (λ n. drop n (b ∷ bs)) more
past_first b bs false others = refl

past_run : (bs : List ℕ) → past_blanks bs ≡ drop (prefix_len is_blank bs) bs
past_run [] = refl
past_run (b ∷ bs) = past_first b bs (is_blank b) (past_run bs)

unmarked : (b : ℕ) (bs : List ℕ) → list_any is_mark (b ∷ bs) ≡ false → ((b == 35) ≡ false) × ((b == 34) ≡ false) × (list_any is_mark bs ≡ false)
unmarked b bs none = grind (arith, none)

unquoted : (bs : List ℕ) → list_any is_mark bs ≡ false → list_any (λ c. c == 34) bs ≡ false
unquoted [] none = refl
unquoted (b ∷ bs) none =
    let first = unmarked b bs none in
    ap₂ (λ t others. t || others) first.1 (unquoted bs first.2)

-- a word whose bytes are no marks
word_of : (b : ℕ) (bs : List ℕ) → list_any is_mark (b ∷ take (run_len bs) bs) ≡ false →
    token_at (b ∷ bs) ≡ Ok (Some (Word (b ∷ take (run_len bs) bs), drop (run_len bs) bs))
word_of b bs none =
    let first = unmarked b (take (run_len bs) bs) none in
    let run : unquoted_run_len bs ≡ Some (run_len bs) =
    ap (λ t. if t then None else Some (run_len bs)) (unquoted (take (run_len bs) bs) first.2) in
    let word : word_from b bs ≡ Some (Word (b ∷ take (run_len bs) bs), drop (run_len bs) bs) =
    ap (option_map (λ n. (Word (b ∷ take n bs), drop n bs))) run in
    rw (first.0, first.1, word) refl

word_first : (b : ℕ) (bs : List ℕ) (m : ℕ) (t : Bool) → m ≡ cond t (1 + run_len bs) 0 → 0 < m → list_any is_mark (take m (b ∷ bs)) ≡ false →
    token_at (b ∷ bs) ≡ Ok (Some (Word (take m (b ∷ bs)), drop m (b ∷ bs)))
word_first b bs m true is some none =
    let long : m ≡ suc (run_len bs) = omega (arith, is) in
    rw long (word_of b bs (subst (λ k. list_any is_mark (take k (b ∷ bs)) ≡ false) long none))
word_first b bs m false is some none = absurd (omega (arith, is, some))

word_front : (bs : List ℕ) (m : ℕ) → m ≡ prefix_len (λ b. not (is_blank b)) bs → 0 < m → list_any is_mark (take m bs) ≡ false →
    token_at bs ≡ Ok (Some (Word (take m bs), drop m bs))
word_front [] m is some none = absurd (omega (arith, is, some))
word_front (b ∷ bs) m is some none = word_first b bs m (not (is_blank b)) is some none

-- the bytes from one place to another are the first token of what stands in a line from a place on
abbrev pub IsWordAt : List ℕ → ℕ → ℕ → ℕ → ℕ → Type 0
IsWordAt text len at start end =
    token_at (past_blanks (drop at (take len text))) ≡ Ok (Some (Word (take (end - start) (drop start text)), drop end (take len text)))

-- the word of a line after the blanks from a place on
pub word_read : (text : List ℕ) (len at start end : ℕ) → start ≡ at + prefix_len is_blank (drop at (take len text)) →
    end ≡ start + prefix_len (λ b. not (is_blank b)) (drop start (take len text)) → start < end → end ≤ len →
    end ≤ prefix_len (λ b. not (is_mark b)) (take 16 text) → end ≤ 16 →
    IsWordAt text len at start end
word_read text len at start end begins ends some within plain few =
    let line = take len text in
    let m : ℕ = end - start in
    let rest : past_blanks (drop at line) ≡ drop start line =
    past_run (drop at line) ∙ drop-drop (prefix_len is_blank (drop at line)) at line ∙ ap (λ k. drop k line) (sym begins) in
    let bytes : take m (drop start line) ≡ take m (drop start text) = shown len start m text (omega (arith, some, within)) in
    let seen_too = shown 16 start m text (omega (arith, some, few)) in
    let none = ap (list_any is_mark) (bytes ∙ sym seen_too) ∙ none_before is_mark start m (take 16 text) (omega (arith, some, plain)) in
    let behind : drop m (drop start line) ≡ drop end line = drop-drop m start line ∙ ap (λ k. drop k line) (omega (arith, some)) in
    ap token_at rest ∙ word_front (drop start line) m (omega (arith, ends)) (omega (arith, some)) none
    ∙ ap₂ (λ w r. Ok (Some (Word w, r))) bytes behind

-- a place among 16 lanes where blanks end, and where what begins there goes on
pub token_starts : (text : List ℕ) (len at start : ℕ) → length (take 16 text) ≡ 16 → at ≤ 16 → start ≡ at + prefix_len is_blank (drop at (take 16 text)) →
    start < 16 → start < len →
    (start ≡ at + prefix_len is_blank (drop at (take len text))) × (0 < prefix_len (λ b. not (is_blank b)) (drop start (take 16 text)))
token_starts text len at start long few begins shown_there inside =
    let lanes = take 16 text in
    let same = run_within is_blank at 16 len text few (omega (arith, begins, inside)) (omega (arith, begins, shown_there)) (omega (arith, begins, inside)) in
    let place : drop (prefix_len is_blank (drop at lanes)) (drop at lanes) ≡ drop start lanes =
    drop-drop (prefix_len is_blank (drop at lanes)) at lanes ∙ ap (λ k. drop k lanes) (sym begins) in
    let others = next_run is_blank (drop at lanes) (omega (arith, length-drop at lanes, long, begins, shown_there)) in
    (begins ∙ ap (λ n. at + n) (sym same), subst (λ bs. 0 < prefix_len (λ b. not (is_blank b)) bs) place others)

-- a word that 16 lanes show up to the blank behind it
pub word_before_blank : (text : List ℕ) (len at start end : ℕ) → length (take 16 text) ≡ 16 → at ≤ 16 →
    start ≡ at + prefix_len is_blank (drop at (take 16 text)) → end ≡ start + prefix_len (λ b. not (is_blank b)) (drop start (take 16 text)) →
    end < len → end < prefix_len (λ b. not (is_mark b)) (take 16 text) →
    IsWordAt text len at start end
word_before_blank text len at start end long few begins ends inside plain =
    let bound = prefix_len-le-length (λ b. not (is_mark b)) (take 16 text) in
    let begin = token_starts text len at start long few begins (omega (arith, ends, plain, bound, long)) (omega (arith, ends, inside)) in
    let same = run_within (λ b. not (is_blank b)) start 16 len text (omega (arith, ends, plain, bound, long)) (omega (arith, ends, inside))
    (omega (arith, ends, plain, bound, long)) (omega (arith, ends, inside)) in
    word_read text len at start end begin.0 (ends ∙ ap (λ n. start + n) (sym same)) (omega (arith, ends, begin.1)) (omega (arith, inside))
    (omega (arith, plain)) (omega (arith, plain, bound, long))

-- one that they show up to the end of the line
pub word_at_end : (text : List ℕ) (len at start : ℕ) → length (take 16 text) ≡ 16 → at ≤ 16 →
    start ≡ at + prefix_len is_blank (drop at (take 16 text)) → start < len →
    len ≤ start + prefix_len (λ b. not (is_blank b)) (drop start (take 16 text)) → len ≤ prefix_len (λ b. not (is_mark b)) (take 16 text) →
    IsWordAt text len at start len
word_at_end text len at start long few begins inside past plain =
    let bound = prefix_len-le-length (λ b. not (is_mark b)) (take 16 text) in
    let begin = token_starts text len at start long few begins (omega (arith, inside, plain, bound, long)) inside in
    let few_before : start ≤ 16 = omega (arith, inside, plain, bound, long) in
    let end = run_past (λ b. not (is_blank b)) start 16 len text few_before (omega (arith, inside)) past in
    word_read text len at start len begin.0 end (omega (arith, inside)) (omega arith) plain (omega (arith, plain, bound, long))

-- what stands after a word is shorter than what stood before it
pub rest_shorter : (text : List ℕ) (len at end : ℕ) → len ≤ length text → at < end → end ≤ len →
    length (drop end (take len text)) < length (drop at (take len text))
rest_shorter text len at end room more within =
    let line = take len text in
    omega (arith, length-drop end line, length-drop at line, length-take-le len text room, more, within)
