-- The first tokens of a line, one after another.
use Rattle.std.proofs.Common.{◌≡◌, ℕ, ◌-◌, ◌<◌, ◌≤◌, zero, suc, List, [], ◌∷◌, ◌++◌, length, Option, Some, None}
use Rattle.std.proofs.Common.{Result, Ok, Err, refl, ap, sym, subst, ◌∙◌, append_assoc, take, drop}
use Rattle.std.proofs.Common.{append-nil, arith, length-append}
use Rattle.xc_tokens.specs.declared.why.Stop.{Stop}
use Rattle.xc_tokens.specs.declared.why.Stop.TheVariants as stop
use Rattle.xc_tokens.specs.declared.why.Why.{Why}
use Rattle.xc_tokens.specs.Answers.{Stops, and_then, seen}
use Rattle.xc_tokens.specs.Front.{Makes, ReadOn}
use Rattle.xc_tokens.specs.Tokens.{Lexeme, past_blanks, token_at, with_next, and_others, first_tokens, tokens_of}
use Rattle.xc_tokens.proofs.Windows.{window}

-- none is left
no_more : (n : ℕ) (bs : List ℕ) → token_at (past_blanks bs) ≡ Ok None → first_tokens n bs ≡ Ok []
no_more zero bs none = refl
no_more (suc n) bs none = ap (λ next. and_then next (and_others (first_tokens n))) none

-- the first is bad
one_bad : (n : ℕ) (bs : List ℕ) (why : Why) → length bs ≤ n → token_at (past_blanks bs) ≡ Err why → first_tokens n bs ≡ Err why
one_bad zero [] why few bad = cc
one_bad zero (b ∷ bs) why few bad = absurd (omega arith)
one_bad (suc n) bs why few bad = ap (λ next. and_then next (and_others (first_tokens n))) bad

one_token : (m : ℕ) (bs : List ℕ) (first : Lexeme) (rest : List ℕ) → token_at (past_blanks bs) ≡ Ok (Some (first, rest)) →
    first_tokens (suc m) bs ≡ seen (λ (ts : List Lexeme). first ∷ ts) (first_tokens m rest)
one_token m bs first rest is = ap (λ next. and_then next (and_others (first_tokens m))) is

one_behind : (ts : List Lexeme) (t : Lexeme) (others : Result (List Lexeme) Why) →
    seen (λ (us : List Lexeme). (ts ++ t ∷ []) ++ us) others ≡ seen (λ (us : List Lexeme). ts ++ us) (seen (λ (us : List Lexeme). t ∷ us) others)
one_behind ts t (Ok us) = ap Ok (append_assoc ts (t ∷ []) us)
one_behind ts t (Err e) = refl

one_more : (n : ℕ) (ts : List Lexeme) (bs : List ℕ) (t : Lexeme) (rest : List ℕ) (all : Result (List Lexeme) Why) → length ts < n →
    token_at (past_blanks bs) ≡ Ok (Some (t, rest)) → seen (λ (us : List Lexeme). ts ++ us) (first_tokens (n - length ts) bs) ≡ all →
    seen (λ (us : List Lexeme). (ts ++ t ∷ []) ++ us) (first_tokens (n - length (ts ++ t ∷ [])) rest) ≡ all
one_more n ts bs t rest all room is e =
    let m : ℕ = n - length (ts ++ t ∷ []) in
    let fewer : suc m ≡ n - length ts = rw length-append (omega arith) in
    one_behind ts t (first_tokens m rest)
    ∙ ap (seen (λ (us : List Lexeme). ts ++ us)) (sym (one_token m bs t rest is))
    ∙ ap (λ k. seen (λ (us : List Lexeme). ts ++ us) (first_tokens k bs)) fewer
    ∙ e

seen_same : (tokens : Result (List Lexeme) Why) → seen (λ (ts : List Lexeme). [] ++ ts) tokens ≡ tokens
seen_same (Ok ts) = refl
seen_same (Err e) = refl

-- before the first token
pub makes_all : (line : List ℕ) → Makes (length line) (tokens_of line) [] line
makes_all line =
    let whole : length line - 0 ≡ length line = omega arith in
    (omega arith, ap (λ n. seen (λ (ts : List Lexeme). [] ++ ts) (first_tokens n line)) whole ∙ seen_same (tokens_of line))

-- what is left of a line of a text after the words that were read in front of it
pub line_left : (before : List Lexeme) (line : List ℕ) (tokens : List Lexeme) (text : List ℕ) (n at : ℕ) → line ≡ take n text → at ≤ n →
    ReadOn before (take n text) tokens (drop at (take n text)) → ReadOn before line tokens (take (n - at) (drop at text))
line_left before line tokens text n at is within read =
    rw is (subst (λ rest. ReadOn before (take n text) tokens rest) (window at n text within) read)

-- a word more of those that are read in front
pub word_more : (before : List Lexeme) (line : List ℕ) (tokens : List Lexeme) (rest : List ℕ) (word : Lexeme) (behind : List ℕ) →
    ReadOn before line tokens rest → length behind < length rest → token_at (past_blanks rest) ≡ Ok (Some (word, behind)) →
    ReadOn before line (tokens ++ word ∷ []) behind
word_more before line tokens rest word behind read fewer is n all makes =
    let so_far = read n all makes in
    (rw length-append (omega (arith, so_far.0, fewer)), one_more n tokens rest word behind all (omega (arith, so_far.0, fewer)) is so_far.1)

-- tokens, and what stands after them where one more was read
abbrev pub Next : Type 0
Next = List Lexeme × Option (List ℕ)

same_next : (p q : Next) → ◌≡◌ {A = Result Next Why} (Ok p) (Ok q) → (p.0 ≡ q.0) × (p.1 ≡ q.1)
same_next p q e = let pair : p ≡ q = cc in (ap (λ (n : Next). n.0) pair, ap (λ (n : Next). n.1) pair)

-- one token more of a line of so many bytes
pub next_more : (n : ℕ) (ts us : List Lexeme) (bs rest : List ℕ) (all : Result (List Lexeme) Why) → length ts < n →
    Ok (us, Some rest) ≡ seen (with_next ts) (token_at (past_blanks bs)) →
    seen (λ (vs : List Lexeme). ts ++ vs) (first_tokens (n - length ts) bs) ≡ all →
    seen (λ (vs : List Lexeme). us ++ vs) (first_tokens (n - length us) rest) ≡ all
next_more n ts us bs rest all room made e = by_next (token_at (past_blanks bs)) refl made
  where
    by_next : (next : Result (Option (Lexeme × List ℕ)) Why) → token_at (past_blanks bs) ≡ next → Ok (us, Some rest) ≡ seen (with_next ts) next →
        seen (λ (vs : List Lexeme). us ++ vs) (first_tokens (n - length us) rest) ≡ all
    by_next (Ok (Some (t, behind))) is made' =
        let same = same_next (us, Some rest) (ts ++ t ∷ [], Some behind) made' in
        let left : rest ≡ behind = cc in
        rw (same.0, left) (one_more n ts bs t behind all room is e)
    by_next (Ok None) is made' =
        let none = (same_next (us, Some rest) (ts, None) made').1 in
        cc
    by_next (Err why) is made' = cc

-- it is one more
pub next_length : (ts us : List Lexeme) (rest : List ℕ) (next : Result (Option (Lexeme × List ℕ)) Why) →
    Ok (us, Some rest) ≡ seen (with_next ts) next → length us ≡ suc (length ts)
next_length ts us rest (Ok (Some (t, behind))) made =
    let more = (same_next (us, Some rest) (ts ++ t ∷ [], Some behind) made).0 in
    rw (more, length-append) (omega arith)
next_length ts us rest (Ok None) made =
    let none = (same_next (us, Some rest) (ts, None) made).1 in
    cc
next_length ts us rest (Err why) made = cc

-- what stops at the next token stops at all of them
pub tokens_stopped : (stops : Stop) (ts : List Lexeme) (n : ℕ) (bs : List ℕ) (all : Result (List Lexeme) Why) →
    length bs ≤ n → seen (λ (us : List Lexeme). ts ++ us) (first_tokens n bs) ≡ all →
    Stops stops (seen (with_next ts) (token_at (past_blanks bs))) → Stops stops all
tokens_stopped stop.NoMemory ts n bs all few e bad = tt
tokens_stopped (stop.Refused why) ts n bs all few e bad = by_next (token_at (past_blanks bs)) refl bad
  where
    by_next : (next : Result (Option (Lexeme × List ℕ)) Why) → token_at (past_blanks bs) ≡ next → seen (with_next ts) next ≡ Err why → all ≡ Err why
    by_next (Ok (Some p)) is bad' = cc
    by_next (Ok None) is bad' = cc
    by_next (Err other) is bad' =
        let same : other ≡ why = cc in
        sym e ∙ ap (seen (λ (us : List Lexeme). ts ++ us)) (one_bad n bs why few (is ∙ ap Err same))

-- no token is left after these
pub tokens_ended : (ts us : List Lexeme) (n : ℕ) (bs : List ℕ) (all : Result (List Lexeme) Why) →
    seen (λ (vs : List Lexeme). ts ++ vs) (first_tokens n bs) ≡ all → Ok (us, None) ≡ seen (with_next ts) (token_at (past_blanks bs)) → all ≡ Ok us
tokens_ended ts us n bs all e made = by_next (token_at (past_blanks bs)) refl made
  where
    by_next : (next : Result (Option (Lexeme × List ℕ)) Why) → token_at (past_blanks bs) ≡ next → Ok (us, None) ≡ seen (with_next ts) next → all ≡ Ok us
    by_next (Ok (Some p)) is made' =
        let some = (same_next (us, None) (ts ++ p.0 ∷ [], Some p.1) made').1 in
        cc
    by_next (Ok None) is made' =
        let same = (same_next (us, None) (ts, None) made').0 in
        sym e ∙ ap (seen (λ (vs : List Lexeme). ts ++ vs)) (no_more n bs is) ∙ ap Ok (append-nil ts ∙ sym same)
    by_next (Err why) is made' = cc
