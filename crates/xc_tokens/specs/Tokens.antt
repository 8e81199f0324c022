-- A line cut into tokens.
use Rattle.std.specs.Prelude.{ℕ, zero, suc, ◌==◌, ◌||◌, Bool, not, List, [], ◌∷◌, ◌++◌, length, take, drop, nat_le, ok_or, option_map}
use Rattle.std.specs.Prelude.{Option, Some, None, Result, Ok, Err, if◌then◌else◌}
use Rattle.std.specs.List.{list_any, prefix_len}
use Rattle.xc_tokens.specs.declared.why.Why.{Why}
use Rattle.xc_tokens.specs.declared.why.Why.TheVariants.{BadLiteral}
use Rattle.xc_tokens.specs.Answers.{and_then, seen}
use Rattle.xc_tokens.specs.Numbers.{number_of}
use Rattle.xc_tokens.specs.Quoted.{literal_of}

-- a word of a line, or a literal: the bytes that it means, and how often
pub data Lexeme : Type 0 where
  Word : List ℕ → Lexeme
  Literal : List ℕ → ℕ → Lexeme

-- a space or a TAB
abbrev pub is_blank : ℕ → Bool
is_blank b = (b == 32) || (b == 9)

-- what stands after the blanks in front
abbrev pub past_blanks : List ℕ → List ℕ
past_blanks [] = []
past_blanks (b ∷ bs) = if is_blank b then past_blanks bs else b ∷ bs

-- how many bytes stand before the next blank
abbrev pub run_len : List ℕ → ℕ
run_len bs = prefix_len (λ b. not (is_blank b)) bs

-- a number up to 65,536
abbrev pub up_to_65536 : Option ℕ → Option ℕ
up_to_65536 (Some n) = if nat_le n 65536 then Some n else None
up_to_65536 None = None

-- the repeat that the bytes after a `*` spell
abbrev pub repeat_of : List ℕ → Option ℕ
repeat_of bs = up_to_65536 (number_of bs)

-- how often a literal stands there, and what stands after it: its closing quote stands before the bytes
abbrev pub repeat_from : List ℕ → Option (ℕ × List ℕ)
repeat_from [] = Some (1, [])
repeat_from (b ∷ bs) =
    if is_blank b then Some (1, b ∷ bs)
    else if b == 42 then option_map (λ times. (times, drop (run_len bs) bs)) (repeat_of (take (run_len bs) bs))
    else None

-- a literal that means at most 1,024 bytes, with its repeat
abbrev pub with_repeat : List ℕ × List ℕ → Result (Lexeme × List ℕ) Why
with_repeat (meant, behind) =
    if nat_le (length meant) 1024 then ok_or (option_map (λ p. (Literal meant p.0, p.1)) (repeat_from behind)) BadLiteral
    else Err BadLiteral

-- the literal whose opening quote stands before the bytes, and what stands after it
abbrev pub literal_from : List ℕ → Result (Lexeme × List ℕ) Why
literal_from bs = and_then (ok_or (literal_of bs) BadLiteral) with_repeat

-- how many bytes stand before the next blank, none where a quote is among them
abbrev pub unquoted_run_len : List ℕ → Option ℕ
unquoted_run_len bs = if list_any (λ c. c == 34) (take (run_len bs) bs) then None else Some (run_len bs)

-- the word that begins with a byte, and what stands after it; no quote stands within a word
abbrev pub word_from : ℕ → List ℕ → Option (Lexeme × List ℕ)
word_from b bs = option_map (λ n. (Word (b ∷ take n bs), drop n bs)) (unquoted_run_len bs)

-- the token in front of the bytes, and what stands after it; none at a line's end and where `#` stands
abbrev pub token_at : List ℕ → Result (Option (Lexeme × List ℕ)) Why
token_at [] = Ok None
token_at (b ∷ bs) =
    if b == 35 then Ok None
    else if b == 34 then seen Some (literal_from bs)
    else seen Some (ok_or (word_from b bs) BadLiteral)

-- the tokens so far with the next one, and what stands after that; these alone where none is left
abbrev pub with_next : List Lexeme → Option (Lexeme × List ℕ) → List Lexeme × Option (List ℕ)
with_next tokens (Some (next, behind)) = (tokens ++ next ∷ [], Some behind)
with_next tokens None = (tokens, None)

-- a token, and the others in what stands after it
abbrev pub and_others : (List ℕ → Result (List Lexeme) Why) → Option (Lexeme × List ℕ) → Result (List Lexeme) Why
and_others others (Some (first, behind)) = seen (λ (ts : List Lexeme). first ∷ ts) (others behind)
and_others others None = Ok []

-- the first n tokens
abbrev pub first_tokens : ℕ → List ℕ → Result (List Lexeme) Why
first_tokens zero bs = Ok []
first_tokens (suc n) bs = and_then (token_at (past_blanks bs)) (and_others (first_tokens n))

-- the tokens of a line, which are no more than its bytes
abbrev pub tokens_of : List ℕ → Result (List Lexeme) Why
tokens_of line = first_tokens (length line) line
