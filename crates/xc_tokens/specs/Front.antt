-- Words that are read in front of a line.
use Rattle.std.specs.Prelude.{◌≡◌, ◌≤◌, ◌+◌, ◌-◌, ◌==◌, ◌||◌, ℕ, Bool, not, List, ◌++◌, length, map, take, Result}
use Rattle.std.specs.List.{prefix_len}
use Rattle.std.specs.Simd.Lanes.{mask_l}
use Rattle.xc_tokens.specs.declared.why.Why.{Why}
use Rattle.xc_tokens.specs.Answers.{seen}
use Rattle.xc_tokens.specs.Tokens.{Lexeme, is_blank, first_tokens}

-- a quote or a `#`
abbrev pub is_mark : ℕ → Bool
is_mark b = (b == 34) || (b == 35)

-- a text, and how long the line in front of it is
pub record InText : Type 0 where
  pub text : List ℕ
  pub len : ℕ

-- the line
abbrev pub line_in : InText → List ℕ
line_in t = take t.len t.text

-- what 16 lanes tell of a text and of the line in front of it that is so long
pub record IsLineFront (text : List ℕ) (len blanks others unmarked : ℕ) : Type 0 where
  pub room : 16 ≤ length text
  pub within : len ≤ length text
  pub blank : blanks ≡ mask_l (map is_blank (take 16 text))
  pub other : others ≡ mask_l (map (λ b. not (is_blank b)) (take 16 text))
  pub plain : unmarked ≡ prefix_len (λ b. not (is_mark b)) (take 16 text)

-- tokens, and those of the bytes that are left, make so many tokens of a whole line
abbrev pub Makes : ℕ → Result (List Lexeme) Why → List Lexeme → List ℕ → Type 0
Makes n all tokens rest =
    (length tokens + length rest ≤ n) × (seen (λ (ts : List Lexeme). tokens ++ ts) (first_tokens (n - length tokens) rest) ≡ all)

-- whatever tokens and the rest of a line make, longer tokens and a shorter rest make too
abbrev pub ReadOn : List Lexeme → List ℕ → List Lexeme → List ℕ → Type 0
ReadOn tokens rest longer shorter = (n : ℕ) (all : Result (List Lexeme) Why) → Makes n all tokens rest → Makes n all longer shorter
