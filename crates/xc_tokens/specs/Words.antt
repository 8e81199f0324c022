-- What a word is where a line has a place for a sign, a number or a name.
use Rattle.std.specs.Prelude.{ℕ, Bool, false, List, nat_eq, ok_or, Result, Ok, Err, if◌then◌else◌}
use Rattle.std.specs.Cmp.Lexicographic.{pointwise}
use Rattle.xc_data.specs.Spelling.{is_ident, is_name}
use Rattle.xc_tokens.specs.declared.why.Why.{Why}
use Rattle.xc_tokens.specs.declared.why.Why.TheVariants.{BadForm, BadNumber, BadName}
use Rattle.xc_tokens.specs.Numbers.{number_of}
use Rattle.xc_tokens.specs.Tokens.{Lexeme, Word, Literal}

-- a word is spelled so
abbrev pub spells : List ℕ → List ℕ → Bool
spells word text = pointwise nat_eq word text

-- a token is this sign
abbrev pub is_sign : Lexeme → List ℕ → Bool
is_sign (Word word) text = spells word text
is_sign (Literal meant times) text = false

-- the number that a word spells
abbrev pub number_spelled : List ℕ → Result ℕ Why
number_spelled word = ok_or (number_of word) BadNumber

-- the identifier that a word spells
abbrev pub ident_in : List ℕ → Result (List ℕ) Why
ident_in word = if is_ident word then Ok word else Err BadName

-- the file's name that a word spells
abbrev pub name_in : List ℕ → Result (List ℕ) Why
name_in word = if is_name word then Ok word else Err BadName

-- every word in the place of a number is meant as one
abbrev pub number : Lexeme → Result ℕ Why
number (Word word) = number_spelled word
number (Literal meant times) = Err BadForm

-- every word in the place of an identifier is meant as one
abbrev pub ident : Lexeme → Result (List ℕ) Why
ident (Word word) = ident_in word
ident (Literal meant times) = Err BadForm

-- every word in the place of a file's name is meant as one
abbrev pub name : Lexeme → Result (List ℕ) Why
name (Word word) = name_in word
name (Literal meant times) = Err BadForm
