-- What the literals of a line give.
use Rattle.std.specs.Prelude.{ℕ, Bool, true, false, List, [], length, nat_le, Option, Some, None, Result, Ok, Err, if◌then◌else◌}
use Rattle.std.specs.List.{flat_map, list_all, repeat}
use Rattle.xc_tokens.specs.declared.why.Why.{Why}
use Rattle.xc_tokens.specs.declared.why.Why.TheVariants.{BadForm}
use Rattle.xc_tokens.specs.Tokens.{Lexeme, Word, Literal}

-- a token is a literal, and no word
abbrev pub is_literal : Lexeme → Bool
is_literal (Word word) = false
is_literal (Literal meant times) = true

-- the bytes that a literal gives; a word gives none
abbrev pub given : Lexeme → List ℕ
given (Word word) = []
given (Literal meant times) = repeat times meant

-- the bytes of all literals, in order
abbrev pub literal_bytes : List Lexeme → List ℕ
literal_bytes tokens = flat_map given tokens

-- the literals give at most so many bytes
abbrev pub is_within : ℕ → List Lexeme → Bool
is_within most tokens = nat_le (length (literal_bytes tokens)) most

-- no token is a word
abbrev pub only_literals : List Lexeme → Result (Unit {0}) Why
only_literals tokens = if list_all is_literal tokens then Ok tt else Err BadForm

-- the bytes of all literals, none where there are more than so many
abbrev pub contents : ℕ → List Lexeme → Option (List ℕ)
contents most tokens = if is_within most tokens then Some (literal_bytes tokens) else None
