-- What values of the code are among tokens.
use Rattle.std.specs.Prelude.{ℕ, List, Option, Some, None}
use Rattle.xc_tokens.specs.declared.token.Token.{Token}
use Rattle.xc_tokens.specs.declared.token.Token.TheVariants as token
use Rattle.xc_tokens.specs.Quoted.{then_rest, literal_of}
use Rattle.xc_tokens.specs.Tokens.{Lexeme, Word, Literal}

-- a token
abbrev pub lexeme : Token → Lexeme
lexeme (token.Word bytes) = Word bytes.now
lexeme (token.Plain bytes times) = Literal bytes.now times
lexeme (token.Escaped meant times) = Literal meant times

-- a literal after a piece of it: the byte that the piece means, and what stands after it
abbrev pub behind_piece : Option (ℕ × List ℕ) → Option (List ℕ × List ℕ)
behind_piece (Some (b, behind)) = then_rest b (literal_of behind)
behind_piece None = None
