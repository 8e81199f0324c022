-- Terms, tests and expressions in a line.
use Rattle.std.specs.Prelude.{ℕ, ◌==◌, List, [], ◌∷◌, codes, ok_or, Result, Err, if◌then◌else◌}
use Rattle.xc_text.specs.declared.script.Term.TheVariants.{Number, Variable, Slot}
use Rattle.xc_text.specs.declared.script.Expression.TheVariants.{Term as OneTerm, Sum, Difference}
use Rattle.xc_text.specs.declared.script.Test.{Test}
use Rattle.xc_text.specs.declared.script.Test.TheVariants as compares
use Rattle.xc_text.specs.Named.{NamedTerm, NamedExpression}
use Rattle.xc_tokens.specs.declared.why.Why.{Why}
use Rattle.xc_tokens.specs.declared.why.Why.TheVariants.{BadForm}
use Rattle.xc_tokens.specs.Answers.{both, seen}
use Rattle.xc_tokens.specs.ByWord.{Entry, by_word}
use Rattle.xc_tokens.specs.Numbers.{is_digit}
use Rattle.xc_tokens.specs.Tokens.{Lexeme, Word, Literal}
use Rattle.xc_tokens.specs.Words.{is_sign, number_spelled, ident_in}

-- a word in a term's place is meant as a number where it begins with a digit, as a slot where it begins with `?`, and
-- else as a variable
abbrev pub term_in : List ℕ → Result NamedTerm Why
term_in [] = seen Variable (ident_in [])
term_in (b ∷ rest) =
    if is_digit b then seen Number (number_spelled (b ∷ rest))
    else if b == 63 then seen Slot (ident_in rest)
    else seen Variable (ident_in (b ∷ rest))

-- what stands in a term's place
abbrev pub term : Lexeme → Result NamedTerm Why
term (Word word) = term_in word
term (Literal meant times) = Err BadForm

-- the signs of tests
unfoldable pub signs : List (Entry Test)
signs =
    (codes "=", compares.Equal)
    ∷ (codes "!=", compares.NotEqual)
    ∷ (codes "<", compares.Less)
    ∷ (codes "<=", compares.AtMost)
    ∷ (codes ">", compares.Greater)
    ∷ (codes ">=", compares.AtLeast)
    ∷ []

-- the test that a word spells
abbrev pub test_in : List ℕ → Result Test Why
test_in word = ok_or (by_word signs word) BadForm

-- what stands in the place of a test
abbrev pub test : Lexeme → Result Test Why
test (Word word) = test_in word
test (Literal meant times) = Err BadForm

-- a term, or two with `+` or `-` between them
abbrev pub expression_of : List Lexeme → Result NamedExpression Why
expression_of (a ∷ []) = seen OneTerm (term a)
expression_of (a ∷ sign ∷ b ∷ []) =
    if is_sign sign (codes "+") then seen (λ (p : NamedTerm × NamedTerm). Sum p.0 p.1) (both (term a) (term b))
    else if is_sign sign (codes "-") then seen (λ (p : NamedTerm × NamedTerm). Difference p.0 p.1) (both (term a) (term b))
    else Err BadForm
expression_of _ = Err BadForm
