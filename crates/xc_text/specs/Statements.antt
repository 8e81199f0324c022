-- What a line between `tx` and `commit` says.
use Rattle.std.specs.Prelude.{ℕ, List, [], ◌∷◌, codes, Option, Some, None, Result, Ok, Err, if◌then◌else◌}
use Rattle.xc_text.specs.declared.script.CallForm.TheVariants.{Save, Keep, Back}
use Rattle.xc_text.specs.declared.script.Statement.TheVariants.{Call, Let, Abort, AbortIf, Require, BackIf}
use Rattle.xc_text.specs.declared.script.Test.{Test}
use Rattle.xc_text.specs.Calls.{call_kinds, read_call_line}
use Rattle.xc_text.specs.Shapes.{no_tokens, led}
use Rattle.xc_text.specs.Named.{NamedTerm, NamedExpression, NamedStatement}
use Rattle.xc_text.specs.Terms.{term, test, expression_of}
use Rattle.xc_tokens.specs.declared.why.Why.{Why}
use Rattle.xc_tokens.specs.declared.why.Why.TheVariants.{BadForm}
use Rattle.xc_tokens.specs.Answers.{both, seen}
use Rattle.xc_tokens.specs.ByWord.{by_word}
use Rattle.xc_tokens.specs.Tokens.{Lexeme}
use Rattle.xc_tokens.specs.Words.{spells, is_sign, ident}

-- `let V E`
abbrev pub let_line : List Lexeme → Result NamedStatement Why
let_line rest = seen (λ (p : List ℕ × NamedExpression). Let p.0 p.1) (led ident expression_of rest)

-- a term, and the test with another one
abbrev pub Condition : Type 0
Condition = NamedTerm × (Test × NamedTerm)

-- nothing, or `if T OP T`
abbrev pub condition : List Lexeme → Result (Option Condition) Why
condition [] = Ok None
condition (word ∷ left ∷ sign ∷ right ∷ []) =
    if is_sign word (codes "if") then seen Some (both (term left) (both (test sign) (term right))) else Err BadForm
condition _ = Err BadForm

-- an abort, always or where a test holds
abbrev pub abort_where : Option Condition → NamedStatement
abort_where None = Abort
abort_where (Some c) = AbortIf c.0 c.1.0 c.1.1

-- `abort`, `abort if T OP T`
abbrev pub abort_line : List Lexeme → Result NamedStatement Why
abort_line rest = seen abort_where (condition rest)

-- `require`
abbrev pub require_line : List Lexeme → Result NamedStatement Why
require_line rest = seen (λ _. Require) (no_tokens rest)

-- `save`
abbrev pub save_line : List Lexeme → Result NamedStatement Why
save_line rest = seen (λ _. Call Save) (no_tokens rest)

-- `keep`
abbrev pub keep_line : List Lexeme → Result NamedStatement Why
keep_line rest = seen (λ _. Call Keep) (no_tokens rest)

-- a back, always or where a test holds
abbrev pub back_where : Option Condition → NamedStatement
back_where None = Call Back
back_where (Some c) = BackIf c.0 c.1.0 c.1.1

-- `back`, `back if T OP T`
abbrev pub back_line : List Lexeme → Result NamedStatement Why
back_line rest = seen back_where (condition rest)

-- a statement that may stand in an inner block and outside of it
abbrev pub statement_line : List ℕ → List Lexeme → Result NamedStatement Why
statement_line word rest =
    if spells word (codes "let") then let_line rest
    else if spells word (codes "abort") then abort_line rest
    else if spells word (codes "require") then require_line rest
    else read_call_line (by_word call_kinds word) rest

-- a statement outside of inner blocks
abbrev pub outer_statement : List ℕ → List Lexeme → Result NamedStatement Why
outer_statement word rest = if spells word (codes "save") then save_line rest else statement_line word rest

-- a statement in an inner block
abbrev pub inner_statement : List ℕ → List Lexeme → Result NamedStatement Why
inner_statement word rest =
    if spells word (codes "keep") then keep_line rest
    else if spells word (codes "back") then back_line rest
    else statement_line word rest
