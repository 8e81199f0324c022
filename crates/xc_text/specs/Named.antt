-- What the lines of a transaction are as they stand there, with the names of variables and of slots.
use Rattle.std.specs.Prelude.{ℕ, List}
use Rattle.xc_text.specs.declared.script.Term.{Term as TermOf}
use Rattle.xc_text.specs.declared.script.Expression.{Expression as ExpressionOf}
use Rattle.xc_text.specs.declared.script.Item.{Item as ItemOf}
use Rattle.xc_text.specs.declared.script.CallForm.{CallForm as CallFormOf}
use Rattle.xc_text.specs.declared.script.Statement.{Statement as StatementOf}

-- a term
abbrev pub NamedTerm : Type 0
NamedTerm = TermOf (List ℕ)

-- a term, a sum or a difference
abbrev pub NamedExpression : Type 0
NamedExpression = ExpressionOf (List ℕ)

-- a part of the data of a call
abbrev pub NamedItem : Type 0
NamedItem = ItemOf (List ℕ)

-- a line that is a call
abbrev pub NamedCallForm : Type 0
NamedCallForm = CallFormOf (List ℕ)

-- a line of a transaction
abbrev pub NamedStatement : Type 0
NamedStatement = StatementOf (List ℕ)
