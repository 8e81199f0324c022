-- The places of names: a name takes the next place where it comes first, and has it from there on.
use Rattle.std.specs.Prelude.{ℕ, List, [], ◌∷◌, ◌++◌, length, nat_eq, position, Option, Some, None}
use Rattle.std.specs.Cmp.Lexicographic.{pointwise}
use Rattle.xc_text.specs.declared.script.Term.TheVariants.{Number, Variable, Slot}
use Rattle.xc_text.specs.declared.script.Expression.TheVariants.{Term as OneTerm, Sum, Difference}
use Rattle.xc_text.specs.declared.script.Item.TheVariants as item
use Rattle.xc_text.specs.declared.script.CallForm.TheVariants as form
use Rattle.xc_text.specs.declared.script.Statement.TheVariants as statement
use Rattle.xc_text.specs.declared.script.Test.{Test}
use Rattle.xc_text.specs.Named as named
use Rattle.xc_text.specs.Said.{Names}
use Rattle.xc_text.specs.Stated.{Term, Expression, Item, CallForm, Statement}

-- names, and what stands with their places
abbrev pub Placed : Type 0 → Type 0
Placed A = Names × A

-- the place of a name, where it has one
abbrev pub name_place : List (List ℕ) → List ℕ → Option ℕ
name_place names name = position (λ other. pointwise nat_eq other name) names

-- names and the place of one of them, which is new where it had none
abbrev pub at_place : List (List ℕ) → List ℕ → Option ℕ → List (List ℕ) × ℕ
at_place names name (Some at) = (names, at)
at_place names name None = (names ++ name ∷ [], length names)

-- names with one, and its place
abbrev pub name_taken : List (List ℕ) → List ℕ → List (List ℕ) × ℕ
name_taken names name = at_place names name (name_place names name)

-- a variable
abbrev pub variable : Names → List ℕ → Placed ℕ
variable names name = let p = name_taken names.variables name in (record names { variables = p.0 }, p.1)

-- a slot
abbrev pub slot : Names → List ℕ → Placed ℕ
slot names name = let p = name_taken names.slots name in (record names { slots = p.0 }, p.1)

-- what is made of one part
abbrev pub one_placed : {A B : Type 0} → (A → B) → Placed A → Placed B
one_placed f p = (p.0, f p.1)

-- what is made of a part and of another one after it
abbrev pub two_placed : {A B C : Type 0} → (A → B → C) → Placed A → (Names → Placed B) → Placed C
two_placed f p behind = ((behind p.0).0, f p.1 (behind p.0).1)

-- two variables, the first one first
abbrev pub placed_two : Names → List ℕ → List ℕ → Placed (ℕ × ℕ)
placed_two names v w = two_placed (λ a b. (a, b)) (variable names v) (λ behind. variable behind w)

-- a term
abbrev pub placed_term : Names → named.NamedTerm → Placed Term
placed_term names (Number n) = (names, Number n)
placed_term names (Variable name) = one_placed Variable (variable names name)
placed_term names (Slot name) = one_placed Slot (slot names name)

-- an expression
abbrev pub placed_expression : Names → named.NamedExpression → Placed Expression
placed_expression names (OneTerm a) = one_placed OneTerm (placed_term names a)
placed_expression names (Sum a b) = two_placed Sum (placed_term names a) (λ behind. placed_term behind b)
placed_expression names (Difference a b) = two_placed Difference (placed_term names a) (λ behind. placed_term behind b)

-- the variable that a reply goes to
abbrev pub placed_target : Names → Option (List ℕ) → Placed (Option ℕ)
placed_target names (Some name) = one_placed Some (variable names name)
placed_target names None = (names, None)

-- the variables that two handles go to
abbrev pub placed_targets : Names → Option (List ℕ × List ℕ) → Placed (Option (ℕ × ℕ))
placed_targets names (Some (v, w)) = one_placed Some (placed_two names v w)
placed_targets names None = (names, None)

-- the slot that the end of a late call goes to
abbrev pub placed_ending : Names → Option (List ℕ) → Placed (Option ℕ)
placed_ending names (Some name) = one_placed Some (slot names name)
placed_ending names None = (names, None)

-- a part of the data of a call
abbrev pub placed_item : Names → named.NamedItem → Placed Item
placed_item names (item.Literal bytes) = (names, item.Literal bytes)
placed_item names (item.Bytes name) = one_placed item.Bytes (variable names name)
placed_item names (item.Digits term) = one_placed item.Digits (placed_term names term)

-- the data of a call
abbrev pub placed_data : Names → List named.NamedItem → Placed (List Item)
placed_data names [] = (names, [])
placed_data names (i ∷ items) = two_placed (λ i is. i ∷ is) (placed_item names i) (λ behind. placed_data behind items)

-- a term, and the variable that a reply goes to
abbrev pub placed_term_into : Names → named.NamedTerm → Option (List ℕ) → Placed (Term × Option ℕ)
placed_term_into names term into = two_placed (λ t v. (t, v)) (placed_term names term) (λ behind. placed_target behind into)

-- a handle, and what is written through it
abbrev pub placed_written : Names → List ℕ → List named.NamedItem → Placed (ℕ × List Item)
placed_written names handle items = two_placed (λ h is. (h, is)) (variable names handle) (λ behind. placed_data behind items)

-- the same where both are one
abbrev pub placed_write : Names → List ℕ × List named.NamedItem → Placed (ℕ × List Item)
placed_write names p = placed_written names p.0 p.1

-- the same, and the slot that the end goes to
abbrev pub written_with_slot_of : Names → List ℕ × (List named.NamedItem × Option (List ℕ)) → Placed ((ℕ × List Item) × Option ℕ)
written_with_slot_of names p =
    two_placed (λ w s. (w, s)) (placed_written names p.0 p.1.0) (λ behind. placed_ending behind p.1.1)

-- a line that is a call
abbrev pub placed_form : Names → named.NamedCallForm → Placed CallForm
placed_form names (form.Load at into) = one_placed (λ p. form.Load p.0 p.1) (placed_term_into names at into)
placed_form names (form.Store at value) = two_placed form.Store (placed_term names at) (λ behind. placed_expression behind value)
placed_form names (form.XOpen file into) = one_placed (form.XOpen file) (placed_target names into)
placed_form names (form.XCreate file into) = one_placed (form.XCreate file) (placed_target names into)
placed_form names (form.XRename from to) = (names, form.XRename from to)
placed_form names (form.XRead handle n into) =
    two_placed (λ h p. form.XRead h p.0 p.1) (variable names handle) (λ behind. placed_term_into behind n into)
placed_form names (form.XWriteOvr handle items) = one_placed (λ p. form.XWriteOvr p.0 p.1) (placed_written names handle items)
placed_form names (form.XWriteSeq handle items) = one_placed (λ p. form.XWriteSeq p.0 p.1) (placed_written names handle items)
placed_form names (form.XSeek handle to) = two_placed form.XSeek (variable names handle) (λ behind. placed_term behind to)
placed_form names (form.XLen handle into) = two_placed form.XLen (variable names handle) (λ behind. placed_target behind into)
placed_form names (form.XClose handle) = one_placed form.XClose (variable names handle)
placed_form names (form.XUnlink file into) = one_placed (form.XUnlink file) (placed_ending names into)
placed_form names (form.XSync handle into) = two_placed form.XSync (variable names handle) (λ behind. placed_ending behind into)
placed_form names (form.XPipe into) = one_placed form.XPipe (placed_target names into)
placed_form names (form.XReadPipe handle n into) =
    two_placed (λ h p. form.XReadPipe h p.0 p.1) (variable names handle) (λ behind. placed_term_into behind n into)
placed_form names (form.XWritePipe handle items into) =
    two_placed (λ p s. form.XWritePipe p.0 p.1 s) (placed_written names handle items) (λ behind. placed_ending behind into)
placed_form names (form.XShutdown handle into) = two_placed form.XShutdown (variable names handle) (λ behind. placed_ending behind into)
placed_form names (form.XPair into) = one_placed form.XPair (placed_targets names into)
placed_form names (form.XRecvmsg handle into) = two_placed form.XRecvmsg (variable names handle) (λ behind. placed_target behind into)
placed_form names (form.XSendmsg handle items into) =
    two_placed (λ p s. form.XSendmsg p.0 p.1 s) (placed_written names handle items) (λ behind. placed_ending behind into)
placed_form names (form.XThreadCreate block into) = one_placed (form.XThreadCreate block) (placed_ending names into)
placed_form names form.Save = (names, form.Save)
placed_form names form.Keep = (names, form.Keep)
placed_form names form.Back = (names, form.Back)

-- a test of two terms
abbrev pub placed_test : Names → named.NamedTerm → Test → named.NamedTerm → Placed Statement
placed_test names left test right =
    two_placed (λ a b. statement.AbortIf a test b) (placed_term names left) (λ behind. placed_term behind right)

-- the same of a back
abbrev pub placed_back_test : Names → named.NamedTerm → Test → named.NamedTerm → Placed Statement
placed_back_test names left test right =
    two_placed (λ a b. statement.BackIf a test b) (placed_term names left) (λ behind. placed_term behind right)

-- a statement: its variables and slots, read or written, in the order in which they stand there
abbrev pub placed_statement : Names → named.NamedStatement → Placed Statement
placed_statement names (statement.Call form) = one_placed (λ f. statement.Call f) (placed_form names form)
placed_statement names (statement.Let into value) =
    two_placed statement.Let (variable names into) (λ behind. placed_expression behind value)
placed_statement names statement.Abort = (names, statement.Abort)
placed_statement names (statement.AbortIf left test right) = placed_test names left test right
placed_statement names statement.Require = (names, statement.Require)
placed_statement names (statement.BackIf left test right) = placed_back_test names left test right
