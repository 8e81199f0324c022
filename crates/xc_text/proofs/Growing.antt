-- The names of variables as more of a script is placed: none goes, and a place is one of theirs.
use Rattle.std.proofs.Common.{ℕ, ◌<◌, ◌≤◌, List, [], ◌∷◌, length, Option, None, Some, IfSome, nat_lt, arith}
use Rattle.std.specs.Prelude.{nat_eq}
use Rattle.std.specs.Cmp.Lexicographic.{pointwise}
use Rattle.std.specs.List.{position_or_len}
use Rattle.std.proofs.lemmas.Bool.{cond_both, ltb-true}
use Rattle.std.proofs.lemmas.List.{length-append}
use Rattle.xc_text.specs.declared.script.Term.TheVariants.{Number, Variable, Slot}
use Rattle.xc_text.specs.declared.script.Expression.TheVariants.{Term as OneTerm, Sum, Difference}
use Rattle.xc_text.specs.declared.script.Item.TheVariants as item
use Rattle.xc_text.specs.declared.script.CallForm.TheVariants as form
use Rattle.xc_text.specs.declared.script.Statement.TheVariants as statement
use Rattle.xc_text.specs.Named as named
use Rattle.xc_text.specs.Said.{Names}
use Rattle.xc_text.specs.Places.{Placed, name_place, at_place, variable, placed_two, placed_term, placed_expression, placed_target, placed_targets}
use Rattle.xc_text.specs.Places.{placed_ending}
use Rattle.xc_text.specs.Places.{placed_item, placed_data, placed_term_into, placed_written, placed_form, placed_statement}

-- no variable goes
abbrev pub KeepsVariables : Names → Names → Type 0
KeepsVariables old new = length old.variables ≤ length new.variables

found_within : (names : List (List ℕ)) (name : List ℕ) → IfSome (name_place names name) (λ at. at < length names)
found_within names name =
    let at = position_or_len (λ other. pointwise nat_eq other name) names in
    cond_both (nat_lt at (length names)) (Some at) None (λ (o : Option ℕ). IfSome o (λ n. n < length names)) (λ lt. ltb-true _ _ lt) (λ _. tt)

placed_within : (names : List (List ℕ)) (name : List ℕ) (found : Option ℕ) → IfSome found (λ at. at < length names)
    → ((at_place names name found).1 < length (at_place names name found).0) × (length names ≤ length (at_place names name found).0)
placed_within names name (Some at) within = (within, omega arith)
placed_within names name None within = (rw length-append (omega arith), rw length-append (omega arith))

-- a variable has its place after it
pub has_place : (names : Names) (name : List ℕ) → (variable names name).1 < length (variable names name).0.variables
has_place names name = (placed_within names.variables name (name_place names.variables name) (found_within names.variables name)).0

-- one variable, new or not
pub variable_grows : (names : Names) (name : List ℕ) → KeepsVariables names (variable names name).0
variable_grows names name = (placed_within names.variables name (name_place names.variables name) (found_within names.variables name)).1

-- a part, and another one after it
two_grow : {A B : Type 0} (names : Names) (p : Placed A) (behind : Names → Placed B) → KeepsVariables names p.0
    → ((n : Names) → KeepsVariables n (behind n).0) → KeepsVariables names (behind p.0).0
two_grow names p behind first second = let later = second p.0 in omega (arith, first, later)

term_grows : (names : Names) (t : named.NamedTerm) → KeepsVariables names (placed_term names t).0
term_grows names (Number n) = omega arith
term_grows names (Variable name) = variable_grows names name
term_grows names (Slot name) = omega arith

expression_grows : (names : Names) (e : named.NamedExpression) → KeepsVariables names (placed_expression names e).0
expression_grows names (OneTerm a) = term_grows names a
expression_grows names (Sum a b) = two_grow names (placed_term names a) (λ n. placed_term n b) (term_grows names a) (λ n. term_grows n b)
expression_grows names (Difference a b) =
    two_grow names (placed_term names a) (λ n. placed_term n b) (term_grows names a) (λ n. term_grows n b)

target_grows : (names : Names) (into : Option (List ℕ)) → KeepsVariables names (placed_target names into).0
target_grows names (Some name) = variable_grows names name
target_grows names None = omega arith

-- two variables, new or not
pub variables_grow : (names : Names) (v w : List ℕ) → KeepsVariables names (placed_two names v w).0
variables_grow names v w = two_grow names (variable names v) (λ n. variable n w) (variable_grows names v) (λ n. variable_grows n w)

-- both have their places after them
pub have_places : (names : Names) (v w : List ℕ) → let p = placed_two names v w in
    (p.1.0 < length p.0.variables) × (p.1.1 < length p.0.variables)
have_places names v w =
    let first = variable names v in
    let grows = variable_grows first.0 w in
    (omega (arith, has_place names v, grows), has_place first.0 w)

targets_grow : (names : Names) (into : Option (List ℕ × List ℕ)) → KeepsVariables names (placed_targets names into).0
targets_grow names (Some (v, w)) = variables_grow names v w
targets_grow names None = omega arith

ending_grows : (names : Names) (into : Option (List ℕ)) → KeepsVariables names (placed_ending names into).0
ending_grows names (Some name) = omega arith
ending_grows names None = omega arith

item_grows : (names : Names) (i : named.NamedItem) → KeepsVariables names (placed_item names i).0
item_grows names (item.Literal bytes) = omega arith
item_grows names (item.Bytes name) = variable_grows names name
item_grows names (item.Digits t) = term_grows names t

data_grows : (names : Names) (items : List named.NamedItem) → KeepsVariables names (placed_data names items).0
data_grows names [] = omega arith
data_grows names (i ∷ items) = two_grow names (placed_item names i) (λ n. placed_data n items) (item_grows names i) (λ n. data_grows n items)

term_into_grows : (names : Names) (t : named.NamedTerm) (into : Option (List ℕ)) → KeepsVariables names (placed_term_into names t into).0
term_into_grows names t into = two_grow names (placed_term names t) (λ n. placed_target n into) (term_grows names t) (λ n. target_grows n into)

written_grows : (names : Names) (handle : List ℕ) (items : List named.NamedItem) → KeepsVariables names (placed_written names handle items).0
written_grows names handle items =
    two_grow names (variable names handle) (λ n. placed_data n items) (variable_grows names handle) (λ n. data_grows n items)

-- through a handle, and then what stands after it
handled_grows : {B : Type 0} (names : Names) (handle : List ℕ) (behind : Names → Placed B) → ((n : Names) → KeepsVariables n (behind n).0)
    → KeepsVariables names (behind (variable names handle).0).0
handled_grows names handle behind second = two_grow names (variable names handle) behind (variable_grows names handle) second

form_grows : (names : Names) (f : named.NamedCallForm) → KeepsVariables names (placed_form names f).0
form_grows names (form.Load at into) = term_into_grows names at into
form_grows names (form.Store at value) =
    two_grow names (placed_term names at) (λ n. placed_expression n value) (term_grows names at) (λ n. expression_grows n value)
form_grows names (form.XOpen file into) = target_grows names into
form_grows names (form.XCreate file into) = target_grows names into
form_grows names (form.XRename from to) = omega arith
form_grows names (form.XRead handle n into) = handled_grows names handle (λ m. placed_term_into m n into) (λ m. term_into_grows m n into)
form_grows names (form.XWriteOvr handle items) = written_grows names handle items
form_grows names (form.XWriteSeq handle items) = written_grows names handle items
form_grows names (form.XSeek handle to) = handled_grows names handle (λ n. placed_term n to) (λ n. term_grows n to)
form_grows names (form.XLen handle into) = handled_grows names handle (λ n. placed_target n into) (λ n. target_grows n into)
form_grows names (form.XClose handle) = variable_grows names handle
form_grows names (form.XUnlink file into) = ending_grows names into
form_grows names (form.XSync handle into) = handled_grows names handle (λ n. placed_ending n into) (λ n. ending_grows n into)
form_grows names (form.XPipe into) = target_grows names into
form_grows names (form.XReadPipe handle n into) = handled_grows names handle (λ m. placed_term_into m n into) (λ m. term_into_grows m n into)
form_grows names (form.XWritePipe handle items into) =
    two_grow names (placed_written names handle items) (λ n. placed_ending n into) (written_grows names handle items) (λ n. ending_grows n into)
form_grows names (form.XShutdown handle into) = handled_grows names handle (λ n. placed_ending n into) (λ n. ending_grows n into)
form_grows names (form.XPair into) = targets_grow names into
form_grows names (form.XRecvmsg handle into) = handled_grows names handle (λ n. placed_target n into) (λ n. target_grows n into)
form_grows names (form.XSendmsg handle items into) =
    two_grow names (placed_written names handle items) (λ n. placed_ending n into) (written_grows names handle items) (λ n. ending_grows n into)
form_grows names (form.XThreadCreate block into) = ending_grows names into
form_grows names form.Save = omega arith
form_grows names form.Keep = omega arith
form_grows names form.Back = omega arith

-- a statement more
pub placed_grows : (names : Names) (s : named.NamedStatement) → KeepsVariables names (placed_statement names s).0
placed_grows names (statement.Call f) = form_grows names f
placed_grows names (statement.Let into value) = handled_grows names into (λ n. placed_expression n value) (λ n. expression_grows n value)
placed_grows names statement.Abort = omega arith
placed_grows names (statement.AbortIf left test right) =
    two_grow names (placed_term names left) (λ n. placed_term n right) (term_grows names left) (λ n. term_grows n right)
placed_grows names statement.Require = omega arith
placed_grows names (statement.BackIf left test right) =
    two_grow names (placed_term names left) (λ n. placed_term n right) (term_grows names left) (λ n. term_grows n right)
