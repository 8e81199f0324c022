-- Inner blocks among the statements of a transaction: a save opens one, and a keep closes it.
use Rattle.std.specs.Prelude.{Bool, true, false, not, ◌&&◌, List, [], ◌∷◌, fold}
use Rattle.xc_text.specs.declared.script.CallForm.TheVariants as form
use Rattle.xc_text.specs.declared.script.Statement.TheVariants as statement
use Rattle.xc_text.specs.Stated.{CallForm, Statement}

-- whether a block is open behind a call, where one is open or not before it
abbrev pub form_open : Bool → CallForm → Bool
form_open within form.Save = true
form_open within form.Keep = false
form_open within _ = within

-- the same of a statement
abbrev pub open_behind : Bool → Statement → Bool
open_behind within (statement.Call f) = form_open within f
open_behind within (statement.Let into value) = within
open_behind within statement.Abort = within
open_behind within (statement.AbortIf left test right) = within
open_behind within statement.Require = within
open_behind within (statement.BackIf left test right) = within

-- a block is open behind these statements of a transaction
abbrev pub is_open : List Statement → Bool
is_open body = fold open_behind false body

-- a call may stand here, where a block is open or not: a save outside of blocks, and a keep and a back in one
abbrev pub form_may_stand : Bool → CallForm → Bool
form_may_stand within form.Save = not within
form_may_stand within form.Keep = within
form_may_stand within form.Back = within
form_may_stand within _ = true

-- the same of a statement
abbrev pub may_stand : Bool → Statement → Bool
may_stand within (statement.Call f) = form_may_stand within f
may_stand within (statement.Let into value) = true
may_stand within statement.Abort = true
may_stand within (statement.AbortIf left test right) = true
may_stand within statement.Require = true
may_stand within (statement.BackIf left test right) = within

-- blocks are closed, and none stands in another; a keep and a back stand in one alone
abbrev pub are_inner : Bool → List Statement → Bool
are_inner within [] = not within
are_inner within (s ∷ rest) = may_stand within s && are_inner (open_behind within s) rest
