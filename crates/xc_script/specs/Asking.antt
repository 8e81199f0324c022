-- What a statement asks.
use Rattle.std.specs.Prelude.{ℕ, if◌then◌else◌}
use Rattle.std.specs.Prelude.{List, [], ◌∷◌, Option, length}
use Rattle.std.specs.declared.option.Option.TheVariants.{None, Some}
use Rattle.xc_data.specs.declared.call.Call.{Call}
use Rattle.xc_data.specs.declared.call.Call.TheVariants as call
use Rattle.xc_script.specs.JobSlots.{slot_name}
use Rattle.xc_data.specs.Calls.{bytes_of}
use Rattle.xc_text.specs.declared.script.CallForm.TheVariants as form
use Rattle.xc_text.specs.declared.script.Statement.TheVariants as statement
use Rattle.xc_text.specs.Stated.{CallForm, Statement}
use Rattle.xc_script.specs.declared.ask.Ask.{Ask}
use Rattle.xc_script.specs.declared.ask.Ask.TheVariants as ask
use Rattle.xc_script.specs.Values.{Variables, handle_value, term_value, expression_value, joined_data}
use Rattle.xc_script.specs.Walks.{is_over, Walk}

-- ---- what is asked
-- a call is asked, but where its bytes are too long the transaction aborts itself
abbrev pub unless_over : ℕ → Call → Ask
unless_over stored call = if is_over stored (length (bytes_of call)) then ask.Abort else ask.Call call

-- the name of the slot at a place, where one is wanted
abbrev pub name_of_slot : Variables → Option ℕ → Option (List ℕ)
name_of_slot variables None = None
name_of_slot variables (Some s) = slot_name variables.slots s

-- what a line that is a call asks: the call, or the transaction's own abort where its bytes are too long
abbrev pub form_ask : Variables → ℕ → CallForm → Ask
form_ask variables stored (form.Load at into) = ask.Call (call.Load (term_value variables at))
form_ask variables stored (form.Store at value) = ask.Call (call.Store (term_value variables at) (expression_value variables value))
form_ask variables stored (form.XOpen name into) = ask.Call (call.XOpen name)
form_ask variables stored (form.XCreate name into) = ask.Call (call.XCreate name)
form_ask variables stored (form.XRename from to) = ask.Call (call.XRename from to)
form_ask variables stored (form.XRead h n into) = ask.Call (call.XRead (handle_value variables h) (term_value variables n))
form_ask variables stored (form.XWriteOvr h items) =
    unless_over stored (call.XWriteOvr (handle_value variables h) (joined_data variables items))
form_ask variables stored (form.XWriteSeq h items) =
    unless_over stored (call.XWriteSeq (handle_value variables h) (joined_data variables items))
form_ask variables stored (form.XSeek h to) = ask.Call (call.XSeek (handle_value variables h) (term_value variables to))
form_ask variables stored (form.XLen h into) = ask.Call (call.XLen (handle_value variables h))
form_ask variables stored (form.XClose h) = ask.Call (call.XClose (handle_value variables h))
form_ask variables stored (form.XUnlink name slot) = ask.Call (call.XUnlink name (name_of_slot variables slot))
form_ask variables stored (form.XSync h slot) = ask.Call (call.XSync (handle_value variables h) (name_of_slot variables slot))
form_ask variables stored (form.XPipe into) = ask.Call call.XPipe
form_ask variables stored (form.XReadPipe h n into) = ask.Call (call.XReadPipe (handle_value variables h) (term_value variables n))
form_ask variables stored (form.XWritePipe h items slot) =
    unless_over stored (call.XWritePipe (handle_value variables h) (joined_data variables items) (name_of_slot variables slot))
form_ask variables stored (form.XShutdown h slot) = ask.Call (call.XShutdown (handle_value variables h) (name_of_slot variables slot))
form_ask variables stored (form.XPair into) = ask.Call call.XPair
form_ask variables stored (form.XRecvmsg h into) = ask.Call (call.XRecvmsg (handle_value variables h))
form_ask variables stored (form.XSendmsg h items slot) =
    unless_over stored (call.XSendmsg (handle_value variables h) (joined_data variables items) (name_of_slot variables slot))
form_ask variables stored (form.XThreadCreate block slot) = ask.Call (call.XThreadCreate block (name_of_slot variables slot))
form_ask variables stored form.Save = ask.Call call.Save
form_ask variables stored form.Keep = ask.Call call.Keep
form_ask variables stored form.Back = ask.Call call.Back

-- what a statement asks that isn't silent: a call, or the transaction's own abort. A `let` is always silent.
abbrev pub ask_of : Variables → ℕ → Statement → Ask
ask_of variables stored (statement.Call f) = form_ask variables stored f
ask_of variables stored (statement.Let into e) = ask.Abort
ask_of variables stored statement.Abort = ask.Abort
ask_of variables stored (statement.AbortIf left test right) = ask.Abort
ask_of variables stored statement.Require = ask.Abort
ask_of variables stored (statement.BackIf left test right) = ask.Call call.Back

-- the transaction asks what its next statement does, and after the last one the commit
abbrev pub asks_of : Variables → ℕ → List Statement → Ask
asks_of variables stored [] = ask.Commit
asks_of variables stored (s ∷ rest) = ask_of variables stored s

-- what a transaction on its way is asked next
abbrev pub asks : Walk → Ask
asks walk = asks_of walk.variables walk.stored walk.left
