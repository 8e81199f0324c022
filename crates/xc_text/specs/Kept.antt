-- What a statement is that lies in memory in such a form.
use Rattle.xc_text.specs.declared.kept.Form.{Form}
use Rattle.xc_text.specs.declared.kept.Form.TheVariants as kept
use Rattle.xc_text.specs.declared.script.CallForm.TheVariants as form
use Rattle.xc_text.specs.declared.script.Expression.TheVariants.{Term as OneTerm, Sum, Difference}
use Rattle.xc_text.specs.declared.script.Statement.TheVariants as statement
use Rattle.xc_text.specs.Stated.{Statement}

-- the statement
abbrev pub said_by : Form → Statement
said_by (kept.Load at into) = statement.Call (form.Load at into)
said_by (kept.Store at value) = statement.Call (form.Store at (OneTerm value))
said_by (kept.StoreSum at left right) = statement.Call (form.Store at (Sum left right))
said_by (kept.StoreDifference at left right) = statement.Call (form.Store at (Difference left right))
said_by (kept.XOpen into name) = statement.Call (form.XOpen name into)
said_by (kept.XCreate into name) = statement.Call (form.XCreate name into)
said_by (kept.XRename from to) = statement.Call (form.XRename from to)
said_by (kept.XRead handle n into) = statement.Call (form.XRead handle n into)
said_by (kept.XWriteOvr handle items) = statement.Call (form.XWriteOvr handle items)
said_by (kept.XWriteSeq handle items) = statement.Call (form.XWriteSeq handle items)
said_by (kept.XSeek handle to) = statement.Call (form.XSeek handle to)
said_by (kept.XLen handle into) = statement.Call (form.XLen handle into)
said_by (kept.XClose handle) = statement.Call (form.XClose handle)
said_by (kept.XUnlink slot name) = statement.Call (form.XUnlink name slot)
said_by (kept.XSync handle slot) = statement.Call (form.XSync handle slot)
said_by (kept.XPipe into) = statement.Call (form.XPipe into)
said_by (kept.XReadPipe handle n into) = statement.Call (form.XReadPipe handle n into)
said_by (kept.XWritePipe handle slot items) = statement.Call (form.XWritePipe handle items slot)
said_by (kept.XShutdown handle slot) = statement.Call (form.XShutdown handle slot)
said_by (kept.XPair into) = statement.Call (form.XPair into)
said_by (kept.XRecvmsg handle into) = statement.Call (form.XRecvmsg handle into)
said_by (kept.XSendmsg handle slot items) = statement.Call (form.XSendmsg handle items slot)
said_by (kept.XThreadCreate slot block) = statement.Call (form.XThreadCreate block slot)
said_by (kept.Let into value) = statement.Let into (OneTerm value)
said_by (kept.LetSum into left right) = statement.Let into (Sum left right)
said_by (kept.LetDifference into left right) = statement.Let into (Difference left right)
said_by kept.Abort = statement.Abort
said_by (kept.AbortIf left test right) = statement.AbortIf left test right
said_by kept.Require = statement.Require
said_by kept.Save = statement.Call form.Save
said_by kept.Keep = statement.Call form.Keep
said_by kept.Back = statement.Call form.Back
said_by (kept.BackIf left test right) = statement.BackIf left test right
