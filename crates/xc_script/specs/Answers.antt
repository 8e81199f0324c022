-- What a reply leaves in the variables, and the transaction after it.
use Rattle.std.specs.Prelude.{ℕ, Bool, true, false}
use Rattle.std.specs.Prelude.{List, [], ◌∷◌, Option, length}
use Rattle.std.specs.declared.option.Option.TheVariants.{None, Some}
use Rattle.xc_data.specs.declared.call.Reply.{Reply}
use Rattle.xc_data.specs.declared.call.Reply.TheVariants as reply
use Rattle.xc_data.specs.Calls.{bytes_of}
use Rattle.xc_text.specs.declared.script.CallForm.TheVariants as form
use Rattle.xc_text.specs.declared.script.Statement.TheVariants as statement
use Rattle.xc_text.specs.Stated.{CallForm, Statement}
use Rattle.xc_script.specs.declared.answer.Target.{Target}
use Rattle.xc_script.specs.declared.answer.Target.TheVariants as target
use Rattle.xc_script.specs.declared.ask.Ask.{Ask}
use Rattle.xc_script.specs.declared.ask.Ask.TheVariants as ask
use Rattle.xc_script.specs.declared.value.Value.{Value}
use Rattle.xc_script.specs.declared.value.Value.TheVariants as value
use Rattle.xc_script.specs.Values.{Variables}
use Rattle.xc_script.specs.Walks.{stored_after, Walk, set_to, past_silent}
use Rattle.xc_script.specs.Asking.{asks}

-- what a reply leaves in one variable: its number, its bytes or its one handle
abbrev pub value_in : Reply → Option Value
value_in (reply.Number n) = Some (value.Number n)
value_in (reply.Got bytes) = Some (value.Bytes bytes)
value_in (reply.Made h) = Some (value.Handle h)
value_in (reply.MadePair h g) = None
value_in reply.Done = None
value_in reply.End = None
value_in reply.Empty = None
value_in reply.NoName = None
value_in reply.Exists = None
value_in reply.BadHandle = None
value_in reply.PastEnd = None
value_in reply.TooBig = None
value_in reply.TooMuch = None
value_in reply.BadWord = None
value_in (reply.Fault n) = None
value_in reply.Late = None
value_in (reply.Undone n) = None

-- a variable takes what the reply has for it, and loses its own where that is nothing
abbrev pub bound_to : Variables → ℕ → Reply → Variables
bound_to variables v reply = set_to variables v (value_in reply)

-- the handles that a reply leaves in two variables, where it brings those of a pair
abbrev pub handles_in : Reply → Option (ℕ × ℕ)
handles_in (reply.Number n) = None
handles_in (reply.Got bytes) = None
handles_in (reply.Made h) = None
handles_in (reply.MadePair h g) = Some (h, g)
handles_in reply.Done = None
handles_in reply.End = None
handles_in reply.Empty = None
handles_in reply.NoName = None
handles_in reply.Exists = None
handles_in reply.BadHandle = None
handles_in reply.PastEnd = None
handles_in reply.TooBig = None
handles_in reply.TooMuch = None
handles_in reply.BadWord = None
handles_in (reply.Fault n) = None
handles_in reply.Late = None
handles_in (reply.Undone n) = None

-- two variables take these handles, one after the other, and lose their own where there are none
abbrev pub bound_both : Variables → ℕ → ℕ → Option (ℕ × ℕ) → Variables
bound_both variables v w (Some (h, g)) = set_to (set_to variables v (Some (value.Handle h))) w (Some (value.Handle g))
bound_both variables v w None = set_to (set_to variables v None) w None

-- the variables after a reply, where one or two of them may take what it brings
abbrev pub bound : Variables → Target → Reply → Variables
bound variables target.Nowhere reply = variables
bound variables (target.One v) reply = bound_to variables v reply
bound variables (target.Two v w) reply = bound_both variables v w (handles_in reply)

-- one variable, where it is named
abbrev pub one_target : Option ℕ → Target
one_target (Some v) = target.One v
one_target None = target.Nowhere

-- two variables, where they are named
abbrev pub target_of_two : Option (ℕ × ℕ) → Target
target_of_two (Some (v, w)) = target.Two v w
target_of_two None = target.Nowhere

-- the variables that take the reply to a call, where its line names some
abbrev pub form_target : CallForm → Target
form_target (form.Load at into) = one_target into
form_target (form.Store at value) = target.Nowhere
form_target (form.XOpen name into) = one_target into
form_target (form.XCreate name into) = one_target into
form_target (form.XRename from to) = target.Nowhere
form_target (form.XRead h n into) = one_target into
form_target (form.XWriteOvr h items) = target.Nowhere
form_target (form.XWriteSeq h items) = target.Nowhere
form_target (form.XSeek h to) = target.Nowhere
form_target (form.XLen h into) = one_target into
form_target (form.XClose h) = target.Nowhere
form_target (form.XUnlink name slot) = target.Nowhere
form_target (form.XSync h slot) = target.Nowhere
form_target (form.XPipe into) = one_target into
form_target (form.XReadPipe h n into) = one_target into
form_target (form.XWritePipe h items slot) = target.Nowhere
form_target (form.XShutdown h slot) = target.Nowhere
form_target (form.XPair into) = target_of_two into
form_target (form.XRecvmsg h into) = one_target into
form_target (form.XSendmsg h items slot) = target.Nowhere
form_target (form.XThreadCreate block slot) = target.Nowhere
form_target form.Save = target.Nowhere
form_target form.Keep = target.Nowhere
form_target form.Back = target.Nowhere

-- the variables that take a statement's reply, where it names some
abbrev pub target_of : Statement → Target
target_of (statement.Call f) = form_target f
target_of (statement.Let into e) = target.Nowhere
target_of statement.Abort = target.Nowhere
target_of (statement.AbortIf left test right) = target.Nowhere
target_of statement.Require = target.Nowhere
target_of (statement.BackIf left test right) = target.Nowhere

-- a call was refused whose reply is none of these: a number, bytes, handles, done, or kept for the commit
abbrev pub refuses : Reply → Bool
refuses (reply.Number n) = false
refuses (reply.Got bytes) = false
refuses (reply.Made h) = false
refuses (reply.MadePair h g) = false
refuses reply.Done = false
refuses reply.End = true
refuses reply.Empty = true
refuses reply.NoName = true
refuses reply.Exists = true
refuses reply.BadHandle = true
refuses reply.PastEnd = true
refuses reply.TooBig = true
refuses reply.TooMuch = true
refuses reply.BadWord = true
refuses (reply.Fault n) = true
refuses reply.Late = false
refuses (reply.Undone n) = false

-- A transaction goes on after the reply to the call that its first statement asked. Where it asked none, no
-- reply comes, and it stays.
abbrev pub behind_ask : Walk → List Statement → Ask → Reply → Walk
behind_ask walk (s ∷ rest) (ask.Call call) reply =
    past_silent (bound walk.variables (target_of s) reply) (stored_after walk.stored (length (bytes_of call)) reply) (refuses reply) rest
behind_ask walk _ _ reply = walk

-- a transaction on its way after a reply
abbrev pub answered : Walk → Reply → Walk
answered walk reply = behind_ask walk walk.left (asks walk) reply

-- a transaction on its way after these replies, one after another
abbrev pub all_answered : Walk → List Reply → Walk
all_answered walk [] = walk
all_answered walk (reply ∷ replies) = all_answered (answered walk reply) replies
