-- A transaction on its way through its statements; what it has stored, and the silent statements that it passes.
use Rattle.std.specs.Prelude.{ℕ, ◌==◌, ◌+◌, ◌||◌, Bool, true, false, not, nat_le, nat_lt, if◌then◌else◌}
use Rattle.std.specs.Prelude.{List, [], ◌∷◌, Option, length, slice_set}
use Rattle.std.specs.declared.option.Option.TheVariants.{Some}
use Rattle.xc_data.specs.declared.call.Reply.{Reply}
use Rattle.xc_data.specs.declared.call.Reply.TheVariants as reply
use Rattle.xc_data.specs.Calls.{bytes_of}
use Rattle.xc_text.specs.declared.script.Statement.TheVariants as statement
use Rattle.xc_text.specs.declared.script.Test.{Test}
use Rattle.xc_text.specs.declared.script.Test.TheVariants as test
use Rattle.xc_text.specs.Stated.{Statement}
use Rattle.xc_script.specs.declared.ask.Ask.{Ask}
use Rattle.xc_script.specs.declared.ask.Ask.TheVariants as ask
use Rattle.xc_script.specs.declared.value.Value.{Value}
use Rattle.xc_script.specs.declared.value.Value.TheVariants as value
use Rattle.xc_script.specs.Values.{Variables, term_value, expression_value}

-- ---- what a transaction has stored: the bytes of its calls and of their replies, up to 16,384
-- so many bytes are too long for one call, or for what is left of the store
abbrev pub is_over : ℕ → ℕ → Bool
is_over stored n = nat_lt 1024 n || nat_lt 16384 (stored + n)

-- how many bytes what is asked carries
abbrev pub carried_by : Ask → ℕ
carried_by (ask.Call call) = length (bytes_of call)
carried_by ask.Commit = 0
carried_by ask.Abort = 0
carried_by ask.End = 0

-- the bytes that a reply brings
abbrev pub bytes_got : Reply → List ℕ
bytes_got (reply.Number n) = []
bytes_got (reply.Got bytes) = bytes
bytes_got (reply.Made h) = []
bytes_got (reply.MadePair h g) = []
bytes_got reply.Done = []
bytes_got reply.End = []
bytes_got reply.Empty = []
bytes_got reply.NoName = []
bytes_got reply.Exists = []
bytes_got reply.BadHandle = []
bytes_got reply.PastEnd = []
bytes_got reply.TooBig = []
bytes_got reply.TooMuch = []
bytes_got reply.BadWord = []
bytes_got (reply.Fault n) = []
bytes_got reply.Late = []
bytes_got (reply.Undone n) = []

-- A call that carried so many bytes failed a private check. Longer data than a call takes is asked of no call, so
-- one that carries bytes is too big only for its file, which an append finds after the checks.
abbrev pub fails_check : ℕ → Reply → Bool
fails_check carried (reply.Number n) = false
fails_check carried (reply.Got bytes) = false
fails_check carried (reply.Made h) = false
fails_check carried (reply.MadePair h g) = false
fails_check carried reply.Done = false
fails_check carried reply.End = false
fails_check carried reply.Empty = false
fails_check carried reply.NoName = false
fails_check carried reply.Exists = false
fails_check carried reply.BadHandle = true
fails_check carried reply.PastEnd = false
fails_check carried reply.TooBig = carried == 0
fails_check carried reply.TooMuch = true
fails_check carried reply.BadWord = true
fails_check carried (reply.Fault n) = false
fails_check carried reply.Late = false
fails_check carried (reply.Undone n) = false

-- a call that passed the private checks stores its bytes and its reply's
abbrev pub stored_after : ℕ → ℕ → Reply → ℕ
stored_after stored carried reply = if fails_check carried reply then stored else stored + carried + length (bytes_got reply)

-- ---- a transaction on its way: its variables, what it has stored, whether its last call was refused, and the
-- statements that are left, of which the first one asks something
pub record Walk : Type 0 where
  pub variables : Variables
  pub stored : ℕ
  pub refused : Bool
  pub left : List Statement

-- ---- silent statements, which ask nothing
-- the test holds of two numbers
abbrev pub holds : Test → ℕ → ℕ → Bool
holds test.Equal a b = a == b
holds test.NotEqual a b = not (a == b)
holds test.Less a b = nat_lt a b
holds test.AtMost a b = nat_le a b
holds test.Greater a b = nat_lt b a
holds test.AtLeast a b = nat_le b a

-- silent are a `let`, an `abort if` or a `back if` whose test fails, and a `require` unless the last call was refused
abbrev pub is_silent : Variables → Bool → Statement → Bool
is_silent variables refused (statement.Call f) = false
is_silent variables refused (statement.Let into e) = true
is_silent variables refused statement.Abort = false
is_silent variables refused (statement.AbortIf left test right) = not (holds test (term_value variables left) (term_value variables right))
is_silent variables refused statement.Require = not refused
is_silent variables refused (statement.BackIf left test right) = not (holds test (term_value variables left) (term_value variables right))

-- the variables where the one at a place holds this, or nothing
abbrev pub set_to : Variables → ℕ → Option Value → Variables
set_to variables v held = record variables { values = slice_set variables.values v held }

-- the variables after a silent statement: a `let` sets one
abbrev pub set_by : Variables → Statement → Variables
set_by variables (statement.Let into e) = set_to variables into (Some (value.Number (expression_value variables e)))
set_by variables (statement.Call f) = variables
set_by variables statement.Abort = variables
set_by variables (statement.AbortIf left test right) = variables
set_by variables statement.Require = variables
set_by variables (statement.BackIf left test right) = variables

-- a transaction before these statements: the silent ones in front are passed, one after another
abbrev pub past_silent : Variables → ℕ → Bool → List Statement → Walk
past_silent variables stored refused [] = record { variables = variables; stored = stored; refused = refused; left = [] }
past_silent variables stored refused (s ∷ rest) =
    if is_silent variables refused s then past_silent (set_by variables s) stored refused rest
    else record { variables = variables; stored = stored; refused = refused; left = s ∷ rest }

-- no silent statement comes first
abbrev pub none_silent_first : Variables → Bool → List Statement → Bool
none_silent_first variables refused [] = true
none_silent_first variables refused (s ∷ rest) = not (is_silent variables refused s)
