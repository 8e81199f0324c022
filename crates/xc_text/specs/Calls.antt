-- Lines that are calls: the word that one begins with, and the shape of what stands after it.
use Rattle.std.specs.Prelude.{ℕ, List, [], ◌∷◌, codes, Option, Some, None, Result, Err}
use Rattle.xc_text.specs.declared.calls.CallKind.{CallKind}
use Rattle.xc_text.specs.declared.calls.CallKind.TheVariants.{Word, Name, Handle, Pipe, Pair, XThreadCreate}
use Rattle.xc_text.specs.declared.calls.WordCall.{WordCall}
use Rattle.xc_text.specs.declared.calls.WordCall.TheVariants as word
use Rattle.xc_text.specs.declared.calls.NameCall.{NameCall}
use Rattle.xc_text.specs.declared.calls.NameCall.TheVariants as named
use Rattle.xc_text.specs.declared.calls.HandleCall.{HandleCall}
use Rattle.xc_text.specs.declared.calls.HandleCall.TheVariants as handled
use Rattle.xc_text.specs.declared.calls.PipeCall.{PipeCall}
use Rattle.xc_text.specs.declared.calls.PipeCall.TheVariants as piped
use Rattle.xc_text.specs.declared.calls.PairCall.{PairCall}
use Rattle.xc_text.specs.declared.calls.PairCall.TheVariants as paired
use Rattle.xc_text.specs.declared.script.CallForm.TheVariants as form
use Rattle.xc_text.specs.declared.script.Statement.TheVariants as statement
use Rattle.xc_text.specs.Pieces.{data_of}
use Rattle.xc_text.specs.Shapes.{alone, led, target, two_targets, slot_ending, before_slot}
use Rattle.xc_text.specs.Named.{NamedTerm, NamedExpression, NamedItem, NamedCallForm, NamedStatement}
use Rattle.xc_text.specs.Terms.{term, expression_of}
use Rattle.xc_tokens.specs.declared.why.Why.{Why}
use Rattle.xc_tokens.specs.declared.why.Why.TheVariants.{UnknownLine}
use Rattle.xc_tokens.specs.Answers.{seen}
use Rattle.xc_tokens.specs.ByWord.{Entry}
use Rattle.xc_tokens.specs.Tokens.{Lexeme}
use Rattle.xc_tokens.specs.Words.{ident, name}

-- the words of all calls
unfoldable pub call_kinds : List (Entry CallKind)
call_kinds =
    (codes "load", Word word.Load)
    ∷ (codes "store", Word word.Store)
    ∷ (codes "x_open", Name named.XOpen)
    ∷ (codes "x_create", Name named.XCreate)
    ∷ (codes "x_rename", Name named.XRename)
    ∷ (codes "x_unlink", Name named.XUnlink)
    ∷ (codes "x_read", Handle handled.XRead)
    ∷ (codes "x_write_ovr", Handle handled.XWriteOvr)
    ∷ (codes "x_write_seq", Handle handled.XWriteSeq)
    ∷ (codes "x_seek", Handle handled.XSeek)
    ∷ (codes "x_len", Handle handled.XLen)
    ∷ (codes "x_close", Handle handled.XClose)
    ∷ (codes "x_sync", Handle handled.XSync)
    ∷ (codes "x_pipe", Pipe piped.XPipe)
    ∷ (codes "x_read_pipe", Pipe piped.XReadPipe)
    ∷ (codes "x_write_pipe", Pipe piped.XWritePipe)
    ∷ (codes "x_shutdown", Pipe piped.XShutdown)
    ∷ (codes "x_pair", Pair paired.XPair)
    ∷ (codes "x_recvmsg", Pair paired.XRecvmsg)
    ∷ (codes "x_sendmsg", Pair paired.XSendmsg)
    ∷ (codes "x_thread_create", XThreadCreate)
    ∷ []

-- a name, a handle or a block, and nothing or a variable or a slot
abbrev pub NameAnd : Type 0
NameAnd = List ℕ × Option (List ℕ)

-- a handle, a term, and nothing or a variable
abbrev pub HandleTermInto : Type 0
HandleTermInto = List ℕ × (NamedTerm × Option (List ℕ))

-- a handle, data, and nothing or a slot
abbrev pub HandleDataSlot : Type 0
HandleDataSlot = List ℕ × (List NamedItem × Option (List ℕ))

-- the call on a word that the tokens after its word make: `T`, `T -> V` or `T E`
abbrev pub word_form : WordCall → List Lexeme → Result NamedCallForm Why
word_form word.Load rest = seen (λ (p : NamedTerm × Option (List ℕ)). form.Load p.0 p.1) (led term target rest)
word_form word.Store rest = seen (λ (p : NamedTerm × NamedExpression). form.Store p.0 p.1) (led term expression_of rest)

-- the call on a name: `NAME`, after it `-> V` or `slot S` where that is wanted, or `NAME NAME`
abbrev pub name_form : NameCall → List Lexeme → Result NamedCallForm Why
name_form named.XOpen rest = seen (λ (p : NameAnd). form.XOpen p.0 p.1) (led name target rest)
name_form named.XCreate rest = seen (λ (p : NameAnd). form.XCreate p.0 p.1) (led name target rest)
name_form named.XRename rest = seen (λ (p : List ℕ × List ℕ). form.XRename p.0 p.1) (led name (alone name) rest)
name_form named.XUnlink rest = seen (λ (p : NameAnd). form.XUnlink p.0 p.1) (led name slot_ending rest)

-- the call through the handle of a file: `H`, `H T` or `H D`, and after some of them `-> V` or `slot S` where that is wanted
abbrev pub handle_form : HandleCall → List Lexeme → Result NamedCallForm Why
handle_form handled.XRead rest = seen (λ (p : HandleTermInto). form.XRead p.0 p.1.0 p.1.1) (led ident (led term target) rest)
handle_form handled.XWriteOvr rest = seen (λ (p : List ℕ × List NamedItem). form.XWriteOvr p.0 p.1) (led ident data_of rest)
handle_form handled.XWriteSeq rest = seen (λ (p : List ℕ × List NamedItem). form.XWriteSeq p.0 p.1) (led ident data_of rest)
handle_form handled.XSeek rest = seen (λ (p : List ℕ × NamedTerm). form.XSeek p.0 p.1) (led ident (alone term) rest)
handle_form handled.XLen rest = seen (λ (p : NameAnd). form.XLen p.0 p.1) (led ident target rest)
handle_form handled.XClose rest = seen (λ (h : List ℕ). form.XClose h) (alone ident rest)
handle_form handled.XSync rest = seen (λ (p : NameAnd). form.XSync p.0 p.1) (led ident slot_ending rest)

-- the call on a pipe: nothing, `H T` or `H D`, and after them `-> V` or `slot S` where that is wanted
abbrev pub pipe_form : PipeCall → List Lexeme → Result NamedCallForm Why
pipe_form piped.XPipe rest = seen form.XPipe (target rest)
pipe_form piped.XReadPipe rest = seen (λ (p : HandleTermInto). form.XReadPipe p.0 p.1.0 p.1.1) (led ident (led term target) rest)
pipe_form piped.XWritePipe rest = seen (λ (p : HandleDataSlot). form.XWritePipe p.0 p.1.0 p.1.1) (led ident (before_slot data_of) rest)
pipe_form piped.XShutdown rest = seen (λ (p : NameAnd). form.XShutdown p.0 p.1) (led ident slot_ending rest)

-- the call on a pair: nothing, `H` or `H D`, and after them `-> V W`, `-> V` or `slot S` where that is wanted
abbrev pub pair_form : PairCall → List Lexeme → Result NamedCallForm Why
pair_form paired.XPair rest = seen form.XPair (two_targets rest)
pair_form paired.XRecvmsg rest = seen (λ (p : NameAnd). form.XRecvmsg p.0 p.1) (led ident target rest)
pair_form paired.XSendmsg rest = seen (λ (p : HandleDataSlot). form.XSendmsg p.0 p.1.0 p.1.1) (led ident (before_slot data_of) rest)

-- the call that starts a job: `BLOCK`, and after it `slot S` where that is wanted. No block needs to have the name
abbrev pub thread_form : List Lexeme → Result NamedCallForm Why
thread_form rest = seen (λ (p : NameAnd). form.XThreadCreate p.0 p.1) (led ident slot_ending rest)

-- the call of a kind that the tokens after its word make
abbrev pub form_of : CallKind → List Lexeme → Result NamedCallForm Why
form_of (Word call) rest = word_form call rest
form_of (Name call) rest = name_form call rest
form_of (Handle call) rest = handle_form call rest
form_of (Pipe call) rest = pipe_form call rest
form_of (Pair call) rest = pair_form call rest
form_of XThreadCreate rest = thread_form rest

-- a call, where its word is one
abbrev pub read_call_line : Option CallKind → List Lexeme → Result NamedStatement Why
read_call_line None rest = Err UnknownLine
read_call_line (Some kind) rest = seen (λ (f : NamedCallForm). statement.Call f) (form_of kind rest)
