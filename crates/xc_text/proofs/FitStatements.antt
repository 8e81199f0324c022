-- What a line of a transaction states may stand where the line is.
use Rattle.std.proofs.Common.{ℕ, Bool, true, false, List, Option, None, Some, Result, IfOk, refl}
use Rattle.std.specs.Prelude.{codes, if◌then◌else◌}
use Rattle.xc_text.specs.declared.calls.CallKind.{CallKind}
use Rattle.xc_text.specs.declared.calls.CallKind.TheVariants.{Word, Name, Handle, Pipe, Pair, XThreadCreate}
use Rattle.xc_text.specs.declared.calls.WordCall.{WordCall}
use Rattle.xc_text.specs.declared.calls.WordCall.TheVariants as word
use Rattle.xc_text.specs.declared.calls.NameCall.{NameCall}
use Rattle.xc_text.specs.declared.calls.NameCall.TheVariants as file
use Rattle.xc_text.specs.declared.calls.HandleCall.{HandleCall}
use Rattle.xc_text.specs.declared.calls.HandleCall.TheVariants as handled
use Rattle.xc_text.specs.declared.calls.PipeCall.{PipeCall}
use Rattle.xc_text.specs.declared.calls.PipeCall.TheVariants as piped
use Rattle.xc_text.specs.declared.calls.PairCall.{PairCall}
use Rattle.xc_text.specs.declared.calls.PairCall.TheVariants as paired
use Rattle.xc_text.specs.declared.script.Statement.TheVariants as statement
use Rattle.xc_text.specs.Calls.{call_kinds, word_form, name_form, handle_form, pipe_form, pair_form, form_of, read_call_line}
use Rattle.xc_text.specs.Named as named
use Rattle.xc_text.specs.Statements.{Condition, condition, abort_where, back_where, let_line, abort_line, require_line, save_line, keep_line, back_line}
use Rattle.xc_text.specs.Statements.{statement_line, outer_statement, inner_statement}
use Rattle.xc_tokens.specs.declared.why.Why.{Why}
use Rattle.xc_tokens.specs.Answers.{seen}
use Rattle.xc_tokens.specs.ByWord.{by_word}
use Rattle.xc_tokens.specs.Tokens.{Lexeme}
use Rattle.xc_tokens.specs.Words.{spells}
use Rattle.xc_text.proofs.KeepingBlocks.{IsFitStatement}
use Rattle.xc_text.proofs.Results.{for_any, seen_keeps}

-- what is made of any parts may stand there
made_stands : {A : Type 0} (within : Bool) (make : A → named.NamedStatement) (parts : Result A Why) → ((x : A) → IsFitStatement within (make x)) →
    IfOk (seen make parts) (IsFitStatement within)
made_stands within make parts fits = seen_keeps (λ x. IsFitStatement within (make x)) (IsFitStatement within) make parts (for_any _ parts fits) (λ x is. is)

-- a call that may stand there
abbrev IsFitForm : Bool → named.NamedCallForm → Type 0
IsFitForm within f = IsFitStatement within (statement.Call f)

form_stands : {A : Type 0} (within : Bool) (make : A → named.NamedCallForm) (parts : Result A Why) → ((x : A) → IsFitForm within (make x)) →
    IfOk (seen make parts) (IsFitForm within)
form_stands within make parts fits = seen_keeps (λ x. IsFitForm within (make x)) (IsFitForm within) make parts (for_any _ parts fits) (λ x is. is)

word_stands : (within : Bool) (call : WordCall) (rest : List Lexeme) → IfOk (word_form call rest) (IsFitForm within)
word_stands within word.Load rest = form_stands within _ _ (λ p names. refl)
word_stands within word.Store rest = form_stands within _ _ (λ p names. refl)

name_stands : (within : Bool) (call : NameCall) (rest : List Lexeme) → IfOk (name_form call rest) (IsFitForm within)
name_stands within file.XOpen rest = form_stands within _ _ (λ p names. refl)
name_stands within file.XCreate rest = form_stands within _ _ (λ p names. refl)
name_stands within file.XRename rest = form_stands within _ _ (λ p names. refl)
name_stands within file.XUnlink rest = form_stands within _ _ (λ p names. refl)

handle_stands : (within : Bool) (call : HandleCall) (rest : List Lexeme) → IfOk (handle_form call rest) (IsFitForm within)
handle_stands within handled.XRead rest = form_stands within _ _ (λ p names. refl)
handle_stands within handled.XWriteOvr rest = form_stands within _ _ (λ p names. refl)
handle_stands within handled.XWriteSeq rest = form_stands within _ _ (λ p names. refl)
handle_stands within handled.XSeek rest = form_stands within _ _ (λ p names. refl)
handle_stands within handled.XLen rest = form_stands within _ _ (λ p names. refl)
handle_stands within handled.XClose rest = form_stands within _ _ (λ p names. refl)
handle_stands within handled.XSync rest = form_stands within _ _ (λ p names. refl)

pipe_stands : (within : Bool) (call : PipeCall) (rest : List Lexeme) → IfOk (pipe_form call rest) (IsFitForm within)
pipe_stands within piped.XPipe rest = form_stands within _ _ (λ p names. refl)
pipe_stands within piped.XReadPipe rest = form_stands within _ _ (λ p names. refl)
pipe_stands within piped.XWritePipe rest = form_stands within _ _ (λ p names. refl)
pipe_stands within piped.XShutdown rest = form_stands within _ _ (λ p names. refl)

pair_stands : (within : Bool) (call : PairCall) (rest : List Lexeme) → IfOk (pair_form call rest) (IsFitForm within)
pair_stands within paired.XPair rest = form_stands within _ _ (λ p names. refl)
pair_stands within paired.XRecvmsg rest = form_stands within _ _ (λ p names. refl)
pair_stands within paired.XSendmsg rest = form_stands within _ _ (λ p names. refl)

kind_stands : (within : Bool) (kind : CallKind) (rest : List Lexeme) → IfOk (form_of kind rest) (IsFitForm within)
kind_stands within (Word call) rest = word_stands within call rest
kind_stands within (Name call) rest = name_stands within call rest
kind_stands within (Handle call) rest = handle_stands within call rest
kind_stands within (Pipe call) rest = pipe_stands within call rest
kind_stands within (Pair call) rest = pair_stands within call rest
kind_stands within XThreadCreate rest = form_stands within _ _ (λ p names. refl)

call_stands : (within : Bool) (kind : Option CallKind) (rest : List Lexeme) → IfOk (read_call_line kind rest) (IsFitStatement within)
call_stands within None rest = tt
call_stands within (Some kind) rest =
    seen_keeps (IsFitForm within) (IsFitStatement within) (λ (f : named.NamedCallForm). statement.Call f) (form_of kind rest) (kind_stands within kind rest)
    (λ f is. is)

abort_stands : (within : Bool) (c : Option Condition) → IsFitStatement within (abort_where c)
abort_stands within None = λ names. refl
abort_stands within (Some c) = λ names. refl

back_stands : (c : Option Condition) → IsFitStatement true (back_where c)
back_stands None = λ names. refl
back_stands (Some c) = λ names. refl

any_stands : (within : Bool) (word : List ℕ) (rest : List Lexeme) (is_let is_abort is_require : Bool) →
    IfOk (
    if is_let then let_line rest
    else if is_abort then abort_line rest
    else if is_require then require_line rest
    else read_call_line (by_word call_kinds word) rest
    ) (IsFitStatement within)
any_stands within word rest true is_abort is_require = made_stands within _ _ (λ p names. refl)
any_stands within word rest false true is_require = made_stands within abort_where (condition rest) (abort_stands within)
any_stands within word rest false false true = made_stands within _ _ (λ p names. refl)
any_stands within word rest false false false = call_stands within (by_word call_kinds word) rest

-- a statement of the places of both kinds
statement_stands : (within : Bool) (word : List ℕ) (rest : List Lexeme) → IfOk (statement_line word rest) (IsFitStatement within)
statement_stands within word rest = any_stands within word rest (spells word (codes "let")) (spells word (codes "abort")) (spells word (codes "require"))

outer_cases : (word : List ℕ) (rest : List Lexeme) (save : Bool) →
    IfOk (if save then save_line rest else statement_line word rest) (IsFitStatement false)
outer_cases word rest true = made_stands false _ _ (λ p names. refl)
outer_cases word rest false = statement_stands false word rest

-- a statement outside of inner blocks
pub outer_stands : (word : List ℕ) (rest : List Lexeme) → IfOk (outer_statement word rest) (IsFitStatement false)
outer_stands word rest = outer_cases word rest (spells word (codes "save"))

inner_cases : (word : List ℕ) (rest : List Lexeme) (keep back : Bool) →
    IfOk (if keep then keep_line rest else if back then back_line rest else statement_line word rest) (IsFitStatement true)
inner_cases word rest true back = made_stands true _ _ (λ p names. refl)
inner_cases word rest false true = made_stands true back_where (condition rest) back_stands
inner_cases word rest false false = statement_stands true word rest

-- a statement in an inner block
pub inner_stands : (word : List ℕ) (rest : List Lexeme) → IfOk (inner_statement word rest) (IsFitStatement true)
inner_stands word rest = inner_cases word rest (spells word (codes "keep")) (spells word (codes "back"))
