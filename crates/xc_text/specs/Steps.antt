-- What one more line adds to what was said so far.
use Rattle.std.specs.Prelude.{ℕ, ◌+◌, ◌||◌, ◌&&◌, Bool, true, false, List, [], ◌∷◌, ◌++◌, length, count_by, nat_eq, nat_le, nat_lt}
use Rattle.std.specs.Prelude.{replicate, slice_set, is_some, Option, Some, None, Result, Ok, Err, if◌then◌else◌}
use Rattle.std.specs.List.{list_all, list_any}
use Rattle.std.specs.Cmp.Lexicographic.{pointwise}
use Rattle.xc_data.specs.declared.script.HostCallKind.{HostCallKind}
use Rattle.xc_data.specs.declared.script.Opened.{Opened}
use Rattle.xc_data.specs.declared.script.Opened.TheVariants.{File, Pipe, Pair}
use Rattle.xc_data.specs.Limits.{is_pipe_line, is_pair_line}
use Rattle.xc_text.specs.declared.script.Statement.TheVariants as statement
use Rattle.xc_text.specs.declared.line.ScriptLine.{ScriptLine}
use Rattle.xc_text.specs.declared.line.ScriptLine.TheVariants as line
use Rattle.xc_text.specs.declared.line.Section.TheVariants.{Between, Block, Transaction}
use Rattle.xc_tokens.specs.declared.why.Why.{Why}
use Rattle.xc_tokens.specs.declared.why.Why.TheVariants.{BadByte, UnknownLine, BadNumber, Twice, TooMany}
use Rattle.xc_tokens.specs.Answers.{and_then, seen}
use Rattle.xc_text.specs.Grammar.{line_of}
use Rattle.xc_text.specs.Inner.{is_open}
use Rattle.xc_tokens.specs.Lines.{is_line_byte}
use Rattle.xc_text.specs.Said.{Names, Said}
use Rattle.xc_text.specs.Named.{NamedCallForm as NamedCallForm, NamedStatement as NamedStatement}
use Rattle.xc_text.specs.Places.{Placed, variable, placed_two, placed_statement}
use Rattle.xc_text.specs.Stated.{Statement}
use Rattle.xc_text.specs.Sections.{block_in, transaction_in}
use Rattle.xc_tokens.specs.Tokens.{Lexeme, tokens_of}

-- a statement that is a call
abbrev pub is_call : Statement → Bool
is_call (statement.Call form) = true
is_call (statement.Let into value) = false
is_call statement.Abort = false
is_call (statement.AbortIf left test right) = false
is_call statement.Require = false
is_call (statement.BackIf left test right) = true

-- one of the names is this one
abbrev pub is_among : List ℕ → List (List ℕ) → Bool
is_among name names = list_any (λ other. pointwise nat_eq other name) names

-- 1 to 4,096 words, by one line that stands before any word's value
abbrev pub sized_by : Said → ℕ → Result Said Why
sized_by s n =
    if nat_lt n 1 || nat_lt 4096 n then Err BadNumber
    else if s.sized || s.valued then Err Twice
    else Ok (record s { words = replicate n 0; sized = true })

-- the last line for a word counts
abbrev pub valued_by : Said → ℕ → ℕ → Result Said Why
valued_by s at value =
    if nat_le (length s.words) at then Err BadNumber
    else Ok (record s { words = slice_set s.words at value; valued = true })

-- an object is the file of that name
abbrev pub is_file_of : List ℕ → Opened → Bool
is_file_of name (File other bytes) = pointwise nat_eq name other
is_file_of name _ = false

-- at most 4,096 objects, among them files of at most 65,536 bytes
abbrev pub file_added : Said → List ℕ → Option (List ℕ) → Result Said Why
file_added s name (Some bytes) =
    if nat_le 4096 (length s.objects) then Err TooMany
    else Ok (record s { objects = s.objects ++ File name bytes ∷ [] })
file_added s name None = Err TooMany

-- one file of a name
abbrev pub filed : Said → List ℕ → Option (List ℕ) → Result Said Why
filed s name bytes = if list_any (is_file_of name) s.objects then Err Twice else file_added s name bytes

-- at most 256 variables, and at most 256 slots
abbrev pub are_few : Names → Bool
are_few names = nat_le (length names.variables) 256 && nat_le (length names.slots) 256

-- with a pipe more there are at most 4,096 objects, and at most 64 pipes among them
abbrev pub has_room_for_pipe : List Opened → Bool
has_room_for_pipe objects = nat_lt (length objects) 4096 && nat_lt (count_by is_pipe_line objects) 64

-- a pipe more, whose handle is in a variable, where the variables of the script stay few
abbrev pub piped_at : Said → List ℕ → Placed ℕ → Result Said Why
piped_at s bytes p =
    if has_room_for_pipe s.objects && are_few p.0 then
    Ok (record s { objects = s.objects ++ Pipe bytes ∷ []; names = p.0; handles = s.handles ++ p.1 ∷ [] })
    else Err TooMany

-- a pipe of at most 4,096 bytes, whose handle is in the variable of that name
abbrev pub piped : Said → List ℕ → Option (List ℕ) → Result Said Why
piped s name (Some bytes) = piped_at s bytes (variable s.names name)
piped s name None = Err TooMany

-- with a pair more there are at most 4,096 objects, and at most 32 pairs among them
abbrev pub has_room_for_pair : List Opened → Bool
has_room_for_pair objects = nat_lt (length objects) 4096 && nat_lt (count_by is_pair_line objects) 32

-- a pair more, whose handles are in two variables, where the variables of the script stay few
abbrev pub paired_at : Said → Placed (ℕ × ℕ) → Result Said Why
paired_at s p =
    if has_room_for_pair s.objects && are_few p.0 then
    Ok (record s { objects = s.objects ++ Pair ∷ []; names = p.0; handles = s.handles ++ p.1.0 ∷ p.1.1 ∷ [] })
    else Err TooMany

-- a pair, whose side 0 has its handle in the first variable, and side 1 in the second
abbrev pub paired : Said → List ℕ → List ℕ → Result Said Why
paired s v w = paired_at s (placed_two s.names v w)

-- the calls of a kind fail from one to another, by their numbers from 1
abbrev pub faulted : Said → HostCallKind → ℕ → ℕ → Result Said Why
faulted s kind first last =
    if nat_lt first 1 || nat_lt last first then Err BadNumber
    else Ok (record s { faults = s.faults ++ record { kind = kind; first = first; last = last } ∷ [] })

-- a grain of 1 to 65,536 bytes, by one line
abbrev pub grain_stated : Said → ℕ → Result Said Why
grain_stated s n =
    if nat_lt n 1 || nat_lt 65536 n then Err BadNumber
    else if is_some s.grain then Err Twice
    else Ok (record s { grain = Some n })

-- a block may begin: one of a name, and at most 1,000 of both kinds
abbrev pub may_begin : Said → List ℕ → Result (Unit {0}) Why
may_begin s name =
    if is_among name (s.jobs ++ s.bodies) then Err Twice
    else if nat_le 1000 (length s.jobs + length s.bodies) then Err TooMany
    else Ok tt

-- a job begins
abbrev pub started : Said → List ℕ → Result Said Why
started s name = seen (λ _. record s { section = Block name; jobs = s.jobs ++ name ∷ [] }) (may_begin s name)

-- a body begins
abbrev pub bodied : Said → List ℕ → Result Said Why
bodied s name = seen (λ _. record s { section = Block name; bodies = s.bodies ++ name ∷ [] }) (may_begin s name)

-- at most 1,000 transactions in a block
abbrev pub transaction_begun : Said → Option (List ℕ) → Result Said Why
transaction_begun s (Some name) =
    if nat_le 1000 (length s.transactions) then Err TooMany
    else Ok (record s { section = Transaction name })
transaction_begun s None = Err UnknownLine

-- with a statement more a transaction has at most 256 calls
abbrev pub has_few_calls : List Statement → Statement → Bool
has_few_calls body statement = nat_le (count_by is_call (body ++ statement ∷ [])) 256

-- a statement more, where the calls of its transaction and the names of the script stay few
abbrev pub stated_as : Said → Placed Statement → Result Said Why
stated_as s p =
    if has_few_calls s.body p.1 && are_few p.0 then Ok (record s { names = p.0; body = s.body ++ p.1 ∷ [] })
    else Err TooMany

-- a statement more, with the places of its names
abbrev pub stated : Said → NamedStatement → Result Said Why
stated s statement = stated_as s (placed_statement s.names statement)

-- a statement more, where a line is one
abbrev pub stated_by : Said → Result NamedStatement Why → Result Said Why
stated_by s said = and_then said (stated s)

-- a call more, where a line is one
abbrev pub call_stated : Said → Result NamedCallForm Why → Result Said Why
call_stated s form = stated_by s (seen (λ (f : NamedCallForm). statement.Call f) form)

-- the transaction under way ends
abbrev pub committed : Said → Option (List ℕ) → Result Said Why
committed s (Some name) = Ok (record s { section = Block name; transactions = s.transactions ++ s.body ∷ []; body = [] })
committed s None = Err UnknownLine

-- the block under way ends
abbrev pub ended_block : Said → Option (List ℕ) → Result Said Why
ended_block s (Some name) =
    Ok (record s { section = Between; blocks = s.blocks ++ record { name = name; transactions = s.transactions } ∷ []; transactions = [] })
ended_block s None = Err UnknownLine

-- what a line adds, or the reason that is beyond its form
abbrev pub after_line : Said → ScriptLine → Result Said Why
after_line s (line.Words n) = sized_by s n
after_line s (line.Word at value) = valued_by s at value
after_line s (line.File name bytes) = filed s name bytes
after_line s (line.Pipe name bytes) = piped s name bytes
after_line s (line.Pair first second) = paired s first second
after_line s (line.Fault kind first last) = faulted s kind first last
after_line s (line.Grain n) = grain_stated s n
after_line s (line.Job name) = started s name
after_line s (line.Body name) = bodied s name
after_line s line.Begin = transaction_begun s (block_in s.section)
after_line s (line.Statement statement) = stated s statement
after_line s line.Commit = committed s (transaction_in s.section)
after_line s line.End = ended_block s (block_in s.section)

-- a line that says nothing adds nothing
abbrev pub after_any : Said → Option ScriptLine → Result Said Why
after_any s (Some says) = after_line s says
after_any s None = Ok s

-- what the tokens of a line add
abbrev pub after_tokens : Said → List Lexeme → Result Said Why
after_tokens s tokens = and_then (line_of s.section (is_open s.body) tokens) (λ (says : Option ScriptLine). after_any s says)

-- what the bytes of a line add: bytes are judged first, and then literals
abbrev pub after_bytes : Said → List ℕ → Result Said Why
after_bytes s bytes =
    if list_all is_line_byte bytes then and_then (tokens_of bytes) (λ (tokens : List Lexeme). after_tokens s tokens)
    else Err BadByte
