-- What a line says, by the section that it stands in and, in a transaction, by whether an inner block is open.
use Rattle.std.specs.Prelude.{ℕ, Bool, true, false, List, [], ◌∷◌, codes, Option, Some, None, Result, Ok, Err, if◌then◌else◌}
use Rattle.xc_data.specs.declared.script.HostCallKind.{HostCallKind}
use Rattle.xc_text.specs.declared.line.ScriptLine.{ScriptLine}
use Rattle.xc_text.specs.declared.line.ScriptLine.TheVariants as line
use Rattle.xc_text.specs.declared.line.Section.{Section}
use Rattle.xc_text.specs.declared.line.Section.TheVariants.{Prologue, Between, Block, Transaction}
use Rattle.xc_tokens.specs.declared.why.Why.{Why}
use Rattle.xc_tokens.specs.declared.why.Why.TheVariants.{UnknownLine, BadForm}
use Rattle.xc_tokens.specs.Answers.{both, seen}
use Rattle.xc_text.specs.Kinds.{kind}
use Rattle.xc_tokens.specs.Literals.{only_literals, contents}
use Rattle.xc_text.specs.Shapes.{no_tokens}
use Rattle.xc_text.specs.Statements.{outer_statement, inner_statement}
use Rattle.xc_tokens.specs.Words.{spells, number, ident, name}
use Rattle.xc_tokens.specs.Tokens.{Lexeme, Word, Literal}

-- no line that only a transaction has
abbrev pub is_outside_line : ScriptLine → Bool
is_outside_line (line.Words n) = true
is_outside_line (line.Word at value) = true
is_outside_line (line.File name bytes) = true
is_outside_line (line.Pipe name bytes) = true
is_outside_line (line.Pair first second) = true
is_outside_line (line.Fault kind first last) = true
is_outside_line (line.Grain n) = true
is_outside_line (line.Job name) = true
is_outside_line (line.Body name) = true
is_outside_line line.Begin = true
is_outside_line (line.Statement statement) = false
is_outside_line line.Commit = true
is_outside_line line.End = true

-- `words N`
abbrev pub words_line : List Lexeme → Result ScriptLine Why
words_line (n ∷ []) = seen line.Words (number n)
words_line _ = Err BadForm

-- `word I U`
abbrev pub read_word_line : List Lexeme → Result ScriptLine Why
read_word_line (i ∷ u ∷ []) = seen (λ (p : ℕ × ℕ). line.Word p.0 p.1) (both (number i) (number u))
read_word_line _ = Err BadForm

-- `file NAME` and literals
abbrev pub file_line : List Lexeme → Result ScriptLine Why
file_line [] = Err BadForm
file_line (n ∷ literals) =
    seen (λ (p : List ℕ × Unit {0}). line.File p.0 (contents 65536 literals)) (both (name n) (only_literals literals))

-- `pipe V` and literals
abbrev pub pipe_line : List Lexeme → Result ScriptLine Why
pipe_line [] = Err BadForm
pipe_line (v ∷ literals) =
    seen (λ (p : List ℕ × Unit {0}). line.Pipe p.0 (contents 4096 literals)) (both (ident v) (only_literals literals))

-- `pair V W`
abbrev pub pair_line : List Lexeme → Result ScriptLine Why
pair_line (v ∷ w ∷ []) = seen (λ (p : List ℕ × List ℕ). line.Pair p.0 p.1) (both (ident v) (ident w))
pair_line _ = Err BadForm

-- one number, or the first and the last of several
abbrev pub range : List Lexeme → Result (ℕ × ℕ) Why
range (n ∷ []) = seen (λ n. (n, n)) (number n)
range (n ∷ m ∷ []) = both (number n) (number m)
range _ = Err BadForm

-- `fault KIND N`, and `fault KIND N M`
abbrev pub fault_line : List Lexeme → Result ScriptLine Why
fault_line [] = Err BadForm
fault_line (k ∷ numbers) = seen (λ (p : HostCallKind × (ℕ × ℕ)). line.Fault p.0 p.1.0 p.1.1) (both (kind k) (range numbers))

-- `grain G`
abbrev pub grain_line : List Lexeme → Result ScriptLine Why
grain_line (n ∷ []) = seen line.Grain (number n)
grain_line _ = Err BadForm

-- `job NAME`
abbrev pub read_job_line : List Lexeme → Result ScriptLine Why
read_job_line (n ∷ []) = seen line.Job (ident n)
read_job_line _ = Err BadForm

-- `body NAME`
abbrev pub body_line : List Lexeme → Result ScriptLine Why
body_line (n ∷ []) = seen line.Body (ident n)
body_line _ = Err BadForm

-- a line before the first block
abbrev pub prologue_line : List ℕ → List Lexeme → Result ScriptLine Why
prologue_line word rest =
    if spells word (codes "words") then words_line rest
    else if spells word (codes "word") then read_word_line rest
    else if spells word (codes "file") then file_line rest
    else if spells word (codes "pipe") then pipe_line rest
    else if spells word (codes "pair") then pair_line rest
    else if spells word (codes "fault") then fault_line rest
    else if spells word (codes "grain") then grain_line rest
    else if spells word (codes "job") then read_job_line rest
    else if spells word (codes "body") then body_line rest
    else Err UnknownLine

-- a line after a block
abbrev pub between_line : List ℕ → List Lexeme → Result ScriptLine Why
between_line word rest =
    if spells word (codes "job") then read_job_line rest
    else if spells word (codes "body") then body_line rest
    else Err UnknownLine

-- a line in a block
abbrev pub block_line : List ℕ → List Lexeme → Result ScriptLine Why
block_line word rest =
    if spells word (codes "tx") then seen (λ _. line.Begin) (no_tokens rest)
    else if spells word (codes "end") then seen (λ _. line.End) (no_tokens rest)
    else Err UnknownLine

-- a line in a transaction, outside of its inner blocks
abbrev pub outer_line : List ℕ → List Lexeme → Result ScriptLine Why
outer_line word rest =
    if spells word (codes "commit") then seen (λ _. line.Commit) (no_tokens rest)
    else seen line.Statement (outer_statement word rest)

-- a line in an inner block of a transaction
abbrev pub inner_line : List ℕ → List Lexeme → Result ScriptLine Why
inner_line word rest = seen line.Statement (inner_statement word rest)

-- a line in a transaction, where an inner block is open or not
abbrev pub transaction_line : Bool → List ℕ → List Lexeme → Result ScriptLine Why
transaction_line false word rest = outer_line word rest
transaction_line true word rest = inner_line word rest

-- a line that begins with a word, by its section and whether an inner block is open
abbrev pub worded_line : Section → Bool → List ℕ → List Lexeme → Result ScriptLine Why
worded_line Prologue within word rest = prologue_line word rest
worded_line Between within word rest = between_line word rest
worded_line (Block name) within word rest = block_line word rest
worded_line (Transaction name) within word rest = transaction_line within word rest

-- a line whose first token is a literal is unknown
abbrev pub first_line : Section → Bool → Lexeme → List Lexeme → Result ScriptLine Why
first_line section within (Word word) rest = worded_line section within word rest
first_line section within (Literal meant times) rest = Err UnknownLine

-- what the tokens of a line say, by the section that it stands in and whether an inner block is open; a line without
-- tokens says nothing
abbrev pub line_of : Section → Bool → List Lexeme → Result (Option ScriptLine) Why
line_of section within [] = Ok None
line_of section within (first ∷ rest) = seen Some (first_line section within first rest)
