-- What a line says fits the place where it is.
use Rattle.std.proofs.Common.{◌≡◌, ℕ, ◌≤◌, Bool, true, false, List, [], ◌∷◌, length, Option, None, Some, Result, Err, IfOk, IfSome}
use Rattle.std.proofs.Common.{refl}
use Rattle.std.specs.Prelude.{codes, if◌then◌else◌}
use Rattle.std.proofs.lemmas.Bool.{cond_both, leb-true}
use Rattle.xc_data.specs.declared.script.HostCallKind.{HostCallKind}
use Rattle.xc_text.specs.declared.line.ScriptLine.{ScriptLine}
use Rattle.xc_text.specs.declared.line.ScriptLine.TheVariants as line
use Rattle.xc_text.specs.declared.line.Section.{Section}
use Rattle.xc_text.specs.declared.line.Section.TheVariants.{Prologue, Between, Block, Transaction}
use Rattle.xc_tokens.specs.declared.why.Why.{Why}
use Rattle.xc_tokens.specs.declared.why.Why.TheVariants.{UnknownLine}
use Rattle.xc_tokens.specs.Answers.{both, seen}
use Rattle.xc_text.specs.Grammar.{line_of, first_line, worded_line, words_line, read_word_line, file_line, pipe_line, pair_line}
use Rattle.xc_text.specs.Grammar.{fault_line, range, grain_line, read_job_line, body_line, transaction_line}
use Rattle.xc_text.specs.Kinds.{kind}
use Rattle.xc_tokens.specs.Literals.{is_within, contents, only_literals}
use Rattle.xc_text.specs.Sections.{is_outside}
use Rattle.xc_text.specs.Shapes.{no_tokens}
use Rattle.xc_text.specs.Named as named
use Rattle.xc_text.specs.Statements.{outer_statement, inner_statement}
use Rattle.xc_tokens.specs.Words.{spells, number, ident, name}
use Rattle.xc_tokens.specs.Tokens.{Lexeme, Word, Literal}
use Rattle.xc_text.proofs.Results.{for_any, seen_keeps}
use Rattle.xc_text.proofs.FitStatements.{outer_stands, inner_stands}
use Rattle.xc_text.proofs.KeepingBlocks.{IsFitStatement, IsFitLine}

fits_seen : {A E : Type 0} (p : Section) (within : Bool) (f : A → ScriptLine) (a : Result A E) → ((x : A) → IsFitLine p within (f x)) →
    IfOk (seen f a) (IsFitLine p within)
fits_seen p within f a h = seen_keeps (λ x. IsFitLine p within (f x)) (IsFitLine p within) f a (for_any _ a h) (λ x fits. fits)

words_fits : (within : Bool) (rest : List Lexeme) → IfOk (words_line rest) (IsFitLine Prologue within)
words_fits within [] = tt
words_fits within (n ∷ []) = fits_seen Prologue within line.Words (number n) (λ _. tt)
words_fits within (n ∷ m ∷ ts) = tt

word_fits : (within : Bool) (rest : List Lexeme) → IfOk (read_word_line rest) (IsFitLine Prologue within)
word_fits within [] = tt
word_fits within (i ∷ []) = tt
word_fits within (i ∷ u ∷ []) = fits_seen Prologue within (λ (p : ℕ × ℕ). line.Word p.0 p.1) (both (number i) (number u)) (λ _. tt)
word_fits within (i ∷ u ∷ v ∷ ts) = tt

few_bytes : (most : ℕ) (literals : List Lexeme) → IfSome (contents most literals) (λ bs. length bs ≤ most)
few_bytes most literals =
    cond_both (is_within most literals) _ _ (λ (a : Option (List ℕ)). IfSome a (λ bs. length bs ≤ most)) (λ few. leb-true _ _ few) (λ _. tt)

file_fits : (within : Bool) (rest : List Lexeme) → IfOk (file_line rest) (IsFitLine Prologue within)
file_fits within [] = tt
file_fits within (n ∷ literals) =
    fits_seen Prologue within (λ (p : List ℕ × Unit {0}). line.File p.0 (contents 65536 literals)) (both (name n) (only_literals literals))
    (λ _. few_bytes 65536 literals)

pipe_fits : (within : Bool) (rest : List Lexeme) → IfOk (pipe_line rest) (IsFitLine Prologue within)
pipe_fits within [] = tt
pipe_fits within (v ∷ literals) =
    fits_seen Prologue within (λ (p : List ℕ × Unit {0}). line.Pipe p.0 (contents 4096 literals)) (both (ident v) (only_literals literals))
    (λ _. few_bytes 4096 literals)

pair_fits : (within : Bool) (rest : List Lexeme) → IfOk (pair_line rest) (IsFitLine Prologue within)
pair_fits within [] = tt
pair_fits within (v ∷ []) = tt
pair_fits within (v ∷ w ∷ []) = fits_seen Prologue within (λ (p : List ℕ × List ℕ). line.Pair p.0 p.1) (both (ident v) (ident w)) (λ _. tt)
pair_fits within (v ∷ w ∷ u ∷ ts) = tt

fault_fits : (within : Bool) (rest : List Lexeme) → IfOk (fault_line rest) (IsFitLine Prologue within)
fault_fits within [] = tt
fault_fits within (k ∷ numbers) =
    fits_seen Prologue within (λ (p : HostCallKind × (ℕ × ℕ)). line.Fault p.0 p.1.0 p.1.1) (both (kind k) (range numbers)) (λ _. tt)

grain_fits : (within : Bool) (rest : List Lexeme) → IfOk (grain_line rest) (IsFitLine Prologue within)
grain_fits within [] = tt
grain_fits within (n ∷ []) = fits_seen Prologue within line.Grain (number n) (λ _. tt)
grain_fits within (n ∷ m ∷ ts) = tt

job_fits : (p : Section) (within : Bool) (rest : List Lexeme) → is_outside p ≡ true → IfOk (read_job_line rest) (IsFitLine p within)
job_fits p within [] outside = tt
job_fits p within (n ∷ []) outside = fits_seen p within line.Job (ident n) (λ _. outside)
job_fits p within (n ∷ m ∷ ts) outside = tt

body_fits : (p : Section) (within : Bool) (rest : List Lexeme) → is_outside p ≡ true → IfOk (body_line rest) (IsFitLine p within)
body_fits p within [] outside = tt
body_fits p within (n ∷ []) outside = fits_seen p within line.Body (ident n) (λ _. outside)
body_fits p within (n ∷ m ∷ ts) outside = tt

prologue_fits : (within : Bool) (rest : List Lexeme) (words word file pipe pair fault grain job body : Bool) →
    IfOk (
    if words then words_line rest
    else if word then read_word_line rest
    else if file then file_line rest
    else if pipe then pipe_line rest
    else if pair then pair_line rest
    else if fault then fault_line rest
    else if grain then grain_line rest
    else if job then read_job_line rest
    else if body then body_line rest
    else Err UnknownLine
    ) (IsFitLine Prologue within)
prologue_fits within rest true word file pipe pair fault grain job body = words_fits within rest
prologue_fits within rest false true file pipe pair fault grain job body = word_fits within rest
prologue_fits within rest false false true pipe pair fault grain job body = file_fits within rest
prologue_fits within rest false false false true pair fault grain job body = pipe_fits within rest
prologue_fits within rest false false false false true fault grain job body = pair_fits within rest
prologue_fits within rest false false false false false true grain job body = fault_fits within rest
prologue_fits within rest false false false false false false true job body = grain_fits within rest
prologue_fits within rest false false false false false false false true body = job_fits Prologue within rest refl
prologue_fits within rest false false false false false false false false true = body_fits Prologue within rest refl
prologue_fits within rest false false false false false false false false false = tt

between_fits : (within : Bool) (rest : List Lexeme) (job body : Bool) →
    IfOk (if job then read_job_line rest else if body then body_line rest else Err UnknownLine) (IsFitLine Between within)
between_fits within rest true body = job_fits Between within rest refl
between_fits within rest false true = body_fits Between within rest refl
between_fits within rest false false = tt

block_fits : (p : Section) (within : Bool) (rest : List Lexeme) (tx end : Bool) →
    IfOk (if tx then seen (λ _. line.Begin) (no_tokens rest) else if end then seen (λ _. line.End) (no_tokens rest) else Err UnknownLine) (IsFitLine p within)
block_fits p within rest true end = fits_seen p within (λ _. line.Begin) (no_tokens rest) (λ _. tt)
block_fits p within rest false true = fits_seen p within (λ _. line.End) (no_tokens rest) (λ _. tt)
block_fits p within rest false false = tt

fits_said : (p : Section) (within : Bool) (a : Result named.NamedStatement Why) → IfOk a (IsFitStatement within) →
    IfOk (seen line.Statement a) (IsFitLine p within)
fits_said p within a fits = seen_keeps (IsFitStatement within) (IsFitLine p within) line.Statement a fits (λ s is. is)

outer_fits : (p : Section) (word : List ℕ) (rest : List Lexeme) (commit : Bool) →
    IfOk (if commit then seen (λ _. line.Commit) (no_tokens rest) else seen line.Statement (outer_statement word rest)) (IsFitLine p false)
outer_fits p word rest true = fits_seen p false (λ _. line.Commit) (no_tokens rest) (λ _. refl)
outer_fits p word rest false = fits_said p false (outer_statement word rest) (outer_stands word rest)

transaction_fits : (p : Section) (within : Bool) (word : List ℕ) (rest : List Lexeme) → IfOk (transaction_line within word rest) (IsFitLine p within)
transaction_fits p false word rest = outer_fits p word rest (spells word (codes "commit"))
transaction_fits p true word rest = fits_said p true (inner_statement word rest) (inner_stands word rest)

worded_fits : (p : Section) (within : Bool) (word : List ℕ) (rest : List Lexeme) → IfOk (worded_line p within word rest) (IsFitLine p within)
worded_fits Prologue within word rest =
    prologue_fits within rest (spells word (codes "words")) (spells word (codes "word")) (spells word (codes "file")) (spells word (codes "pipe"))
    (spells word (codes "pair")) (spells word (codes "fault")) (spells word (codes "grain")) (spells word (codes "job"))
    (spells word (codes "body"))
worded_fits Between within word rest = between_fits within rest (spells word (codes "job")) (spells word (codes "body"))
worded_fits (Block name) within word rest = block_fits (Block name) within rest (spells word (codes "tx")) (spells word (codes "end"))
worded_fits (Transaction name) within word rest = transaction_fits (Transaction name) within word rest

first_fits : (p : Section) (within : Bool) (t : Lexeme) (rest : List Lexeme) → IfOk (first_line p within t rest) (IsFitLine p within)
first_fits p within (Word word) rest = worded_fits p within word rest
first_fits p within (Literal meant times) rest = tt

-- a line that says nothing fits, and another one fits its place
abbrev pub IsFitLineOf : Section → Bool → Option ScriptLine → Type 0
IsFitLineOf p within (Some says) = IsFitLine p within says
IsFitLineOf p within None = Unit {0}

-- what the tokens of a line say fits its place
pub said_fits : (p : Section) (within : Bool) (tokens : List Lexeme) → IfOk (line_of p within tokens) (IsFitLineOf p within)
said_fits p within [] = tt
said_fits p within (t ∷ rest) =
    seen_keeps (IsFitLine p within) (IsFitLineOf p within) Some (first_line p within t rest) (first_fits p within t rest) (λ x fits. fits)
