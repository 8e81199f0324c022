-- A script that is read keeps all limits.
use Rattle.std.proofs.Common.{◌≡◌, ℕ, ◌+◌, true, List, [], ◌∷◌, ◌++◌, length, Option, None, Some, Result, Ok, Err, IfOk}
use Rattle.std.proofs.Common.{false, refl, subst, arith, nat_lt}
use Rattle.std.specs.Prelude.{IsPermutation}
use Rattle.std.specs.List.{list_all}
use Rattle.std.proofs.lemmas.Bool.{cond_both}
use Rattle.std.proofs.lemmas.List.{length-append, length-map}
use Rattle.std.proofs.lemmas.List.Sorted.{length_permutation}
use Rattle.xc_data.specs.declared.script.Prologue.{Prologue as OnePrologue}
use Rattle.xc_data.specs.Limits.{KeepsLimits, IsPrologue}
use Rattle.xc_text.specs.declared.script.Script.{Script}
use Rattle.xc_text.specs.declared.line.ScriptLine.{ScriptLine}
use Rattle.xc_tokens.specs.declared.why.Why.{Why}
use Rattle.xc_text.specs.Refusals.{Refusal}
use Rattle.xc_text.specs.Grammar.{line_of}
use Rattle.xc_text.specs.Inner.{is_open}
use Rattle.xc_tokens.specs.Lines.{lines_of, is_line_byte}
use Rattle.xc_text.specs.Said.{Said, nothing_said}
use Rattle.xc_text.specs.Sections.{is_outside}
use Rattle.xc_text.specs.Scripts.{names_of, IsScript, at_line, prologue_of, script_of}
use Rattle.xc_text.specs.Scripts.{closed, read_from, parse_of}
use Rattle.xc_text.specs.Steps.{after_any}
use Rattle.xc_text.specs.Steps.{after_tokens, after_bytes}
use Rattle.xc_tokens.specs.Tokens.{Lexeme, tokens_of}
use Rattle.xc_text.proofs.Indexing.{distinct_moved}
use Rattle.xc_text.proofs.Sound.{IsFitPrologue, IsReaderSound, KeepsSound, opening-keeps}
use Rattle.xc_text.proofs.KeepingBlocks.{outside_names, after-keeps}
use Rattle.xc_text.proofs.FitLines.{IsFitLineOf, said_fits}
use Rattle.xc_text.proofs.Results.{for_any, then_keeps}

after_any-keeps : (r : Said) (says : Option ScriptLine) → IsFitLineOf r.section (is_open r.body) says → IsReaderSound r → KeepsSound (after_any r says)
after_any-keeps r (Some says) first k = after-keeps r says first k
after_any-keeps r None first k = k

after_tokens-keeps : (r : Said) (tokens : List Lexeme) → IsReaderSound r → KeepsSound (after_tokens r tokens)
after_tokens-keeps r tokens k =
    then_keeps (IsFitLineOf r.section (is_open r.body)) IsReaderSound (line_of r.section (is_open r.body) tokens)
    (λ (says : Option ScriptLine). after_any r says)
    (said_fits r.section (is_open r.body) tokens) (λ says first. after_any-keeps r says first k)

abbrev Anything : {A : Type 0} → A → Type 0
Anything x = Unit {0}

after_bytes-keeps : (r : Said) (bytes : List ℕ) → IsReaderSound r → KeepsSound (after_bytes r bytes)
after_bytes-keeps r bytes k =
    cond_both (list_all is_line_byte bytes) _ _ KeepsSound (λ _.
    then_keeps Anything IsReaderSound (tokens_of bytes) (λ (tokens : List Lexeme). after_tokens r tokens)
    (for_any Anything (tokens_of bytes) (λ _. tt)) (λ tokens _. after_tokens-keeps r tokens k)) (λ _. tt)

of_lines : (p : OnePrologue) → IsFitPrologue p → IsPrologue p
of_lines p is =
    record {
      objects = is.objects.few;
      contents = is.objects.fit;
      pipes = is.objects.pipes;
      pairs = is.objects.pairs;
      grain = is.grain;
    }

-- so many blocks as jobs and bodies
pub blocks_count : (s : Script) → IsPermutation (s.outline.jobs ++ s.outline.bodies) (names_of s.blocks)
    → length s.blocks ≡ length s.outline.jobs + length s.outline.bodies
blocks_count s named = rw (length-map, length-append) at (length_permutation (s.outline.jobs ++ s.outline.bodies) (names_of s.blocks) named)

script_of-keeps : (r : Said) → is_outside r.section ≡ true → IsReaderSound r → IsScript (script_of r)
script_of-keeps r outside k =
    let named : IsPermutation (r.jobs ++ r.bodies) (names_of r.blocks) = outside_names r outside k in
    record {
      some_words = k.words.some;
      few_words = k.words.few;
      few_blocks = omega (arith, k.begun.few, blocks_count (script_of r) named);
      distinct = distinct_moved (r.jobs ++ r.bodies) (names_of r.blocks) named k.begun.distinct;
      named = named;
      prologue = of_lines (prologue_of r) k.opening;
      faults = k.opening.faults;
      each_block = k.each_block;
      few_variables = k.names.variables;
      few_slots = k.names.slots;
      handles = k.handles.count;
      each_handle = k.handles.each;
    }

at_line-keeps : {A : Type 0} (P : A → Type 0) (n : ℕ) (a : Result A Why) → IfOk a P → IfOk (at_line n a) P
at_line-keeps P n (Ok x) h = h
at_line-keeps P n (Err e) h = tt

read_from-keeps : (n : ℕ) (r : Said) (lines : List (List ℕ)) → IsReaderSound r → IfOk (read_from n r lines) IsScript
read_from-keeps n r [] k =
    at_line-keeps IsScript n (closed r)
    (cond_both (is_outside r.section) _ _ (λ (a : Result Script Why). IfOk a IsScript) (λ outside. script_of-keeps r outside k) (λ _. tt))
read_from-keeps n r (bytes ∷ lines) k =
    then_keeps IsReaderSound IsScript (at_line (n + 1) (after_bytes r bytes)) (λ (next : Said). read_from (n + 1) next lines)
    (at_line-keeps IsReaderSound (n + 1) (after_bytes r bytes) (after_bytes-keeps r bytes k)) (λ next keeps. read_from-keeps (n + 1) next lines keeps)

parse_of-keeps : (bytes : List ℕ) → IfOk (parse_of bytes) IsScript
parse_of-keeps bytes =
    cond_both (nat_lt 1048576 (length bytes)) _ _ (λ (a : Result Script Refusal). IfOk a IsScript)
    (λ _. tt) (λ _. read_from-keeps 0 nothing_said (lines_of bytes) opening-keeps)

-- what the grammar has is a script in its limits
pub parsed : (bytes : List ℕ) (s : Script) → parse_of bytes ≡ Ok s → IsScript s
parsed bytes s e = subst (λ (a : Result Script Refusal). IfOk a IsScript) e (parse_of-keeps bytes)

-- such a script keeps the limits of every prologue
pub in_limits : (s : Script) → IsScript s → KeepsLimits s.outline
in_limits s k =
    record {
      words = k.few_words;
      prologue = k.prologue;
      blocks = omega (arith, k.few_blocks, blocks_count s k.named);
    }

-- ---- who asks
-- its blocks ask its transactions, not clients
abbrev AsksByBlocks : Script → Type 0
AsksByBlocks s = s.clients ≡ false

read_from-asks : (n : ℕ) (r : Said) (lines : List (List ℕ)) → IfOk (read_from n r lines) AsksByBlocks
read_from-asks n r [] =
    at_line-keeps AsksByBlocks n (closed r)
    (cond_both (is_outside r.section) _ _ (λ (a : Result Script Why). IfOk a AsksByBlocks) (λ _. refl) (λ _. tt))
read_from-asks n r (bytes ∷ lines) =
    then_keeps Anything AsksByBlocks (at_line (n + 1) (after_bytes r bytes)) (λ (next : Said). read_from (n + 1) next lines)
    (for_any Anything (at_line (n + 1) (after_bytes r bytes)) (λ _. tt)) (λ next _. read_from-asks (n + 1) next lines)

parse_of-asks : (bytes : List ℕ) → IfOk (parse_of bytes) AsksByBlocks
parse_of-asks bytes =
    cond_both (nat_lt 1048576 (length bytes)) _ _ (λ (a : Result Script Refusal). IfOk a AsksByBlocks)
    (λ _. tt) (λ _. read_from-asks 0 nothing_said (lines_of bytes))

-- a script that is read is asked by its blocks
pub parsed_blocks : (bytes : List ℕ) (s : Script) → parse_of bytes ≡ Ok s → s.clients ≡ false
parsed_blocks bytes s e = subst (λ (a : Result Script Refusal). IfOk a AsksByBlocks) e (parse_of-asks bytes)

-- the script of clients keeps the limits of the one whose blocks ask
pub of_clients : (s : Script) → IsScript s → IsScript (record s { clients = true })
of_clients s k =
    record {
      some_words = k.some_words;
      few_words = k.few_words;
      few_blocks = k.few_blocks;
      distinct = k.distinct;
      named = k.named;
      prologue = k.prologue;
      faults = k.faults;
      each_block = k.each_block;
      few_variables = k.few_variables;
      few_slots = k.few_slots;
      handles = k.handles;
      each_handle = k.each_handle;
    }
