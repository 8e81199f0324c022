-- What a script says, and what a script that was read keeps to.
use Rattle.std.specs.Prelude.{◌≡◌, ℕ, ◌+◌, ◌*◌, ◌<◌, ◌≤◌, List, [], ◌∷◌, ◌++◌, length, map, All, IsPermutation, count_by, nat_eq}
use Rattle.std.specs.Prelude.{false, true, nat_lt, Result, Ok, Err, if◌then◌else◌}
use Rattle.std.specs.Cmp.Lexicographic.{pointwise}
use Rattle.std.specs.List.{IsDistinct}
use Rattle.xc_data.specs.declared.script.FaultLine.{FaultLine}
use Rattle.xc_data.specs.declared.script.Opened.{Opened}
use Rattle.xc_data.specs.declared.script.Prologue.{Prologue}
use Rattle.xc_data.specs.Limits.{IsPrologue, is_pipe_line, is_pair_line}
use Rattle.xc_text.specs.declared.script.Block.{Block as OneBlock}
use Rattle.xc_text.specs.declared.script.Script.{Script}
use Rattle.xc_tokens.specs.declared.why.Why.{Why}
use Rattle.xc_tokens.specs.declared.why.Why.TheVariants.{TooLong, Unclosed}
use Rattle.xc_tokens.specs.Answers.{and_then}
use Rattle.xc_text.specs.Refusals.{Refusal}
use Rattle.xc_tokens.specs.Lines.{lines_of}
use Rattle.xc_text.specs.Said.{Said, nothing_said}
use Rattle.xc_text.specs.Sections.{is_outside}
use Rattle.xc_text.specs.Inner.{are_inner}
use Rattle.xc_text.specs.Steps.{is_call, after_bytes}

-- a reason against the line of that number
abbrev pub at_line : {A : Type 0} → ℕ → Result A Why → Result A Refusal
at_line n (Ok x) = Ok x
at_line n (Err e) = Err (n, e)

-- the names of blocks, in their order
abbrev pub names_of : List OneBlock → List (List ℕ)
names_of blocks = map (λ b. b.name) blocks

-- what a host is opened with
abbrev pub prologue_of : Said → Prologue
prologue_of s = record { objects = s.objects; faults = s.faults; grain = s.grain }

-- the whole script, whose blocks ask its transactions
abbrev pub script_of : Said → Script
script_of s = record {
  outline = record {
    words = s.words;
    prologue = prologue_of s;
    bodies = s.bodies;
    jobs = s.jobs;
  };
  blocks = s.blocks;
  variables = s.names.variables;
  slots = s.names.slots;
  handles = s.handles;
  clients = false;
}

-- a script ends after its prologue or after a block
abbrev pub closed : Said → Result Script Why
closed s = if is_outside s.section then Ok (script_of s) else Err Unclosed

-- the script of what n lines have said and of the lines after them
abbrev pub read_from : ℕ → Said → List (List ℕ) → Result Script Refusal
read_from n s [] = at_line n (closed s)
read_from n s (bytes ∷ lines) = and_then (at_line (n + 1) (after_bytes s bytes)) (λ (next : Said). read_from (n + 1) next lines)

-- the script that these bytes are, or the first bad line with its first reason
abbrev pub parse_of : List ℕ → Result Script Refusal
parse_of bytes = if nat_lt 1048576 (length bytes) then Err (0, TooLong) else read_from 0 nothing_said (lines_of bytes)

-- a block keeps the limits
pub record IsBlock (b : OneBlock) : Type 0 where
  pub transactions : length b.transactions ≤ 1000
  pub calls : All (λ body. count_by is_call body ≤ 256) b.transactions
  pub inner : All (λ body. are_inner false body ≡ true) b.transactions

-- how many handles objects have at the opening: a pipe has one, and a pair has two
abbrev pub handle_count : List Opened → ℕ
handle_count objects = count_by is_pipe_line objects + 2 * count_by is_pair_line objects

-- a fault line of at least one call, counted from 1
abbrev pub AreCalls : FaultLine → Type 0
AreCalls line = (1 ≤ line.first) × (line.first ≤ line.last)

-- a script that was read
pub record IsScript (s : Script) : Type 0 where
  pub some_words : 1 ≤ length s.outline.words
  pub few_words : length s.outline.words ≤ 4096
  pub few_blocks : length s.blocks ≤ 1000
  pub distinct : IsDistinct (pointwise nat_eq) (names_of s.blocks)
  pub named : IsPermutation (s.outline.jobs ++ s.outline.bodies) (names_of s.blocks)
  pub prologue : IsPrologue s.outline.prologue
  pub faults : All AreCalls s.outline.prologue.faults
  pub each_block : All IsBlock s.blocks
  pub few_variables : length s.variables ≤ 256
  pub few_slots : length s.slots ≤ 256
  pub handles : length s.handles ≡ handle_count s.outline.prologue.objects
  pub each_handle : All (λ v. v < length s.variables) s.handles
