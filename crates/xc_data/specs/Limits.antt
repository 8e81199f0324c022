-- What a script without its statements keeps to.
use Rattle.std.specs.Prelude.{ℕ, ◌+◌, ◌≤◌, Bool, true, false, length, All, count_by, Option}
use Rattle.std.specs.declared.option.Option.TheVariants.{None, Some}
use Rattle.xc_data.specs.declared.script.Opened.{Opened}
use Rattle.xc_data.specs.declared.script.Opened.TheVariants.{File, Pipe, Pair}
use Rattle.xc_data.specs.declared.script.Prologue.{Prologue}
use Rattle.xc_data.specs.declared.script.Outline.{Outline}

-- a file of at most 65536 bytes, a pipe that holds at most 4096, or a pair
abbrev pub IsOpenedFit : Opened → Type 0
IsOpenedFit (File name bytes) = length bytes ≤ 65536
IsOpenedFit (Pipe bytes) = length bytes ≤ 4096
IsOpenedFit Pair = Unit {0}

-- whether a line opens a pipe
abbrev pub is_pipe_line : Opened → Bool
is_pipe_line (Pipe bytes) = true
is_pipe_line (File name bytes) = false
is_pipe_line Pair = false

-- whether a line opens a pair
abbrev pub is_pair_line : Opened → Bool
is_pair_line Pair = true
is_pair_line (File name bytes) = false
is_pair_line (Pipe bytes) = false

-- no grain, or one from 1 to 65536
abbrev pub IsGrain : Option ℕ → Type 0
IsGrain None = Unit {0}
IsGrain (Some grain) = (1 ≤ grain) × (grain ≤ 65536)

-- what a host may be opened with
pub record IsPrologue (prologue : Prologue) : Type 0 where
  pub objects : length prologue.objects ≤ 4096
  pub contents : All IsOpenedFit prologue.objects
  pub pipes : count_by is_pipe_line prologue.objects ≤ 64
  pub pairs : count_by is_pair_line prologue.objects ≤ 32
  pub grain : IsGrain prologue.grain

-- the words, the prologue and the blocks are within their limits
pub record KeepsLimits (script : Outline) : Type 0 where
  pub words : length script.words ≤ 4096
  pub prologue : IsPrologue script.prologue
  pub blocks : length script.jobs + length script.bodies ≤ 1000
