-- What the lines of a script have said so far.
use Rattle.std.specs.Prelude.{ℕ, Bool, false, List, [], replicate, Option, None}
use Rattle.xc_data.specs.declared.script.FaultLine.{FaultLine}
use Rattle.xc_data.specs.declared.script.Opened.{Opened}
use Rattle.xc_text.specs.declared.script.Block.{Block}
use Rattle.xc_text.specs.Stated.{Statement}
use Rattle.xc_text.specs.declared.line.Section.{Section}
use Rattle.xc_text.specs.declared.line.Section.TheVariants.{Prologue}

-- the names of the variables, and those of the slots, each once; a name may stand in both
pub record Names : Type 0 where
  pub variables : List (List ℕ)
  pub slots : List (List ℕ)

-- no variable, and no slot
abbrev pub no_names : Names
no_names = record { variables = []; slots = [] }

-- the names of blocks, those of jobs and those of bodies
pub record BlockNames : Type 0 where
  pub jobs : List (List ℕ)
  pub bodies : List (List ℕ)

-- no block
abbrev pub no_blocks : BlockNames
no_blocks = record { jobs = []; bodies = [] }

-- the section that the next line stands in; the words, and whether a `words` and a `word` line came; the objects, the
-- faults and the grain of the prologue, and the variables that its handles are in; the names of the variables and of the
-- slots; the names of the jobs and of the bodies that have begun; the blocks that have ended, of the one under way the
-- transactions that have ended, and of the transaction under way the statements
pub record Said : Type 0 where
  pub section : Section
  pub words : List ℕ
  pub sized : Bool
  pub valued : Bool
  pub objects : List Opened
  pub faults : List FaultLine
  pub grain : Option ℕ
  pub handles : List ℕ
  pub names : Names
  pub jobs : List (List ℕ)
  pub bodies : List (List ℕ)
  pub blocks : List Block
  pub transactions : List (List Statement)
  pub body : List Statement

-- before the first line: 16 words, all 0
abbrev pub nothing_said : Said
nothing_said = record {
  section = Prologue;
  words = replicate 16 0;
  sized = false;
  valued = false;
  objects = [];
  faults = [];
  grain = None;
  handles = [];
  names = no_names;
  jobs = [];
  bodies = [];
  blocks = [];
  transactions = [];
  body = [];
}
