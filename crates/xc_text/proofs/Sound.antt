-- What is sound between two lines of a script.
use Rattle.std.proofs.Common.{◌≡◌, ℕ, ◌+◌, ◌<◌, ◌≤◌, true, false, List, [], ◌∷◌, ◌++◌, length, Result, IfOk}
use Rattle.std.proofs.Common.{refl, subst, arith, lit≤}
use Rattle.std.specs.Prelude.{All, IsPermutation, count_by, nat_eq}
use Rattle.std.specs.Cmp.Lexicographic.{pointwise}
use Rattle.std.specs.List.{IsDistinct}
use Rattle.std.proofs.lemmas.List.Elements.{All-nil}
use Rattle.std.proofs.lemmas.List.Sorted.{IsPermutation-refl}
use Rattle.xc_data.specs.declared.script.Opened.{Opened}
use Rattle.xc_data.specs.declared.script.Prologue.{Prologue as OnePrologue}
use Rattle.xc_data.specs.Limits.{IsOpenedFit, IsGrain, is_pipe_line, is_pair_line}
use Rattle.xc_text.specs.declared.script.Block.{Block as OneBlock}
use Rattle.xc_text.specs.Stated.{Statement}
use Rattle.xc_text.specs.declared.line.Section.{Section}
use Rattle.xc_text.specs.declared.line.Section.TheVariants.{Prologue, Between, Block, Transaction}
use Rattle.xc_tokens.specs.declared.why.Why.{Why}
use Rattle.xc_text.specs.Inner.{are_inner}
use Rattle.xc_text.specs.Said.{Names, Said, nothing_said}
use Rattle.xc_text.specs.Scripts.{names_of, IsBlock, AreCalls, handle_count, prologue_of}
use Rattle.xc_text.specs.Steps.{is_call}
use Rattle.xc_tokens.specs.Words.{name}
use Rattle.xc_text.proofs.Standing.{all_stand}

-- how many transactions of the block under way have ended
abbrev pub CountFits : Section → ℕ → Type 0
CountFits Prologue transactions = transactions ≡ 0
CountFits Between transactions = transactions ≡ 0
CountFits (Block name) transactions = transactions ≤ 1000
CountFits (Transaction name) transactions = transactions < 1000

-- the statements of one transaction are few
abbrev pub IsBody : List Statement → Type 0
IsBody body = count_by is_call body ≤ 256

-- its inner blocks are closed, and none stands in another
abbrev pub HasInner : List Statement → Type 0
HasInner body = are_inner false body ≡ true

-- the objects that a host is opened with, so far
pub record AreObjects (objects : List Opened) : Type 0 where
  pub few : length objects ≤ 4096
  pub fit : All IsOpenedFit objects
  pub pipes : count_by is_pipe_line objects ≤ 64
  pub pairs : count_by is_pair_line objects ≤ 32

-- what a host is opened with, so far
pub record IsFitPrologue (p : OnePrologue) : Type 0 where
  pub objects : AreObjects p.objects
  pub faults : All AreCalls p.faults
  pub grain : IsGrain p.grain

-- the names of the blocks that have ended, and of the one under way
abbrev pub all_names : Section → List (List ℕ) → List (List ℕ)
all_names Prologue names = names
all_names Between names = names
all_names (Block name) names = names ++ name ∷ []
all_names (Transaction name) names = names ++ name ∷ []

-- no two names are one
abbrev pub AreDistinct : List (List ℕ) → Type 0
AreDistinct names = IsDistinct (pointwise nat_eq) names

-- the shared words, so far
pub record AreWords (words : List ℕ) : Type 0 where
  pub some : 1 ≤ length words
  pub few : length words ≤ 4096

-- the blocks that have begun: all but the one under way have ended
pub record AreBegun (p : Section) (jobs bodies : List (List ℕ)) (blocks : List OneBlock) : Type 0 where
  pub named : IsPermutation (jobs ++ bodies) (all_names p (names_of blocks))
  pub few : length jobs + length bodies ≤ 1000
  pub distinct : AreDistinct (jobs ++ bodies)

-- the transactions of the block under way, and the statements of the one under way
pub record AreUnderWay (p : Section) (transactions : List (List Statement)) (current : List Statement) : Type 0 where
  pub count : CountFits p (length transactions)
  pub calls : All IsBody transactions
  pub inner : All HasInner transactions
  pub body : IsBody current
  pub stand : all_stand false current ≡ true

-- the names of variables and of slots are few
pub record AreFewNames (names : Names) : Type 0 where
  pub variables : length names.variables ≤ 256
  pub slots : length names.slots ≤ 256

-- each pipe and pair has its handles, in variables
pub record AreHandles (names : Names) (objects : List Opened) (handles : List ℕ) : Type 0 where
  pub count : length handles ≡ handle_count objects
  pub each : All (λ v. v < length names.variables) handles

-- what the lines so far keep to
pub record IsReaderSound (s : Said) : Type 0 where
  pub words : AreWords s.words
  pub opening : IsFitPrologue (prologue_of s)
  pub begun : AreBegun s.section s.jobs s.bodies s.blocks
  pub under_way : AreUnderWay s.section s.transactions s.body
  pub each_block : All IsBlock s.blocks
  pub names : AreFewNames s.names
  pub handles : AreHandles s.names s.objects s.handles

-- a reader that goes on is sound
abbrev pub KeepsSound : Result Said Why → Type 0
KeepsSound answer = IfOk answer IsReaderSound

-- the count where the section is known
pub count_fits_at : (r : Said) (p : Section) → r.section ≡ p → IsReaderSound r → CountFits p (length r.transactions)
count_fits_at r p e k = subst (λ q. CountFits q (length r.transactions)) e k.under_way.count

-- the names where the section is known
pub names_at : (r : Said) (p : Section) → r.section ≡ p → IsReaderSound r → IsPermutation (r.jobs ++ r.bodies) (all_names p (names_of r.blocks))
names_at r p e k = subst (λ q. IsPermutation (r.jobs ++ r.bodies) (all_names q (names_of r.blocks))) e k.begun.named

none_alike : AreDistinct []
unfolding IsDistinct
none_alike = tt

-- a reader that has read nothing is sound
pub opening-keeps : IsReaderSound nothing_said
opening-keeps =
    record {
      words = record { some = lit≤ tt; few = lit≤ tt };
      opening = record {
        objects = record { few = omega arith; fit = All-nil IsOpenedFit; pipes = omega arith; pairs = omega arith };
        faults = All-nil AreCalls;
        grain = tt;
      };
      begun = record { named = IsPermutation-refl []; few = omega arith; distinct = none_alike };
      under_way = record { count = refl; calls = All-nil IsBody; inner = All-nil HasInner; body = omega arith; stand = refl };
      each_block = All-nil IsBlock;
      names = record { variables = omega arith; slots = omega arith };
      handles = record { count = refl; each = All-nil _ };
    }
