-- What stands in the lines of compensations, effects, jobs and kept data is read again.
use Rattle.std.proofs.Common.{◌≡◌, ℕ, ◌^◌, List, ◌∷◌, ◌++◌, Some, refl, ap, ◌∙◌, append_assoc, arith}
use Rattle.std.specs.Prelude.{codes}
use Rattle.std.specs.Fmt.{decimal}
use Rattle.xc_data.specs.declared.undo.UndoEnd.{UndoEnd}
use Rattle.xc_data.specs.declared.undo.UndoEnd.TheVariants.{Undone, Failed, Blocked}
use Rattle.xc_data.specs.declared.entry.KeptItem.{KeptItem}
use Rattle.xc_data.specs.declared.entry.KeptItem.TheVariants as item
use Rattle.xc_print.specs.Bytes.{bytes_text}
use Rattle.xc_print.specs.Objects.{num_text}
use Rattle.xc_print.specs.Records.{undo_end_text}
use Rattle.xc_lines.specs.declared.shown.UndoKind.{UndoKind}
use Rattle.xc_lines.specs.declared.shown.UndoKind.TheVariants as kind
use Rattle.xc_lines.specs.declared.shown.EffectShown.{EffectShown}
use Rattle.xc_lines.specs.declared.shown.EffectShown.TheVariants as standing
use Rattle.xc_lines.specs.declared.shown.JobShown.{JobShown}
use Rattle.xc_lines.specs.declared.shown.JobShown.TheVariants as ended
use Rattle.xc_lines.specs.Ranges.{IsUndoEndInRange, IsStandingInRange, IsItemInRange}
use Rattle.xc_lines.specs.Tails.{kind_at, kind_name, undone_at, failed_at, blocked_at, undo_end_at}
use Rattle.xc_lines.specs.Tails.{overwrite_stands_at, tail_stands_at, made_stands_at, moved_stands_at, pipe_stands_at, pair_stands_at}
use Rattle.xc_lines.specs.Tails.{standing_at, standing_text, job_end_at, job_end_name, kept_pipe_at, kept_pair_at, kept_at, kept_text}
use Rattle.xc_lines.proofs.Spelled.{number_again, small_again, below_again, name_again}
use Rattle.xc_lines.proofs.QuotedLaws.{bytes_again}
use Rattle.xc_lines.proofs.Fields.{num_again}

-- ---- pieces
-- three pieces before a rest, each before what follows
pub three_parts : (a b c rest : List ℕ) → a ++ b ++ c ++ rest ≡ a ++ (b ++ (c ++ rest))
three_parts a b c rest = simp append_assoc

-- the same with four
pub four_parts : (a b c d rest : List ℕ) → a ++ b ++ c ++ d ++ rest ≡ a ++ (b ++ (c ++ (d ++ rest)))
four_parts a b c d rest = simp append_assoc

-- the same with five
pub five_parts : (a b c d e rest : List ℕ) → a ++ b ++ c ++ d ++ e ++ rest ≡ a ++ (b ++ (c ++ (d ++ (e ++ rest))))
five_parts a b c d e rest = simp append_assoc

-- the same with six
pub six_parts : (a b c d e f rest : List ℕ) → a ++ b ++ c ++ d ++ e ++ f ++ rest ≡ a ++ (b ++ (c ++ (d ++ (e ++ (f ++ rest)))))
six_parts a b c d e f rest = simp append_assoc

-- ---- compensations
pub kind_again : (k : UndoKind) (rest : List ℕ) → kind_at (kind_name k ++ rest) ≡ Some (k, rest)
unfolding kind_at
kind_again kind.Bytes rest = refl
kind_again kind.Tail rest = refl
kind_again kind.Made rest = refl
kind_again kind.Moved rest = refl
kind_again kind.Pipe rest = refl
kind_again kind.Pair rest = refl

-- the end of a compensation is read again, before the line's end
pub undo_end_again : (end : UndoEnd) (rest : List ℕ) → IsUndoEndInRange end → undo_end_at (undo_end_text end ++ 10 ∷ rest) ≡ Some (end, 10 ∷ rest)
unfolding undo_end_at undone_at failed_at blocked_at
undo_end_again (Undone faults) rest within = rw (small_again faults (10 ∷ rest) within refl) refl
undo_end_again (Failed done faults) rest within =
    ap undo_end_at (four_parts (codes "failed restored ") (decimal done) (codes " faults ") (decimal faults) (10 ∷ rest))
    ∙ rw (small_again done (codes " faults " ++ (decimal faults ++ 10 ∷ rest)) within.0 refl, small_again faults (10 ∷ rest) within.1 refl) refl
undo_end_again (Blocked by) rest within = rw (small_again by (10 ∷ rest) within refl) refl

-- ---- effects
pub standing_again : (effect : EffectShown) (rest : List ℕ) → IsStandingInRange effect
    → standing_at (standing_text effect ++ 10 ∷ rest) ≡ Some (effect, 10 ∷ rest)
unfolding standing_at overwrite_stands_at tail_stands_at made_stands_at moved_stands_at pipe_stands_at pair_stands_at
standing_again (standing.Bytes file at bytes) rest within =
    ap standing_at (six_parts (codes "bytes file ") (num_text file) (codes " at ") (decimal at) (codes " ") (bytes_text bytes) (10 ∷ rest))
    ∙ rw (
      num_again file (codes " at " ++ (decimal at ++ (codes " " ++ (bytes_text bytes ++ 10 ∷ rest)))) within.0 refl,
      number_again at (codes " " ++ (bytes_text bytes ++ 10 ∷ rest)) within.1 refl,
      bytes_again bytes (10 ∷ rest) within.2,
    ) refl
standing_again (standing.Tail file from bytes) rest within =
    ap standing_at (six_parts (codes "tail file ") (num_text file) (codes " from ") (decimal from) (codes " ") (bytes_text bytes) (10 ∷ rest))
    ∙ rw (
      num_again file (codes " from " ++ (decimal from ++ (codes " " ++ (bytes_text bytes ++ 10 ∷ rest)))) within.0 refl,
      small_again from (codes " " ++ (bytes_text bytes ++ 10 ∷ rest)) within.1 refl,
      bytes_again bytes (10 ∷ rest) within.2,
    ) refl
standing_again (standing.Made name num) rest within =
    ap standing_at (four_parts (codes "made ") name (codes " file ") (num_text num) (10 ∷ rest))
    ∙ rw (name_again name (codes " file " ++ (num_text num ++ 10 ∷ rest)) within.0 refl, num_again num (10 ∷ rest) within.1 refl) refl
standing_again (standing.Moved from to) rest within =
    ap standing_at (four_parts (codes "moved ") from (codes " ") to (10 ∷ rest))
    ∙ rw (name_again from (codes " " ++ (to ++ 10 ∷ rest)) within.0 refl, name_again to (10 ∷ rest) within.1 refl) refl
standing_again (standing.Pipe num) rest within = rw (num_again num (10 ∷ rest) within refl) refl
standing_again (standing.Pair num) rest within = rw (num_again num (10 ∷ rest) within refl) refl

-- ---- jobs
pub job_end_again : (end : JobShown) (rest : List ℕ) → job_end_at (job_end_name end ++ 10 ∷ rest) ≡ Some (end, 10 ∷ rest)
unfolding job_end_at
job_end_again ended.Done rest = refl
job_end_again ended.GaveUp rest = refl
job_end_again ended.JournalFull rest = refl
job_end_again ended.NoMemory rest = refl

-- ---- kept data
pub item_again : (kept : KeptItem) (rest : List ℕ) → IsItemInRange kept → kept_at (kept_text kept ++ 10 ∷ rest) ≡ Some (kept, 10 ∷ rest)
unfolding kept_at kept_pipe_at kept_pair_at
item_again (item.Bytes pipe bytes) rest within =
    ap kept_at (four_parts (codes "pipe ") (num_text pipe) (codes " ") (bytes_text bytes) (10 ∷ rest))
    ∙ rw (num_again pipe (codes " " ++ (bytes_text bytes ++ 10 ∷ rest)) within.0 refl, bytes_again bytes (10 ∷ rest) within.1) refl
item_again (item.Message pair side bytes) rest within =
    ap kept_at (six_parts (codes "pair ") (num_text pair) (codes " side ") (decimal side) (codes " ") (bytes_text bytes) (10 ∷ rest))
    ∙ rw (
      num_again pair (codes " side " ++ (decimal side ++ (codes " " ++ (bytes_text bytes ++ 10 ∷ rest)))) within.0 refl,
      below_again (2 ^ 8) side (codes " " ++ (bytes_text bytes ++ 10 ∷ rest)) within.1 (omega (arith, within.1)) refl,
      bytes_again bytes (10 ∷ rest) within.2,
    ) refl
