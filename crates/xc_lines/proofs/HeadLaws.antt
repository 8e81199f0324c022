-- The first line of an entry that was printed is read again.
use Rattle.std.proofs.Common.{◌≡◌, ℕ, List, [], ◌∷◌, ◌++◌, Option, Some, None, refl, ap, ◌∙◌, append_assoc}
use Rattle.std.specs.Prelude.{codes}
use Rattle.std.specs.Fmt.{decimal}
use Rattle.xc_data.specs.declared.entry.Cause.{Cause}
use Rattle.xc_data.specs.declared.entry.Cause.TheVariants.{Asked, Conflict, Revoked, NoMemory, Stuck}
use Rattle.xc_print.specs.Entries.{cause_text}
use Rattle.xc_print.specs.Objects.{object_text}
use Rattle.xc_lines.specs.declared.heads.Head.{Head}
use Rattle.xc_lines.specs.Ranges.{IsCauseInRange, IsHeadCauseInRange, IsHeadInRange}
use Rattle.xc_lines.specs.Heads.{conflict_at, revoked_at, stuck_at, no_memory_at, cause_at, attempt_at, commit_at, abort_at, head_at}
use Rattle.xc_lines.specs.Heads.{word_of, cause_of, numbers_text, head_text}
use Rattle.xc_lines.proofs.Spelled.{small_again}
use Rattle.xc_lines.proofs.Fields.{EndsField, object_again}

-- the rest of a conflict's words, and of a revocation's
abbrev holder_on : ℕ → ℕ → List ℕ → List ℕ
holder_on holder at rest = codes " holder t" ++ (decimal holder ++ (codes " at " ++ (decimal at ++ rest)))

abbrev by_on : ℕ → ℕ → List ℕ → List ℕ
by_on by at rest = codes " by t" ++ (decimal by ++ (codes " at " ++ (decimal at ++ rest)))

-- a cause is read again, before what ends its last number
pub cause_again : (cause : Cause) (rest : List ℕ) → IsCauseInRange cause → EndsField rest → cause_at (cause_text cause ++ rest) ≡ Some (cause, rest)
unfolding cause_at conflict_at revoked_at stuck_at no_memory_at
cause_again Asked rest within stop = refl
cause_again (Conflict object holder at) rest within stop =
    let apart : cause_text (Conflict object holder at) ++ rest ≡ codes "conflict " ++ (object_text object ++ holder_on holder at rest) = simp append_assoc in
    ap cause_at apart
    ∙ rw (
      object_again object (holder_on holder at rest) within.0 (record { digits = refl; names = refl }),
      small_again holder (codes " at " ++ (decimal at ++ rest)) within.1 refl,
      small_again at rest within.2 stop.digits,
    ) refl
cause_again (Revoked object by at) rest within stop =
    let apart : cause_text (Revoked object by at) ++ rest ≡ codes "revoked " ++ (object_text object ++ by_on by at rest) = simp append_assoc in
    ap cause_at apart
    ∙ rw (
      object_again object (by_on by at rest) within.0 (record { digits = refl; names = refl }),
      small_again by (codes " at " ++ (decimal at ++ rest)) within.1 refl,
      small_again at rest within.2 stop.digits,
    ) refl
cause_again NoMemory rest within stop = refl
cause_again (Stuck failed) rest within stop = rw (small_again failed rest within stop.digits) refl

-- the numbers, each before what follows it
abbrev from_began : Head → List ℕ → List ℕ
from_began head rest = codes " began " ++ (decimal head.began ++ rest)

abbrev from_rank : Head → List ℕ → List ℕ
from_rank head rest = codes " rank " ++ (decimal head.rank ++ from_began head rest)

abbrev from_job : Head → List ℕ → List ℕ
from_job head rest = codes " job " ++ (decimal head.job ++ from_rank head rest)

attempt_again : (head : Head) (rest : List ℕ) → IsHeadInRange head → EndsField rest
    → attempt_at (numbers_text head ++ rest) ≡ Some (record head { cause = None }, rest)
unfolding attempt_at
attempt_again head rest within stop =
    let apart : numbers_text head ++ rest ≡ codes " t" ++ (decimal head.tx ++ from_job head rest) = simp append_assoc in
    ap attempt_at apart
    ∙ rw (
      small_again head.tx (from_job head rest) within.tx refl,
      small_again head.job (from_rank head rest) within.job refl,
      small_again head.rank (from_began head rest) within.rank refl,
      small_again head.began rest within.began stop.digits,
    ) refl

-- an abort's line in its pieces
glued : (word numbers cause rest : List ℕ)
    → word ++ numbers ++ (32 ∷ cause) ++ (10 ∷ []) ++ rest ≡ word ++ (numbers ++ 32 ∷ (cause ++ 10 ∷ rest))
glued word numbers cause rest =
    append_assoc (word ++ numbers ++ (32 ∷ cause)) (10 ∷ []) rest ∙ append_assoc (word ++ numbers) (32 ∷ cause) (10 ∷ rest)
    ∙ append_assoc word numbers (32 ∷ (cause ++ 10 ∷ rest))

head_with : (head : Head) (cause : Option Cause) (rest : List ℕ) → head.cause ≡ cause → IsHeadInRange head → IsHeadCauseInRange cause
    → head_at (word_of cause ++ numbers_text head ++ cause_of cause ++ codes "\n" ++ rest) ≡ Some (record head { cause = cause }, rest)
unfolding head_at commit_at abort_at
head_with head None rest is within cause =
    let apart : word_of None ++ numbers_text head ++ cause_of None ++ codes "\n" ++ rest ≡ codes "commit" ++ (numbers_text head ++ 10 ∷ rest) =
    simp append_assoc in
    ap head_at apart ∙ rw (attempt_again head (10 ∷ rest) within (record { digits = refl; names = refl })) refl
head_with head (Some c) rest is within cause =
    ap head_at (glued (codes "abort") (numbers_text head) (cause_text c) rest)
    ∙ rw (
      attempt_again head (32 ∷ (cause_text c ++ 10 ∷ rest)) within (record { digits = refl; names = refl }),
      cause_again c (10 ∷ rest) cause (record { digits = refl; names = refl }),
    ) refl

-- the line
pub head_again : (head : Head) (rest : List ℕ) → IsHeadInRange head → head_at (head_text head ++ rest) ≡ Some (head, rest)
head_again head rest within = head_with head head.cause rest refl within within.cause
