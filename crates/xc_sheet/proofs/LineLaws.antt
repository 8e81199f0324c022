-- A line that was printed is read again.
use Rattle.std.proofs.Common.{◌≡◌, ℕ, ◌^◌, List, [], ◌∷◌, ◌++◌, Option, Some, None, refl, sym, ap, ◌∙◌, append_assoc}
use Rattle.std.specs.Prelude.{codes}
use Rattle.std.specs.Fmt.{decimal}
use Rattle.xc_data.specs.declared.call.Call.{Call}
use Rattle.xc_data.specs.declared.call.Call.TheVariants.{Load, Store, XOpen, XCreate, XRead, XWriteOvr, XWriteSeq, XSeek}
use Rattle.xc_data.specs.declared.call.Call.TheVariants.{XLen, XRename, XClose, XPipe, XReadPipe, XPair, XRecvmsg}
use Rattle.xc_data.specs.declared.call.Call.TheVariants.{XUnlink, XSync, XWritePipe, XShutdown, XSendmsg, XThreadCreate}
use Rattle.xc_data.specs.declared.call.Call.TheVariants.{Save, Keep, Back}
use Rattle.xc_data.specs.declared.entry.Cause.{Cause}
use Rattle.xc_data.specs.declared.entry.KeptItem.{KeptItem}
use Rattle.xc_data.specs.declared.entry.KeptItem.TheVariants as item
use Rattle.xc_print.specs.Bytes.{bytes_text}
use Rattle.xc_print.specs.Calls.{call_text}
use Rattle.xc_print.specs.Kept.{kept_line}
use Rattle.xc_print.specs.Objects.{num_text, claim_text, further_claims}
use Rattle.xc_print.specs.Records.{undo_end_text}
use Rattle.xc_print.specs.Replies.{reply_text, late_end_text}
use Rattle.xc_sheet.specs.declared.lines.Line.{Line}
use Rattle.xc_sheet.specs.declared.lines.Line.TheVariants as line
use Rattle.xc_lines.specs.declared.heads.Head.{Head}
use Rattle.xc_lines.specs.Heads.{head_at, head_text, word_of, numbers_text, cause_of}
use Rattle.xc_sheet.specs.Lines.{late_line_at, undo_line_at, remains_line_at, call_line_at, job_line_at, word_line_at}
use Rattle.xc_sheet.specs.Lines.{kept_line_at, total_line_at, held_line_at, inner_line_at, line_at, line_text}
use Rattle.xc_lines.specs.Parts.{mapped}
use Rattle.xc_lines.specs.Ranges.{IsHeadInRange}
use Rattle.xc_sheet.specs.Ranges.{IsLineInRange}
use Rattle.xc_lines.specs.Tails.{kind_name, standing_text, job_end_name, kept_text}
use Rattle.xc_lines.proofs.Laws.{call_again, head_again, claim_again, claims_again, further_end, further_other, reply_again, late_end_again, number_again}
use Rattle.xc_lines.proofs.Laws.{ident_again, three_parts, four_parts, five_parts, six_parts, kind_again, undo_end_again, standing_again, job_end_again}
use Rattle.xc_lines.proofs.Laws.{item_again}

seven_parts : (a b c d e f g rest : List ℕ) → a ++ b ++ c ++ d ++ e ++ f ++ g ++ rest ≡ a ++ (b ++ (c ++ (d ++ (e ++ (f ++ (g ++ rest))))))
seven_parts a b c d e f g rest = simp append_assoc

nine_parts : (a b c d e f g h i rest : List ℕ)
    → a ++ b ++ c ++ d ++ e ++ f ++ g ++ h ++ i ++ rest ≡ a ++ (b ++ (c ++ (d ++ (e ++ (f ++ (g ++ (h ++ (i ++ rest))))))))
nine_parts a b c d e f g h i rest = simp append_assoc

-- no call begins as another line does
call_first : (call : Call) (rest : List ℕ) → inner_line_at (call_text call ++ rest) ≡ call_line_at (call_text call ++ rest)
unfolding inner_line_at
call_first (Load at) rest = refl
call_first (Store at value) rest = refl
call_first (XOpen name) rest = refl
call_first (XCreate name) rest = refl
call_first (XRead h n) rest = refl
call_first (XWriteOvr h bytes) rest = refl
call_first (XWriteSeq h bytes) rest = refl
call_first (XSeek h to) rest = refl
call_first (XLen h) rest = refl
call_first (XRename from to) rest = refl
call_first (XClose h) rest = refl
call_first XPipe rest = refl
call_first (XReadPipe h n) rest = refl
call_first XPair rest = refl
call_first (XRecvmsg h) rest = refl
call_first (XUnlink name slot) rest = refl
call_first (XSync h slot) rest = refl
call_first (XWritePipe h bytes slot) rest = refl
call_first (XShutdown h slot) rest = refl
call_first (XSendmsg h bytes slot) rest = refl
call_first (XThreadCreate body slot) rest = refl
call_first Save rest = refl
call_first Keep rest = refl
call_first Back rest = refl

-- nor does the first line of an entry
head_first : (cause : Option Cause) (rest : List ℕ) → line_at (word_of cause ++ rest) ≡ mapped (λ head. line.Head head) (head_at (word_of cause ++ rest))
unfolding line_at
head_first None rest = refl
head_first (Some cause) rest = refl

head_line_again : (head : Head) (rest : List ℕ) → IsHeadInRange head → line_at (head_text head ++ rest) ≡ Some (line.Head head, rest)
head_line_again head rest within =
    let apart : head_text head ++ rest ≡ word_of head.cause ++ (numbers_text head ++ (cause_of head.cause ++ (codes "\n" ++ rest))) =
    four_parts (word_of head.cause) (numbers_text head) (cause_of head.cause) (codes "\n") rest in
    ap line_at apart ∙ head_first head.cause (numbers_text head ++ (cause_of head.cause ++ (codes "\n" ++ rest)))
    ∙ ap (λ t. mapped (λ head. line.Head head) (head_at t)) (sym apart)
    ∙ ap (mapped (λ head. line.Head head)) (head_again head rest within)

kept_is : (kept : KeptItem) (rest : List ℕ) → kept_line kept ++ rest ≡ codes "kept " ++ (kept_text kept ++ 10 ∷ rest)
kept_is (item.Bytes pipe bytes) rest =
    five_parts (codes "kept pipe ") (num_text pipe) (codes " ") (bytes_text bytes) (codes "\n") rest
    ∙ sym (ap (λ t. codes "kept " ++ t) (four_parts (codes "pipe ") (num_text pipe) (codes " ") (bytes_text bytes) (10 ∷ rest)))
kept_is (item.Message pair side bytes) rest =
    seven_parts (codes "kept pair ") (num_text pair) (codes " side ") (decimal side) (codes " ") (bytes_text bytes) (codes "\n") rest
    ∙ sym (ap (λ t. codes "kept " ++ t) (six_parts (codes "pair ") (num_text pair) (codes " side ") (decimal side) (codes " ") (bytes_text bytes) (10 ∷ rest)))

-- the last line from a number's end on
abbrev from_remains : ℕ → List ℕ → List ℕ
from_remains remains rest = codes " faults, " ++ (decimal remains ++ (codes " remains\n" ++ rest))

abbrev from_faults : ℕ → ℕ → List ℕ → List ℕ
from_faults faults remains rest = codes " aborted, " ++ (decimal faults ++ from_remains remains rest)

abbrev from_aborted : ℕ → ℕ → ℕ → List ℕ → List ℕ
from_aborted aborted faults remains rest = codes " committed, " ++ (decimal aborted ++ from_faults faults remains rest)

-- a line
pub line_again : (l : Line) (rest : List ℕ) → IsLineInRange l → line_at (line_text l ++ rest) ≡ Some (l, rest)
unfolding line_at inner_line_at late_line_at undo_line_at remains_line_at call_line_at job_line_at word_line_at kept_line_at total_line_at held_line_at
line_again (line.Head head) rest within = head_line_again head rest within
line_again (line.Call call reply) rest within =
    ap line_at (five_parts (codes "  ") (call_text call) (codes " = ") (reply_text reply) (codes "\n") rest)
    ∙ call_first call (codes " = " ++ (reply_text reply ++ 10 ∷ rest))
    ∙ rw (call_again call (reply_text reply ++ 10 ∷ rest) within.0, reply_again reply rest within.1) refl
line_again (line.Late number end) rest within =
    ap line_at (five_parts (codes "  late ") (decimal number) (codes " = ") (late_end_text end) (codes "\n") rest)
    ∙ rw (number_again number (codes " = " ++ (late_end_text end ++ 10 ∷ rest)) within.0 refl, late_end_again end rest within.1) refl
line_again (line.Undo number kind end) rest within =
    ap line_at (seven_parts (codes "  undo ") (decimal number) (codes " ") (kind_name kind) (codes " ") (undo_end_text end) (codes "\n") rest)
    ∙ rw (
      number_again number (codes " " ++ (kind_name kind ++ (codes " " ++ (undo_end_text end ++ 10 ∷ rest)))) within.0 refl,
      kind_again kind (codes " " ++ (undo_end_text end ++ 10 ∷ rest)),
      undo_end_again end rest within.1,
    ) refl
line_again (line.Remains effect) rest within =
    ap line_at (three_parts (codes "  remains ") (standing_text effect) (codes "\n") rest) ∙ rw (standing_again effect rest within) refl
line_again (line.Held []) rest within = absurd within
line_again (line.Held (claim ∷ claims)) rest within =
    ap line_at (four_parts (codes "  held ") (claim_text claim) (further_claims claims) (codes "\n") rest)
    ∙ rw (
      claim_again claim (further_claims claims ++ 10 ∷ rest) within.0 (further_end claims rest) (further_other claims rest),
      claims_again claims (2 ^ 26) rest within.1 within.2,
    ) refl
line_again (line.Job number block end) rest within =
    ap line_at (seven_parts (codes "job ") (decimal number) (codes " ") block (codes " ") (job_end_name end) (codes "\n") rest)
    ∙ rw (
      number_again number (codes " " ++ (block ++ (codes " " ++ (job_end_name end ++ 10 ∷ rest)))) within.0 refl,
      ident_again block (codes " " ++ (job_end_name end ++ 10 ∷ rest)) within.1 refl,
      job_end_again end rest,
    ) refl
line_again (line.Word at value) rest within =
    ap line_at (five_parts (codes "word ") (decimal at) (codes " ") (decimal value) (codes "\n") rest)
    ∙ rw (number_again at (codes " " ++ (decimal value ++ 10 ∷ rest)) within.0 refl, number_again value (10 ∷ rest) within.1 refl) refl
line_again (line.Kept kept) rest within = ap line_at (kept_is kept rest) ∙ rw (item_again kept rest within) refl
line_again (line.Total committed aborted faults remains) rest within =
    ap line_at
    (nine_parts (codes "total ") (decimal committed) (codes " committed, ") (decimal aborted) (codes " aborted, ") (decimal faults) (codes " faults, ")
    (decimal remains) (codes " remains\n") rest)
    ∙ rw (
      number_again committed (from_aborted aborted faults remains rest) within.0 refl,
      number_again aborted (from_faults faults remains rest) within.1 refl,
      number_again faults (from_remains remains rest) within.2 refl,
      number_again remains (codes " remains\n" ++ rest) within.3 refl,
    ) refl
