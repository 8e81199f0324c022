-- What the program says, and why.
use Rattle.std.specs.Prelude.{◌≡◌, ◌⊎◌, ◌<◌, ℕ, List, ◌++◌, Option, IsSome, codes, length}
use Rattle.std.specs.declared.option.Option.TheVariants.{None, Some}
use Rattle.std.specs.Fmt.{decimal}
use Rattle.xc_data.specs.Step.{Step}
use Rattle.xc_edge.specs.Streams.{AppendsPart, AppendsWhole, Came}
use Rattle.xc_edge.specs.View.{StreamView, HasFailed}
use Rattle.xc_check.specs.Verdicts.{AcceptsTrueTexts, IsVerdict}
use Rattle.xc_check.specs.declared.verdict.CheckWhy.{CheckWhy}
use Rattle.xc_check.specs.declared.verdict.CheckWhy.TheVariants as why
use Rattle.xc_check.specs.declared.verdict.Verdict.{Verdict}
use Rattle.xc_check.specs.declared.verdict.Verdict.TheVariants as verdict
use Rattle.xc_judge.specs.declared.basis.Basis.{Basis}
use Rattle.xc_judge.specs.declared.reason.Reason.{Reason}
use Rattle.xc_judge.specs.declared.reason.Reason.TheVariants as reason
use Rattle.xcalls_check.specs.declared.answer.CheckAnswer.{CheckAnswer}
use Rattle.xcalls_check.specs.declared.answer.CheckAnswer.TheVariants as answer
use Rattle.xcalls_check.specs.declared.status.CheckStatus.{CheckStatus}
use Rattle.xcalls_check.specs.declared.status.CheckStatus.TheVariants as status
use Rattle.xcalls_check.specs.Halves.{script_part, text_of}
use Rattle.xcalls_check.specs.Settings.{check_settings_of}

-- ---- the lines
-- why an entry is false
abbrev pub reason_name : Reason → List ℕ
reason_name reason.Numbers = codes "numbers"
reason_name reason.Reply = codes "reply"
reason_name reason.Late = codes "late"
reason_name reason.Records = codes "records"
reason_name reason.Held = codes "held"
reason_name reason.Story = codes "story"

-- why a text is false
abbrev pub why_name : CheckWhy → List ℕ
why_name why.TooLong = codes "toolong"
why_name why.Script = codes "script"
why_name why.Form = codes "form"
why_name (why.Entry r) = reason_name r
why_name why.Grounds = codes "grounds"
why_name why.Tail = codes "tail"

-- the line that says no
abbrev pub no_line : ℕ → CheckWhy → List ℕ
no_line line why = codes "no line " ++ decimal line ++ codes " " ++ why_name why ++ codes "\n"

-- the line that says that nothing can be said
abbrev pub untold_line : ℕ → List ℕ
untold_line line = codes "untold line " ++ decimal line ++ codes "\n"

-- the line of an answer
abbrev pub answer_line : CheckAnswer → List ℕ
answer_line (answer.Judged verdict.Yes) = codes "yes\n"
answer_line (answer.Judged (verdict.No line why)) = no_line line why
answer_line (answer.Judged (verdict.Untold line)) = untold_line line
answer_line answer.Usage = codes "usage: xcalls_check [--attempts N] [--undo-tries N] [--prologue]\n"
answer_line answer.ReadFault = codes "read fault\n"
answer_line answer.NoMemory = codes "no memory\n"

-- ---- the statuses
-- the status of an answer
abbrev pub check_status_of : CheckAnswer → CheckStatus
check_status_of (answer.Judged verdict.Yes) = status.Yes
check_status_of (answer.Judged (verdict.No line why)) = status.No
check_status_of (answer.Judged (verdict.Untold line)) = status.Untold
check_status_of answer.Usage = status.Usage
check_status_of answer.ReadFault = status.ReadFault
check_status_of answer.NoMemory = status.NoMemory

-- a status as the program's exit status
abbrev pub check_status_number : CheckStatus → ℕ
check_status_number status.Yes = 0
check_status_number status.No = 1
check_status_number status.Usage = 2
check_status_number status.ReadFault = 3
check_status_number status.WriteFault = 4
check_status_number status.NoMemory = 5
check_status_number status.Untold = 6

-- ---- what is said
-- all was written, and the program ends with the status that was meant; or a front, and it ends with the sink's failure
abbrev pub IsCheckWritten : CheckStatus → CheckStatus → List ℕ → Step StreamView → Type 0
IsCheckWritten meant ends line sink =
    ((ends ≡ meant) × AppendsWhole sink.old sink.new line)
    ⊎ ((ends ≡ status.WriteFault) × AppendsPart sink.old sink.new line × HasFailed sink.old sink.new)

-- the line of an answer was written so
abbrev pub IsCheckSaid : CheckAnswer → CheckStatus → Step StreamView → Type 0
IsCheckSaid meant ends sink = IsCheckWritten (check_status_of meant) ends (answer_line meant) sink

-- ---- why it is said
-- one byte more than a script, the line between and a text of the largest sizes
abbrev pub most_input : ℕ
most_input = 68157446

-- what is found of the bytes that came: they are too many, or this is the verdict on their halves
pub record IsFound (basis : Basis) (input : List ℕ) (found : Verdict) : Type 0 where
  pub too_long : length input ≡ most_input → found ≡ verdict.No 0 why.TooLong
  pub judged : length input < most_input → IsVerdict (script_part input) basis (text_of input) found
  pub only : length input < most_input → AcceptsTrueTexts (script_part input) basis (text_of input) found

-- by what the words choose, this is found of the bytes that came from the source
pub record IsCheckJudged (basis : Option Basis) (source : Step StreamView) (found : Verdict) : Type 0 where
  pub chosen : Basis
  pub input : List ℕ
  pub basis_is : basis ≡ Some chosen
  pub came : Came most_input source.old source.new input
  pub is_found : IsFound chosen input found

-- an answer has its cause: in what the words choose, and in the source before and after it was read
abbrev pub IsCheckCaused : Option Basis → Step StreamView → CheckAnswer → Type 0
IsCheckCaused basis source (answer.Judged found) = IsCheckJudged basis source found
IsCheckCaused basis source answer.Usage = basis ≡ None
IsCheckCaused basis source answer.ReadFault = IsSome basis × HasFailed source.old source.new
IsCheckCaused basis source answer.NoMemory = Unit {0}

-- an answer was meant that has its cause, and it was said
pub record IsCheckAnswered (words : List (List ℕ)) (source sink : Step StreamView) (ends : CheckStatus) : Type 0 where
  pub meant : CheckAnswer
  pub caused : IsCheckCaused (check_settings_of words) source meant
  pub said : IsCheckSaid meant ends sink

-- the words are refused, but for lack of memory
abbrev pub IsCheckUsage : CheckAnswer → Type 0
IsCheckUsage (answer.Judged found) = ⊥
IsCheckUsage answer.Usage = Unit {0}
IsCheckUsage answer.ReadFault = ⊥
IsCheckUsage answer.NoMemory = Unit {0}

-- without the words of the command line: this is said of them
abbrev pub IsCheckWordless : CheckStatus → Step StreamView → Type 0
IsCheckWordless ends sink = (meant : CheckAnswer) × IsCheckUsage meant × IsCheckSaid meant ends sink
