-- What a line is answered, from what the session's pass gained for it.
use Rattle.std.specs.Prelude.{IsSomeAnd}
use Rattle.std.specs.Prelude.{◌≡◌, ◌≤◌, ◌⊎◌, ℕ, true, false, List, [], ◌∷◌}
use Rattle.std.specs.Prelude.{◌++◌, All, codes, length, map, nat_lt, slice_get, if◌then◌else◌, Option}
use Rattle.std.specs.declared.option.Option.TheVariants.{None, Some}
use Rattle.std.specs.Fmt.{decimal}
use Rattle.xc_data.specs.declared.entry.Entry.{Entry}
use Rattle.xc_data.specs.declared.entry.Event.{Event}
use Rattle.xc_data.specs.declared.entry.Event.TheVariants.{Turned, Picked, Looked}
use Rattle.xc_data.specs.declared.entry.Turn.{Turn}
use Rattle.xc_data.specs.declared.entry.Turn.TheVariants as turn
use Rattle.xc_print.specs.Entries.{entry_text, journal_text}
use Rattle.xc_print.specs.Text.{job_line}
use Rattle.xc_runner.specs.Walks.{is_last}
use Rattle.xc_station.specs.Names.{block_name_at, told_blocks}
use Rattle.xc_text.specs.declared.script.Script.{Script}
use Rattle.xc_model.specs.declared.origin.Origin.{Origin}
use Rattle.xc_station.specs.Passes.{PassView}
use Rattle.xc_serve.specs.declared.answer.ServeAnswer.{ServeAnswer}
use Rattle.xc_serve.specs.declared.answer.ServeAnswer.TheVariants as answer
use Rattle.xc_serve.specs.declared.order.Order.{Order}
use Rattle.xc_serve.specs.declared.order.Order.TheVariants as order

-- ---- the lines of answers
-- no job is left
abbrev pub no_job_line : List ℕ
no_job_line = codes "no job\n"

-- the job had ended before
abbrev pub ended_line : List ℕ
ended_line = codes "ended\n"

-- how long the journal is
abbrev pub seen_line : ℕ → List ℕ
seen_line n = codes "seen " ++ decimal n ++ codes "\n"

-- there is no such entry
abbrev pub not_yet_line : List ℕ
not_yet_line = codes "not yet\n"

-- the session ends
abbrev pub bye_line : List ℕ
bye_line = codes "bye\n"

-- it is no such line
abbrev pub bad_line : List ℕ
bad_line = codes "bad line\n"

-- it has 65 bytes without an end
abbrev pub too_long_line : List ℕ
too_long_line = codes "too long\n"

-- ---- a job
-- the texts of entries, in order
abbrev pub entry_texts : List (ℕ × Entry) → List ℕ
entry_texts entries = journal_text (map (λ (e : ℕ × Entry). e.1) entries)

-- turns of a job with these answers
abbrev pub turn_events : ℕ → List (Option Turn) → List Event
turn_events job answers = map (λ answer. Turned job answer) answers

-- a block, or no bytes where none is known
abbrev pub block_or_none : Option (List ℕ) → List ℕ
block_or_none None = []
block_or_none (Some block) = block

-- what stands behind a job's entries: its line, with its block and its end, or that it had ended before
abbrev pub job_closing : ℕ → List ℕ → Option Turn → List ℕ
job_closing job block (Some (turn.Ended end)) = job_line job (record { block = block; end = end })
job_closing job block _ = ended_line

-- where the job's line is printed, its block is the job's own, as this journal tells it
abbrev pub IsOwnBlock : Script → List Entry → ℕ → List ℕ → Option Turn → Type 0
IsOwnBlock script journal job block (Some (turn.Ended end)) = block_name_at (told_blocks script journal) job ≡ Some block
IsOwnBlock script journal job block _ = Unit {0}

-- the same, as a pass knows the journal
abbrev pub IsOwnIn : PassView → ℕ → List ℕ → Option Turn → Type 0
IsOwnIn v job block last = IsSomeAnd v.origin (λ (from : Origin). IsOwnBlock from.script v.seen job block last)

-- a job was picked and its turns were taken, up to the first answer after which it takes none: the entries, and how it ended
pub record IsWorked (v : PassView) (events : List Event) (entries : List (ℕ × Entry)) (answer : List ℕ) : Type 0 where
  pub job : ℕ
  pub before : List (Option Turn)
  pub last : Option Turn
  pub block : List ℕ
  pub gained : events ≡ Picked (Some job) ∷ turn_events job (before ++ last ∷ [])
  pub went_on : All (λ turn. is_last turn ≡ false) before
  pub ends : is_last last ≡ true
  pub own : IsOwnIn v job block last
  pub said : answer ≡ entry_texts entries ++ job_closing job block last

-- no job was left
pub record IsIdle (events : List Event) (entries : List (ℕ × Entry)) (answer : List ℕ) : Type 0 where
  pub gained : events ≡ Picked None ∷ []
  pub none : entries ≡ []
  pub said : answer ≡ no_job_line

-- ---- a look
-- the text of an entry, where there is one
abbrev pub text_at : Option Entry → List ℕ
text_at None = not_yet_line
text_at (Some entry) = entry_text entry

-- the journal was so long: the entry in this place, or that it is not there yet
abbrev pub looked_up : List Entry → ℕ → ℕ → List ℕ
looked_up seen count place = if nat_lt place count then text_at (slice_get seen place) else not_yet_line

-- one look, and what is said of the length that it found, which is that of a front of what was seen
pub record IsLook (seen : List Entry) (say : ℕ → List ℕ) (events : List Event) (entries : List (ℕ × Entry)) (answer : List ℕ) : Type 0 where
  pub count : ℕ
  pub within : count ≤ length seen
  pub gained : events ≡ Looked count ∷ []
  pub none : entries ≡ []
  pub said : answer ≡ say count

-- nothing was done, and this is said
pub record IsPlainAnswer (say : List ℕ) (events : List Event) (entries : List (ℕ × Entry)) (answer : List ℕ) : Type 0 where
  pub gained : events ≡ []
  pub none : entries ≡ []
  pub said : answer ≡ say

-- ---- any line
-- what it is answered, from the events and the entries that the pass gained for it, and what the pass knows by then
abbrev pub IsServeAnswer : PassView → Order → List Event → List (ℕ × Entry) → List ℕ → Type 0
IsServeAnswer v order.Work events entries answer = IsIdle events entries answer ⊎ IsWorked v events entries answer
IsServeAnswer v order.Seen events entries answer = IsLook v.seen seen_line events entries answer
IsServeAnswer v (order.Entry place) events entries answer = IsLook v.seen (λ count. looked_up v.seen count place) events entries answer
IsServeAnswer v order.Quit events entries answer = IsPlainAnswer bye_line events entries answer
IsServeAnswer v order.Bad events entries answer = IsPlainAnswer bad_line events entries answer
IsServeAnswer v order.TooLong events entries answer = IsPlainAnswer too_long_line events entries answer

-- ---- as the code has it
-- the bytes of an answer
abbrev pub answer_bytes : ServeAnswer → List ℕ
answer_bytes answer.NoJob = no_job_line
answer_bytes answer.NotYet = not_yet_line
answer_bytes answer.Bye = bye_line
answer_bytes answer.Bad = bad_line
answer_bytes answer.TooLong = too_long_line
answer_bytes (answer.Told text) = text
