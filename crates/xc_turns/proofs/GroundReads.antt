-- What conflicts are judged by, of each job and of each entry.
use Rattle.std.proofs.Common.{◌≡◌, ℕ, zero, suc, ◌+◌, List, [], ◌∷◌, length, get_or, refl, ap, ap₂, sym, ◌∙◌, arith}
use Rattle.std.specs.Prelude.{Option, slice_get}
use Rattle.std.specs.declared.option.Option.TheVariants.{None, Some}
use Rattle.xc_script.specs.declared.ask.Ask.{Ask}
use Rattle.xc_script.specs.declared.ask.Ask.TheVariants as ask
use Rattle.xc_world.specs.Modes.{claims_of}
use Rattle.xc_world.specs.Run.{BodyResult}
use Rattle.xc_data.specs.declared.entry.Mark.{Mark}
use Rattle.xc_model.specs.Setting.{Setting}
use Rattle.xc_model.specs.Moment.{TxView, JobView, active_of}
use Rattle.xc_model.specs.Grounds.{Part}
use Rattle.xc_model.specs.EntryEnds.{next_claims}
use Rattle.xc_model.specs.Movers.{IsActiveAt}
use Rattle.xc_model.specs.Stories.{active_part, active_parts, cause_of_phase, part_under_way, wanted_by, reading}

-- ---- active transactions by job
module _ (s : Setting) (words : ℕ) (marks : ℕ → Option Mark) where
  abbrev read_part : ℕ → Option JobView → Option Part
  read_part number None = None
  read_part number (Some job) = active_part (reading s words marks) number job (active_of job)

  active_read : (number : ℕ) (jobs : List JobView) (j n : ℕ) → number + j ≡ n
      → get_or (active_parts (reading s words marks) number jobs) j None ≡ read_part n (slice_get jobs j)
  active_read number [] j n e = refl
  active_read number (job ∷ jobs) zero n e =
      ap (λ (k : ℕ). active_part (reading s words marks) k job (active_of job)) (let same : number ≡ n = omega arith in same)
  active_read number (job ∷ jobs) (suc j) n e = active_read (number + 1) jobs j n (omega arith)

  -- a job's
  pub part_read : (jobs : List JobView) (j : ℕ) (job : JobView) (o : Option TxView) → slice_get jobs j ≡ Some job → active_of job ≡ o
      → get_or (active_parts (reading s words marks) 1 jobs) j None ≡ active_part (reading s words marks) (j + 1) job o
  part_read jobs j job o stands is =
      active_read 1 jobs j (j + 1) (omega arith) ∙ ap (read_part (j + 1)) stands ∙ ap (active_part (reading s words marks) (j + 1) job) is

-- a part is that of an active transaction
pub part_there : (s : Setting) (words : ℕ) (marks : ℕ → Option Mark) (jobs : List JobView) (j : ℕ) (a : Part)
    → get_or (active_parts (reading s words marks) 1 jobs) j None ≡ Some a
    → (tx : TxView) × ((active : IsActiveAt jobs j tx) × (part_under_way (reading s words marks) (j + 1) active.0 tx ≡ a))
part_there s words marks jobs j a got = by_job (slice_get jobs j) refl (sym (active_read s words marks 1 jobs j (j + 1) (omega arith)) ∙ got)
  where
    by_tx : (job : JobView) (o : Option TxView) → slice_get jobs j ≡ Some job → active_of job ≡ o
        → active_part (reading s words marks) (j + 1) job o ≡ Some a
        → (tx : TxView) × ((active : IsActiveAt jobs j tx) × (part_under_way (reading s words marks) (j + 1) active.0 tx ≡ a))
    by_tx job None there has e = cc e
    by_tx job (Some tx) there has e = (tx, ((job, there, has), cc e))

    by_job : (o : Option JobView) → slice_get jobs j ≡ o → read_part s words marks (j + 1) o ≡ Some a
        → (tx : TxView) × ((active : IsActiveAt jobs j tx) × (part_under_way (reading s words marks) (j + 1) active.0 tx ≡ a))
    by_job None there e = cc e
    by_job (Some job) there e = by_tx job (active_of job) there refl e

-- with other marks a transaction has the same part, where its own mark stays
part_marked : (s : Setting) (words : ℕ) (marks marks' : ℕ → Option Mark) (n : ℕ) (job : JobView) (o : Option TxView)
    → ((tx : TxView) → o ≡ Some tx → marks' tx.number ≡ marks tx.number)
    → active_part (reading s words marks') n job o ≡ active_part (reading s words marks) n job o
part_marked s words marks marks' n job None same = refl
part_marked s words marks marks' n job (Some tx) same =
    ap (λ (m : Option Mark). Some (record (part_under_way (reading s words marks) n job tx) { cause = cause_of_phase m tx.phase })) (same tx refl)

read_marked : (s : Setting) (words : ℕ) (marks marks' : ℕ → Option Mark) (n : ℕ) (o : Option JobView)
    → ((job : JobView) (tx : TxView) → o ≡ Some job → active_of job ≡ Some tx → marks' tx.number ≡ marks tx.number)
    → read_part s words marks' n o ≡ read_part s words marks n o
read_marked s words marks marks' n None same = refl
read_marked s words marks marks' n (Some job) same = part_marked s words marks marks' n job (active_of job) (λ tx e. same job tx refl e)

-- where a job and its transaction's mark stay
pub part_elsewhere : (s : Setting) (words : ℕ) (marks marks' : ℕ → Option Mark) (jobs jobs' : List JobView) (j : ℕ)
    → slice_get jobs' j ≡ slice_get jobs j → ((tx : TxView) → IsActiveAt jobs j tx → marks' tx.number ≡ marks tx.number)
    → get_or (active_parts (reading s words marks') 1 jobs') j None ≡ get_or (active_parts (reading s words marks) 1 jobs) j None
part_elsewhere s words marks marks' jobs jobs' j same unmarked =
    active_read s words marks' 1 jobs' j (j + 1) (omega arith) ∙ ap (read_part s words marks' (j + 1)) same
    ∙ read_marked s words marks marks' (j + 1) (slice_get jobs j) (λ job tx there has. unmarked tx (job, there, has))
    ∙ sym (active_read s words marks 1 jobs j (j + 1) (omega arith))

-- ---- what the call claims that is asked next
-- where the plain machine's body has the transaction's private state, its entry wants what it wanted
pub wanted_same : (ran : BodyResult) (words : ℕ) (tx : TxView) (a : Ask) → ran.me ≡ tx.me → length ran.world.words ≡ words
    → next_claims ran a ≡ wanted_by words tx a
wanted_same ran words tx (ask.Call call) me count = ap₂ (claims_of call) me count
wanted_same ran words tx ask.Commit me count = refl
wanted_same ran words tx ask.Abort me count = refl
wanted_same ran words tx ask.End me count = refl
