-- Jobs that run one after another.
use Rattle.std.specs.Prelude.{◌≡◌, ℕ, ◌+◌, ◌<◌, ◌≤◌, false, List, length, slice_get, All}
use Rattle.std.specs.declared.option.Option.TheVariants.{None, Some}
use Rattle.xc_data.specs.declared.entry.Entry.{Entry}
use Rattle.xc_data.specs.declared.entry.JobEnd.TheVariants.{JournalFull}
use Rattle.xc_model.specs.declared.phase.Phase.{Phase}
use Rattle.xc_model.specs.declared.phase.Phase.TheVariants.{Undoing}
use Rattle.xc_model.specs.Serial.{IsSerial}
use Rattle.xc_model.specs.EntryEnds.{is_tried_again}
use Rattle.xc_model.specs.Moment.{TxView, JobView, Ended, Moment}
use Rattle.xc_model.specs.Movers.{IsActiveAt}

-- it undoes for a cause for which it is tried again
abbrev pub MeetsNobody : Phase → Type 0
MeetsNobody (Undoing c) = is_tried_again c ≡ false
-- in any other phase it met nobody who made it undo
MeetsNobody _ = Unit {0}

-- the journal is full, and no entry is of a job after this place
pub record IsFullAt (journal : List Entry) (at : ℕ) : Type 0 where
  pub full : 10000 ≤ length journal
  pub before : All (λ (e : Entry). e.job ≤ at + 1) journal

-- the job in this place is the only one with an active transaction, and those after it have made no entry; all
-- transactions so far ran one after another; none is marked; and where a job found the journal full, it is full
pub record AreAlone (now : Moment) (at : ℕ) : Type 0 where
  pub serial : IsSerial now.journal
  pub before : All (λ (e : Entry). e.job ≤ at + 1) now.journal
  pub others : (j : ℕ) (tx : TxView) → IsActiveAt now.jobs j tx → j ≡ at
  pub mine : (tx : TxView) → IsActiveAt now.jobs at tx
      → (tx.number ≡ length now.journal + 1) × (tx.began ≡ length now.journal) × MeetsNobody tx.phase × (length now.journal < 10000)
  pub unmarked : (n : ℕ) → now.marks n ≡ None
  pub full : (j : ℕ) (job : JobView) → slice_get now.jobs j ≡ Some job → job.doing ≡ Ended JournalFull → IsFullAt now.journal j
