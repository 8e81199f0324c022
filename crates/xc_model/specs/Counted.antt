-- The faults that are recorded, in the journal and in active transactions.
use Rattle.std.specs.Prelude.{ℕ, ◌+◌, count_by, sum_by}
use Rattle.xc_data.specs.Counts.{RisesBy}
use Rattle.xc_data.specs.Faults.{entry_faults, reply_faults, is_fault_end, undo_faults}
use Rattle.xc_model.specs.Moment.{TxView, Moment, actives}

-- those of an active transaction
abbrev pub tx_faults : TxView → ℕ
tx_faults tx = sum_by reply_faults tx.replies + (sum_by undo_faults tx.undo.ended + count_by is_fault_end tx.ends)

-- all that are recorded
abbrev pub recorded_faults : Moment → ℕ
recorded_faults now = sum_by entry_faults now.journal + sum_by tx_faults (actives now.jobs)

-- the host's count rose by them, and where none is recorded it stayed
abbrev pub AreCounted : ℕ → Moment → Type 0
AreCounted before now = RisesBy (recorded_faults now) before now.faults
