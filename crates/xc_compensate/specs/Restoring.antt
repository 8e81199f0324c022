-- Bytes that are put back one after another.
use Rattle.std.specs.Prelude.{◌≡◌, ◌⊎◌, ℕ, ◌+◌, ◌≤◌, ◌<◌, true, List, length}
use Rattle.xc_data.specs.declared.object.Num.{Num}
use Rattle.xc_data.specs.declared.undo.UndoEnd.{UndoEnd}
use Rattle.xc_data.specs.declared.undo.UndoEnd.TheVariants.{Undone, Failed, Blocked}
use Rattle.xc_host.specs.Contents.{Contents, file_in, has_file}
use Rattle.xc_compensate.specs.declared.undoing.RestoreProgress.{RestoreProgress}

-- there are so many bytes in the file
pub record FitsIn (c : Contents) (file : Num) (at : ℕ) (bytes : List ℕ) : Type 0 where
  pub there : has_file c file ≡ true
  pub inside : at + length bytes ≤ length (file_in c file)

-- one try: more bytes are restored, of so many in all, or one more fault is met
abbrev pub IsStep : RestoreProgress → RestoreProgress → ℕ → Type 0
IsStep before now all =
    ((before.done < now.done) × (now.done ≤ all) × (now.faults ≡ before.faults))
    ⊎ ((now.done ≡ before.done) × (now.faults ≡ before.faults + 1))

-- all of so many bytes are restored after fewer faults than tries, or fewer are after as many
abbrev pub IsRestoreEnd : ℕ → ℕ → UndoEnd → Type 0
IsRestoreEnd tries all (Undone faults) = faults < tries
IsRestoreEnd tries all (Failed done faults) = (faults ≡ tries) × (done < all)
IsRestoreEnd tries all (Blocked by) = ⊥

-- how many of so many bytes are restored
abbrev pub done_by : ℕ → UndoEnd → ℕ
done_by all (Undone faults) = all
done_by all (Failed done faults) = done
done_by all (Blocked by) = 0
