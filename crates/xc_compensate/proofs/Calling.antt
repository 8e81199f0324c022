-- Which calls of the host a compensation made.
use Rattle.std.proofs.Common.{◌≡◌, ◌≢◌, ℕ, ◌+◌, ◌≤◌, ◌<◌, false, [], ◌∷◌, replicate, is_ok, Result, Ok, Err, IsTrue, inl, inr, refl, subst, arith, sym}
use Rattle.xc_data.specs.Counts.{RisesBy}
use Rattle.xc_data.specs.declared.script.HostCallKind.{HostCallKind}
use Rattle.xc_data.specs.declared.script.HostCallKind.TheVariants.{Restore}
use Rattle.xc_data.specs.declared.undo.Undo.{Undo}
use Rattle.xc_data.specs.declared.undo.Undo.TheVariants.{Overwrite, Append, Create, Rename, NewPipe, NewPair}
use Rattle.xc_data.specs.declared.undo.UndoEnd.TheVariants.{Undone}
use Rattle.xc_host.specs.Cause.{without_memory}
use Rattle.xc_host.specs.Contents.{Contents}
use Rattle.xc_host.specs.Model.{HostModel, IsUsed, Answers}
use Rattle.xc_host.specs.Uses.{Uses, BacksFor, MovesBy, PartsOf, back_kind, restored_part}
use Rattle.xc_host.specs.declared.errors.Fault.{Fault}
use Rattle.xc_host.proofs.Laws.{used_again, moves_more, moves_none}
use Rattle.xc_compensate.specs.Records.{is_overwrite}
use Rattle.xc_compensate.specs.Restoring.{IsStep}
use Rattle.xc_compensate.specs.declared.undoing.RestoreProgress.{RestoreProgress}

-- one call does the one part of a record that isn't an overwrite's
one_part : (u : Undo) (faults : ℕ) → is_overwrite u ≡ false → PartsOf u (restored_part u (Undone faults)) 1
one_part (Overwrite file at before after n) faults one = cc
one_part (Append file from after n) faults one = refl
one_part (Create name num) faults one = refl
one_part (Rename from to) faults one = refl
one_part (NewPipe num) faults one = refl
one_part (NewPair num) faults one = refl

-- one try restores no more bytes than there are
pub step_within : (before now : RestoreProgress) (all : ℕ) → IsStep before now all → before.done ≤ all → now.done ≤ all
step_within before now all (inl (more, most, same)) le = most
step_within before now all (inr (same, more)) le = omega (arith, same, le)

-- fewer tries failed than may, unless they are as many
pub few_yet : (before now : RestoreProgress) (all tries : ℕ) → IsStep before now all → before.faults < tries → now.faults ≢ tries → now.faults < tries
few_yet before now all tries (inl (more, most, same)) few other = omega (arith, same, few)
few_yet before now all tries (inr (same, more)) few other = omega (arith, more, few, other)

module _ {H : Type 0} (model : HostModel H) where
  -- a try that failed is one fault, and changed nothing
  pub failed_try : (kind : HostCallKind) (a b : H) (result : Result (Unit {0}) Fault) (effect : Unit {0} → Contents → Contents) → is_ok result ≡ false
      → Answers model kind (record { old = a; new = b }) (without_memory result) effect
      → RisesBy 1 (model.fault_count a) (model.fault_count b) × (IsTrue model.tells → model.contents b ≡ model.contents a)
  failed_try kind a b (Ok x) effect failed answered = cc
  failed_try kind a b (Err e) effect failed answered = (answered.cause, answered.refused)

  -- so many tries failed, and the next one did it
  pub tried_until_done : (u : Undo) (faults : ℕ) (a b c : H) → is_overwrite u ≡ false
      → IsUsed model (replicate faults (back_kind u)) (record { old = a; new = b }) → IsUsed model (back_kind u ∷ []) (record { old = b; new = c })
      → Uses model (record { old = a; new = c }) (BacksFor u (Undone faults))
  tried_until_done u faults a b c one so_far last = record {
    made = replicate (faults + 1) (back_kind u);
    named = (1, one_part u faults one, refl);
    used = used_again model faults (back_kind u) a b c so_far last;
  }

  -- one more call of a restoring
  pub restored_more : (before now : RestoreProgress) (all : ℕ) (a b c : H) → IsStep before now all
      → Uses model (record { old = a; new = b }) (MovesBy Restore before.done before.faults)
      → IsUsed model (Restore ∷ []) (record { old = b; new = c })
      → Uses model (record { old = a; new = c }) (MovesBy Restore now.done now.faults)
  restored_more before now all a b c (inl (more, within, same)) so_far last =
      subst (λ n. Uses model (record { old = a; new = c }) (MovesBy Restore now.done n)) (sym same)
      (moves_more model Restore before.done before.faults now.done a b c more so_far last)
  restored_more before now all a b c (inr (same, more)) so_far last =
      subst (λ n. Uses model (record { old = a; new = c }) (MovesBy Restore now.done n)) (sym more)
      (subst (λ n. Uses model (record { old = a; new = c }) (MovesBy Restore n (before.faults + 1))) (sym same)
      (moves_none model Restore before.done before.faults a b c so_far last))
