-- The record at which a way back got stuck.
use Rattle.std.proofs.Common.{◌≡◌, ℕ, suc, ◌+◌, ◌-◌, ◌<◌, ◌≤◌, Bool, true, List, [], ◌∷◌, ◌++◌, length, get_or, take, drop, refl, ap, sym, ◌∙◌, subst, arith}
use Rattle.std.proofs.Common.{length-take}
use Rattle.std.specs.Bool.{Decides}
use Rattle.std.specs.Prelude.{All, Option}
use Rattle.std.proofs.lemmas.List.{take-append-drop}
use Rattle.std.proofs.lemmas.List.Elements.{All-cons, All-head, All-tail}
use Rattle.xc_data.specs.declared.entry.Cause.{Cause}
use Rattle.xc_data.specs.declared.entry.Cause.TheVariants as cause
use Rattle.xc_data.specs.declared.undo.Undo.{Undo}
use Rattle.xc_data.specs.declared.undo.UndoEnd.TheVariants.{Undone, Failed, Blocked}
use Rattle.xc_world.specs.Ends.{Ending, is_undone}
use Rattle.xc_machine.proofs.Laws.{left-cons}
use Rattle.xc_model.specs.Recorded.{IsNewestFailed, IsStuckIn}
use Rattle.xc_judge.specs.Ran.{has_failed}
use Rattle.xc_judge.specs.Traced.{ends_of}

-- all of these records are undone
abbrev pub AreUndone : List Ending → Type 0
AreUndone records = All (λ (e : Ending). is_undone e.1 ≡ true) records

-- what stands behind a record
drop_past : (older : List Ending) (r : Ending) (newer : List Ending) → drop (suc (length older)) (older ++ r ∷ newer) ≡ newer
drop_past [] r newer = refl
drop_past (o ∷ older) r newer = drop_past older r newer

-- so those behind it are undone
newest_undone : (failed : ℕ) (records : List Ending) → IsNewestFailed failed 1 records → AreUndone (drop failed records)
newest_undone failed records so =
    let at = so.at in
    let place : failed ≡ suc (length so.older) = omega (arith, at) in
    subst AreUndone
    (sym (ap (λ k. drop k records) place ∙ ap (drop (suc (length so.older))) so.parts ∙ drop_past so.older (so.stuck, Failed so.done so.faults) so.newer))
    so.undone

-- and where they are undone, it is the newest that failed
newest_there : (failed : ℕ) (records : List Ending) (r : Ending) → 1 ≤ failed → failed ≤ length records → r ≡ get_or records (failed - 1) r
    → has_failed r.1 ≡ true → AreUndone (drop failed records) → IsNewestFailed failed 1 records
newest_there failed records (u, Undone faults) low high is stuck undone = cc stuck
newest_there failed records (u, Blocked by) low high is stuck undone = cc stuck
newest_there failed records (u, Failed done faults) low high is stuck undone =
    let k : ℕ = failed - 1 in
    let inside : k < length records = omega (arith, low, high) in
    let next : k + 1 ≡ failed = omega (arith, low) in
    let size = length-take k records in
    record {
      older = take k records;
      stuck = u;
      done = done;
      faults = faults;
      newer = drop failed records;
      at = omega (arith, low, high, size);
      parts =
          sym (take-append-drop k records)
          ∙ ap (λ rs. take k records ++ rs)
          (left-cons records k (u, Failed done faults) inside is ∙ ap (λ n. (u, Failed done faults) ∷ drop n records) next);
      undone = undone;
    }

-- where the record of this number failed, those behind it decide
pub newest_decides : (failed : ℕ) (records : List Ending) (r : Ending) (b : Bool) → 1 ≤ failed → failed ≤ length records
    → r ≡ get_or records (failed - 1) r → has_failed r.1 ≡ true → Decides b (AreUndone (drop failed records))
    → Decides b (IsNewestFailed failed 1 records)
newest_decides failed records r b low high is stuck so =
    (λ e. newest_there failed records r low high is stuck (so.0 e), λ there. so.1 (newest_undone failed records there))

-- ---- other records that ended so
-- they are undone too
undone_alike : (xs ys : List Ending) → ends_of xs ≡ ends_of ys → AreUndone xs → AreUndone ys
undone_alike [] [] same all = all
undone_alike [] (y ∷ ys) same all = cc same
undone_alike (x ∷ xs) [] same all = cc same
undone_alike ((u, e) ∷ xs) ((v, f) ∷ ys) same all =
    let end : e ≡ f = cc same in
    let rest : ends_of xs ≡ ends_of ys = cc same in
    let P : Ending → Type 0 = λ (r : Ending). is_undone r.1 ≡ true in
    All-cons P (v, f) ys (ap is_undone (sym end) ∙ All-head P (u, e) xs all) (undone_alike xs ys rest (All-tail P (u, e) xs all))

-- and the one behind so many of them failed as the newest
newest_behind : (older : List Ending) (u : Undo) (done faults : ℕ) (newer ys : List Ending) (failed from : ℕ)
    → ends_of (older ++ (u, Failed done faults) ∷ newer) ≡ ends_of ys → AreUndone newer → failed ≡ from + length older
    → IsNewestFailed failed from ys
newest_behind [] u done faults newer [] failed from same undone at = cc same
newest_behind [] u done faults newer ((v, f) ∷ ys) failed from same undone at =
    let end : f ≡ Failed done faults = cc same in
    let rest : ends_of newer ≡ ends_of ys = cc same in
    record {
      older = [];
      stuck = v;
      done = done;
      faults = faults;
      newer = ys;
      at = at;
      parts = ap (λ e. (v, e) ∷ ys) end;
      undone = undone_alike newer ys rest undone;
    }
newest_behind (o ∷ older) u done faults newer [] failed from same undone at = cc same
newest_behind (o ∷ older) u done faults newer (y ∷ ys) failed from same undone at =
    let rest : ends_of (older ++ (u, Failed done faults) ∷ newer) ≡ ends_of ys = cc same in
    let so = newest_behind older u done faults newer ys failed (from + 1) rest undone (omega (arith, at)) in
    record {
      older = y ∷ so.older;
      stuck = so.stuck;
      done = so.done;
      faults = so.faults;
      newer = so.newer;
      at = omega (arith, so.at);
      parts = ap (λ l. y ∷ l) so.parts;
      undone = so.undone;
    }

-- so a way back got stuck among them at the same number
pub stuck_alike : (k : Option ℕ) (c : Cause) (xs ys : List Ending) → ends_of xs ≡ ends_of ys → IsStuckIn k 1 xs c → IsStuckIn k 1 ys c
stuck_alike k (cause.Stuck failed) xs ys same so =
    let at = so.1 in
    let cut : ends_of (at.older ++ (at.stuck, Failed at.done at.faults) ∷ at.newer) ≡ ends_of ys = sym (ap ends_of at.parts) ∙ same in
    (so.0, newest_behind at.older at.stuck at.done at.faults at.newer ys failed 1 cut at.undone at.at)
stuck_alike k cause.Asked xs ys same so = tt
stuck_alike k cause.NoMemory xs ys same so = tt
stuck_alike k (cause.Conflict object holder at) xs ys same so = tt
stuck_alike k (cause.Revoked object by at) xs ys same so = tt
