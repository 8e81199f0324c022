-- Late calls that start what kept calls would have started the same blocks.
use Rattle.std.proofs.Common.{◌≡◌, ℕ, List, [], ◌∷◌, ◌++◌, map, refl, ap, ap₂}
use Rattle.std.specs.Prelude.{Option}
use Rattle.xc_data.specs.declared.call.Call.{Call}
use Rattle.xc_data.specs.declared.call.Call.TheVariants as call
use Rattle.xc_data.specs.declared.call.LateCall.{LateCall}
use Rattle.xc_data.specs.declared.call.LateEnd.{LateEnd}
use Rattle.xc_data.specs.declared.call.LateEnd.TheVariants as end
use Rattle.xc_model.specs.LateCalls.{started_late, started_with}
use Rattle.xc_data.specs.Calls.{thread_asked, thread_in}
use Rattle.xc_model.specs.Progress.{started_blocks, started_by_call}

started_one : (c : Call) (o : Option (List ℕ)) (e : LateEnd) → o ≡ thread_asked c → started_with o e ≡ started_by_call c e
started_one (call.XThreadCreate block slot) o end.Done same = ap (λ p. started_with p end.Done) same
started_one (call.XThreadCreate block slot) o (end.Full n) same = ap (λ p. started_with p (end.Full n)) same
started_one (call.XThreadCreate block slot) o end.Shut same = ap (λ p. started_with p end.Shut) same
started_one (call.XThreadCreate block slot) o end.NoName same = ap (λ p. started_with p end.NoName) same
started_one (call.XThreadCreate block slot) o end.NoScript same = ap (λ p. started_with p end.NoScript) same
started_one (call.XThreadCreate block slot) o (end.Fault n) same = ap (λ p. started_with p (end.Fault n)) same
started_one (call.XThreadCreate block slot) o (end.NoMemory n) same = ap (λ p. started_with p (end.NoMemory n)) same
started_one _ o e same = ap (λ p. started_with p e) same

-- the same blocks
pub started_same : (late : List LateCall) (kept : List Call) (ends : List LateEnd) → map thread_in late ≡ map thread_asked kept
    → started_late late ends ≡ started_blocks kept ends
started_same [] [] ends same = refl
started_same [] (c ∷ kept) ends same = cc same
started_same (d ∷ late) [] ends same = cc same
started_same (d ∷ late) (c ∷ kept) [] same = refl
started_same (d ∷ late) (c ∷ kept) (e ∷ ends) same =
    let one : thread_in d ≡ thread_asked c = cc same in
    let rest : map thread_in late ≡ map thread_asked kept = cc same in
    ap₂ (λ xs ys. xs ++ ys) (started_one c (thread_in d) e one) (started_same late kept ends rest)
