-- Which takes a read made.
use Rattle.std.proofs.Common.{◌≡◌, ℕ, zero, suc, ◌+◌, ◌<◌, ◌≤◌, Ok, Err, List, [], ◌∷◌, length, replicate, refl, ap, sym, subst, arith}
use Rattle.std.proofs.Math.Dec.{eqb-suc-zero}
use Rattle.std.specs.Prelude.{Bool, Result, if◌then◌else◌}
use Rattle.xc_data.specs.declared.script.HostCallKind.{HostCallKind}
use Rattle.xc_data.specs.declared.script.HostCallKind.TheVariants.{Take}
use Rattle.xc_host.specs.Model.{HostModel, IsUsed}
use Rattle.xc_host.specs.Uses.{Uses}
use Rattle.xc_host.specs.declared.errors.HostErr.{HostErr}
use Rattle.xc_host.specs.declared.errors.HostErr.TheVariants as host_err
use Rattle.xc_host.specs.declared.pipes.Took.{Took}
use Rattle.xc_host.specs.declared.pipes.Took.TheVariants as took
use Rattle.xc_host.proofs.Laws.{used_again}
use Rattle.xc_pipe.specs.Reading.{TakenBy, TakesUntil, found_of}

-- takes that each took some, after a front of this length
abbrev pub TakesSome : ℕ → ℕ → List HostCallKind → Type 0
TakesSome front now made = (count : ℕ) × (count + front ≤ now) × (made ≡ replicate count Take)

-- some bytes were found
pub found_some : (x : ℕ) (bytes : List ℕ) (none : Took) → found_of (x ∷ bytes) none ≡ took.Bytes (x ∷ bytes)
found_some x bytes none = ap (λ (e : Bool). if e then none else took.Bytes (x ∷ bytes)) (eqb-suc-zero (length bytes))

module _ {H : Type 0} (model : HostModel H) where
  once_more : (front now : ℕ) (a b c : H) (so_far : Uses model (record { old = a; new = b }) (TakesSome front now))
      → IsUsed model (Take ∷ []) (record { old = b; new = c })
      → IsUsed model (replicate (so_far.named.0 + 1) Take) (record { old = a; new = c })
  once_more front now a b c so_far last =
      used_again model so_far.named.0 Take a b c (subst (λ made. IsUsed model made (record { old = a; new = b })) so_far.named.2 so_far.used) last

  -- one more took some
  pub takes_more : (front now next : ℕ) (a b c : H) → now < next → Uses model (record { old = a; new = b }) (TakesSome front now)
      → IsUsed model (Take ∷ []) (record { old = b; new = c }) → Uses model (record { old = a; new = c }) (TakesSome front next)
  takes_more front now next a b c more so_far last = record {
    made = replicate (so_far.named.0 + 1) Take;
    named = (so_far.named.0 + 1, omega (arith, so_far.named.1, more), refl);
    used = once_more front now a b c so_far last;
  }

  -- the last one failed, or memory ran out after it
  pub takes_fail : (n front now : ℕ) (e : HostErr) (a b c : H) → now < n → Uses model (record { old = a; new = b }) (TakesSome front now)
      → IsUsed model (Take ∷ []) (record { old = b; new = c }) → Uses model (record { old = a; new = c }) (TakesUntil n front (Err e))
  takes_fail n front now e a b c less so_far last = record {
    made = replicate (so_far.named.0 + 1) Take;
    named = (so_far.named.0 + 1, omega arith, omega (arith, so_far.named.1, less), refl);
    used = once_more front now a b c so_far last;
  }

  -- the last one took none
  pub takes_end : (n front : ℕ) (bytes : List ℕ) (none : Took) (a b c : H) → TakesUntil n front (Ok none) (Take ∷ []) → length bytes < n
      → Uses model (record { old = a; new = b }) (TakesSome front (length bytes)) → IsUsed model (Take ∷ []) (record { old = b; new = c })
      → Uses model (record { old = a; new = c }) (TakesUntil n front (Ok (found_of bytes none)))
  takes_end n front [] none a b c is less so_far last =
      record { made = Take ∷ []; named = is; used = none_before so_far.named.0 so_far.named.1 (once_more front 0 a b c so_far last) }
    where
      none_before : (count : ℕ) → count + front ≤ 0 → IsUsed model (replicate (count + 1) Take) (record { old = a; new = c })
          → IsUsed model (Take ∷ []) (record { old = a; new = c })
      none_before zero le used = used
      none_before (suc count) le used = absurd (omega (arith, le))
  takes_end n front (x ∷ bytes) none a b c is less so_far last =
      subst (λ found. Uses model (record { old = a; new = c }) (TakesUntil n front (Ok found))) (sym (found_some x bytes none))
      (record {
        made = replicate (so_far.named.0 + 1) Take;
        named = (so_far.named.0 + 1, omega (arith, so_far.named.1), omega (arith, so_far.named.1, less), λ l. omega arith, refl);
        used = once_more front (length (x ∷ bytes)) a b c so_far last;
      })

  -- those of a read, whether kept bytes were before or not
  pub takes_all : (n front : ℕ) (result : Result Took HostErr) (a b : H) → front ≤ n → Uses model (record { old = a; new = b }) (TakesUntil n front result)
      → Uses model (record { old = a; new = b }) (TakenBy n result)
  takes_all n front (Ok (took.Bytes bytes)) a b le u =
      let (count, few, within, least, is) = u.named in
      record { made = u.made; named = (count, (omega (arith, within), omega (arith, few), least), is); used = u.used }
  takes_all n front (Ok took.Empty) a b le u = u
  takes_all n front (Ok took.End) a b le u = u
  takes_all n front (Err host_err.Fault) a b le u =
      let (count, some, within, is) = u.named in
      record { made = u.made; named = (count, record { most = omega (arith, within); least = λ l. some }, is); used = u.used }
  takes_all n front (Err host_err.NoMemory) a b le u =
      let (count, some, within, is) = u.named in
      record { made = u.made; named = (count, omega (arith, within), is); used = u.used }
