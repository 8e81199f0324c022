-- Calls of a host that follow each other.
use Rattle.std.proofs.Common.{ℕ, zero, suc, ◌+◌, ◌<◌, List, [], ◌∷◌, ◌++◌, replicate, refl, sym, ◌∙◌, subst, arith, cond, ◌≡◌}
use Rattle.std.proofs.lemmas.List.{replicate_more}
use Rattle.std.proofs.lemmas.List.Sums.{sum_by-append}
use Rattle.xc_data.specs.Counts.{RisesBy}
use Rattle.xc_data.specs.declared.script.HostCallKind.{HostCallKind}
use Rattle.xc_host.specs.Cause.{IsCalled, counts_for, times}
use Rattle.xc_host.specs.Model.{HostModel, IsUsed}
use Rattle.xc_host.specs.Uses.{Uses, MovesBy}

-- a count that rose twice rose by the sum
pub rises_sum : (m n a b c : ℕ) → RisesBy m a b → RisesBy n b c → RisesBy (m + n) a c
rises_sum zero n a b c h k = subst (λ x. RisesBy x a c) (let e : n ≡ 0 + n = omega arith in e) (subst (λ x. RisesBy n x c) h k)
rises_sum (suc m) zero a b c h k = subst (λ x. RisesBy x a c) (let e : suc m ≡ suc m + 0 = omega arith in e) (k ∙ h)
rises_sum (suc m) (suc n) a b c h k =
    let all : RisesBy (suc (m + suc n)) a c = omega (arith, h, k) in
    subst (λ x. RisesBy x a c) (let e : suc (m + suc n) ≡ suc m + suc n = omega arith in e) all

-- calls, and others after them
pub called_then : (made more : List HostCallKind) (a b c : HostCallKind → ℕ) → IsCalled made a b → IsCalled more b c → IsCalled (made ++ more) a c
called_then made more a b c first then kind =
    subst (λ n. RisesBy n (a kind) (c kind)) (sym (sum_by-append (λ k. cond (counts_for kind k) 1 0) made more))
    (rises_sum (times kind made) (times kind more) (a kind) (b kind) (c kind) (first kind) (then kind))

module _ {H : Type 0} (model : HostModel H) where
  -- a host that wasn't called
  pub unused : (a : H) → IsUsed model [] (record { old = a; new = a })
  unused a = record { called = λ kind. refl; plan = refl }

  -- a host that was used once more
  pub used_then : (made more : List HostCallKind) (a b c : H) → IsUsed model made (record { old = a; new = b })
      → IsUsed model more (record { old = b; new = c }) → IsUsed model (made ++ more) (record { old = a; new = c })
  used_then made more a b c first then = record {
    called = called_then made more (model.calls a) (model.calls b) (model.calls c) first.called then.called;
    plan = then.plan ∙ first.plan;
  }

  -- one more call of the same kind
  pub used_again : (n : ℕ) (kind : HostCallKind) (a b c : H) → IsUsed model (replicate n kind) (record { old = a; new = b })
      → IsUsed model (kind ∷ []) (record { old = b; new = c }) → IsUsed model (replicate (n + 1) kind) (record { old = a; new = c })
  used_again n kind a b c first then =
      subst (λ made. IsUsed model made (record { old = a; new = c })) (replicate_more n kind)
      (used_then (replicate n kind) (kind ∷ []) a b c first then)

  -- one more call of a kind moved some bytes
  pub moves_more : (kind : HostCallKind) (done others now : ℕ) (a b c : H) → done < now → Uses model (record { old = a; new = b }) (MovesBy kind done others)
      → IsUsed model (kind ∷ []) (record { old = b; new = c }) → Uses model (record { old = a; new = c }) (MovesBy kind now others)
  moves_more kind done others now a b c more so_far last =
      let (count, moved, is) = so_far.named in
      record {
        made = replicate (others + (count + 1)) kind;
        named = (count + 1, record { most = omega (arith, moved.most, more); least = λ some. omega arith }, refl);
        used = subst (λ n. IsUsed model (replicate n kind) (record { old = a; new = c }))
            (let e : others + count + 1 ≡ others + (count + 1) = omega arith in e)
            (used_again (others + count) kind a b c (subst (λ made. IsUsed model made (record { old = a; new = b })) is so_far.used) last);
      }

  -- one more call of a kind moved none
  pub moves_none : (kind : HostCallKind) (done others : ℕ) (a b c : H) → Uses model (record { old = a; new = b }) (MovesBy kind done others)
      → IsUsed model (kind ∷ []) (record { old = b; new = c }) → Uses model (record { old = a; new = c }) (MovesBy kind done (others + 1))
  moves_none kind done others a b c so_far last =
      let (count, moved, is) = so_far.named in
      record {
        made = replicate (others + 1 + count) kind;
        named = (count, moved, refl);
        used = subst (λ n. IsUsed model (replicate n kind) (record { old = a; new = c }))
            (let e : others + count + 1 ≡ others + 1 + count = omega arith in e)
            (used_again (others + count) kind a b c (subst (λ made. IsUsed model made (record { old = a; new = b })) is so_far.used) last);
      }
