-- A struct of one pointer, and what is held there. Assumes `Logic`.
use Rattle.std.proofs.Common.{◌≡◌, ℕ, ◌&&◌, true, List, [], ◌∷◌, ◌++◌, refl, subst, lit<}
use lib.Dec.{T}
use seplogic.Ra.Ura.{Ura}
use mir.Syntax.{ty_ptr}
use mir.Val.{Val, vstruct, vcons, vnil, of_list, has_ty, WT}
use base.Logic.{ent, emp, id⊢, via, guard, guard_i, snd∗, never, never_e}
use base.Fraction.{full_share}
use mir.Raw.{raw as bare}
use base.Fml.{ftrue, fsep}
use types.Logic.{Logic, sem}
use types.Kit.{Item, Goal, Seq, ‵, given, ◌$◌, use1, learn, drop, fsplit, fpick, feq_l}
use denote.RattleType.{RattleType}
use contract.Monad.{fact_use}
use denote.Memory.{lone}
use denote.Builtin.{RawPtr}
use denote.Shadow.{makes_shadow}
use denote.Struct.Struct.{Struct}
use denote.RawPtr.{Ptr, block_ptr, null_ptr, ptr_val, lies_at, Testable}
use Rattle.std.proofs.GlobalToken.{dealloc_token-Testable}
use Rattle.std.specs.declared.alloc.Global.{Global}
use Rattle.std.specs.declared.option.Option.{Option}
use Rattle.std.specs.declared.option.Option.TheVariants.{None, Some}
pub use Rattle.core.proofs.alloc.Calls.{Goes-blank}
use Rattle.libc.specs.Heap.{chunk}
use Rattle.std.specs.Box.Ownership.{box_owns}
use Rattle.xc_handle.specs.Held.{held}

-- the struct's machine value
abbrev pub word : Ptr → Val
word p = vstruct (vcons (ptr_val p) vnil)

-- a pointer has its type
pub ptr_good : (p : Ptr) → T (has_ty ty_ptr (ptr_val p)) × WT (ptr_val p)
ptr_good (block_ptr b o) = (tt, tt)
ptr_good null_ptr = (tt, record { fits = lit< tt })

-- so has the struct's machine value
pub word_good : (p : Ptr) → T (has_ty ty_ptr (ptr_val p) && true) × WT (word p)
word_good (block_ptr b o) = (tt, (tt, tt))
word_good null_ptr = (tt, (record { fits = lit< tt }, tt))

-- the struct by its one field
abbrev pub One : RattleType
One = Struct (record { name = []; args = []; types = []; fields = RawPtr ∷ [] })

-- the field owns nothing, so it is made of nothing
pub one_made : {M : Type 1} {𝓤 : Ura M} (𝓛 : Logic 𝓤) (p : Ptr) → ent 𝓤 (emp 𝓤) (sem 𝓛 (One.own_val (p, tt) (word p ∷ [])))
one_made 𝓛 p = makes_shadow 𝓛 (One.own_val (p, tt) (word p ∷ [])) (λ vss. (tt, (tt, tt))) ((ptr_val p ∷ [], tt), (refl, (refl, tt)))

module _ (R : RattleType) {M : Type 1} {𝓤 : Ura M} {𝓛 : Logic 𝓤} {K : Type 0} {Γ : List (Item 𝓤)} {G : Goal 𝓤 𝓛.H} where
  -- the struct is its word, and what is held at its pointer
  pub single_out : K → (p : Ptr) (v : Option R.Denot) (vs : List Val) → (vs ≡ word p ∷ [] → Seq K 𝓛 (‵ (held R p v) ∷ Γ) G)
      → Seq K 𝓛 (‵ (fsep (One.own_val (p, tt) vs) (held R p v)) ∷ Γ) G
  single_out t p v vs k =
      fsplit t $ fpick t (λ vss. fsplit t $ feq_l t (λ ev. fsplit t $ feq_l t (λ ep. drop t $
      k (subst (λ (ps : List Val). vs ≡ vstruct (of_list (ps ++ [])) ∷ []) ep ev))))

  -- what is held at a pointer: nothing at null, or a value elsewhere
  pub either_held : K → (p : Ptr) (v : Option R.Denot)
      → (p ≡ null_ptr → v ≡ None → Seq K 𝓛 Γ G)
      → ((b o : ℕ) (x : R.Denot) → p ≡ block_ptr b o → v ≡ Some x → Seq K 𝓛 (‵ (box_owns chunk R (block_ptr b o) x) ∷ Γ) G)
      → Seq K 𝓛 (‵ (held R p v) ∷ Γ) G
  either_held t null_ptr None none one = drop t $ none refl refl
  either_held t null_ptr (Some x) none one = use1 𝓛 (given ⊥ (‵ ftrue)) (via 𝓤 (never 𝓤) (id⊢ 𝓤 _) (never_e 𝓤 _)) $ learn t (λ z. absurd z)
  either_held t (block_ptr b o) None none one = use1 𝓛 (given ⊥ (‵ ftrue)) (via 𝓤 (never 𝓤) (id⊢ 𝓤 _) (never_e 𝓤 _)) $ learn t (λ z. absurd z)
  either_held t (block_ptr b o) (Some x) none one = one b o x refl refl

-- the pointer to a block that may be freed may be compared with null
pub tested : {M : Type 1} {𝓤 : Ura M} (𝓛 : Logic 𝓤) (R : RattleType) (heap : Global) (p : Ptr) (x : R.Denot)
    → ent 𝓤 (sem 𝓛 (box_owns chunk R p x)) (guard 𝓤 (Testable p) (sem 𝓛 (box_owns chunk R p x)))
tested {𝓤 = 𝓤} 𝓛 R heap p x =
    fact_use 𝓤 (Testable p)
    (via 𝓤 _ (snd∗ 𝓤 (sem 𝓛 (lies_at R full_share p x)) (sem 𝓛 (chunk (bare (lone R.mir)) p))) (dealloc_token-Testable 𝓛 heap (bare (lone R.mir)) p))
    (guard_i 𝓤 (Testable p) (sem 𝓛 (box_owns chunk R p x)))
