-- What is lent for as long as the program runs can be had twice, and so a `&` to a `Leaked` holds it too. Assumes `Logic`.
use mathlib.Core.Path.{refl}
use Prim.Native.Nat.{ℕ}
use mathlib.Core.List.{List, [], ◌∷◌}
use seplogic.Ra.Ura.{Ura}
use base.Logic.{ent, sep, wand, apply∗}
use base.Fml.{Lft, Fml, ftrue, fbor}
use types.Logic.{Logic, sem, lfts}
use types.Kit.{‵, raw, ◌⊛◌, later, ◌$◌, ◌∵◌, !, qed, move, drop, use1, use2, split, fjoin, fpack, feq_i, await, updating, now, done}
use mir.Val.{Val, vptr, vstruct, vcons, vnil}
use denote.RattleType.{RattleType, Valss}
use denote.Memory.{hidden_shr}
use denote.Opens.{unhide}
use denote.Steps.{nothing}
use denote.RawPtr.{Ptr, RawPtr, block_ptr, null_ptr, block_of, count_of, in_block}
use denote.Exit.{Exit, unchanged, leaves, hidden, under}
use base.Shift.{Keyless}
use denote.Param.Laws.{Laws}
use denote.Param.Send.{IsSend, IsSync, Quiet, Common, AllSend, owning_send, struct_send, struct_sync, sendable}
use denote.Sharing.{ShrLaws, said}
use denote.SharingLaws.{contraction, held_shr_laws}
use denote.Struct.Lending.{Lends, lent_at, lent_at_shr_laws}
use denote.Struct.Struct.{within, exits_of}
use denote.Struct.Owning.{shape, fields, to}
use Rattle.xc_data.specs.contracts.lasting.Leaked.{the_row, the_type}

-- the value x lies at p, lent for the lifetime of no name, which never ends
abbrev forever : (T : RattleType) → Ptr → T.Denot → Fml
forever T p x = lent_at T p x []

-- what can be had twice is taken out of a borrow of it
lends_twice : {M : Type 1} {𝓤 : Ura M} (𝓛 : Logic 𝓤) (P : Fml) → ent 𝓤 (sem 𝓛 P) (sep 𝓤 (sem 𝓛 P) (sem 𝓛 P)) → (l : Lft) → Lends 𝓛 P (said P) l
lends_twice {𝓤 = 𝓤} 𝓛 P twice l κ ts inc sp = let Back = 𝓛.H.⇛ (sep 𝓤 (𝓛.A.bor κ P) (lfts 𝓛 ts)) in
    qed 𝓛 (‵ (fbor κ P) ∷ raw (lfts 𝓛 ts) ∷ []) ∵ updating ! $ use2 𝓛 (later (‵ P ⊛ raw (wand 𝓤 (sem 𝓛 P) Back))) (𝓛.more.bor_acc_by κ ts P sp) $
    await ! tt $ split ! $ use1 𝓛 (‵ P ⊛ ‵ P) twice $ split ! $ move ! (0 ∷ 2 ∷ []) $
    use2 𝓛 (later (‵ (fbor κ P) ⊛ raw (lfts 𝓛 ts))) (apply∗ 𝓤 (sem 𝓛 P) Back) $ await ! tt $ split ! $ drop ! $ move ! (1 ∷ 0 ∷ []) $ now ! $ done !

module _ (T : RattleType) (L : Laws T) (p : Ptr) (x : T.Denot) where
  pub forever_laws : ShrLaws (said (forever T p x))
  forever_laws = held_shr_laws [] (lent_at T p x) (lent_at_shr_laws T L.shr_laws p x)

  pub Lends-forever : {M : Type 1} {𝓤 : Ura M} (𝓛 : Logic 𝓤) (l : Lft) → Lends 𝓛 (forever T p x) (said (forever T p x)) l
  Lends-forever 𝓛 = lends_twice 𝓛 (forever T p x) (contraction 𝓛 (said (forever T p x)) forever_laws [])

-- the machine value of a `Leaked` of the value at (b, o)
abbrev pub lasting_val : ℕ → ℕ → Val
lasting_val b o = vstruct (vcons (vptr b o) vnil)

-- what a `&'static` holds makes a `Leaked`
pub lasting_made : (T : RattleType) {M : Type 1} {𝓤 : Ura M} (𝓛 : Logic 𝓤) (x : T.Denot) (b o : ℕ)
    → ent 𝓤 (sem 𝓛 (hidden_shr T [] x b o)) (sem 𝓛 ((the_row T).own_val (record { at = block_ptr b o; value = x }) (lasting_val b o ∷ [])))
lasting_made T 𝓛 x b o = qed 𝓛 (‵ (hidden_shr T [] x b o) ∷ []) ∵ unhide ! $ nothing ! $ fjoin ! $
    nothing ! $ feq_i ! (List Val) (vptr b o ∷ []) (vptr b o ∷ []) refl $ fjoin ! $
    feq_i ! (List Val) (lasting_val b o ∷ []) (lasting_val b o ∷ []) refl $ fjoin ! $
    fpack ! (Valss (RawPtr ∷ [])) (within (shape (the_type T)) (block_ptr b o, tt) (lasting_val b o ∷ [])) (vptr b o ∷ [], tt) $ fjoin ! $ done !

-- A `Leaked` only reads its value, so it may cross threads where the value may be read in any.
quiet : {D X : Type 0} (to : D → X) (e : Exit X) → Quiet e → Quiet (hidden (under to e))
quiet to unchanged q = λ x w. tt
quiet to (leaves L l S s r₀) q = λ d. q (to d)

inside : (p : Ptr) → Keyless (in_block p ftrue)
inside (block_ptr b o) = tt
inside null_ptr = tt

module _ (T : RattleType) (y : IsSync T) where
  seen : (p : Ptr) (x : T.Denot) → Common (said (forever T p x))
  seen p x κ = (inside p, y.shared x (block_of p) (count_of p) [])

  pub lasting_send : IsSend (the_row T)
  lasting_send =
      let O = the_type T in let all : AllSend (fields O) = (search sendable, tt) in
      owning_send O all (λ k. seen k.at k.value []) (λ k. quiet (to O) (exits_of k (fields O)) ((struct_send (shape O) all).leaving k))

  pub lasting_sync : IsSync (the_row T)
  lasting_sync = let O = the_type T in record { shared = λ k b o κ. ((struct_sync (shape O) (search sendable, tt)).shared (to O k) b o κ, seen k.at k.value κ) }
