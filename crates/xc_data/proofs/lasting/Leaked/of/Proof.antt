-- `of` keeps what the `&'static` holds, beside its pointer. Assumes `Logic`.
use mathlib.Core.Path.{◌≡◌, refl}
use mathlib.Core.List.{[], ◌∷◌}
use mir.Syntax.{a_type, static}
use mir.Val.{Val, vptr}
use mir.MapTy.{inst_fn}
use base.Logic.{SProp, emp}
use contract.Running.{tables}
use contract.Monad.{fact, fact_i}
use types.Kit.{‵, raw, ◌⊛◌, ◌$◌, ◌∵◌, !, qed, by, keep, use0, use1, split, fsplit, fjoin}
use types.Run.{stop, addr, no_more, and_then, returns, enter}
use types.ByLocal.{alloc_all, pass_all, free_all, look_at, get, through, sets}
use types.Part.{agg}
use denote.Builtin.{RefOf}
use denote.Exit.{yes}
use denote.Param.{param, layouts}
use denote.RattleType.{RattleType, owns}
use denote.RawPtr.{block_ptr}
use denote.Ref.{shr_vals, shr_Tells}
use denote.Signature.{types_at, plain}
use denote.Steps.{nothing}
use denote.Triple.Entry.{alive}
use denote.Triple.Walked.{Stays, stay_dropped, walk_of, Goes-dropped}
use Rattle.std.proofs.raw_atomic.Walks.{proved, leaves}
use Rattle.xc_data.specs.contracts.lasting.Leaked as Leaked
use Rattle.xc_data.specs.contracts.lasting.Leaked.of.{ended, clauses}
use Rattle.xc_data.specs.contracts.lasting.Leaked.of.Key.{name as #self}
use Rattle.xc_data.proofs.Forever.{lasting_val, lasting_made}
use Rattle.xc_data.proofs.lasting.Leaked.of.Statement.{statement}
use Rattle.xc_data.proofs.lasting.Leaked.of.Code as code

pub of_spec : {M : Type 1} → statement M
of_spec 𝓤 𝓛 𝓜 𝓡 wired T L =
    let H = 𝓛.H in let 𝓣 = tables 𝓤 H 𝓜 𝓡 𝓡.env in let R : RattleType = param 0 T in let En = ended T in let S : RattleType = Leaked.the_row R in
    let inst = layouts (a_type ∷ []) (T, tt) in let fn = inst_fn inst code.function in let c = clauses T 𝓛 𝓜.mem 𝓡.returns in
    let value = RefOf [] tt (plain (λ _. R)) (λ _. tt) in let hs : Stays En.signature.params En.kept = (stay_dropped value yes, tt) in
    proved 𝓛 En hs c 𝓜 𝓡 (Goes-dropped 𝓛 1 value yes (λ κs x f. refl), tt) (#self inst) fn (code.unfolded 𝓤 H 𝓜 𝓡 wired (T, tt))
    (λ κs. (shr_vals, tt)) (λ κs. (shr_Tells static [] R, tt)) (λ κs qs bounds a gh are.
    let b = a.0.ref_ptr.0 in let o = a.0.ref_ptr.1 in let p : Val = vptr b o in let x : T.Denot = a.0.now in
    let r : S.Denot = record { at = block_ptr b o; value = x } in
    let y : (walk_of 𝓛 En hs c).Ghost = ((κs, qs, bounds, a, (p ∷ [], tt)), gh) in let Post : Val → SProp 𝓤 = (walk_of 𝓛 En hs c).post y in
    qed 𝓛 ((raw (alive 𝓛 En.signature κs qs) ⊛ ‵ (owns (types_at En.signature.params κs) a y.0.4)) ∷ raw ((c κs a).requires gh) ∷ []) ∵ split ! $
    keep ! (1 ∷ 0 ∷ []) $
    fsplit ! $ fsplit ! $ keep ! (1 ∷ 3 ∷ []) $ use1 𝓛 (‵ (S.own_val r (lasting_val b o ∷ []))) (lasting_made R 𝓛 x b o) $
    -- [the result; the tokens]
    enter ! 𝓣.C 𝓣.Λ fn (p ∷ []) Post $ alloc_all ! (λ l. pass_all ! refl ((tt, tt), tt) $
    sets ! (addr ! (through ! refl (stop !))) refl (tt, tt) $ sets ! (agg ! (and_then ! (get ! refl) (no_more !))) refl (tt, (tt, tt)) $
    use0 𝓛 (raw (fact 𝓤 (x ≡ x))) (fact_i 𝓤 (x ≡ x) (emp 𝓤) refl) $ nothing ! $ nothing ! $ fjoin ! $
    returns ! (look_at ! 0 refl) $ free_all ! refl $ keep ! (3 ∷ 0 ∷ 2 ∷ 1 ∷ []) $ by ! (leaves 𝓛 En hs c y (lasting_val b o) r (tt, tt) (tt, tt))))
