use Rattle.std.proofs.Common.{◌≡◌, ℕ, Option, Some, OnOk, IfErr, rules, cond, unwrap_or, ap, ap₂, sym, subst, ◌∙◌}
use Rattle.std.specs.Ordering.{nat_cmp}
use Rattle.std.specs.BTreeMap.{is_at}
use Rattle.std.specs.FinMap as map
use Rattle.std.specs.HashMap.Entry.{map_with_value}
use Rattle.std.proofs.lemmas.Result.{IfOk-weaker, on_ok_weaker, on_err_weaker}
use Rattle.xc_data.specs.declared.claim.Mode.{Mode}
use Rattle.xc_locks.specs.Keys.{holder_of}
use Rattle.xc_locks.specs.Others.{MayHold, IsReason}
use Rattle.xc_locks.specs.Rows.{mode_among, with_mode}
use Rattle.xc_locks.proofs.Rows.{held_in, or_nobody}
use Rattle.xc_locks.proofs.ByRow.{got, lacks, put_raised, put_same, row_of}
use Rattle.xc_locks.proofs.Free.{same_modes, free_none}
use Rattle.xc_locks.proofs.others.Others.claim.Goals as goal

pub returns-in_default-clause-reason : goal.returns-in_default-clause-reason
returns-in_default-clause-reason c =
    free_none (λ n. map.get c.args.self.now (holder_of c.args.object n)) c.args.tx c.args.mode
    (lacks c.self.inside.rows.entries c.args.self.now c.self.view_is c.self.invariant c.args.object (sym c.in_default.ensures.absent))

-- the holders that are there, or nobody
there : (c : goal.After-self-3-1) (n : ℕ) → mode_among c.or_insert-holders.result.now n ≡ held_in (row_of c.self.inside.rows.entries c.args.object) n
there c n =
    ap (λ m. mode_among m n) (c.or_insert-holders.ensures.value ∙ ap₂ unwrap_or c.in-Ok.ensures.value c.nobody.ensures)
    ∙ or_nobody (row_of c.self.inside.rows.entries c.args.object) n

-- their modes are those that the object's holders are seen with
seen : (c : goal.After-self-3-1) → mode_among c.or_insert-holders.result.now ≡ (λ n. map.get c.args.self.now (holder_of c.args.object n))
seen c =
    same_modes (mode_among c.or_insert-holders.result.now) (λ n. map.get c.args.self.now (holder_of c.args.object n))
    (λ n. there c n ∙ got c.self.inside.rows.entries c.args.self.now c.self.view_is c.self.invariant c.args.object n)

pub returns-clause-was : goal.returns-clause-was
returns-clause-was c =
    IfOk-weaker c.claim.result (λ was. was ≡ mode_among c.or_insert-holders.result.now c.args.tx)
    (λ was. was ≡ map.get c.args.self.now (holder_of c.args.object c.args.tx))
    (λ was is. is ∙ ap (λ (modes : ℕ → Option Mode). modes c.args.tx) (seen c))
    c.claim.ensures.was

pub returns-clause-free : goal.returns-clause-free
returns-clause-free c = subst (λ (modes : ℕ → Option Mode). OnOk c.claim.result (MayHold modes c.args.tx c.args.mode)) (seen c) c.claim.ensures.free

pub returns-clause-ok : goal.returns-clause-ok
returns-clause-ok c =
    let new = c.claim.new.self in
    let written =
    on_ok_weaker c.claim.result
    (λ is. put_raised c.self.inside.rows.entries (map_with_value c.in-Ok.row new).entries c.args.self.now c.self.view_is c.self.invariant
    (c.in-Ok.ensures.update.2 new) c.args.object (Some new) (c.in-Ok.ensures.update.0 new).0 c.args.tx c.args.mode
    (λ n. is n ∙ ap₂ (λ x y. cond (is_at (nat_cmp c.args.tx) n) (Some (with_mode x c.args.mode)) y) (there c c.args.tx) (there c n)))
    c.claim.ensures.ok in
    search (rules, written)

pub returns-clause-err : goal.returns-clause-err
returns-clause-err c =
    let new = c.claim.new.self in
    let written =
    on_err_weaker c.claim.result
    (λ same. put_same c.self.inside.rows.entries (map_with_value c.in-Ok.row new).entries c.args.self.now c.self.view_is c.self.invariant
    (c.in-Ok.ensures.update.2 new) c.args.object (Some new) (c.in-Ok.ensures.update.0 new).0 (λ n. ap (λ m. mode_among m n) same ∙ there c n))
    c.claim.ensures.err in
    search (rules, written)

pub returns-clause-reason : goal.returns-clause-reason
returns-clause-reason c = subst (λ (modes : ℕ → Option Mode). IfErr c.claim.result (IsReason modes c.args.tx c.args.mode)) (seen c) c.claim.ensures.reason
