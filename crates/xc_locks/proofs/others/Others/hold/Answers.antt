use Rattle.std.proofs.Common.{◌≡◌, ℕ, Option, Some, List, [], rules, cond, unwrap_or, ap, ap₂, sym, ◌∙◌}
use Rattle.std.specs.Ordering.{nat_cmp}
use Rattle.std.specs.BTreeMap.{is_at}
use Rattle.std.specs.HashMap.Entry.{map_with_value}
use Rattle.xc_data.specs.declared.claim.Mode.{Mode}
use Rattle.xc_locks.specs.Rows.{mode_among, with_mode}
use Rattle.xc_locks.proofs.Modes.{on_err}
use Rattle.xc_locks.proofs.Rows.{held_in, or_nobody}
use Rattle.xc_locks.proofs.ByRow.{got, put_raised, put_same, row_of}
use Rattle.xc_locks.proofs.others.Others.hold.Goals as goal

pub returns-in_default-clause-absent : goal.returns-in_default-clause-absent
returns-in_default-clause-absent c =
    sym (got c.self.inside.rows.entries c.args.self.now c.self.view_is c.self.invariant c.args.object c.args.tx)
    ∙ ap (λ m. held_in m c.args.tx) c.in_default.ensures.absent

-- the holders that are there, or nobody
there : (holders : List (ℕ × Mode)) (row : Option (List (ℕ × Mode))) → holders ≡ unwrap_or row [] → (n : ℕ) → mode_among holders n ≡ held_in row n
there holders row is n = ap (λ m. mode_among m n) is ∙ or_nobody row n

pub returns-clause-ok : goal.returns-clause-ok
returns-clause-ok c =
    let new = c.hold.new.self in
    let are =
    there c.or_insert-holders.result.now (row_of c.self.inside.rows.entries c.args.object)
    (c.or_insert-holders.ensures.value ∙ ap₂ unwrap_or c.in-Ok.ensures.value c.nobody.ensures) in
    let written =
    put_raised c.self.inside.rows.entries (map_with_value c.in-Ok.row new).entries c.args.self.now c.self.view_is c.self.invariant
    (c.in-Ok.ensures.update.2 new) c.args.object (Some new) (c.in-Ok.ensures.update.0 new).0 c.args.tx c.args.mode
    (λ n. c.in_ok-hold.ensures.ok n ∙ ap₂ (λ x y. cond (is_at (nat_cmp c.args.tx) n) (Some (with_mode x c.args.mode)) y) (are c.args.tx) (are n)) in
    search (rules, written)

pub returns-in_err-hold-clause-err : goal.returns-in_err-hold-clause-err
returns-in_err-hold-clause-err c =
    let new = c.hold.new.self in
    let are =
    there c.or_insert-holders.result.now (row_of c.self.inside.rows.entries c.args.object)
    (c.or_insert-holders.ensures.value ∙ ap₂ unwrap_or c.in-Ok.ensures.value c.nobody.ensures) in
    let written =
    on_err c.from_residual.result
    (put_same c.self.inside.rows.entries (map_with_value c.in-Ok.row new).entries c.args.self.now c.self.view_is c.self.invariant
    (c.in-Ok.ensures.update.2 new) c.args.object (Some new) (c.in-Ok.ensures.update.0 new).0
    (λ n. ap (λ m. mode_among m n) c.in_err-hold.ensures.err ∙ are n)) in
    search (rules, written)

pub returns-in_err-hold-clause-absent : goal.returns-in_err-hold-clause-absent
returns-in_err-hold-clause-absent c =
    let are =
    there c.or_insert-holders.result.now (row_of c.self.inside.rows.entries c.args.object)
    (c.or_insert-holders.ensures.value ∙ ap₂ unwrap_or c.in-Ok.ensures.value c.nobody.ensures) in
    on_err c.from_residual.result
    (sym (got c.self.inside.rows.entries c.args.self.now c.self.view_is c.self.invariant c.args.object c.args.tx) ∙ sym (are c.args.tx)
    ∙ c.in_err-hold.ensures.absent)
