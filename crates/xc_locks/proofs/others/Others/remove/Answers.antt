use Rattle.std.proofs.Common.{rules, Some, None, IsSome, refl, ap, sym, ◌∙◌, subst}
use Rattle.xc_locks.specs.Keys.{holder_of}
use Rattle.xc_locks.specs.Hashed.{others_of}
use Rattle.xc_locks.proofs.Orders.{holder_total, holder_exact}
use Rattle.xc_locks.proofs.Rows.{held_in, removed_absent}
use Rattle.xc_locks.proofs.ByRow.{got, lacks, put_same, taken}
use Rattle.xc_locks.proofs.others.Others.remove.Goals as goal

pub returns-in_err-holders-clause-value : goal.returns-in_err-holders-clause-value
returns-in_err-holders-clause-value c =
    c.from_residual.ensures
    ∙ sym (lacks c.self.inside.rows.entries c.args.self.now c.self.view_is c.self.invariant c.args.object c.in_err-holders.ensures.value c.args.tx)

pub returns-in_err-holders-clause-removed : goal.returns-in_err-holders-clause-removed
returns-in_err-holders-clause-removed c =
    ap (λ m. others_of m.entries) c.get_mut.follows.holds-at-none ∙ c.self.view_is
    ∙ sym (removed_absent holder_total holder_exact c.args.self.now (holder_of c.args.object c.args.tx)
    (lacks c.self.inside.rows.entries c.args.self.now c.self.view_is c.self.invariant c.args.object c.in_err-holders.ensures.value c.args.tx))

pub returns-then-row_goes-clause-value : goal.returns-then-row_goes-clause-value
returns-then-row_goes-clause-value c =
    c.remove-mode.ensures.value ∙ ap (λ m. held_in m c.args.tx) c.in_ok-holders.ensures.value
    ∙ got c.self.inside.rows.entries c.args.self.now c.self.view_is c.self.invariant c.args.object c.args.tx

-- a row that nobody is left in goes, which isn't seen
pub returns-then-row_goes-clause-removed : goal.returns-then-row_goes-clause-removed
returns-then-row_goes-clause-removed c =
    let rows = (c.get_mut.follows.lender c.remove-mode.new.self).entries in
    let wrote = c.get_mut.follows.holds c.remove-mode.new.self in
    let row = wrote.3 (subst IsSome c.in_ok-holders.ensures.value refl) in
    let without = taken c.self.inside.rows.entries rows c.args.self.now c.self.view_is c.self.invariant wrote.4 c.args.object (Some c.remove-mode.new.self)
    row.0 c.args.tx c.in_ok-holders.holders.now c.in_ok-holders.ensures.value c.remove-mode.ensures.removed in
    let gone = put_same rows c.remove.new.self.entries _ without wrote.4 c.remove.ensures.unique c.args.object None c.remove.ensures.updates.0
    (λ n. ap (λ es. held_in (Some es) n) (sym (c.row_goes.ensures c.if-row_goes.true)) ∙ ap (λ m. held_in m n) (sym row.1)) in
    search (rules, gone)

pub returns-else-row_goes-clause-value : goal.returns-else-row_goes-clause-value
returns-else-row_goes-clause-value c =
    c.remove-mode.ensures.value ∙ ap (λ m. held_in m c.args.tx) c.in_ok-holders.ensures.value
    ∙ got c.self.inside.rows.entries c.args.self.now c.self.view_is c.self.invariant c.args.object c.args.tx

pub returns-else-row_goes-clause-removed : goal.returns-else-row_goes-clause-removed
returns-else-row_goes-clause-removed c =
    let wrote = c.get_mut.follows.holds c.remove-mode.new.self in
    taken c.self.inside.rows.entries (c.get_mut.follows.lender c.remove-mode.new.self).entries c.args.self.now c.self.view_is c.self.invariant wrote.4
    c.args.object (Some c.remove-mode.new.self) (wrote.3 (subst IsSome c.in_ok-holders.ensures.value refl)).0 c.args.tx
    c.in_ok-holders.holders.now c.in_ok-holders.ensures.value c.remove-mode.ensures.removed
