use Rattle.std.proofs.Common.{rules, ◌≡◌, ◌∙◌, Some, length, drop, ap}
use Rattle.xc_txmem.proofs.Saved.{saved_now, all_saved, copy_agrees, writes_of}
use Rattle.xc_txmem.proofs.writes.WriteSet.save.Goals as goal

all : (c : goal.Joined-self) → c.len.result ≡ length c.self.inside.stores.items
all c = search rules

pub invariant_of-self : goal.invariant_of-self
invariant_of-self c =
    let stores = c.self.inside.stores.items in (
      c.self.invariant.0,
      saved_now (record { count = c.len.result; newest = c.in_ok-newest.newest }) stores (all c)
          (copy_agrees c.self.inside.newest c.in_ok-newest.newest (drop 8 stores) c.in_ok-newest.ensures.cases c.self.invariant.0),
    )

pub returns-clause-ok : goal.returns-clause-ok
returns-clause-ok c =
    let stores = c.self.inside.stores.items in
    ap (writes_of stores) (all_saved (record { count = c.len.result; newest = c.in_ok-newest.newest }) stores (all c))
    ∙ ap (λ v. writes_of v.stores (Some v.stores)) c.self.view_is
