use Rattle.std.proofs.Common.{◌≡◌, ◌∙◌, Some, None, drop, ap, sym, subst}
use Rattle.std.specs.Prelude.{unwrap_or}
use Rattle.xc_txmem.specs.Overlay.{IsNewest}
use Rattle.xc_txmem.specs.Saves.{saved_stores, IsSaveOfStores}
use Rattle.xc_txmem.proofs.Saved.{seen_as, writes_of}
use Rattle.xc_txmem.proofs.writes.WriteSet.back.Goals as goal

pub invariant_of-self : goal.invariant_of-self
invariant_of-self c =
    let stores = c.self.inside.stores.items in
    let is : c.self.inside.saved ≡ Some c.in-Some.save = sym c.take.ensures.value ∙ c.in-Some.is in
    let held = subst (λ o. IsSaveOfStores o stores) is c.self.invariant.1 in (
      subst (λ s. IsNewest c.in-Some.save.newest (drop 8 s)) (sym c.truncate.ensures.items) held.1,
      subst (λ o. IsSaveOfStores o c.truncate.new.self.items) (sym c.take.ensures.after) tt,
    )

pub returns-in-Some : goal.returns-in-Some
returns-in-Some c =
    let stores = c.self.inside.stores.items in
    let is : c.self.inside.saved ≡ Some c.in-Some.save = sym c.take.ensures.value ∙ c.in-Some.is in
    ap (seen_as c.truncate.new.self.items) c.take.ensures.after
    ∙ ap (λ s. writes_of s None) c.truncate.ensures.items
    ∙ ap (λ o. writes_of (unwrap_or (saved_stores o stores) stores) None) (sym is)
    ∙ ap (λ v. writes_of (unwrap_or v.saved v.stores) None) c.self.view_is
