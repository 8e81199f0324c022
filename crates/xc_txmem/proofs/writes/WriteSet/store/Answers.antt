use Rattle.std.proofs.Common.{◌≡◌, ℕ, [], ◌∷◌, ◌++◌, ◌<◌, ◌≤◌, length, ap, sym, subst, drop, ◌∙◌, arith}
use Rattle.xc_txmem.specs.Overlay.{overlaid, IsNewest}
use Rattle.xc_txmem.specs.Saves.{IsSaveOfStores}
use Rattle.xc_txmem.proofs.Saved.{saved_more, saved_same, seen_as, writes_of}
use Rattle.xc_txmem.proofs.Overlays.{early_adds, late_adds, overlay_adds}
use Rattle.xc_txmem.proofs.writes.WriteSet.store.Goals.{then-len-ge-WALKED+in_ok-insert, else-len-ge-WALKED}
use Rattle.xc_txmem.proofs.writes.WriteSet.store.Goals as goal

-- the store comes last, with the map or without it
pushed : (c : goal.After-push_reserved) → c.push_reserved.new.self.items ≡ c.self.inside.stores.items ++ (c.args.at, c.args.value) ∷ []
pushed c =
    let same : c.if-len-ge-WALKED.self-inside.stores ≡ c.reserve.new.self
    = elim c.if-len-ge-WALKED.branch [
      | then-len-ge-WALKED+in_ok-insert w ↦ ap (λ i. i.stores) w.self-inside-is
      | else-len-ge-WALKED w ↦ ap (λ i. i.stores) w.self-inside-is
    ] in
    c.push_reserved.ensures.items ∙ ap (λ s. s.items ++ (c.args.at, c.args.value) ∷ []) same
    ∙ ap (λ s. s ++ (c.args.at, c.args.value) ∷ []) c.reserve.ensures.items

pub invariant_of-self-2 : goal.invariant_of-self-2
invariant_of-self-2 c =
    let stores = c.self.inside.stores.items in
    let saved = subst (λ s. IsSaveOfStores c.self.inside.saved s) (sym (pushed c))
    (saved_more c.self.inside.saved stores (c.args.at, c.args.value) c.self.invariant.1) in
    elim c.if-len-ge-WALKED.branch [
      | then-len-ge-WALKED+in_ok-insert w ↦
          let many : 8 ≤ length stores = omega arith in
          subst (λ i. IsNewest i.newest (drop 8 c.push_reserved.new.self.items) × IsSaveOfStores i.saved c.push_reserved.new.self.items)
          (sym w.self-inside-is) (
            subst (λ s. IsNewest w.insert.new.self (drop 8 s)) (sym (pushed c))
                (late_adds c.self.inside.newest w.insert.new.self stores c.args.at c.args.value many c.self.invariant.0 w.in_ok-insert.ensures.updates),
            saved,
          )
      | else-len-ge-WALKED w ↦
          let few : length stores < 8 = omega arith in
          subst (λ i. IsNewest i.newest (drop 8 c.push_reserved.new.self.items) × IsSaveOfStores i.saved c.push_reserved.new.self.items)
          (sym w.self-inside-is) (
            subst (λ s. IsNewest c.self.inside.newest (drop 8 s)) (sym (pushed c))
                (early_adds c.self.inside.newest stores c.args.at c.args.value few c.self.invariant.0),
            saved,
          )
    ]

pub returns-clause-over : goal.returns-clause-over
returns-clause-over c = λ words.
    ap (overlaid words) (pushed c ∙ ap (λ s. s.stores ++ (c.args.at, c.args.value) ∷ []) c.self.view_is)
    ∙ overlay_adds words c.args.self.now.stores c.args.at c.args.value

pub returns-clause-ok : goal.returns-clause-ok
returns-clause-ok c =
    let stores = c.self.inside.stores.items in
    let store : ℕ × ℕ = (c.args.at, c.args.value) in
    let kept : c.if-len-ge-WALKED.self-inside.saved ≡ c.self.inside.saved
    = elim c.if-len-ge-WALKED.branch [
      | then-len-ge-WALKED+in_ok-insert w ↦ ap (λ i. i.saved) w.self-inside-is
      | else-len-ge-WALKED w ↦ ap (λ i. i.saved) w.self-inside-is
    ] in
    ap (seen_as c.push_reserved.new.self.items) kept
    ∙ ap (λ s. seen_as s c.self.inside.saved) (pushed c)
    ∙ ap (writes_of (stores ++ store ∷ [])) (saved_same c.self.inside.saved stores store c.self.invariant.1)
    ∙ ap (λ v. writes_of (v.stores ++ store ∷ []) v.saved) c.self.view_is
