use Rattle.std.proofs.Common.{◌≡◌, Some, [], ◌∷◌, ◌++◌, set, ap, sym, ◌∙◌, subst}
use Rattle.std.specs.Prelude.{slice_get}
use Rattle.std.proofs.lemmas.List.{map-append}
use Rattle.xc_data.specs.declared.claim.Claim.{Claim}
use Rattle.xc_data.specs.declared.claim.Mode.{Mode}
use Rattle.xc_data.specs.Claims.{AreOnceAtMost, objects, stronger}
use Rattle.xc_locks.specs.Table.{has}
use Rattle.xc_locks.proofs.Once.{held_again, once_new, once_one}
use Rattle.xc_locks.proofs.holding.hold_one.Goals as goal

pub returns-in-Some-clause-items : goal.returns-in-Some-clause-items
returns-in-Some-clause-items c =
    let held = c.args.held.now.items in
    let there = c.in-Some.ensures in
    let got = c.get-held_claim.result.now in
    let found : slice_get held c.in-Some.at ≡ Some got = c.get-held_claim.ensures in
    let both : Some got ≡ Some there.0 =
    sym found ∙ ap (λ xs. slice_get xs c.in-Some.at) (sym c.as_slice.ensures) ∙ there.1 in
    let same : got ≡ there.0 = cc both in
    let mode = c.stronger-mode.ensures ∙ ap (λ (m : Mode). stronger m c.args.claim.now.mode) c.mode.ensures in
    let risen = c.with_mode-risen.ensures ∙ ap (λ (m : Mode). record got { mode = m }) mode in
    c.set.ensures.items ∙ ap (λ (x : Claim). set held c.in-Some.at x) risen
    ∙ held_again c.args.claim.now held c.in-Some.at got c.requires.once found (ap (λ (x : Claim). x.object) same ∙ there.2)

pub returns-in-Some-clause-once : goal.returns-in-Some-clause-once
returns-in-Some-clause-once c =
    subst (λ items. AreOnceAtMost (objects items)) (sym (returns-in-Some-clause-items c)) (once_one c.args.held.now.items c.args.claim.now c.requires.once)

pub returns-in-None-clause-once : goal.returns-in-None-clause-once
returns-in-None-clause-once c =
    let held = c.args.held.now.items in
    let o = c.args.claim.now.object in
    let entered = c.enter.ensures.items ∙ ap (λ (d : Claim). held ++ d ∷ []) c.of.ensures in
    subst AreOnceAtMost
    (sym (ap objects entered ∙ map-append (λ (d : Claim). d.object) held (c.args.claim.now ∷ [])))
    (once_new (objects held) o (ap (λ xs. has (objects xs) o) (sym c.as_slice.ensures) ∙ c.in-None.ensures) c.requires.once)
