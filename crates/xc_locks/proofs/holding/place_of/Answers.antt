use Rattle.std.proofs.Common.{◌∷◌, [], ◌||◌, false, length, take, refl, ap, ap₂, sym, ◌∙◌}
use Rattle.std.proofs.lemmas.List.{map-append}
use Rattle.std.proofs.lemmas.Option.{slice_get_read}
use Rattle.xc_data.specs.declared.claim.Claim.{Claim}
use Rattle.xc_data.specs.Claims.{objects}
use Rattle.xc_locks.specs.Table.{has}
use Rattle.xc_locks.proofs.Claimed.{take-more}
use Rattle.xc_data.proofs.Laws.{same_object}
use Rattle.xc_locks.proofs.Places.{has-append}
use Rattle.xc_locks.proofs.holding.place_of.Goals as goal

pub returns-then-is_on : goal.returns-then-is_on
returns-then-is_on c =
    let held = c.args.held.now in
    let claim = c.index-held-at.result in (
      claim,
      slice_get_read held (length held) c.loop-at.at claim refl c.loop-at-test.true c.index-held-at.is,
      sym (same_object c.args.object.now claim.object (sym c.is_on.ensures ∙ c.if-is_on.true)),
    )

pub loop-at-preserved : goal.loop-at-preserved
loop-at-preserved c =
    let held = c.args.held.now in
    let claim = c.index-held-at.result in
    let o = c.args.object.now in
    ap (λ xs. has (objects xs) o) (take-more held c.loop-at.at claim c.loop-at-test.true c.index-held-at.is)
    ∙ ap (λ os. has os o) (map-append (λ (d : Claim). d.object) (take c.loop-at.at held) (claim ∷ []))
    ∙ has-append (objects (take c.loop-at.at held)) (claim.object ∷ []) o
    ∙ ap₂ (λ a b. a || (b || false)) c.loop-at.invariant (sym c.is_on.ensures ∙ c.if-is_on.false)
