use Rattle.std.proofs.Common.{◌≡◌, ◌∷◌, ◌++◌, [], Some, None, is_some, ap, ap₂, sym, ◌∙◌, subst}
use Rattle.xc_data.specs.declared.object.Object.{Object}
use Rattle.xc_locks.specs.Placing.{IsPlaced}
use Rattle.xc_data.specs.declared.claim.Mode.TheVariants.{Shared}
use Rattle.xc_locks.specs.Rows.{with_mode}
use Rattle.xc_locks.specs.Table.{Table, held_mode, set_mode}
use Rattle.xc_locks.proofs.Modes.{none_there}
use Rattle.xc_locks.proofs.Places.{placed_new}
use Rattle.xc_locks.proofs.placing.place.Goals as goal

pub returns-clause-ok : goal.returns-clause-ok
returns-clause-ok g c =
    let was = c.args.holders.now in
    let claim = c.args.claim.now in
    let lacks : held_mode was c.args.tx claim.object ≡ None =
    none_there (held_mode was c.args.tx claim.object) (ap is_some (sym c.mode_held.ensures) ∙ sym c.is_some.ensures ∙ c.if-is_some.false) in
    let new = c.in_ok-hold.ensures.ok ∙ ap (λ m. set_mode was c.args.tx claim.object (Some (with_mode m Shared))) lacks in (
      claim.object ∷ [],
      c.push_reserved.ensures.items ∙ ap₂ (λ xs (o : Object). xs ++ o ∷ []) c.reserve.ensures.items c.again.ensures,
      subst (λ (t : Table). IsPlaced c.args.tx (claim ∷ []) was t (claim.object ∷ [])) (sym new) (placed_new c.args.tx claim was lacks),
    )
