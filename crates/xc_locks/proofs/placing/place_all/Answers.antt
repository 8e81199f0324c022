use Rattle.std.proofs.Common.{◌∷◌, ◌++◌, [], None, cond, List, take, ap, ap₂, sym, ◌∙◌, subst}
use Rattle.xc_data.specs.declared.object.Object.{Object}
use Rattle.xc_data.specs.declared.claim.Claim.{Claim}
use Rattle.xc_locks.specs.Placing.{IsPlaced}
use Rattle.xc_locks.specs.Table.{Table, has, held_mode}
use Rattle.xc_locks.proofs.Claimed.{take-more}
use Rattle.xc_locks.proofs.Places.{placed-append, taken_back}
use Rattle.xc_locks.proofs.placing.place_all.Goals as goal

pub loop-claim-preserved : goal.loop-claim-preserved
loop-claim-preserved g c =
    let claims = c.args.claims.now in
    let i = c.loop-claim.claim-index in
    let one = c.claim-item.result ∷ [] in
    let more = c.in_default.ensures.ok in
    subst (λ (seen : List Claim). IsPlaced c.args.tx seen c.args.holders.now c.place.new.holders c.place.new.added.items)
    (sym (take-more claims i c.claim-item.result c.loop-claim-test.true c.claim-item.is))
    (subst (λ (added : List Object). IsPlaced c.args.tx (take i claims ++ one) c.args.holders.now c.place.new.holders added) (sym more.1)
    (placed-append c.args.tx (take i claims) one c.args.holders.now c.loop-claim.holders c.place.new.holders c.loop-claim.added.items more.0
    c.loop-claim.invariant more.2))

pub returns-in-Err-clause-err : goal.returns-in-Err-clause-err
returns-in-Err-clause-err g c =
    let i = c.loop-claim.claim-index in
    taken_back c.args.tx (take i c.args.claims.now) c.args.holders.now c.loop-claim.holders c.take_back.new.holders c.loop-claim.added.items
    c.loop-claim.invariant
    (λ o. c.take_back.ensures.own o
    ∙ ap₂ (λ (l : List Object) (t : Table). cond (has l o) None (held_mode t c.args.tx o)) (c.as_slice.ensures ∙ c.in-Err.ensures.err_added)
    c.in-Err.ensures.err)
    (λ n o ne. c.take_back.ensures.others n o ne ∙ ap (λ (t : Table). held_mode t n o) c.in-Err.ensures.err)
