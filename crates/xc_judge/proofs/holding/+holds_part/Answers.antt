use Rattle.std.proofs.Common.{take, ap, ◌∙◌, subst}
use Rattle.std.specs.Bool.{Decides}
use Rattle.xc_data.specs.Claims.{holding}
use Rattle.xc_judge.proofs.Behind.{behind_all}
use Rattle.xc_judge.proofs.Parts.{HoldsPart, decides_first, decides_none, decides_rest}
use Rattle.xc_judge.proofs.holding.+holds_part.Goals as goal

pub returns-in_default : goal.returns-in_default
returns-in_default t c =
    decides_none c.args.held.now c.args.claims.now c.args.listed.now c.are_these.result c.in_default.len_below c.are_these.ensures

pub returns-then-alone : goal.returns-then-alone
returns-then-alone t c =
    let held = c.args.held.now in
    let claims = c.args.claims.now in
    let listed = c.args.listed.now in
    decides_rest held claims listed c.in_ok-alone.alone c.in-len1-up.len_at_least c.if-alone.true
    (subst (λ rest. Decides c.in_ok-alone.alone (HoldsPart held rest listed)) (behind_all 1 claims) c.in_ok-alone.ensures)

pub returns : goal.returns
returns t c =
    let held = c.args.held.now in
    let claims = c.args.claims.now in
    let listed = c.args.listed.now in
    let more = c.as_slice.result.now in
    decides_first held claims more listed c.in_ok-alone.alone c.in_ok-yes.yes c.in-len1-up.len_at_least c.if-alone.false
    (subst (λ rest. Decides c.in_ok-alone.alone (HoldsPart held rest listed)) (behind_all 1 claims) c.in_ok-alone.ensures)
    (c.as_slice.ensures.value ∙ c.in_ok-hold.ensures ∙ ap (λ h. holding h (take 1 claims)) c.in_ok-more.ensures)
    (subst (λ rest. Decides c.in_ok-yes.yes (HoldsPart more rest listed)) (behind_all 1 claims) c.in_ok-yes.ensures)
