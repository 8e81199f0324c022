use Rattle.std.proofs.Common.{◌≡◌, ◌+◌, ◌<◌, ◌++◌, Option, None, length, take, drop, ap, ap₂, sym, ◌∙◌, subst, arith}
use Rattle.std.proofs.lemmas.List.{append-nil, drop-set-lt, take_more_set}
use Rattle.std.specs.Global.{Vec}
use Rattle.std.proofs.Math.ListN.{get_or, set, length-set}
use Rattle.xc_data.specs.declared.claim.Mode.{Mode}
use Rattle.xc_data.specs.declared.claim.Claim.{Claim}
use Rattle.xc_data.specs.declared.object.Object.{Object}
use Rattle.xc_locks.specs.Table.{Table, held_mode, set_mode}
use Rattle.xc_locks.proofs.Released.{Taking, claim_in, taking_more}
use Rattle.xc_locks.proofs.releasing.take_all.Goals as goal
use Rattle.xc_locks.proofs.releasing.take_all.Goals.{in-Some, in_default}

pub loop-at-preserved : goal.loop-at-preserved
loop-at-preserved g c =
    let items = c.loop-at.claims.items in
    let count = c.loop-at.count in
    let at = c.loop-at.at in
    let item : Claim = c.index-claim.result.now in
    let is : item ≡ get_or items at item = c.index-claim.ensures in
    let t = c.loop-at.invariant.taking in
    let within : at < length items = omega (arith, c.args.claims.now.ok.0) in
    let asked = λ (o : Object). held_mode c.loop-at.holders c.args.tx o in
    let front = λ (m : Option Mode). take count items ++ claim_in m item.object in
    let more = taking_more c.args.tx c.args.holders.now c.loop-at.holders c.args.claims.now.items items at count t item within is in
    record {
      taking =
          subst (λ (now : Table). Taking c.args.tx (record { old = c.args.holders.now; new = now })
          (record { old = c.args.claims.now.items; new = c.match-take.claims.items }) (at + 1) c.match-take.count)
          (sym (c.take.ensures.removed ∙ ap (λ (o : Object). set_mode c.loop-at.holders c.args.tx o None) c.object.ensures))
          (elim c.match-take.branch [
            | in-Some w ↦
                let kept : Claim = record item { mode = w.in-Some.mode } in
                let items_are : c.match-take.claims.items ≡ set items count kept =
                ap (λ (v : Vec Claim). v.items) w.claims-is ∙ ap (λ (x : Claim). set items count x) w.with_mode-held.ensures in
                let more_count = w.count-is in
                more c.match-take.claims.items c.match-take.count
                (ap₂ take w.count-is items_are ∙ take_more_set items count kept (omega arith) ∙ ap front (w.in-Some.ensures.value ∙ ap asked c.object.ensures))
                (ap (drop (at + 1)) items_are ∙ drop-set-lt (at + 1) items count kept (omega arith)) (omega arith)
                (ap length items_are ∙ length-set items count kept)
            | in_default w ↦
                let items_are : c.match-take.claims.items ≡ items = ap (λ (v : Vec Claim). v.items) w.claims-is in
                let same_count = w.count-is in
                more c.match-take.claims.items c.match-take.count
                (ap₂ take w.count-is items_are ∙ sym (append-nil (take count items)) ∙ ap front (w.in_default.ensures.value ∙ ap asked c.object.ensures))
                (ap (drop (at + 1)) items_are) (omega arith) (ap length items_are)
          ]);
      cost = c.take.ensures.cost ∙ ap (λ n. n + 1) c.loop-at.invariant.cost ∙ omega arith;
    }

pub returns-clause-cost : goal.returns-clause-cost
returns-clause-cost g c =
    let all : c.loop-at.at ≡ length c.args.claims.now.items = omega (arith, c.args.claims.now.ok.0, c.loop-at.auto.at-end, c.loop-at-test.false) in
    c.loop-at.invariant.cost ∙ ap (λ n. c.args.steps.now + n) all
