use Rattle.std.proofs.Common.{◌∙◌, subst}
use Rattle.std.proofs.lemmas.Option.{slice_get-get_or}
use Rattle.xc_grounds.specs.Places.{AreEntered}
use Rattle.xc_grounds.proofs.Entering.{entered_all, entered_free}
use Rattle.xc_grounds.proofs.numbers.enter_all.Goals as goal

pub loop-place-preserved : goal.loop-place-preserved
loop-place-preserved c =
    let l = c.loop-place in
    let more = entered_free c.args.begins.now l.place _ l.places.by_number.items _ c.enter.result l.invariant.has
    (slice_get-get_or c.args.begins.now l.place (0, 0) c.loop-place-test.true) c.enter.ensures.free c.enter.ensures.table c.if-not-enter.false in
    record {
      same = more.1 ∙ l.invariant.same;
      has = more.0;
    }

pub returns-then-not-enter : goal.returns-then-not-enter
returns-then-not-enter c =
    let l = c.loop-place in
    subst (λ size. AreEntered c.args.begins.now size l.place c.enter.new.self.by_number.items) l.invariant.same
    (entered_all c.args.begins.now l.place l.places.by_number.items _ c.enter.result l.invariant.has c.loop-place-test.true
    c.enter.ensures.free c.enter.ensures.table c.if-not-enter.true)
