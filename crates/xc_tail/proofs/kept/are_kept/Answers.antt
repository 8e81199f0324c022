use Rattle.std.proofs.Common.{◌+◌, ◌∷◌, drop, refl, sym, subst, arith}
use Rattle.std.proofs.lemmas.List.{drop_all}
use Rattle.xc_tail.specs.KeptLines.{Stands}
use Rattle.xc_tail.proofs.KeptFronts.{stands_none, no_item_taken, is_taken, line_there}
use Rattle.xc_tail.proofs.KeptWorlds.{kept_from, stand_from}
use Rattle.xc_tail.proofs.kept.are_kept.Goals as goal

pub returns-then-is_none : goal.returns-then-is_none
returns-then-is_none c =
    let l = c.loop-line in
    let lines = c.args.lines.now in
    let behind = drop (l.line-index + 1) lines in
    let first = line_there lines l.line-index c.line-item.result c.loop-line-test.true c.line-item.is in (
      (λ e. cc (e)),
      λ has. absurd
          (no_item_taken (Stands l.world l.before (c.line-item.result ∷ behind)) c.take_line.new.world behind c.in_ok-source.source c.if-is_none.ensures
          (c.in_ok-source.ensures behind) (subst (Stands l.world l.before) first (l.invariant.to (stand_from c.args.world lines has)))),
    )

pub loop-line-preserved : goal.loop-line-preserved
loop-line-preserved c =
    let l = c.loop-line in
    let lines = c.args.lines.now in
    let behind = drop (l.line-index + 1) lines in
    let first = line_there lines l.line-index c.line-item.result c.loop-line-test.true c.line-item.is in
    let source = c.in_ok-source.source in
    let here = Stands l.world l.before (c.line-item.result ∷ behind) in
    let step = is_taken here c.take_line.new.world behind source c.if-is_none.ensures (c.in_ok-source.ensures behind) in
    record {
      to = λ s. step.0 (subst (Stands l.world l.before) first (l.invariant.to s));
      from = λ s. l.invariant.from (subst (Stands l.world l.before) (sym first) (step.1 s));
    }

pub returns : goal.returns
returns c =
    let l = c.loop-line in
    let lines = c.args.lines.now in
    let none = drop_all l.line-index lines (omega arith) in
    ((λ e. kept_from c.args.world lines (l.invariant.from (subst (Stands l.world l.before) (sym none) (stands_none l.world l.before)))), λ has. refl)
