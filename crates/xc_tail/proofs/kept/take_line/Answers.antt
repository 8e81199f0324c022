use Rattle.std.proofs.Common.{◌∷◌, Some, sym, subst, ◌∙◌}
use Rattle.std.specs.Bool.{MatchBool}
use Rattle.xc_machine.specs.Taking.{Takes, IsNotInFront}
use Rattle.xc_sheet.specs.declared.lines.Line.{Line}
use Rattle.xc_tail.specs.KeptLines.{Stands}
use Rattle.xc_tail.proofs.KeptFronts.{stands_kept, stands_fit, stands_behind, stands_front, stands_with, stands_without}
use Rattle.xc_tail.proofs.kept.take_line.Goals as goal
use Rattle.xc_tail.proofs.kept.take_line.Goals.{then-not-is_fit-via-then-not-is_fit, then-not-is_fit-via-else-not-is_fit+then-not-comes_behind}

pub returns-in_default : goal.returns-in_default
returns-in_default c = λ lines. stands_kept c.args.world.now c.args.before c.args.line.now lines c.in_default.not-Kept

pub returns-then-not-is_fit : goal.returns-then-not-is_fit
returns-then-not-is_fit c = λ lines s.
    let w = c.args.world.now in
    let at = subst (λ (l : Line). Stands w c.args.before (l ∷ lines)) c.in-Kept.is s in
    elim c.then-not-is_fit.branch [
      | then-not-is_fit-via-then-not-is_fit w' ↦
          let fit = stands_fit w c.args.before c.in-Kept.item lines at in
          let told = c.is_fit.ensures in
          let un = w'.if-not-is_fit.true in
          cc (fit, told, un)
      | then-not-is_fit-via-else-not-is_fit+then-not-comes_behind w' ↦
          let behind = stands_behind w c.args.before c.in-Kept.item lines at in
          let told = w'.comes_behind.ensures in
          let un = w'.if-not-comes_behind.true in
          cc (behind, told, un)
    ]

pub returns-then-not-branch : goal.returns-then-not-branch
returns-then-not-branch c = λ lines s.
    let w = c.args.world.now in
    let t = c.in-Kept.item in
    stands_front w c.args.before t lines
    (subst (λ b. MatchBool b (Takes t w c.take_front.new.self) (IsNotInFront t w)) c.if-not-branch.true c.in_ok-take_front.ensures.taken)
    (subst (λ (l : Line). Stands w c.args.before (l ∷ lines)) c.in-Kept.is s)

pub returns : goal.returns
returns c = λ lines.
    let old = c.args.world.now in
    let new = c.take_front.new.self in
    let t = c.in-Kept.item in
    let taken = subst (λ b. MatchBool b (Takes t old new) (IsNotInFront t old)) c.if-not-branch.false c.in_ok-take_front.ensures.taken in (
      (λ s. subst (λ source. Stands new (Some source) lines) (sym c.of.ensures)
          (stands_without t old new c.args.before lines taken (subst (λ (l : Line). Stands old c.args.before (l ∷ lines)) c.in-Kept.is s))),
      λ s. subst (λ (l : Line). Stands old c.args.before (l ∷ lines)) (sym c.in-Kept.is)
          (stands_with t old new c.args.before lines taken (sym c.comes_behind.ensures ∙ c.if-not-comes_behind.false)
          (sym c.is_fit.ensures ∙ c.if-not-is_fit.false) (subst (λ source. Stands new (Some source) lines) c.of.ensures s)),
    )
