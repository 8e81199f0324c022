use Rattle.std.proofs.Common.{◌≡◌, ◌∷◌, sym, ap, ◌∙◌, subst, arith}
use Rattle.std.proofs.lemmas.Grind.{common_steps}
use Rattle.xc_memhost.specs.Faults.{any_within}
use Rattle.xc_memhost.specs.Spans.{IsRising, AreDisjoint}
use Rattle.xc_memhost.proofs.Listed.{merge, merge-any, merge-apart, Rises-from_rising}
use Rattle.xc_memhost.proofs.spans.merged.Goals as goal

pub returns-clause-apart : goal.returns-clause-apart
returns-clause-apart c =
    let all : c.push-2.new.self.items ≡ merge c.in-Some.first.now c.in-Some.rest.now = grind (arith, common_steps) in
    let cut : c.args.lines.now ≡ c.in-Some.first.now ∷ c.in-Some.rest.now = grind (arith, common_steps) in
    subst AreDisjoint (sym all) (merge-apart _ _ (Rises-from_rising _ _ (subst IsRising cut c.requires)))

pub returns-clause-same : goal.returns-clause-same
returns-clause-same c = λ n.
    let all : c.push-2.new.self.items ≡ merge c.in-Some.first.now c.in-Some.rest.now = grind (arith, common_steps) in
    let cut : c.args.lines.now ≡ c.in-Some.first.now ∷ c.in-Some.rest.now = grind (arith, common_steps) in
    ap (any_within n) all ∙ merge-any n _ _ (Rises-from_rising _ _ (subst IsRising cut c.requires)) ∙ ap (any_within n) (sym cut)
