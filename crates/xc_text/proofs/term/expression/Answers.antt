use Rattle.std.proofs.Common.{arith}
use Rattle.std.proofs.lemmas.Bool.{ltb-true, ltb-false}
use Rattle.xc_text.proofs.Forms.{no_expression}
use Rattle.xc_text.proofs.term.expression.Goals as goal
use Rattle.xc_text.proofs.term.expression.Goals.{in_default-via-then-tokens-lt1, in_default-via-else-tokens-lt1+else-tokens-lt2+then-tokens-lt3}
use Rattle.xc_text.proofs.term.expression.Goals.{in_default-via-else-tokens-lt1+else-tokens-lt2+else-tokens-lt3+else-tokens-lt4}

pub returns-in_default : goal.returns-in_default
returns-in_default c =
    elim c.in_default.branch [
      | in_default-via-then-tokens-lt1 w ↦
          no_expression c.args.tokens.now (λ one. omega (arith, ltb-true)) (λ three. omega (arith, ltb-true))
      | in_default-via-else-tokens-lt1+else-tokens-lt2+then-tokens-lt3 w ↦
          no_expression c.args.tokens.now (λ one. omega (arith, ltb-true, ltb-false)) (λ three. omega (arith, ltb-true, ltb-false))
      | in_default-via-else-tokens-lt1+else-tokens-lt2+else-tokens-lt3+else-tokens-lt4 w ↦
          no_expression c.args.tokens.now (λ one. omega (arith, ltb-false)) (λ three. omega (arith, ltb-false))
    ]
