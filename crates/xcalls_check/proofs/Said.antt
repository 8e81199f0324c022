-- The line that says that nothing can be said.
use Rattle.std.specs.Prelude.{◌≡◌, ◌⊎◌, ℕ, List}
use Rattle.std.proofs.Common.{inl, subst}
use Rattle.xc_check.specs.declared.verdict.Verdict.TheVariants.{Untold}
use Rattle.xc_data.specs.Step.{Step}
use Rattle.xc_edge.specs.View.{StreamView}
use Rattle.xcalls_check.specs.Answers.{IsCheckSaid, IsCheckWritten, untold_line}
use Rattle.xcalls_check.specs.declared.answer.CheckAnswer.TheVariants as answer
use Rattle.xcalls_check.specs.declared.status.CheckStatus.{CheckStatus}
use Rattle.xcalls_check.specs.declared.status.CheckStatus.TheVariants as status

-- it was said where such a line was written
pub untold_said : (line : ℕ) (made : List ℕ) (ends : CheckStatus) (sink : Step StreamView) → made ≡ untold_line line
    → IsCheckWritten status.Untold ends made sink → IsCheckSaid (answer.Judged (Untold line)) ends sink ⊎ IsCheckSaid answer.NoMemory ends sink
untold_said line made ends sink is written = inl (subst (λ text. IsCheckWritten status.Untold ends text sink) is written)
