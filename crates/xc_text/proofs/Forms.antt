-- Tokens that have no form.
use Rattle.std.proofs.Common.{◌≡◌, List, [], ◌∷◌, length, map, Err, refl}
use Rattle.xc_tokens.specs.declared.token.Token.{Token}
use Rattle.xc_tokens.specs.declared.why.Why.TheVariants.{BadForm}
use Rattle.xc_text.specs.Terms.{expression_of}
use Rattle.xc_tokens.specs.Views.{lexeme}

-- neither one token nor three
pub no_expression : (ts : List Token) → (length ts ≡ 1 → ⊥) → (length ts ≡ 3 → ⊥) → Err BadForm ≡ expression_of (map lexeme ts)
no_expression [] one three = refl
no_expression (a ∷ []) one three = absurd (one refl)
no_expression (a ∷ b ∷ []) one three = refl
no_expression (a ∷ b ∷ c ∷ []) one three = absurd (three refl)
no_expression (a ∷ b ∷ c ∷ d ∷ ts) one three = refl
