-- Held objects that were printed are read again.
use Rattle.std.proofs.Common.{◌≡◌, ℕ, zero, suc, ◌≤◌, List, [], ◌∷◌, ◌++◌, length, Some, None, refl, ap, ◌∙◌, append_assoc, arith}
use Rattle.std.proofs.lemmas.List.{append-nil}
use Rattle.std.specs.Prelude.{codes}
use Rattle.xc_data.specs.declared.claim.Claim.{Claim}
use Rattle.xc_data.specs.declared.claim.Mode.{Mode}
use Rattle.xc_data.specs.declared.claim.Mode.TheVariants.{Shared, Exclusive}
use Rattle.xc_data.specs.declared.object.Object.{Object}
use Rattle.xc_print.specs.Objects.{object_text, mode_text, claim_text, further_claims}
use Rattle.xc_lines.specs.Held.{claim_at, further_at}
use Rattle.xc_lines.specs.Parts.{past}
use Rattle.xc_lines.specs.Ranges.{IsObjectInRange, AreClaimsInRange}
use Rattle.xc_lines.proofs.Fields.{EndsField, object_again}
use Rattle.xc_lines.proofs.TailLaws.{three_parts}

with_mode : (object : Object) (mode : Mode) (rest : List ℕ) → IsObjectInRange object → EndsField rest → past (codes " shared") rest ≡ None
    → claim_at (object_text object ++ mode_text mode ++ rest) ≡ Some (record { object = object; mode = mode }, rest)
unfolding claim_at
with_mode object Shared rest within ends other =
    ap claim_at (append_assoc (object_text object) (codes " shared") rest)
    ∙ rw (object_again object (codes " shared" ++ rest) within (record { digits = refl; names = refl })) refl
with_mode object Exclusive rest within ends other =
    ap (λ t. claim_at (t ++ rest)) (append-nil (object_text object)) ∙ rw (object_again object rest within ends, other) refl

-- a claim is read again, before what ends it and isn't its mode
pub claim_again : (claim : Claim) (rest : List ℕ) → IsObjectInRange claim.object → EndsField rest → past (codes " shared") rest ≡ None
    → claim_at (claim_text claim ++ rest) ≡ Some (claim, rest)
claim_again claim rest within ends other = with_mode claim.object claim.mode rest within ends other

-- further claims end what stands before them
pub further_end : (claims : List Claim) (rest : List ℕ) → EndsField (further_claims claims ++ 10 ∷ rest)
further_end [] rest = record { digits = refl; names = refl }
further_end (claim ∷ claims) rest = record { digits = refl; names = refl }

-- further claims are no mode
pub further_other : (claims : List Claim) (rest : List ℕ) → past (codes " shared") (further_claims claims ++ 10 ∷ rest) ≡ None
further_other [] rest = refl
further_other (claim ∷ claims) rest = refl

-- further claims are read again, up to the line's end
pub claims_again : (claims : List Claim) (n : ℕ) (rest : List ℕ) → AreClaimsInRange claims → length claims ≤ n
    → further_at n (further_claims claims ++ 10 ∷ rest) ≡ Some (claims, 10 ∷ rest)
unfolding further_at
claims_again [] zero rest all few = refl
claims_again [] (suc n) rest all few = refl
claims_again (claim ∷ claims) zero rest all few = absurd (omega (arith, few))
claims_again (claim ∷ claims) (suc n) rest all few =
    ap (further_at (suc n)) (three_parts (codes ", ") (claim_text claim) (further_claims claims) (10 ∷ rest))
    ∙ rw (
      claim_again claim (further_claims claims ++ 10 ∷ rest) all.0 (further_end claims rest) (further_other claims rest),
      claims_again claims n rest all.1 (omega (arith, few)),
    ) refl
