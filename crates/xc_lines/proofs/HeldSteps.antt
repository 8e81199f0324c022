-- Claims that are read one after the other.
use Rattle.std.proofs.Common.{◌≡◌, ℕ, zero, suc, ◌-◌, ◌<◌, List, [], ◌∷◌, ◌++◌, Some, None, refl, sym, ap, ◌∙◌, append_assoc, arith, subst}
use Rattle.std.proofs.lemmas.List.{append-nil}
use Rattle.std.specs.Prelude.{codes}
use Rattle.xc_data.specs.declared.claim.Claim.{Claim}
use Rattle.xc_lines.specs.declared.stop.ReadStop.{ReadStop}
use Rattle.xc_lines.specs.declared.stop.ReadStop.TheVariants as stop
use Rattle.xc_lines.specs.Held.{claim_at, before_claims, behind_claims, further_at}
use Rattle.xc_lines.specs.Parts.{◌>>=◌, Read, FailsToRead, past, read_behind}

-- claims behind none are those that are read
pub nothing_yet : (read : Read (List Claim)) → behind_claims [] read ≡ read
nothing_yet None = refl
nothing_yet (Some claims) = refl

one_more : (so_far : List Claim) (claim : Claim) (read : Read (List Claim))
    → behind_claims (so_far ++ claim ∷ []) read ≡ behind_claims so_far (before_claims claim read)
one_more so_far claim None = refl
one_more so_far claim (Some claims) = ap (λ cs. Some (cs, claims.1)) (append_assoc so_far (claim ∷ []) claims.0)

-- no other one follows
pub ends_here : (n : ℕ) (so_far : List Claim) (text : List ℕ) (all : Read (List Claim)) → 0 < n → past (codes ", ") text ≡ None
    → behind_claims so_far (further_at n text) ≡ all → all ≡ Some (so_far, text)
unfolding further_at
ends_here zero so_far text all some other e = absurd (omega arith)
ends_here (suc n) so_far text all some other e =
    sym e
    ∙ ap (λ p. behind_claims so_far (read_behind p (λ rest. claim_at rest >>= (λ claim. before_claims claim.0 (further_at n claim.1))) (Some ([], text)))) other
    ∙ ap (λ cs. Some (cs, text)) (append-nil so_far)

-- no more are read
pub are_enough : (so_far : List Claim) (text : List ℕ) (all : Read (List Claim)) → behind_claims so_far (further_at 0 text) ≡ all → all ≡ Some (so_far, text)
unfolding further_at
are_enough so_far text all e = sym e ∙ ap (λ cs. Some (cs, text)) (append-nil so_far)

-- another one
pub goes_on : (n : ℕ) (so_far : List Claim) (text rest new : List ℕ) (claim : Claim) (all : Read (List Claim)) → 0 < n → past (codes ", ") text ≡ Some rest
    → claim_at rest ≡ Some (claim, new) → behind_claims so_far (further_at n text) ≡ all → behind_claims (so_far ++ claim ∷ []) (further_at (n - 1) new) ≡ all
unfolding further_at
goes_on zero so_far text rest new claim all some another read e = absurd (omega arith)
goes_on (suc n) so_far text rest new claim all some another read e =
    let less : suc n - 1 ≡ n = omega arith in
    ap (λ m. behind_claims (so_far ++ claim ∷ []) (further_at m new)) less ∙ one_more so_far claim (further_at n new)
    ∙ sym (ap (λ r. behind_claims so_far (r >>= (λ claim. before_claims claim.0 (further_at n claim.1)))) read)
    ∙ sym (ap (λ p. behind_claims so_far (read_behind p (λ rest. claim_at rest >>= (λ claim. before_claims claim.0 (further_at n claim.1))) (Some ([], text))))
    another)
    ∙ e

-- another one that is none
none_then : (so_far : List Claim) (n : ℕ) (read : Read Claim) → read ≡ None
    → behind_claims so_far (read >>= (λ claim. before_claims claim.0 (further_at n claim.1))) ≡ None
none_then so_far n read e = ap (λ r. behind_claims so_far (r >>= (λ claim. before_claims claim.0 (further_at n claim.1)))) e

fails_with : (e : ReadStop) (so_far : List Claim) (n : ℕ) (read : Read Claim) → FailsToRead e read
    → FailsToRead e (behind_claims so_far (read >>= (λ claim. before_claims claim.0 (further_at n claim.1))))
fails_with stop.Unread so_far n read h = none_then so_far n read h
fails_with stop.NoMemory so_far n read h = tt

-- reading that fails at another one fails for all
pub fails_there : (e : ReadStop) (n : ℕ) (so_far : List Claim) (text rest : List ℕ) (all : Read (List Claim)) → 0 < n → past (codes ", ") text ≡ Some rest
    → FailsToRead e (claim_at rest) → behind_claims so_far (further_at n text) ≡ all → FailsToRead e all
unfolding further_at
fails_there e zero so_far text rest all some another h same = absurd (omega arith)
fails_there e (suc n) so_far text rest all some another h same =
    subst (FailsToRead e)
    (sym (ap (λ p. behind_claims so_far (read_behind p (λ rest. claim_at rest >>= (λ claim. before_claims claim.0 (further_at n claim.1))) (Some ([], text))))
    another) ∙ same)
    (fails_with e so_far n (claim_at rest) h)
