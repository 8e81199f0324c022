-- Some part of a list of claims, tried claim by claim.
use Rattle.std.proofs.Common.{inl, inr, ◌⊎◌, ◌≡◌, ◌<◌, ◌≤◌, Bool, true, false, List, [], ◌∷◌, length, take, drop, refl, ap, sym, ◌∙◌, subst, arith}
use Rattle.std.specs.Bool.{Decides}
use Rattle.xc_data.specs.Claims.{holding}
use Rattle.xc_data.specs.declared.claim.Claim.{Claim}
use Rattle.xc_model.specs.EntryEnds.{IsPartOf}

-- with some part of these claims, in their order, this is held
abbrev pub HoldsPart : List Claim → List Claim → List Claim → Type 0
HoldsPart held claims listed = (more : List Claim) × IsPartOf more claims × (listed ≡ holding held more)

-- without the first claim, or with it
split_part : (held : List Claim) (c : Claim) (rest listed : List Claim) → HoldsPart held (c ∷ rest) listed
    → HoldsPart held rest listed ⊎ HoldsPart (holding held (c ∷ [])) rest listed
split_part held c rest listed ([], part, e) = inl ([], tt, e)
split_part held c rest listed (x ∷ more, inl (same, part), e) = inr (more, part, e ∙ ap (λ y. holding held (y ∷ more)) same)
split_part held c rest listed (x ∷ more, inr part, e) = inl (x ∷ more, part, e)

-- a part of the rest is one of all
without_first : (held : List Claim) (c : Claim) (rest listed : List Claim) → HoldsPart held rest listed → HoldsPart held (c ∷ rest) listed
without_first held c rest listed ([], part, e) = ([], tt, e)
without_first held c rest listed (x ∷ more, part, e) = (x ∷ more, inr part, e)

-- also with the first in front
with_first : (held : List Claim) (c : Claim) (rest listed : List Claim) → HoldsPart (holding held (c ∷ [])) rest listed
    → HoldsPart held (c ∷ rest) listed
with_first held c rest listed (more, part, e) = (c ∷ more, inl (refl, part), e)

-- of no claim there is one part
no_part : (held listed : List Claim) → HoldsPart held [] listed → listed ≡ held
no_part held listed ([], part, e) = e
no_part held listed (x ∷ more, part, e) = absurd part

-- no claim is left
pub decides_none : (held claims listed : List Claim) (b : Bool) → length claims < 1 → Decides b (listed ≡ held)
    → Decides b (HoldsPart held claims listed)
decides_none held [] listed b none so = (λ e. ([], tt, so.0 e), λ part. so.1 (no_part held listed part))
decides_none held (c ∷ rest) listed b none so = absurd (omega (arith, none))

-- a part of the rest is found
pub decides_rest : (held claims listed : List Claim) (b : Bool) → 1 ≤ length claims → b ≡ true
    → Decides b (HoldsPart held (drop 1 claims) listed) → Decides true (HoldsPart held claims listed)
decides_rest held [] listed b some found so = absurd (omega (arith, some))
decides_rest held (c ∷ rest) listed b some found so = (λ _. without_first held c rest listed (so.0 found), λ _. refl)

-- none of the rest alone, so perhaps one with the first
pub decides_first : (held claims more listed : List Claim) (a b : Bool) → 1 ≤ length claims → a ≡ false
    → Decides a (HoldsPart held (drop 1 claims) listed) → more ≡ holding held (take 1 claims)
    → Decides b (HoldsPart more (drop 1 claims) listed) → Decides b (HoldsPart held claims listed)
decides_first held [] more listed a b some not so is last = absurd (omega (arith, some))
decides_first held (c ∷ rest) more listed a b some not so is last = (
  λ e. with_first held c rest listed (subst (λ h. HoldsPart h rest listed) is (last.0 e)),
  λ part. from (split_part held c rest listed part),
)
  where
    from : HoldsPart held rest listed ⊎ HoldsPart (holding held (c ∷ [])) rest listed → b ≡ true
    from (inl alone) = let found = so.1 alone in cc
    from (inr with) = last.1 (subst (λ h. HoldsPart h rest listed) (sym is) with)
