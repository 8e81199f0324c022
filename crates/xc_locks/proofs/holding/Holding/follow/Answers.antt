use Rattle.std.proofs.Common.{◌≡◌, true, ◌∷◌, ◌++◌, [], refl, ap, sym, ◌∙◌, subst}
use denote.Enum.Bare.{sameb}
use Rattle.xc_data.specs.declared.claim.Claim.{Claim}
use Rattle.xc_data.specs.declared.claim.Mode.{Mode}
use Rattle.xc_data.specs.declared.claim.Mode.TheVariants.{Shared, Exclusive}
use Rattle.xc_data.specs.contracts.claim.Mode.{the_type}
use Rattle.xc_data.specs.Claims.{AreOnceAtMost, objects, stronger}
use Rattle.xc_locks.specs.Held.{Held}
use Rattle.xc_locks.proofs.Once.{held_anew, held_as_strong, once_one}
use Rattle.xc_locks.proofs.holding.Holding.follow.Goals as goal

pub returns-in-None : goal.returns-in-None
returns-in-None c =
    c.enter.ensures.items ∙ ap (λ (d : Claim). c.self.inside.claims.items ++ d ∷ []) c.of.ensures
    ∙ ap (λ (h : Held). h.items ++ c.args.claim.now ∷ []) c.self.view_is
    ∙ held_anew c.args.claim.now c.args.self.now.items (sym c.requires.was ∙ c.in-None.is)

pub invariant_of-self : goal.invariant_of-self
invariant_of-self c =
    subst (λ items. AreOnceAtMost (objects items)) (sym (returns-in-None c))
    (once_one c.args.self.now.items c.args.claim.now
    (subst (λ (h : Held). AreOnceAtMost (objects h.items)) c.self.view_is c.self.invariant))

-- where the test finds the stronger mode to be the one that there was
stays : (was mode : Mode) → sameb the_type (stronger was mode) was ≡ true → stronger was mode ≡ was
stays Exclusive mode same = refl
stays Shared Shared same = refl
stays Shared Exclusive same = cc

found : (seen was mode raised : Mode) → raised ≡ stronger seen mode → sameb the_type raised seen ≡ true → seen ≡ was → stronger was mode ≡ was
found seen was mode raised is same told =
    subst (λ m. stronger m mode ≡ m) told (stays seen mode (subst (λ m. sameb the_type m seen ≡ true) is same))

pub returns-in-Some : goal.returns-in-Some
returns-in-Some c =
    held_as_strong c.args.claim.now c.args.self.now.items c.in-Some.mode
    (subst (λ (h : Held). AreOnceAtMost (objects h.items)) c.self.view_is c.self.invariant) (sym c.requires.was ∙ c.in-Some.is)
    (found _ c.in-Some.mode c.args.claim.now.mode c.stronger.result c.stronger.ensures (sym c.eq.ensures ∙ c.if-eq.true) c.in-Some.mode-is)
