use Rattle.std.proofs.Common.{◌≡◌, Bool, true, false, cond, Option, Some, None, is_some, refl, ap, sym, ◌∙◌}
use Rattle.std.proofs.lemmas.List.Elements.{All-weaker}
use Rattle.xc_data.specs.declared.claim.Mode.{Mode}
use Rattle.xc_data.specs.declared.claim.Claim.{Claim}
use Rattle.xc_data.specs.Claims.{objects}
use Rattle.xc_locks.specs.Table.{has, mode_in, held_mode}
use Rattle.xc_locks.specs.Released.{claims_on}
use Rattle.xc_locks.proofs.Held.{mode_in-has}
use Rattle.xc_locks.proofs.Modes.{none_there}
use Rattle.xc_locks.proofs.Once.{same_once, modes_once}
use Rattle.xc_locks.proofs.Released.{same_claims}
use Rattle.xc_locks.proofs.claims.Claims.release_counted.Goals as goal

pub returns-clause-freed : goal.returns-clause-freed
returns-clause-freed g c o =
    c.take_all.ensures.own o
    ∙ ap (λ items. cond (has (objects items) o) None (held_mode c.self.inside.holders c.args.tx o)) c.into_claims-claims.ensures.items
    ∙ ap (λ t. cond (has (objects c.args.held.items) o) None (held_mode t c.args.tx o)) c.self.view_is

pub returns-clause-released : goal.returns-clause-released
returns-clause-released g c holds o =
    let held = c.args.held.items in
    returns-clause-freed g c o ∙ ap (λ m. cond (has (objects held) o) None m) (holds o)
    ∙ none_by (has (objects held) o) (mode_in held o) (mode_in-has held o)
  where
    none_by : (b : Bool) (m : Option Mode) → is_some m ≡ b → cond b None m ≡ None
    none_by true m e = refl
    none_by false m e = none_there m e

pub returns-clause-held : goal.returns-clause-held
returns-clause-held g c holds =
    let claims = c.into_claims-claims.result.items in
    let once = c.into_claims-claims.ensures.once in
    let modes = held_mode c.self.inside.holders c.args.tx in
    c.trimmed.ensures ∙ c.from_vec.ensures ∙ c.take_all.ensures.taken ∙ ap (claims_on modes) (same_once (objects claims) once)
    ∙ same_claims modes claims
    (All-weaker (λ (h : Claim). mode_in claims h.object ≡ Some h.mode) (λ (h : Claim). modes h.object ≡ Some h.mode)
    (λ h is. ap (λ t. held_mode t c.args.tx h.object) c.self.view_is ∙ holds h.object
    ∙ ap (λ held. mode_in held h.object) (sym c.into_claims-claims.ensures.items) ∙ is)
    claims (modes_once claims once))
    ∙ c.into_claims-claims.ensures.items
