-- What a job is asked where it stands.
use Rattle.std.proofs.Common.{◌≡◌, Bool, true, false, refl, ap, sym, ◌∙◌}
use Rattle.xc_text.specs.declared.script.Script.{Script}
use Rattle.xc_script.specs.Position.{Position}
use Rattle.xc_script.specs.Asking.{asks}
use Rattle.xc_model.specs.Live.{IsScripted, asked_by, has_clients}
use Rattle.xc_model.specs.Moment.{JobView}
use Rattle.xc_model.specs.Movers.{IsSamePosition, asked_at}
use Rattle.xc_model.specs.Setting.{Setting}

-- by clients or by its blocks, and never by both
pub not_clients : (script : Script) → has_clients script ≡ true → IsScripted script → ⊥
not_clients script clients own = let both : true ≡ false = sym clients ∙ own in cc both

-- past silent statements it is asked the same
pub asked_same : (s : Setting) (job : JobView) (place : Position) → IsSamePosition s job.place place
    → asked_by (has_clients s.script) s.script job.handed place ≡ asked_at s job
asked_same s job place same = go (has_clients s.script)
  where
    go : (b : Bool) → asked_by b s.script job.handed place ≡ asked_by b s.script job.handed job.place
    go true = refl
    go false = ap asks same.walk
