-- What a client hands in keeps the flights of all: what its transaction did and holds is as it was.
use Rattle.std.proofs.Common.{◌≡◌, ℕ, ◌+◌, List, [], ◌∷◌, refl, sym, subst, Some}
use Rattle.xc_data.specs.declared.call.CallWithAnswer.{CallWithAnswer}
use Rattle.xc_data.specs.declared.claim.Claim.{Claim}
use Rattle.xc_script.specs.declared.ask.Ask.{Ask}
use Rattle.xc_world.specs.Run.{BodyResult}
use Rattle.xc_model.specs.declared.phase.Phase.{Phase}
use Rattle.xc_model.specs.declared.phase.Phase.TheVariants.{Running}
use Rattle.xc_model.specs.HandedIn.{IsHandedIn, handing}
use Rattle.xc_model.specs.Moment.{TxView, Moment, active_of, begun_count, with_job}
use Rattle.xc_model.specs.Movers.{asked_at}
use Rattle.xc_model.specs.Played.{HoldsFor}
use Rattle.xc_model.specs.Progress.{progress_of}
use Rattle.xc_model.specs.Setting.{Setting}
use Rattle.xc_model.proofs.Laws.{handed_runs}
use Rattle.xc_refines.specs.InFlight.{AreInFlight, IsUnnoted, ran_at}
use Rattle.xc_refines.proofs.TurnParts.{Flying, Right, airfield, flies_still, flying_of}
use Rattle.xc_refines.proofs.TurnRows.{row_kept}

-- a running one has noted all that it did, whatever it is asked
unnoted_now : (p : Phase) (last now : Ask) (us : List CallWithAnswer) → p ≡ Running → IsUnnoted p last us → IsUnnoted p now us
unnoted_now p last now us runs h = subst (λ (x : Phase). IsUnnoted x now us) (sym runs) (go us (subst (λ (x : Phase). IsUnnoted x last us) runs h))
  where
    go : (xs : List CallWithAnswer) → IsUnnoted Running last xs → IsUnnoted Running now xs
    go [] none = tt
    go (x ∷ xs) none = absurd none

-- and it holds what its calls claimed
holds_now : (ran : BodyResult) (p : Phase) (last now : Ask) (held : List Claim) → p ≡ Running → HoldsFor ran last p held → HoldsFor ran now p held
holds_now ran p last now held runs h = subst (λ (x : Phase). HoldsFor ran now x held) (sym runs) (subst (λ (x : Phase). HoldsFor ran last x held) runs h)

-- what is handed in keeps the flights of all
pub handed_flies : (s : Setting) (at : ℕ) (asked : Ask) (old new : Moment) → IsHandedIn s at asked old new → AreInFlight s old → AreInFlight s new
handed_flies s at asked old new h all =
    let job = h.job in
    let next = handing job asked in
    let p = progress_of s.script old.journal in
    let f : Flying s p (airfield old.words old.contents old.started old.jobs (begun_count old + 1)) = flying_of s old all in
    let runs : (t : TxView) → active_of job ≡ Some t → t.phase ≡ Running = λ t is. handed_runs job.doing asked t h.may is in
    let right : Right s p (f.unnoted at) next = record {
      was_asked = λ t is. unnoted_now t.phase (asked_at s job) (asked_at s next) (f.unnoted at) (runs t is) (f.was_asked at job t h.is is);
      holds = λ t is. holds_now (ran_at p.state.world job.me t) t.phase (asked_at s job) (asked_at s next) t.held (runs t is) (f.holds at job t h.is is);
    } in
    subst (AreInFlight s) (sym h.behind)
    (row_kept s old (with_job old at next) at job next h.is refl refl refl
    (flies_still s p old.words old.contents old.started old.jobs (begun_count old + 1) at job next h.is refl refl refl f right))
