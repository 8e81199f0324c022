-- Where each job has ended all is as the journal says.
use Rattle.std.proofs.Common.{◌≡◌, ℕ, zero, suc, List, [], ◌∷◌, None, get_or, map, ap, ap₂, sym, ◌∙◌, refl}
use Rattle.xc_data.specs.declared.entry.JobLine.{JobLine}
use Rattle.xc_data.specs.declared.call.CallWithAnswer.{CallWithAnswer}
use Rattle.xc_data.specs.declared.private.Private.{Private}
use Rattle.xc_host.specs.Contents.{contents_of}
use Rattle.xc_world.specs.World.{World}
use Rattle.xc_model.specs.Setting.{Setting}
use Rattle.xc_model.specs.Ending.{IsFinalState}
use Rattle.xc_model.specs.Moment.{JobView, Doing, Idle, Active, Starved, Ended, Moment}
use Rattle.xc_model.specs.Consistent.{IsLineOf, AreLinesOf}
use Rattle.xc_flight.proofs.Laws.{all_free}
use Rattle.xc_refines.specs.InFlight.{flown_in, flown_jobs, state_of, flight_state, world_now, AreInFlight}

-- an ended job has no active transaction, and its line has its block
over_flown : (began : Private) (us : List CallWithAnswer) (line : JobLine) (job : JobView) (d : Doing) → IsLineOf line job d → flown_in began us d ≡ None
over_flown began us line job Idle h = absurd h
over_flown began us line job (Active tx) h = absurd h
over_flown began us line job Starved h = absurd h
over_flown began us line job (Ended end) h = refl

over_block : (line : JobLine) (job : JobView) (d : Doing) → IsLineOf line job d → line.block ≡ job.block
over_block line job Idle h = absurd h
over_block line job (Active tx) h = absurd h
over_block line job Starved h = absurd h
over_block line job (Ended end) h = h.0

none_flies : (unnoted : ℕ → List CallWithAnswer) (jobs : List JobView) (lines : List JobLine) → AreLinesOf jobs lines → (at : ℕ)
    → get_or (flown_jobs unnoted jobs) at None ≡ None
none_flies unnoted [] lines h at = refl
none_flies unnoted (job ∷ jobs) [] h at = absurd h
none_flies unnoted (job ∷ jobs) (line ∷ lines) h zero = over_flown job.me (unnoted 0) line job job.doing h.0
none_flies unnoted (job ∷ jobs) (line ∷ lines) h (suc at) = none_flies (λ i. unnoted (suc i)) jobs lines h.1 at

same_blocks : (jobs : List JobView) (lines : List JobLine) → AreLinesOf jobs lines
    → map (λ (line : JobLine). line.block) lines ≡ map (λ (job : JobView). job.block) jobs
same_blocks [] lines h = ap (map (λ (line : JobLine). line.block)) h
same_blocks (job ∷ jobs) [] h = absurd h
same_blocks (job ∷ jobs) (line ∷ lines) h = ap₂ (λ b bs. b ∷ bs) (over_block line job job.doing h.0) (same_blocks jobs lines h.1)

-- the words, what the host tells and the jobs are those that the journal leads to
pub at_rest : (s : Setting) (now : Moment) (lines : List JobLine) → AreInFlight s now → AreLinesOf now.jobs lines
    → IsFinalState (state_of s now) (record { words = now.words; contents = now.contents; lines = lines })
at_rest s now lines all h =
    let same : world_now s now ≡ (state_of s now).world = all_free (flight_state s now all.unnoted) all.flies
    (none_flies all.unnoted now.jobs lines h) in
    record {
      words = ap (λ (w : World). w.words) same;
      host = ap contents_of same;
      blocks = same_blocks now.jobs lines h ∙ sym all.started;
    }
