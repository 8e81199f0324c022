-- A run takes the turns that its words fix beforehand.
use Rattle.std.proofs.Common.{◌≡◌, ℕ, true, List, []}
use Rattle.std.specs.Prelude.{Option, IfSome, IsSome, is_none, not, ◌==◌, ◌&&◌}
use Rattle.std.specs.declared.option.Option.TheVariants.{None, Some}
use Rattle.std.proofs.lemmas.Bool.{and_parts}
use Rattle.xc_data.specs.Step.{Step}
use Rattle.xc_edge.specs.View.{StreamView}
use Rattle.xc_host.specs.Model.{HostModel}
use Rattle.xc_outcome.specs.Outcomes.{IsEndOf}
use Rattle.xc_station.specs.declared.run_result.End.{End}
use Rattle.xc_station.specs.Stations.{StationView}
use Rattle.xc_app.specs.declared.start.Started.{Started}
use Rattle.xc_app.specs.Followed.{IsFollowed}
use Rattle.xc_app.specs.Headline.{needs_threads}
use Rattle.xc_app.specs.Parts.{IsStarted, TakeListed}

-- what was started, took its turns and left this end
pub followed : {H : Type 0} (model : HostModel H) (words : List (List ℕ)) (source : Step StreamView) (host : H) (started : Started H)
    (last : StationView H) (end : End H) → IsStarted model words source host started
    → IfSome started.chosen.schedule (λ jobs. TakeListed model jobs started.station last)
    → (IsSome started.chosen.seed → started.chosen.schedule ≡ None → TakeListed model [] started.station last) → IsEndOf model last end
    → IsFollowed model words source host end
followed model words source host started last end start listed seeded left = (
  started.chosen,
  start.chose,
  start.prepared.bytes,
  start.prepared.input,
  record {
    first = started.station;
    last = last;
    bounds = start.bounds;
    start = start.prepared.start;
    listed = listed;
    seeded = seeded;
    left = left;
  },
)

-- with no schedule none is followed
no_schedule : (schedule : Option (List ℕ)) (follows : List ℕ → Type 0) → is_none schedule ≡ true → IfSome schedule follows
no_schedule None follows none = tt
no_schedule (Some jobs) follows none = absurd (cc none)

no_seed : {A : Type 0} (seed : Option ℕ) → is_none seed ≡ true → IsSome seed → A
no_seed None none some = absurd (cc some)
no_seed (Some seed) none some = absurd (cc none)

-- where several workers take the turns, none is fixed beforehand
pub followed_by_workers : {H : Type 0} (model : HostModel H) (words : List (List ℕ)) (source : Step StreamView) (host : H)
    (started : Started H) (last : StationView H) (end : End H) → IsStarted model words source host started
    → needs_threads started.chosen ≡ true → IsEndOf model last end → IsFollowed model words source host end
followed_by_workers model words source host started last end start needs left =
    let chosen = started.chosen in
    let both = and_parts (is_none chosen.schedule && is_none chosen.seed) (not (chosen.workers == 1)) needs in
    let none = and_parts (is_none chosen.schedule) (is_none chosen.seed) both.0 in
    followed model words source host started last end start
    (no_schedule chosen.schedule (λ jobs. TakeListed model jobs started.station last) none.0) (λ some schedule. no_seed chosen.seed none.1 some)
    left
