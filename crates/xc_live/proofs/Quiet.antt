-- Where none of a desk's clients has a transaction, nobody has.
use Rattle.std.proofs.Common.{◌≡◌, ℕ, ◌-◌, ◌<◌, ◌≤◌, Bool, true, false, List, length, refl, ap, ◌∙◌, arith}
use Rattle.std.proofs.Math.Decide.{dec_le}
use Rattle.std.specs.Prelude.{Option, ◌==◌, is_some, if◌then◌else◌}
use Rattle.std.proofs.lemmas.Option.{slice_get-map, slice_get_past}
use mathlib.Core.Logic.{dite}
use Rattle.std.specs.Option.{option_and_then, option_map}
use Rattle.std.specs.declared.option.Option.TheVariants.{None, Some}
use Rattle.xc_model.specs.Moment.{JobView, active_in}
use Rattle.xc_live.specs.Told.{tx_at}
use Rattle.xc_station.specs.declared.job.Job.{Job}
use Rattle.xc_station.specs.Jobs.{job_view, job_views}

-- what isn't some is none
not_some : {A : Type 0} (o : Option A) → is_some o ≡ false → o ≡ None
not_some None e = refl
not_some (Some a) e = cc e

-- past the last it is told of none, whatever the number is
none_either_way : (b : Bool) → (if b then None else option_and_then (λ (job : JobView). active_in job.doing) None) ≡ None
none_either_way true = refl
none_either_way false = refl

-- a number past the last client's has none
none_past_clients : (jobs : List Job) (number : ℕ) → length jobs < number → tx_at (job_views jobs) number ≡ None
none_past_clients jobs number high =
    ap (λ (o : Option JobView). if number == 0 then None else option_and_then (λ (job : JobView). active_in job.doing) o)
    (slice_get-map job_view jobs (number - 1) ∙ ap (option_map job_view) (slice_get_past jobs (number - 1) (omega (arith, high))))
    ∙ none_either_way (number == 0)

-- where none up to this number has one, and there are no more, nobody has
pub nobody_at_all : (jobs : List Job) (client : ℕ) → length jobs ≤ client
    → ((number : ℕ) → number ≤ client → is_some (tx_at (job_views jobs) number) ≡ false) → (number : ℕ) → tx_at (job_views jobs) number ≡ None
nobody_at_all jobs client all quiet number =
    dite (dec_le number client)
    (λ low. not_some (tx_at (job_views jobs) number) (quiet number low))
    (λ high. none_past_clients jobs number (omega (arith, high, all)))
