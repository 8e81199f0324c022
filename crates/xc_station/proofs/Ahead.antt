-- How far no job lives after a number.
use Rattle.std.proofs.Common.{◌≡◌, inl, inr, ◌+◌, ◌-◌, ◌<◌, ◌≤◌, ℕ, zero, suc, true, false, List, [], ◌∷◌, ◌++◌, length, ap, refl, sym, subst, ◌∙◌, arith}
use Rattle.std.proofs.Math.Decide.{dec_le}
use Rattle.std.proofs.lemmas.List.{append-nil, length-append}
use Rattle.std.proofs.lemmas.Option.{slice_get-get_or, slice_get_read}
use Rattle.std.specs.Prelude.{get_or, slice_get, slice_set}
use Rattle.std.specs.declared.option.Option.TheVariants.{Some}
use mathlib.Core.Logic.{dite}
use native.Mathlib.Decide.{ℕ_discrete}
use Rattle.xc_turns.proofs.Laws.{get_cases, get_inside}
use Rattle.xc_station.specs.declared.job.Job.{Job}
use Rattle.xc_station.specs.Jobs.{doing_of, goes_on, job_view, job_views, stage_of}
use Rattle.xc_station.specs.Stations.{AreAhead, IsAhead, live_at, lives}
use Rattle.xc_data.proofs.Laws.{get_set_other, get_set_same, length_set, map_set}
use Rattle.xc_station.proofs.Runs.{by_place, other_lives}

-- ---- a turn of a job that lives
still_ended : (jobs : List Job) (at : ℕ) (was job : Job) → slice_get jobs at ≡ Some was → goes_on (stage_of (doing_of was)) ≡ true → (other : ℕ)
    → other ≤ length jobs → live_at jobs other ≡ false → live_at (slice_set jobs at job) other ≡ false
still_ended jobs at was job stands live other low ended =
    dite (ℕ_discrete other (at + 1))
    (λ same. let both : true ≡ false = sym live ∙ ap lives (sym stands) ∙ sym (by_place jobs at) ∙ ap (live_at jobs) (sym same) ∙ ended in cc both)
    (λ away. other_lives jobs (slice_set jobs at job) (at + 1) (job_view job) [] (omega arith)
    (map_set job_view jobs at job ∙ ap (λ (n : ℕ). slice_set (job_views jobs) n (job_view job)) (let e : at ≡ at + 1 - 1 = omega arith in e)
    ∙ sym (append-nil (slice_set (job_views jobs) (at + 1 - 1) (job_view job)))) other away low
    ∙ ended)

-- no other job lives again
pub ahead_kept : (jobs : List Job) (at : ℕ) (was job : Job) (ahead : List ℕ) → slice_get jobs at ≡ Some was → goes_on (stage_of (doing_of was)) ≡ true
    → AreAhead jobs ahead → AreAhead (slice_set jobs at job) ahead
ahead_kept jobs at was job ahead stands live are =
    record {
      count = are.count ∙ ap (λ n. n + 1) (sym (length_set jobs at job));
      each = λ number next is. let far = are.each number next is in record {
        above = far.above;
        within = subst (λ n. next ≤ n + 1) (sym (length_set jobs at job)) far.within;
        ended = λ other more less.
            let within = far.within in
            still_ended jobs at was job stands live other (omega (arith, less, within)) (far.ended other more less);
      };
    }

-- and as many jobs are taken
pub taken_kept : (jobs : List Job) (at : ℕ) (job : Job) (taken : ℕ) → taken ≤ length jobs → taken ≤ length (slice_set jobs at job)
taken_kept jobs at job taken few = subst (λ n. taken ≤ n) (sym (length_set jobs at job)) few

-- ---- further on
-- after a number and one that has ended
pub further_ahead : (jobs : List Job) (number next after : ℕ) → IsAhead jobs number next → live_at jobs next ≡ false → IsAhead jobs next after
    → IsAhead jobs number after
further_ahead jobs number next after far ended more =
    let above = far.above in
    let beyond = more.above in
    record {
      above = omega (arith, above, beyond);
      within = more.within;
      ended = λ other low high. dite (dec_le next other)
          (λ up. dite (ℕ_discrete other next) (λ same. ap (live_at jobs) same ∙ ended) (λ away. more.ended other (omega (arith, up, away)) high))
          (λ down. far.ended other low (omega (arith, down)));
    }

-- which is kept for that number
pub ahead_set : (jobs : List Job) (ahead : List ℕ) (number next : ℕ) → number < length ahead → AreAhead jobs ahead → IsAhead jobs number next
    → AreAhead jobs (slice_set ahead number next)
ahead_set jobs ahead number next low are far =
    record {
      count = length_set ahead number next ∙ are.count;
      each = λ other after is. dite (ℕ_discrete other number)
          (λ same. let this = get_set_same ahead number (get_or ahead number 0) next (slice_get-get_or ahead number 0 low) in
          let one : Some after ≡ Some next = sym is ∙ ap (slice_get (slice_set ahead number next)) same ∙ this in
          let value : next ≡ after = cc one in
          subst (λ n. IsAhead jobs n after) (sym same) (subst (IsAhead jobs number) value far))
          (λ away. are.each other after (sym (get_set_other ahead number other next away) ∙ is));
    }

-- what is kept for a number
pub read_ahead : (jobs : List Job) (ahead : List ℕ) (number next : ℕ) → AreAhead jobs ahead → number ≤ length jobs → next ≡ get_or ahead number next
    → IsAhead jobs number next
read_ahead jobs ahead number next are low is =
    let count = are.count in
    are.each number next (slice_get_read ahead (length ahead) number next refl (omega (arith, count, low)) is)

-- ---- one job more
-- those that were there live as before
pub inside_lives : (jobs more : List Job) (number : ℕ) → number ≤ length jobs → live_at (jobs ++ more) number ≡ live_at jobs number
inside_lives jobs more zero low = refl
inside_lives jobs more (suc at) low =
    let same : suc at ≡ at + 1 = omega arith in
    ap (live_at (jobs ++ more)) same ∙ by_place (jobs ++ more) at ∙ ap lives (get_inside jobs more at (omega (arith, low))) ∙ sym (by_place jobs at)
    ∙ sym (ap (live_at jobs) same)

-- after the others, with a number for it
pub ahead_joined : (jobs : List Job) (job : Job) (ahead : List ℕ) (end : ℕ) → end ≡ length jobs + 2 → AreAhead jobs ahead
    → AreAhead (jobs ++ job ∷ []) (ahead ++ end ∷ [])
ahead_joined jobs job ahead end is are =
    let count = are.count in
    let jobs' = length-append jobs (job ∷ []) in
    let ahead' = length-append ahead (end ∷ []) in
    record {
      count = omega (arith, count, jobs', ahead');
      each = λ number next stands. elim (get_cases ahead end number next stands) [
        | inl before ↦
            let far = are.each number next before in
            let within = far.within in
            record {
              above = far.above;
              within = omega (arith, within, jobs');
              ended = λ other more less. inside_lives jobs (job ∷ []) other (omega (arith, less, within)) ∙ far.ended other more less;
            }
        | inr last ↦
            let here : number ≡ length ahead = last.0 in
            let last' : next ≡ end = sym last.1 in
            record {
              above = omega (arith, here, last', is, count);
              within = omega (arith, last', is, jobs');
              ended = λ other more less. absurd (omega (arith, more, less, here, last', is, count));
            }
      ];
    }
