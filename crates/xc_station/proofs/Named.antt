-- The names of jobs that are live or have ended.
use Rattle.std.proofs.Common.{◌≡◌, ℕ, suc, ◌-◌, ◌==◌, ◌<◌, ◌≤◌, Bool, true, false, List, [], ◌∷◌, length, map}
use Rattle.std.proofs.Common.{refl, ap, ap₂, ◌∙◌, arith, get_or, if◌then◌else◌}
use Rattle.std.specs.Prelude.{flat_map, slice_get, Option}
use Rattle.std.specs.declared.option.Option.TheVariants.{None, Some}
use Rattle.std.proofs.lemmas.Bool.{ne_eqb}
use Rattle.std.proofs.lemmas.Option.{slice_get-get_or}
use Rattle.std.proofs.lemmas.List.{length-map}
use Rattle.xc_data.specs.declared.entry.Mark.{Mark}
use Rattle.xc_model.specs.Moment.{JobView, Moment, actives}
use Rattle.xc_model.specs.Progress.{Following, progress_of}
use Rattle.xc_model.specs.Setting.{Setting}
use Rattle.xc_model.specs.Started.{AreStarted, blocks, started_by}
use Rattle.xc_model.specs.Stories.{StoriesHold}
use Rattle.xc_turns.proofs.Laws.{get_inside}
use Rattle.xc_station.specs.Names.{IsNameOf, block_name_at, told_blocks}

-- the started jobs have the blocks that the journal tells
told_each : (told : List Following) (jobs : List JobView) → length told ≡ length jobs
    → ((i : ℕ) (f : Following) (job : JobView) → slice_get told i ≡ Some f → slice_get jobs i ≡ Some job → f.block ≡ job.block)
    → map (λ (f : Following). f.block) told ≡ blocks jobs
told_each [] [] count each = refl
told_each [] (job ∷ jobs) count each = absurd (omega (arith, count))
told_each (f ∷ told) [] count each = absurd (omega (arith, count))
told_each (f ∷ told) (job ∷ jobs) count each =
    ap₂ (λ (b : List ℕ) (bs : List (List ℕ)). b ∷ bs) (each 0 f job refl refl)
    (told_each told jobs (omega (arith, count)) (λ i g k got there. each (suc i) g k got there))

-- a number above 0
not_zero : (job : ℕ) → 1 ≤ job → (job == 0) ≡ false
not_zero job some = ne_eqb job 0 (λ e. omega (arith, some, e))

-- a choice where the test fails
second : (t : Bool) (x : Option (List ℕ)) → t ≡ false → (if t then None else x) ≡ x
second false x e = refl
second true x e = let bad : ⊥ = cc in absurd bad

-- the name in a place
name_there : (names : List (List ℕ)) (job : ℕ) → 1 ≤ job → block_name_at names job ≡ slice_get names (job - 1)
name_there names job some = second (job == 0) (slice_get names (job - 1)) (not_zero job some)

-- a job that is live or has ended has the block that the journal tells
pub told_name : (s : Setting) (words : ℕ) (marks : ℕ → Option Mark) (now : Moment) → StoriesHold s words marks now.journal now.jobs
    → AreStarted s.script now → (job : ℕ) → 1 ≤ job → job ≤ length now.jobs → IsNameOf s.script now.journal job (block_name_at now.started job)
told_name s words marks now told started job some few =
    let same : told_blocks s.script now.journal ≡ blocks now.jobs =
    told_each (progress_of s.script now.journal).jobs now.jobs told.count (λ i f k got there. (told.jobs_told i f k got there).block) in
    let count : length (blocks now.jobs) ≡ length now.jobs = length-map now.jobs (λ (k : JobView). k.block) in
    let inside : job - 1 < length (blocks now.jobs) = omega (arith, some, few, count) in
    let there : slice_get (blocks now.jobs) (job - 1) ≡ Some (get_or (blocks now.jobs) (job - 1) []) =
    slice_get-get_or (blocks now.jobs) (job - 1) [] inside in
    record {
      block = get_or (blocks now.jobs) (job - 1) [];
      is = name_there now.started job some ∙ ap (λ (names : List (List ℕ)). slice_get names (job - 1)) started.order
          ∙ get_inside (blocks now.jobs) (flat_map started_by (actives now.jobs)) (job - 1) inside ∙ there;
      told = name_there (told_blocks s.script now.journal) job some ∙ ap (λ (names : List (List ℕ)). slice_get names (job - 1)) same ∙ there;
    }
