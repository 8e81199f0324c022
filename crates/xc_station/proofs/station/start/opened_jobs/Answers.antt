use Rattle.std.proofs.Common.{◌≡◌, ℕ, ◌<◌, ◌||◌, true, List, [], ◌∷◌, ◌++◌, length, get_or, map, ap, sym, ◌∙◌, subst, All}
use Rattle.std.specs.Prelude.{Bool, nat_eq}
use Rattle.std.specs.Cmp.Lexicographic.{pointwise, nat_list_eq_equiv}
use Rattle.std.specs.List.{list_any}
use Rattle.std.proofs.lemmas.Bool.{true≢false}
use Rattle.std.proofs.lemmas.List.Folds.{list_any-append, list_any_at}
use Rattle.std.proofs.lemmas.List.{map-append, map_more}
use Rattle.std.proofs.lemmas.List.Elements.{All-push}
use Rattle.xc_data.specs.declared.script.Outline.{Outline}
use Rattle.xc_model.specs.Opened.{opened_job}
use Rattle.xc_station.specs.declared.job.Job.{Job}
use Rattle.xc_station.specs.Jobs.{job_view}
use Rattle.xc_station.proofs.station.start.opened_jobs.Goals as goal

-- a job's name is one of those of the blocks
among : (jobs bodies : List (List ℕ)) (at : ℕ) (block : List ℕ) → at < length jobs → block ≡ get_or jobs at block →
    list_any (λ name. pointwise nat_eq name block) (jobs ++ bodies) ≡ true
among jobs bodies at block within is =
    let test : List ℕ → Bool = λ name. pointwise nat_eq name block in
    let there : test (get_or jobs at block) ≡ true = subst (λ name. test name ≡ true) is (nat_list_eq_equiv.refl block) in
    list_any-append test jobs bodies ∙ ap (λ t. t || list_any test bodies) (list_any_at test jobs at block within there)

pub unreachable-requires : goal.unreachable-requires
unreachable-requires c =
    let outline = c.args.script.now.outline in
    let at = c.loop-block.block-index in
    let block = c.block-item.result in
    let jobs = c.as_slice-block-items.ensures ∙ ap (λ (o : Outline). o.jobs) c.outline-3.ensures in
    let within : at < length outline.jobs = subst (λ names. at < length names) jobs c.loop-block-test.true in
    let is : block ≡ get_or outline.jobs at block = subst (λ names. block ≡ get_or names at block) jobs c.block-item.is in
    absurd (true≢false (sym (among outline.jobs outline.bodies at block within is) ∙ c.in-None.ensures))

pub loop-block-preserved : goal.loop-block-preserved
loop-block-preserved c =
    let was = c.loop-block.invariant in
    let pushed = c.in_ok-push-in-Some.ensures.items in
    let script = c.args.script.now in
    let names = script.outline.jobs in
    let at = c.loop-block.block-index in
    let block = c.block-item.result in
    let jobs = c.as_slice-block-items.ensures ∙ ap (λ (o : Outline). o.jobs) c.outline-3.ensures in
    let within : at < length names = subst (λ ns. at < length ns) jobs c.loop-block-test.true in
    let is : block ≡ get_or names at block = subst (λ ns. block ≡ get_or ns at block) jobs c.block-item.is in
    let seen : job_view c.in_ok-opened_job-in-Some.field-0 ≡ opened_job script (get_or names at block) =
    c.in_ok-opened_job-in-Some.ensures.job ∙ ap (opened_job script) is in
    record {
      opened = ap (map job_view) pushed ∙ map-append job_view c.loop-block.jobs.items (c.in_ok-opened_job-in-Some.field-0 ∷ [])
          ∙ (λ i. was.opened i ++ seen i ∷ []) ∙ sym (map_more (opened_job script) names at block within);
      alone = subst (All (λ (job : Job). job.children.items ≡ [])) (sym pushed)
          (All-push (λ (job : Job). job.children.items ≡ []) c.loop-block.jobs.items c.in_ok-opened_job-in-Some.field-0 was.alone
          c.in_ok-opened_job-in-Some.ensures.alone);
    }
