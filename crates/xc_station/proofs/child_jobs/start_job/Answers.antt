use Rattle.std.proofs.Common.{refl, ap, ◌∙◌, subst}
use Rattle.std.specs.Prelude.{slice_set}
use Rattle.xc_data.specs.declared.call.LateEnd.TheVariants as end
use Rattle.xc_station.specs.declared.job.Job.{Job}
use Rattle.xc_station.specs.Jobs.{job_view}
use Rattle.xc_station.specs.Starting.{StartsChild}
use Rattle.xc_station.proofs.Children.{lent_job, still_has}
use Rattle.xc_station.proofs.child_jobs.start_job.Goals as goal

pub returns-in_default-clause-jobs : goal.returns-in_default-clause-jobs
returns-in_default-clause-jobs c job got = still_has c.args.jobs.now.items c.args.jobs.now.items c.args.at job refl got

pub returns-then-len-ge-MOST_JOBS-clause-jobs : goal.returns-then-len-ge-MOST_JOBS-clause-jobs
returns-then-len-ge-MOST_JOBS-clause-jobs c job got = still_has c.args.jobs.now.items c.args.jobs.now.items c.args.at job refl got

pub returns-then-is_err-clause-jobs : goal.returns-then-is_err-clause-jobs
returns-then-is_err-clause-jobs c job got =
    still_has c.args.jobs.now.items c.make_room.new.jobs.items c.args.at job c.make_room.ensures.same.0 got

pub returns-in-Ok-clause-jobs : goal.returns-in-Ok-clause-jobs
returns-in-Ok-clause-jobs c job got =
    let same = c.make_room.ensures.same.0 in
    let one = lent_job c.args.jobs.now.items c.make_room.new.jobs.items c.args.at c.index_mut.result.now job same c.index_mut.ensures.value got in
    let next = c.push_child.new.job in (
      next,
      ap (λ js. slice_set js c.args.at next) same,
      c.push_child.ensures.same ∙ ap job_view one,
      subst (λ (j : Job). StartsChild c.args.script.now j c.args.start.block end.Done next.children.items) one c.in-Ok.ensures.ok,
    )

pub returns-in-Err-clause-jobs : goal.returns-in-Err-clause-jobs
returns-in-Err-clause-jobs c job got =
    let same = c.make_room.ensures.same.0 in
    let one = lent_job c.args.jobs.now.items c.make_room.new.jobs.items c.args.at c.index_mut.result.now job same c.index_mut.ensures.value got in
    let next = c.push_child.new.job in (
      next,
      ap (λ js. slice_set js c.args.at next) same,
      c.push_child.ensures.same ∙ ap job_view one,
      c.in-Err.ensures.err ∙ ap (λ (j : Job). j.children.items) one,
    )
