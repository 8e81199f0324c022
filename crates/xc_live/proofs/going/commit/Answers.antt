use Rattle.std.proofs.Common.{refl}
use Rattle.xc_model.specs.declared.phase.Phase.TheVariants.{Committing}
use Rattle.xc_station.specs.Jobs.{job_views}
use Rattle.xc_live.proofs.Left.{has_left}
use Rattle.xc_live.proofs.Numbered.{phase_placed}
use Rattle.xc_live.proofs.going.commit.Goals as goal

pub returns-clause-left : goal.returns-clause-left
returns-clause-left g c =
    let asked = c.requires.asked in
    let some = phase_placed (job_views c.args.station.now.jobs) c.args.client Committing c.requires.commits in
    has_left g.H.Host.model c.args.client some asked.0 asked.1 c.args.station.now asked.2 Committing tt c.requires.commits c.finish_commit.new.self
    c.finish_commit.ensures.entered c.finish_commit.ensures.turns refl
