use Rattle.xc_station.specs.Jobs.{job_views}
use Rattle.xc_station.proofs.Finishing.{commit_left}
use Rattle.xc_station.proofs.station.Station.finish_commit.Goals as goal

pub finish-requires : goal.finish-requires
finish-requires g c = commit_left (job_views c.args.self.now.jobs) c.args.job c.requires
