use Rattle.xc_station.specs.Jobs.{job_views}
use Rattle.xc_station.proofs.Finishing.{undo_left}
use Rattle.xc_station.proofs.station.Station.finish_undo.Goals as goal

pub finish-requires : goal.finish-requires
finish-requires g c = undo_left (job_views c.args.self.now.jobs) c.args.job c.requires.0 c.requires.1
