use Rattle.xc_picture.proofs.Spots.{spot_found, missed}
use Rattle.xc_picture.proofs.law.an_arrow_ends_at_its_rival.Goals as goal

pub returns-clause-found : goal.returns-clause-found
returns-clause-found c = spot_found

pub returns-clause-missed : goal.returns-clause-missed
returns-clause-missed c = missed
