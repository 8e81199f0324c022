use Rattle.std.proofs.Common.{rules}
use Rattle.xc_host.proofs.Places.{is_called}
use Rattle.xc_host.proofs.kind_counts.KindCounts.count.Goals as goal

pub returns-clause-called : goal.returns-clause-called
returns-clause-called c = λ kind. is_called c.args.self.now _ c.args.kind (search rules) (search rules) kind
