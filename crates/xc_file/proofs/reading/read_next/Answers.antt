use Rattle.std.proofs.Common.{rules}
use Rattle.xc_file.proofs.reading.read_next.Goals as goal

pub returns-then-at-n-clause-passes : goal.returns-then-at-n-clause-passes
returns-then-at-n-clause-passes g c = λ number undo. record {
  reply = search rules;
  uses = search rules;
  after = search rules;
  acts = search rules;
  err = search rules;
  cause = search rules;
}
