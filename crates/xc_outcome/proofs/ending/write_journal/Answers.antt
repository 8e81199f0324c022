use Rattle.std.proofs.Common.{None, inl, inr, refl, rules}
use Rattle.xc_outcome.specs.Runs.{written_of}
use Rattle.xc_outcome.proofs.ending.write_journal.Goals as goal

pub returns-in-Ok-Ok : goal.returns-in-Ok-Ok
returns-in-Ok-Ok g c =
    (c.meant_of-meant.result, written_of None c.args.end.now, c.meant_of-meant.ensures None, inl (refl, search rules))

pub returns-in-Ok-Err : goal.returns-in-Ok-Err
returns-in-Ok-Err g c = (
  c.meant_of-meant.result,
  written_of None c.args.end.now,
  c.meant_of-meant.ensures None,
  inr (refl, search rules, search rules),
)
