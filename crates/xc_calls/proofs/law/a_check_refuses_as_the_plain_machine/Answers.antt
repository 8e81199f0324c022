use Rattle.xc_calls.proofs.Refusals.{refused_acts, passed_checks}
use Rattle.xc_calls.proofs.law.a_check_refuses_as_the_plain_machine.Goals as goal

pub returns-clause-refused : goal.returns-clause-refused
returns-clause-refused c = refused_acts

pub returns-clause-passed : goal.returns-clause-passed
returns-clause-passed c = passed_checks
