use Rattle.xc_turns.proofs.GivenNumbers.{given_once, given_by_now}
use Rattle.xc_turns.proofs.numbers.each_number_is_given_once.Goals as goal

pub returns-clause-once : goal.returns-clause-once
returns-clause-once c = given_once

pub returns-clause-begun : goal.returns-clause-begun
returns-clause-begun c = given_by_now
