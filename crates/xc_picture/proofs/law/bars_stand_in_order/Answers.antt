use Rattle.xc_picture.proofs.Bars.{bars_in_order, few_bars, begins_there}
use Rattle.xc_picture.proofs.law.bars_stand_in_order.Goals as goal

pub returns-clause-order : goal.returns-clause-order
returns-clause-order c = bars_in_order 1

pub returns-clause-few : goal.returns-clause-few
returns-clause-few c = few_bars

pub returns-clause-begins : goal.returns-clause-begins
returns-clause-begins c = begins_there
