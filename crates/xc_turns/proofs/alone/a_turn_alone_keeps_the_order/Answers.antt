use Rattle.xc_turns.proofs.Orders.{alone_turned, alone_opened, alone_later, alone_stops}
use Rattle.xc_turns.proofs.alone.a_turn_alone_keeps_the_order.Goals as goal

pub returns-clause-turn : goal.returns-clause-turn
returns-clause-turn c = alone_turned

pub returns-clause-start : goal.returns-clause-start
returns-clause-start c = alone_opened

pub returns-clause-later : goal.returns-clause-later
returns-clause-later c = alone_later

pub returns-clause-stops : goal.returns-clause-stops
returns-clause-stops c = alone_stops
