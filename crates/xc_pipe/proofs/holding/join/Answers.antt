use Rattle.xc_pipe.proofs.Takings.{given_joined}
use Rattle.xc_pipe.proofs.holding.join.Goals as goal

pub returns-in-Err-clause-err : goal.returns-in-Err-clause-err
returns-in-Err-clause-err c =
    given_joined c.args.kept.now.items c.give_back.new.self.items c.give_back-in-Err.new.self.items c.args.pipe c.args.front c.args.more
    c.give_back.ensures.world c.give_back-in-Err.ensures.world
