use Rattle.std.proofs.Common.{sym, subst}
use Rattle.xc_locks.specs.Met.{IsCause, IsFirstMet}
use Rattle.xc_locks.specs.Table.{Table}
use Rattle.xc_sentinel.specs.Asking.{IsAnswer}
use Rattle.xc_sentinel.proofs.sentinels.Sentinels.ask.Goals as goal

pub returns-in-Err-Met-clause-answer : goal.returns-in-Err-Met-clause-answer
returns-in-Err-Met-clause-answer c =
    let was = c.in-Err-Met.ensures.err in
    let met : IsFirstMet c.args.self.now.claims c.args.claims.now c.args.tx c.in-Err-Met.object c.in-Err-Met.holder =
    subst (IsCause c.args.self.now.claims c.args.claims.now c.args.tx) c.in-Err-Met.field-0-is c.in-Err-Met.ensures.cause in
    subst (λ (t : Table). IsAnswer (record { old = record { claims = t; seats = c.args.self.now.seats }; new = c.meet.new.self })
    c.args.tx (record { claims = c.args.claims.now; patient = c.args.patient; at = c.args.at }) c.meet.result) was
    (c.meet.ensures c.args.claims.now
    (subst (λ (t : Table). IsFirstMet t c.args.claims.now c.args.tx c.in-Err-Met.object c.in-Err-Met.holder) (sym was) met))
