use Rattle.std.proofs.Common.{subst, sym}
use Rattle.xc_model.specs.Live.{IsScripted}
use Rattle.xc_station.specs.declared.run_result.Opening.{Opening}
use Rattle.xc_app.proofs.turns.take_listed.Goals as goal

pub returns-clause-listed : goal.returns-clause-listed
returns-clause-listed g c = (c.run_schedule.new.station, c.run_schedule.ensures.turns, c.drain.ensures.rounds.0, c.drain.ensures.rounds.1)

pub drain-requires : goal.drain-requires
drain-requires g c = record { scripted = subst (λ (o : Opening). IsScripted o.script) (sym c.run_schedule.ensures.origin.opening) c.requires.scripted }
