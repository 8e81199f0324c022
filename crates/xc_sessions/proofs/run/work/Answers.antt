use Rattle.xc_sessions.proofs.Grown.{all_later}
use Rattle.std.proofs.Common.{subst, sym}
use Rattle.xc_model.specs.Live.{IsScripted}
use Rattle.xc_station.specs.Stations.{StationView}
use Rattle.xc_station.specs.declared.run_result.Opening.{Opening}
use Rattle.xc_sessions.proofs.run.work.Goals as goal

pub returns-in-Ok-clause-sessions : goal.returns-in-Ok-clause-sessions
returns-in-Ok-clause-sessions g c =
    all_later g.M.Duplex.told c.in-Ok.served.journal c.drain.new.station.journal
    (record { old = g.L.Links.told c.args.links; new = g.L.Links.told c.in-Ok.links }) c.args.count c.in-Ok.sessions.items c.drain.ensures.front
    c.in-Ok.ensures.sessions

pub drain-requires : goal.drain-requires
drain-requires g c = record { scripted = subst (λ (o : Opening). IsScripted o.script) (sym c.in-Ok.ensures.origin.opening) c.requires.scripted }

pub drain-requires-in-Err : goal.drain-requires-in-Err
drain-requires-in-Err g c =
    record { scripted = subst (λ (s : StationView g.row.H.Denot). IsScripted s.opening.script) (sym c.in-Err.ensures.err.0) c.requires.scripted }
