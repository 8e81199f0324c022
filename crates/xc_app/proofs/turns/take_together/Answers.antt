use Rattle.std.proofs.Common.{subst, sym}
use Rattle.xc_model.specs.Live.{IsScripted}
use Rattle.xc_station.specs.declared.run_result.Opening.{Opening}
use Rattle.xc_app.proofs.turns.take_together.Goals as goal

pub drain-requires : goal.drain-requires
drain-requires g c = record { scripted = subst (λ (o : Opening). IsScripted o.script) (sym c.run_workers-station.ensures.origin.opening) c.requires.scripted }
