use Rattle.std.proofs.Common.{sym, ◌∙◌}
use Rattle.xc_live.proofs.Dismissed.{dismissed_quiet, dismissed_so, end_of_client, mid_lives}
use Rattle.xc_live.proofs.desk.closing.dismiss.Goals as goal

pub hand_in-requires-clause-may : goal.hand_in-requires-clause-may
hand_in-requires-clause-may g c =
    end_of_client g.H.Host.model c.args.client c.args.station.now c.requires.quiet (sym c.live.ensures ∙ c.if-not-live.false)

pub turn-requires : goal.turn-requires
turn-requires g c =
    mid_lives g.H.Host.model c.args.client c.args.station.now c.requires.quiet (sym c.live.ensures ∙ c.if-not-live.false) c.hand_in.new.self
    c.hand_in.ensures.same c.hand_in.ensures.handed

pub returns-clause-quiet : goal.returns-clause-quiet
returns-clause-quiet g c =
    dismissed_quiet g.H.Host.model c.args.client c.args.station.now c.requires.quiet (sym c.live.ensures ∙ c.if-not-live.false) c.hand_in.new.self
    c.hand_in.ensures.same c.hand_in.ensures.handed c.turn.new.self c.turn.result (c.turn.ensures.row, c.turn.ensures.same)

pub returns-clause-dismissed : goal.returns-clause-dismissed
returns-clause-dismissed g c =
    dismissed_so g.H.Host.model c.args.client c.args.station.now c.requires.quiet (sym c.live.ensures ∙ c.if-not-live.false) c.hand_in.new.self
    c.hand_in.ensures.same c.hand_in.ensures.handed c.turn.new.self c.turn.result (c.turn.ensures.row, c.turn.ensures.same)
