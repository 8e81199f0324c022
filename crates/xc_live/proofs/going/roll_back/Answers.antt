use Rattle.std.proofs.Common.{sym, ◌∙◌}
use Rattle.xc_model.specs.declared.phase.Phase.TheVariants.{Undoing}
use Rattle.xc_station.specs.Jobs.{job_views}
use Rattle.xc_live.proofs.Left.{has_left, has_starved, left_lives, undone_idle, undone_starved}
use Rattle.xc_live.proofs.Numbered.{phase_placed}
use Rattle.xc_live.proofs.going.roll_back.Goals as goal

pub returns-then-not-is_want-clause-left : goal.returns-then-not-is_want-clause-left
returns-then-not-is_want-clause-left g c =
    let asked = c.requires.asked in
    let cause = c.args.cause.now in
    let some = phase_placed (job_views c.args.station.now.jobs) c.args.client (Undoing cause) c.requires.undoes in
    has_left g.H.Host.model c.args.client some asked.0 asked.1 c.args.station.now asked.2 (Undoing cause) tt c.requires.undoes c.finish_undo.new.self
    (c.finish_undo.ensures.entered cause c.requires.undoes) c.finish_undo.ensures.turns
    (undone_idle cause (sym c.is_want.ensures ∙ c.if-not-is_want.true))

pub turn-requires : goal.turn-requires
turn-requires g c =
    let asked = c.requires.asked in
    let cause = c.args.cause.now in
    let some = phase_placed (job_views c.args.station.now.jobs) c.args.client (Undoing cause) c.requires.undoes in
    left_lives g.H.Host.model c.args.client some asked.0 asked.1 c.args.station.now asked.2 (Undoing cause) tt c.requires.undoes
    c.finish_undo-entry.new.self (c.finish_undo-entry.ensures.entered cause c.requires.undoes) c.finish_undo-entry.ensures.turns
    (undone_starved cause (sym c.is_want.ensures ∙ c.if-not-is_want.false))

pub returns-clause-left : goal.returns-clause-left
returns-clause-left g c =
    let asked = c.requires.asked in
    let cause = c.args.cause.now in
    let some = phase_placed (job_views c.args.station.now.jobs) c.args.client (Undoing cause) c.requires.undoes in
    has_starved g.H.Host.model c.args.client some asked.0 asked.1 c.args.station.now asked.2 (Undoing cause) tt c.requires.undoes
    c.finish_undo-entry.new.self (c.finish_undo-entry.ensures.entered cause c.requires.undoes) c.finish_undo-entry.ensures.turns
    (undone_starved cause (sym c.is_want.ensures ∙ c.if-not-is_want.false)) c.turn.new.self c.turn.result (c.turn.ensures.row, c.turn.ensures.same)
