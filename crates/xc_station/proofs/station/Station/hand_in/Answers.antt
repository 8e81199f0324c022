use Rattle.std.proofs.Common.{◌-◌, sym, subst}
use Rattle.std.specs.Prelude.{slice_set}
use Rattle.xc_model.specs.HandedIn.{IsHandedIn, MayHand, MayHandIn}
use Rattle.xc_model.specs.Setting.{setting}
use Rattle.xc_station.specs.Jobs.{job_view}
use Rattle.xc_station.specs.Stations.{moment, now_of, room_of, setting_of}
use Rattle.xc_station.proofs.HandedIn.{handed_in_there, same_job, stands_lent, what_is_handed_in_keeps_it_steady, with_handed}
use Rattle.xc_station.proofs.HandedKept.{ahead_handed, backed_handed, hands_live, rooms_handed, starts_handed, taken_handed, undoable_handed}
use Rattle.xc_station.proofs.station.Station.hand_in.Goals as goal

pub invariant_of-self : goal.invariant_of-self
invariant_of-self g c =
    let was = c.index_mut.result.now in
    let station = c.self.inside in
    let model = g.H.Host.model in
    let at = c.args.job - 1 in
    let jobs = station.jobs.items in
    let s = setting station.opening.script station.rules model.tells in
    let may = subst (λ v. MayHandIn (setting_of model v) at c.args.ask (now_of model v)) (sym c.self.view_is) c.requires.may in
    let stands = stands_lent jobs at was may.job may.is c.index_mut.ensures.value in
    let is = handed_in_there model station.shared station.journal.items jobs at was c.args.ask stands s may in
    record {
      steady = what_is_handed_in_keeps_it_steady s station.opening.faults at c.args.ask _ _ is c.self.invariant.steady;
      rooms = rooms_handed jobs at was c.args.ask stands model station.shared station.journal.items station.active station.journal.spare station.lines
          c.self.invariant.rooms;
      ahead = ahead_handed jobs at was c.args.ask stands station.ahead.items (hands_live (job_view was).doing c.args.ask
          (subst (λ j. MayHand j.doing c.args.ask) (same_job jobs at was may.job may.is stands) may.may)) c.self.invariant.ahead;
      taken = taken_handed jobs at was c.args.ask stands station.taken c.self.invariant.taken;
      plan = c.self.invariant.plan;
      backed = λ tells. backed_handed jobs at was c.args.ask stands (model.contents station.shared.host) station.shared.buffers.kept
          (c.self.invariant.backed tells);
      unparted = c.self.invariant.unparted;
      indexed = c.self.invariant.indexed;
      starts = starts_handed jobs at was c.args.ask stands station.opening.script station.shared.started.items
          (room_of station.jobs station.lines station.ahead) c.self.invariant.starts;
      undoable = undoable_handed jobs at was c.args.ask stands station.rules.undo_tries c.self.invariant.undoable;
    }

pub returns-clause-handed : goal.returns-clause-handed
returns-clause-handed g c =
    let was = c.index_mut.result.now in
    let station = c.self.inside in
    let model = g.H.Host.model in
    let at = c.args.job - 1 in
    let jobs = station.jobs.items in
    let s = setting station.opening.script station.rules model.tells in
    let may = subst (λ v. MayHandIn (setting_of model v) at c.args.ask (now_of model v)) (sym c.self.view_is) c.requires.may in
    let stands = stands_lent jobs at was may.job may.is c.index_mut.ensures.value in
    subst (λ v. IsHandedIn (setting_of model v) at c.args.ask (now_of model v)
    (moment model station.shared station.journal.items (slice_set jobs at (with_handed was c.args.ask)))) c.self.view_is
    (handed_in_there model station.shared station.journal.items jobs at was c.args.ask stands s may)
