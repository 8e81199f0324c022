use Rattle.std.proofs.Common.{◌≡◌, ◌-◌, sym, subst, ap, ◌∙◌, true, false}
use Rattle.xc_station.specs.declared.job.Stage.TheVariants as PlainStage
use Rattle.xc_station.specs.Jobs.{IsStage, goes_on}
use Rattle.xc_station.specs.Stations.{now_of, setting_of}
use Rattle.xc_station.specs.Stations.{live_at}
use Rattle.xc_station.proofs.Stages.{live_shown}
use Rattle.xc_station.proofs.Leaving.{turn_leaves}
use Rattle.xc_station.proofs.Steady.{fewer_left}
use Rattle.xc_station.proofs.station.Station.advance.Goals as goal

pub idle-requires : goal.idle-requires
idle-requires g c =
    let jobs = c.self.inside.jobs.items in
    let live = live_shown jobs c.args.job c.index.result.now (subst (λ v. live_at v.jobs c.args.job ≡ true) (sym c.self.view_is) c.requires) c.index.ensures in
    subst (λ v. IsStage v.jobs (c.args.job - 1) PlainStage.Idle) c.self.view_is (c.index.result.now, live.there, sym c.stage.ensures ∙ c.in-Idle.is)

pub running-requires : goal.running-requires
running-requires g c =
    let jobs = c.self.inside.jobs.items in
    let live = live_shown jobs c.args.job c.index.result.now (subst (λ v. live_at v.jobs c.args.job ≡ true) (sym c.self.view_is) c.requires) c.index.ensures in
    subst (λ v. IsStage v.jobs (c.args.job - 1) PlainStage.Running) c.self.view_is (c.index.result.now, live.there, sym c.stage.ensures ∙ c.in-Running.is)

pub backing-requires : goal.backing-requires
backing-requires g c =
    let jobs = c.self.inside.jobs.items in
    let live = live_shown jobs c.args.job c.index.result.now (subst (λ v. live_at v.jobs c.args.job ≡ true) (sym c.self.view_is) c.requires) c.index.ensures in
    subst (λ v. IsStage v.jobs (c.args.job - 1) PlainStage.Backing) c.self.view_is (c.index.result.now, live.there, sym c.stage.ensures ∙ c.in-Backing.is)

pub committing-requires : goal.committing-requires
committing-requires g c =
    let jobs = c.self.inside.jobs.items in
    let live = live_shown jobs c.args.job c.index.result.now (subst (λ v. live_at v.jobs c.args.job ≡ true) (sym c.self.view_is) c.requires) c.index.ensures in
    subst (λ v. IsStage v.jobs (c.args.job - 1) PlainStage.Committing) c.self.view_is (
      c.index.result.now,
      live.there,
      sym c.stage.ensures
          ∙ c.in-Committing.is,
    )

pub committed-requires : goal.committed-requires
committed-requires g c =
    let jobs = c.self.inside.jobs.items in
    let live = live_shown jobs c.args.job c.index.result.now (subst (λ v. live_at v.jobs c.args.job ≡ true) (sym c.self.view_is) c.requires) c.index.ensures in
    subst (λ v. IsStage v.jobs (c.args.job - 1) PlainStage.Committed) c.self.view_is (
      c.index.result.now,
      live.there,
      sym c.stage.ensures
          ∙ c.in-Committed.is,
    )

pub undoing-requires : goal.undoing-requires
undoing-requires g c =
    let jobs = c.self.inside.jobs.items in
    let live = live_shown jobs c.args.job c.index.result.now (subst (λ v. live_at v.jobs c.args.job ≡ true) (sym c.self.view_is) c.requires) c.index.ensures in
    subst (λ v. IsStage v.jobs (c.args.job - 1) PlainStage.Undoing) c.self.view_is (c.index.result.now, live.there, sym c.stage.ensures ∙ c.in-Undoing.is)

pub undone-requires : goal.undone-requires
undone-requires g c =
    let jobs = c.self.inside.jobs.items in
    let live = live_shown jobs c.args.job c.index.result.now (subst (λ v. live_at v.jobs c.args.job ≡ true) (sym c.self.view_is) c.requires) c.index.ensures in
    subst (λ v. IsStage v.jobs (c.args.job - 1) PlainStage.Undone) c.self.view_is (c.index.result.now, live.there, sym c.stage.ensures ∙ c.in-Undone.is)

pub starved-requires : goal.starved-requires
starved-requires g c =
    let jobs = c.self.inside.jobs.items in
    let live = live_shown jobs c.args.job c.index.result.now (subst (λ v. live_at v.jobs c.args.job ≡ true) (sym c.self.view_is) c.requires) c.index.ensures in
    subst (λ v. IsStage v.jobs (c.args.job - 1) PlainStage.Starved) c.self.view_is (c.index.result.now, live.there, sym c.stage.ensures ∙ c.in-Starved.is)

pub unreachable-requires : goal.unreachable-requires
unreachable-requires g c =
    let jobs = c.self.inside.jobs.items in
    let live = live_shown jobs c.args.job c.index.result.now (subst (λ v. live_at v.jobs c.args.job ≡ true) (sym c.self.view_is) c.requires) c.index.ensures in
    let lacks : true ≡ false = sym live.lives ∙ ap goes_on (sym c.stage.ensures ∙ c.in-Ended.is) in
    cc lacks

pub returns-in-Idle-clause-falls : goal.returns-in-Idle-clause-falls
returns-in-Idle-clause-falls g c own = fewer_left g.H.Host.model c.args.self.now c.idle.new.self (c.args.job - 1) _ c.idle.ensures.same own c.idle.ensures.row

pub returns-in-Running-clause-falls : goal.returns-in-Running-clause-falls
returns-in-Running-clause-falls g c own = fewer_left g.H.Host.model c.args.self.now c.running.new.self
    (c.args.job - 1) _ c.running.ensures.same own c.running.ensures.row

pub returns-in-Backing-clause-falls : goal.returns-in-Backing-clause-falls
returns-in-Backing-clause-falls g c own = fewer_left g.H.Host.model c.args.self.now c.backing.new.self
    (c.args.job - 1) _ c.backing.ensures.same own c.backing.ensures.row

pub returns-in-Committing-clause-falls : goal.returns-in-Committing-clause-falls
returns-in-Committing-clause-falls g c own = fewer_left g.H.Host.model c.args.self.now c.committing.new.self
    (c.args.job - 1) _ c.committing.ensures.same own c.committing.ensures.row

pub returns-in-Committed-clause-falls : goal.returns-in-Committed-clause-falls
returns-in-Committed-clause-falls g c own = fewer_left g.H.Host.model c.args.self.now c.committed.new.self
    (c.args.job - 1) _ c.committed.ensures.same own c.committed.ensures.row

pub returns-in-Undoing-clause-falls : goal.returns-in-Undoing-clause-falls
returns-in-Undoing-clause-falls g c own = fewer_left g.H.Host.model c.args.self.now c.undoing.new.self
    (c.args.job - 1) _ c.undoing.ensures.same own c.undoing.ensures.row

pub returns-in-Undone-clause-falls : goal.returns-in-Undone-clause-falls
returns-in-Undone-clause-falls g c own = fewer_left g.H.Host.model c.args.self.now c.undone.new.self (c.args.job - 1) _ c.undone.ensures.same own
    c.undone.ensures.row

pub returns-in-Starved-clause-falls : goal.returns-in-Starved-clause-falls
returns-in-Starved-clause-falls g c own = fewer_left g.H.Host.model c.args.self.now c.starved.new.self
    (c.args.job - 1) _ c.starved.ensures.same own c.starved.ensures.row

pub returns-in-Idle-clause-changes : goal.returns-in-Idle-clause-changes
returns-in-Idle-clause-changes g c =
    let model = g.H.Host.model in
    turn_leaves (setting_of model c.args.self.now) (c.args.job - 1) (now_of model c.args.self.now) (now_of model c.idle.new.self) _ c.idle.ensures.row

pub returns-in-Running-clause-changes : goal.returns-in-Running-clause-changes
returns-in-Running-clause-changes g c =
    let model = g.H.Host.model in
    turn_leaves (setting_of model c.args.self.now) (c.args.job - 1) (now_of model c.args.self.now) (now_of model c.running.new.self) _ c.running.ensures.row

pub returns-in-Backing-clause-changes : goal.returns-in-Backing-clause-changes
returns-in-Backing-clause-changes g c =
    let model = g.H.Host.model in
    turn_leaves (setting_of model c.args.self.now) (c.args.job - 1) (now_of model c.args.self.now) (now_of model c.backing.new.self) _ c.backing.ensures.row

pub returns-in-Committing-clause-changes : goal.returns-in-Committing-clause-changes
returns-in-Committing-clause-changes g c =
    let model = g.H.Host.model in
    turn_leaves (setting_of model c.args.self.now) (c.args.job - 1) (now_of model c.args.self.now) (now_of model c.committing.new.self) _
    c.committing.ensures.row

pub returns-in-Committed-clause-changes : goal.returns-in-Committed-clause-changes
returns-in-Committed-clause-changes g c =
    let model = g.H.Host.model in
    turn_leaves (setting_of model c.args.self.now) (c.args.job - 1) (now_of model c.args.self.now) (now_of model c.committed.new.self) _ c.committed.ensures.row

pub returns-in-Undoing-clause-changes : goal.returns-in-Undoing-clause-changes
returns-in-Undoing-clause-changes g c =
    let model = g.H.Host.model in
    turn_leaves (setting_of model c.args.self.now) (c.args.job - 1) (now_of model c.args.self.now) (now_of model c.undoing.new.self) _ c.undoing.ensures.row

pub returns-in-Undone-clause-changes : goal.returns-in-Undone-clause-changes
returns-in-Undone-clause-changes g c =
    let model = g.H.Host.model in
    turn_leaves (setting_of model c.args.self.now) (c.args.job - 1) (now_of model c.args.self.now) (now_of model c.undone.new.self) _ c.undone.ensures.row

pub returns-in-Starved-clause-changes : goal.returns-in-Starved-clause-changes
returns-in-Starved-clause-changes g c =
    let model = g.H.Host.model in
    turn_leaves (setting_of model c.args.self.now) (c.args.job - 1) (now_of model c.args.self.now) (now_of model c.starved.new.self) _ c.starved.ensures.row
