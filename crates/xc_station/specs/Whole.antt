-- What the fields of a station keep together between two turns.
use Rattle.std.specs.FinMap as map
use Rattle.std.specs.Global.{Global}
use Rattle.std.specs.Prelude.{◌≡◌, ℕ, ◌≤◌, length, IsTrue, Vec}
use Rattle.xc_data.specs.declared.entry.JobLine.{JobLine}
use Rattle.xc_host.specs.Model.{HostModel, plan_of}
use Rattle.xc_maps.specs.Keys.{name_cmp}
use Rattle.xc_model.specs.Live.{IsScripted}
use Rattle.xc_model.specs.Moment.{Moment}
use Rattle.xc_model.specs.Setting.{Setting, setting}
use Rattle.xc_model.specs.declared.rules.Rules.{Rules}
use Rattle.xc_journal.specs.Told.{Journal}
use Rattle.xc_roomy.specs.Room.{Roomy}
use Rattle.xc_station.specs.declared.calls.Shared.{Shared}
use Rattle.xc_station.specs.declared.job.Job.{Job}
use Rattle.xc_station.specs.declared.run_result.Opening.{Opening}
use Rattle.xc_station.specs.Backs.{AllBackSafely}
use Rattle.xc_station.specs.Jobs.{job_views}
use Rattle.xc_station.specs.Lent.{AreBacked}
use Rattle.xc_station.specs.Places.{IndexesBlocks}
use Rattle.xc_station.specs.Stations.{AreAhead, HasRooms, HasStarts, IsSteady, moment, room_of}

-- a station's fields, but for what tells of its last event
pub record Fields (H : Type 0) : Type 0 where
  pub opening : Opening
  pub places : map.FinMap name_cmp ℕ
  pub rules : Rules
  pub shared : Shared H
  pub journal : Journal
  pub active : ℕ
  pub jobs : Vec Job Global
  pub lines : Roomy JobLine
  pub ahead : Vec ℕ Global
  pub taken : ℕ

module _ {H : Type 0} (model : HostModel H) (s : Fields H) where
  -- what its journal is judged by
  abbrev pub judged_by : Setting
  judged_by = setting s.opening.script s.rules model.tells

  -- its moment
  abbrev pub at_moment : Moment
  at_moment = moment model s.shared s.journal.items s.jobs.items

  -- so they do
  pub record IsWhole : Type 0 where
    pub steady : IsSteady judged_by s.opening.faults at_moment
    -- of a script nothing was handed out
    pub unparted : IsScripted s.opening.script → s.journal.gone ≡ 0
    pub rooms : HasRooms s.shared s.active s.journal.spare at_moment s.lines
    -- jobs that have ended are passed over
    pub ahead : AreAhead s.jobs.items s.ahead.items
    pub taken : s.taken ≤ length s.jobs.items
    pub plan : model.plan s.shared.host ≡ plan_of s.opening.script.outline.prologue
    -- over a host that tells, the pipes and pairs are there from which data was taken
    pub backed : IsTrue model.tells → AreBacked (model.contents s.shared.host) s.shared.buffers.kept (job_views s.jobs.items)
    pub indexed : IndexesBlocks s.opening.script s.places
    pub starts : HasStarts s.opening.script s.shared.started.items s.jobs.items (room_of s.jobs s.lines s.ahead)
    pub undoable : AllBackSafely s.rules.undo_tries s.jobs.items
