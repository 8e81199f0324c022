-- How the host takes a record back.
use Rattle.std.specs.Prelude.{◌≡◌, IsTrue}
use Rattle.xc_data.specs.Counts.{RisesBy}
use Rattle.xc_data.specs.Faults.{end_faults}
use Rattle.xc_data.specs.Step.{Step}
use Rattle.xc_data.specs.declared.undo.Undo.{Undo}
use Rattle.xc_data.specs.declared.undo.UndoEnd.{UndoEnd}
use Rattle.xc_world.specs.Effects.{undone_to}
use Rattle.xc_host.specs.Contents.{contents_of, world_of}
use Rattle.xc_host.specs.Model.{HostModel}
use Rattle.xc_host.specs.Uses.{Uses, BacksFor}

-- a record came to this end: its faults are counted, the host was called once for each of them and for each part that was
-- restored, and where it tells, it did what the end says
pub record Undoes {H : Type 0} (model : HostModel H) (u : Undo) (step : Step H) (end : UndoEnd) : Type 0 where
  pub faults : RisesBy (end_faults end) (model.fault_count step.old) (model.fault_count step.new)
  pub uses : Uses model step (BacksFor u end)
  pub effect : IsTrue model.tells → model.contents step.new ≡ contents_of (undone_to (world_of (model.contents step.old)) u end)
