-- The rows of an undoing transaction: its compensations, one a turn, and its entry.
use Rattle.std.specs.Prelude.{◌≡◌, List, [], ◌∷◌, ◌++◌}
use Rattle.std.specs.Prelude.{IsTrue}
use Rattle.xc_data.specs.Counts.{RisesBy}
use Rattle.xc_data.specs.Faults.{end_faults}
use Rattle.xc_data.specs.declared.entry.Cause.{Cause}
use Rattle.xc_data.specs.declared.entry.Outcome.TheVariants.{Aborted}
use Rattle.xc_data.specs.declared.entry.Turn.{Turn}
use Rattle.xc_data.specs.declared.entry.Turn.TheVariants as turn
use Rattle.xc_data.specs.declared.undo.Undo.{Undo}
use Rattle.xc_data.specs.declared.undo.UndoEnd.{UndoEnd}
use Rattle.xc_compensate.specs.Records.{way_of}
use Rattle.xc_host.specs.Contents.{contents_of, world_of}
use Rattle.xc_host.specs.Kept.{with_kept}
use Rattle.xc_host.specs.Uses.{BacksFor}
use Rattle.xc_world.specs.Ends.{IsLegalEnd}
use Rattle.xc_world.specs.Effects.{undone_to}
use Rattle.xc_model.specs.Moment.{TxView, Moment}
use Rattle.xc_model.specs.Moment.{entering}
use Rattle.xc_model.specs.Moment.{GivesBack, Touches, kept_between}
use Rattle.xc_model.specs.Movers.{with_tx, Mover, HasCalled}
use Rattle.xc_model.specs.Entering.{entry_of, behind_abort}

-- ---- the rollback
module _ (m : Mover) (tx : TxView) where
  -- the newest record without an end is tried
  pub record Compensates (new : Moment) : Type 0 where
    pub older : List Undo
    pub tried : Undo
    pub end : UndoEnd
    pub newest : tx.undo.pending ≡ older ++ tried ∷ []
    -- blocked exactly where a newer record stands in the way; failed exactly after so many tries
    pub legal : IsLegalEnd m.setting.rules.undo_tries tried end (way_of older tried tx.undo)
    pub faults : RisesBy (end_faults end) m.old.faults new.faults
    -- the host was called once for each fault and each part that was restored
    pub uses : HasCalled (BacksFor tried end) m.old new
    -- the host did what the end says
    pub effect : IsTrue m.setting.tells → new.contents ≡ contents_of (undone_to (world_of m.old.contents) tried end)
    pub behind : Touches m.old m.at
        (with_tx m.job m.job.place (record tx { undo = record { pending = older; ended = (tried, end) ∷ tx.undo.ended } })) new

  -- an aborted transaction, each of whose records has its end, gives back what it took, and enters
  pub record EntersAborted (c : Cause) (new : Moment) : Type 0 where
    pub behind : new ≡ record (entering m.old m.at (behind_abort m.job tx c)
        (entry_of tx m.at (Aborted (record { cause = c; records = tx.undo.ended })))) {
          contents = new.contents;
          kept = new.kept;
        }
    -- over every host, it is in front of what was kept
    pub kept : GivesBack tx.taken (kept_between m.old new)
    -- over a host that tells, it is in front of what is there
    pub returned : IsTrue m.setting.tells → new.contents ≡ with_kept m.old.contents tx.taken

  -- by the records that have no end yet
  abbrev pub BackTurn : Cause → List Undo → Moment → Type 0
  BackTurn c [] new = EntersAborted c new
  BackTurn c (u ∷ pending) new = Compensates new

  -- an undoing transaction
  abbrev pub UndoingTurn : Cause → Turn → Moment → Type 0
  UndoingTurn c turn.Went new = BackTurn c tx.undo.pending new
  UndoingTurn c _ new = ⊥
