-- The rows of a block that goes back: its compensations, one a turn, and the reply to the back.
use Rattle.std.specs.Prelude.{◌≡◌, ℕ, ◌+◌, ◌<◌, Bool, true, false, List, [], ◌∷◌, ◌++◌, length, drop, nat_lt, sum_by, Option, IsTrue}
use Rattle.std.specs.declared.option.Option.TheVariants.{None, Some}
use Rattle.xc_data.specs.Counts.{RisesBy}
use Rattle.xc_data.specs.Faults.{end_faults, undo_faults}
use Rattle.xc_data.specs.declared.call.Call.TheVariants as call
use Rattle.xc_data.specs.declared.call.Reply.TheVariants as reply
use Rattle.xc_data.specs.declared.entry.Cause.TheVariants.{Stuck}
use Rattle.xc_data.specs.declared.entry.Turn.{Turn}
use Rattle.xc_data.specs.declared.entry.Turn.TheVariants as turn
use Rattle.xc_data.specs.declared.undo.Undo.{Undo}
use Rattle.xc_data.specs.declared.undo.UndoEnd.{UndoEnd}
use Rattle.xc_data.specs.declared.undo.UndoEnd.TheVariants.{Undone, Failed, Blocked}
use Rattle.xc_compensate.specs.Records.{way_of}
use Rattle.xc_host.specs.Contents.{contents_of, world_of}
use Rattle.xc_host.specs.Kept.{with_kept}
use Rattle.xc_host.specs.Uses.{BacksFor}
use Rattle.xc_script.specs.Blocks.{back_to}
use Rattle.xc_script.specs.Position.{Position, walk_of}
use Rattle.xc_world.specs.Ends.{IsLegalEnd}
use Rattle.xc_world.specs.Effects.{undone_to}
use Rattle.xc_data.specs.declared.entry.Mark.{Mark}
use Rattle.xc_model.specs.declared.phase.Phase.{Phase}
use Rattle.xc_model.specs.declared.phase.Phase.TheVariants.{Running, Undoing, Backing}
use Rattle.xc_model.specs.Live.{IsScripted}
use Rattle.xc_model.specs.Moment.{TxView, SavedView, Moment, GivesBack, Touches, kept_between, with_job}
use Rattle.xc_data.specs.declared.call.LateCall.{LateCall}
use Rattle.xc_script.specs.declared.ask.Ask.TheVariants as ask
use Rattle.xc_model.specs.Movers.{asked_at, answered_with, with_tx, Mover, HasCalled, IsSameBegin}
use Rattle.xc_model.specs.RunningRows.{Revokes}

-- where a compensation of the record of this number failed, the whole transaction undoes
abbrev pub phase_after : ℕ → UndoEnd → Phase
phase_after number (Undone faults) = Backing
phase_after number (Failed done faults) = Undoing (Stuck number)
phase_after number (Blocked by) = Undoing (Stuck number)

-- the transaction after its block went back: all is as the save kept it, and the back is noted with the faults of its records
abbrev pub backed : TxView → SavedView → TxView
backed tx kept =
    record tx {
      phase = Running;
      me = record tx.me { places = kept.places };
      writes = kept.writes;
      undo = record { pending = tx.undo.pending; ended = [] };
      taken = kept.taken;
      calls = tx.calls ++ call.Back ∷ [];
      replies = tx.replies ++ reply.Undone (sum_by undo_faults tx.undo.ended) ∷ [];
      late = kept.late;
      saved = None;
    }

module _ (m : Mover) (tx : TxView) where
  -- the newest record of the block is tried
  pub record BacksOne (kept : SavedView) (new : Moment) : Type 0 where
    pub older : List Undo
    pub tried : Undo
    pub end : UndoEnd
    pub newest : tx.undo.pending ≡ older ++ tried ∷ []
    pub legal : IsLegalEnd m.setting.rules.undo_tries tried end (way_of older tried tx.undo)
    pub faults : RisesBy (end_faults end) m.old.faults new.faults
    pub uses : HasCalled (BacksFor tried end) m.old new
    pub effect : IsTrue m.setting.tells → new.contents ≡ contents_of (undone_to (world_of m.old.contents) tried end)
    pub behind : Touches m.old m.at
        (with_tx m.job m.job.place (record tx {
          phase = phase_after (length older + 1) end;
          undo = record { pending = older; ended = (tried, end) ∷ tx.undo.ended };
        })) new

  -- all of its records are undone: what the block took is given back, and the script goes on behind its keep
  pub record EndsBack (kept : SavedView) (new : Moment) : Type 0 where
    pub place : Position
    pub begin : IsSameBegin m.job.place place
    pub walk : walk_of m.setting.script place ≡ back_to (walk_of m.setting.script m.job.place) m.job.place.saved
    pub closed : place.saved ≡ None
    pub nearer : IsScripted m.setting.script → m.job.place.at < place.at
    -- the back is asked there
    pub asked : asked_at m.setting m.job ≡ ask.Call call.Back
    -- the late calls of the block are cut off
    pub more : List LateCall
    pub cut : tx.late ≡ kept.late ++ more
    pub behind : new
        ≡ record (with_job m.old m.at (answered_with m.job place (backed tx kept))) { contents = new.contents; kept = new.kept }
    -- over every host, in front of what was kept
    pub given : GivesBack (drop (length kept.taken) tx.taken) (kept_between m.old new)
    pub returned : IsTrue m.setting.tells → new.contents ≡ with_kept m.old.contents (drop (length kept.taken) tx.taken)

  -- by whether a record of the block has no end yet
  abbrev pub BackingRow : SavedView → Bool → Moment → Type 0
  BackingRow kept true new = BacksOne kept new
  BackingRow kept false new = EndsBack kept new

  -- in an open block
  abbrev pub OpenRow : Option SavedView → Moment → Type 0
  OpenRow None new = ⊥
  OpenRow (Some kept) new = BackingRow kept (nat_lt (length kept.trail) (length tx.undo.pending)) new

  -- a backing transaction
  abbrev pub BackingTurn : Turn → Moment → Type 0
  BackingTurn turn.Went new = OpenRow tx.saved new
  BackingTurn _ new = ⊥

  -- but where it is marked
  abbrev pub MarkedBack : Option Mark → Turn → Moment → Type 0
  MarkedBack None answer new = BackingTurn answer new
  MarkedBack (Some mark) turn.Went new = Revokes m tx mark new
  MarkedBack (Some mark) _ new = ⊥
