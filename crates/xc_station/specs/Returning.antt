-- What a turn on the way back of an inner block returns.
use Rattle.std.specs.Prelude.{◌≡◌, ◌⊎◌, ◌+◌, List, [], ◌∷◌, ◌++◌, length, Contains, IsTrue}
use Rattle.xc_data.specs.Step.{Step}
use Rattle.xc_data.specs.declared.entry.KeptItem.{KeptItem}
use Rattle.xc_data.specs.declared.undo.Undo.{Undo}
use Rattle.xc_data.specs.declared.undo.UndoEnd.{UndoEnd}
use Rattle.xc_host.specs.Contents.{contents_of, world_of}
use Rattle.xc_host.specs.Model.{HostModel}
use Rattle.xc_model.specs.BackingRows.{OpenRow}
use Rattle.xc_model.specs.Moment.{TxView, Active, Moment}
use Rattle.xc_model.specs.Movers.{Mover}
use Rattle.xc_world.specs.Effects.{undone_to}
use Rattle.xc_station.specs.Moments.{Front}

-- the newest record without an end was tried, and nothing was given back
pub record TriesNewest {H : Type 0} (model : HostModel H) (shared : Step (Front H)) (tx : Step TxView) : Type 0 where
  pub older : List Undo
  pub tried : Undo
  pub end : UndoEnd
  pub newest : tx.old.undo.pending ≡ older ++ tried ∷ []
  pub effect : IsTrue model.tells
      → model.contents shared.new.host ≡ contents_of (undone_to (world_of (model.contents shared.old.host)) tried end)
  pub lent : shared.new.lent ≡ shared.old.lent
  pub taken : tx.new.taken ≡ tx.old.taken

-- the host is as it was, and what is kept was kept before, or was taken
pub record PutsBack {H : Type 0} (shared : Step (Front H)) (tx : Step TxView) : Type 0 where
  pub host : shared.new.host ≡ shared.old.host
  pub among : (item : KeptItem) → Contains shared.new.lent.kept item → Contains tx.old.taken item ⊎ Contains shared.old.lent.kept item

-- one of the two; it keeps its number, its rank and its claims, and what is noted went down as what it has taken did
pub record Returns {H : Type 0} (model : HostModel H) (shared : Step (Front H)) (tx : Step TxView) : Type 0 where
  pub noted : shared.new.lent.noted + length tx.old.taken ≡ shared.old.lent.noted + length tx.new.taken
  pub number : tx.new.number ≡ tx.old.number
  pub rank : tx.new.rank ≡ tx.old.rank
  pub held : tx.new.held ≡ tx.old.held
  pub taken : (item : KeptItem) → Contains tx.new.taken item → Contains tx.old.taken item
  pub by_turn : TriesNewest model shared tx ⊎ PutsBack shared tx

-- its turn is a row of the table of turns, where it isn't marked
pub record IsOpenRow (m : Mover) (new : Moment) : Type 0 where
  pub tx : TxView
  pub doing : m.job.doing ≡ Active tx
  pub row : OpenRow m tx tx.saved new
