-- What was taken from pipes and pairs: what aborted transactions gave back, and what active ones may have to.
use Rattle.std.specs.Prelude.{◌≡◌, ◌⊎◌, ℕ, ◌+◌, Bool, true, is_some, List, length, sum_by, All, Contains, Option}
use Rattle.std.specs.declared.option.Option.TheVariants.{None, Some}
use Rattle.std.specs.FinMap as map
use Rattle.xc_buffers.specs.Items.{is_fit}
use Rattle.xc_data.specs.declared.entry.KeptItem.{KeptItem}
use Rattle.xc_data.specs.declared.entry.KeptItem.TheVariants.{Bytes, Message}
use Rattle.xc_host.specs.Contents.{Contents}
use Rattle.xc_world.specs.Run.{given_back}
use Rattle.xc_world.specs.World.{World}
use Rattle.xc_model.specs.Moment.{TxView, JobView, Active, active_of}
use Rattle.xc_model.specs.Movers.{IsActiveAt}

-- what is kept of aborted transactions, and how much active ones have taken: so many notes
pub record Lent : Type 0 where
  pub kept : List KeptItem
  pub noted : ℕ

-- ---- how much is noted
-- by a transaction, where there is one
abbrev pub notes_in : Option TxView → ℕ
notes_in None = 0
notes_in (Some tx) = length tx.taken

-- by a job's active one
abbrev pub notes_of : JobView → ℕ
notes_of job = notes_in (active_of job)

-- by all
abbrev pub notes_in_all : List JobView → ℕ
notes_in_all jobs = sum_by notes_of jobs

-- ---- what the host has of it
-- the pipe or the pair of an item is there
abbrev pub is_source_there : Contents → KeptItem → Bool
is_source_there c (Bytes num bytes) = is_some (map.get c.pipes num)
is_source_there c (Message num side bytes) = is_some (map.get c.pairs num)

-- so it is of one that may be kept
pub record IsBacked (c : Contents) (item : KeptItem) : Type 0 where
  pub fit : is_fit item ≡ true
  pub there : is_source_there c item ≡ true

-- so is all that is kept then, where it was before
abbrev pub StaysBacked : Contents → List KeptItem → List KeptItem → Type 0
StaysBacked c old new = All (IsBacked c) old → All (IsBacked c) new

-- so are those of all that is kept, and of all that active transactions have taken
pub record AreBacked (c : Contents) (items : List KeptItem) (jobs : List JobView) : Type 0 where
  pub kept : All (IsBacked c) items
  pub taken : (j : ℕ) (tx : TxView) → IsActiveAt jobs j tx → All (IsBacked c) tx.taken

-- ---- at an entry
-- what the job's active transaction took is in front of what was kept before, in every world
pub record GivesTaken (old new : Lent) (job : JobView) : Type 0 where
  pub given : (w : World) (tx : TxView) → job.doing ≡ Active tx → given_back w new.kept ≡ given_back (given_back w old.kept) tx.taken
  -- and it is what was kept or taken before
  pub among : (item : KeptItem) (tx : TxView) → job.doing ≡ Active tx → Contains new.kept item
      → Contains tx.taken item ⊎ Contains old.kept item
  pub noted : new.noted + notes_of job ≡ old.noted

-- it is gone
pub record LetsGo (old new : Lent) (job : JobView) : Type 0 where
  pub kept : new.kept ≡ old.kept
  pub noted : new.noted + notes_of job ≡ old.noted
