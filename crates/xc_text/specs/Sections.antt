-- The sections of a script, in which lines stand.
use Rattle.std.specs.Prelude.{ℕ, Bool, true, false, List, Option, Some, None}
use Rattle.xc_text.specs.declared.line.Section.{Section}
use Rattle.xc_text.specs.declared.line.Section.TheVariants.{Prologue, Between, Block, Transaction}

-- the block that a line stands in, outside of its transactions
abbrev pub block_in : Section → Option (List ℕ)
block_in (Block name) = Some name
block_in _ = None

-- the block of the transaction that a line stands in
abbrev pub transaction_in : Section → Option (List ℕ)
transaction_in (Transaction name) = Some name
transaction_in _ = None

-- a line stands outside of all blocks
abbrev pub is_outside : Section → Bool
is_outside Prologue = true
is_outside Between = true
is_outside _ = false
