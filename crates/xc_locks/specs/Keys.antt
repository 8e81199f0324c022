-- The keys of the table: objects in an order, and who holds them.
use Rattle.std.specs.Prelude.{ℕ}
use Rattle.std.specs.Coded.{Coded, coded×, coded_ℕ}
use Rattle.std.specs.Ordering.{nat_cmp, ordering_then}
use Rattle.std.specs.declared.cmp.Ordering.{Ordering}
use Rattle.xc_data.specs.declared.object.Object.{Object}
use Rattle.xc_data.specs.declared.object.Object.TheVariants as object
use Rattle.xc_data.specs.declared.claim.Mode.{Mode}
use Rattle.xc_data.specs.contracts.claim.Mode as mode_row
use Rattle.xc_locks.specs.declared.key.LockKey.{LockKey}
use Rattle.xc_locks.specs.declared.key.LockKey.TheVariants as kind
use Rattle.xc_locks.specs.declared.key.Other.{Other}
use Rattle.xc_locks.specs.declared.key.Other.TheVariants as other
use Rattle.xc_locks.specs.contracts.key.Other as other_row
use Rattle.xc_locks.specs.contracts.key.OtherOrd.TheImpl as other_ord

-- an object as a word or another
abbrev pub kind_of : Object → LockKey
kind_of (object.Word at) = kind.Word at
kind_of (object.Name name) = kind.Other (other.Name name)
kind_of (object.File num) = kind.Other (other.File num)
kind_of (object.Pipe num) = kind.Other (other.Pipe num)
kind_of (object.Pair num) = kind.Other (other.Pair num)
kind_of object.Jobs = kind.Other other.Jobs

-- a word and a transaction that holds it
abbrev pub WordHolder : Type 0
WordHolder = ℕ × ℕ

-- a transaction as the holder of a word
abbrev pub word_holder : ℕ → ℕ → WordHolder
word_holder at n = (at, n)

-- another object and a transaction that holds it
abbrev pub Holder : Type 0
Holder = Other × ℕ

-- a transaction as the holder of another object
abbrev pub holder_of : Other → ℕ → Holder
holder_of o n = (o, n)

-- by word, and then by transaction
abbrev pub word_holder_cmp : WordHolder → WordHolder → Ordering
word_holder_cmp a b = ordering_then (nat_cmp a.0 b.0) (nat_cmp a.1 b.1)

-- the order of objects that aren't words
abbrev pub other_cmp : Other → Other → Ordering
other_cmp = other_ord.ghosts.cmp

-- by object, and then by transaction
abbrev pub holder_cmp : Holder → Holder → Ordering
holder_cmp a b = ordering_then (other_cmp a.0 b.0) (nat_cmp a.1 b.1)

-- how a proof stores the holder of a word
abbrev pub coded_word_holder : Coded WordHolder
coded_word_holder = coded× coded_ℕ coded_ℕ

-- how a proof stores the holder of another object
abbrev pub coded_holder : Coded Holder
coded_holder = coded× other_row.the_row.coded coded_ℕ

-- how a proof stores a mode
abbrev pub coded_mode : Coded Mode
coded_mode = mode_row.the_row.coded
