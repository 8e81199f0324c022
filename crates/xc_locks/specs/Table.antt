-- The table of claims: in which mode each transaction holds each object.
use Rattle.std.specs.Prelude.{◌≡◌, ◌≢◌, ℕ, Bool, List, [], ◌∷◌, Option, Some, None, if◌then◌else◌, refl}
use Rattle.std.specs.List.{list_any}
use Rattle.std.specs.Coded.{Coded, code_by, coded×}
use Rattle.std.specs.declared.cmp.Ordering.{Ordering}
use Rattle.std.specs.FinMap as map
use Rattle.xc_data.specs.declared.object.Object.{Object}
use Rattle.xc_data.specs.declared.claim.Mode.{Mode}
use Rattle.xc_data.specs.declared.claim.Mode.TheVariants.{Shared}
use Rattle.xc_data.specs.declared.claim.Claim.{Claim}
use Rattle.xc_data.specs.Claims.{is_object}
use Rattle.xc_locks.specs.declared.key.LockKey.{LockKey}
use Rattle.xc_locks.specs.declared.key.LockKey.TheVariants as kind
use Rattle.xc_locks.specs.declared.holders.Holders.{Holders}
use Rattle.xc_locks.specs.Keys.{kind_of, holder_of, holder_cmp, word_holder, word_holder_cmp}
use Rattle.xc_locks.specs.Keys.{coded_holder, coded_word_holder, coded_mode}
use Rattle.xc_locks.specs.Rows.{with_mode}

-- whether an object is in a list
abbrev pub has : List Object → Object → Bool
has os o = list_any (is_object o) os

-- two maps: the holders of words, and those of all other objects, with their modes
abbrev pub Table : Type 0
Table = Holders

-- the table's code, that of its maps
abbrev pub coded_table : Coded Table
coded_table =
    code_by (map.FinMap word_holder_cmp Mode × map.FinMap holder_cmp Mode)
    (coded× (map.code coded_word_holder coded_mode) (map.code coded_holder coded_mode))
    (λ t. (t.words, t.others)) (λ p. record { words = p.0; others = p.1 }) (λ _. refl)

-- in which mode a transaction holds a word or another object
abbrev pub mode_at : Table → ℕ → LockKey → Option Mode
mode_at table n (kind.Word at) = map.get table.words (word_holder at n)
mode_at table n (kind.Other o) = map.get table.others (holder_of o n)

-- in which mode a transaction holds an object
abbrev pub held_mode : Table → ℕ → Object → Option Mode
held_mode table n o = mode_at table n (kind_of o)

-- in which mode each transaction holds an object
abbrev pub modes_of : Table → Object → ℕ → Option Mode
modes_of table o n = held_mode table n o

-- a map with a mode at a key, or with nothing there
abbrev pub set_entry : {K : Type 0} {R : K → K → Ordering} → map.FinMap R Mode → K → Option Mode → map.FinMap R Mode
set_entry m k None = map.remove m k
set_entry m k (Some mode) = map.insert m k mode

-- the table with a transaction's mode for a word or another object, or with nothing there
abbrev pub set_at : Table → ℕ → LockKey → Option Mode → Table
set_at table n (kind.Word at) mode = record table { words = set_entry table.words (word_holder at n) mode }
set_at table n (kind.Other o) mode = record table { others = set_entry table.others (holder_of o n) mode }

-- the table in which a transaction holds an object in a mode, or no longer
abbrev pub set_mode : Table → ℕ → Object → Option Mode → Table
set_mode table n o mode = set_at table n (kind_of o) mode

-- in which mode a transaction holds an object after claims, from the mode before them
abbrev pub claimed : Option Mode → List Claim → Object → Option Mode
claimed was [] o = was
claimed was (c ∷ cs) o = claimed (if is_object c.object o then Some (with_mode was c.mode) else was) cs o

-- the mode of the first claim on an object in a list
abbrev pub mode_in : List Claim → Object → Option Mode
mode_in [] o = None
mode_in (c ∷ cs) o = if is_object c.object o then Some c.mode else mode_in cs o

-- a transaction holds what this list says, and no more
abbrev pub Holds : Table → ℕ → List Claim → Type 0
Holds table tx held = (o : Object) → held_mode table tx o ≡ mode_in held o

-- all others hold the same in both tables
abbrev pub KeepsOthers : ℕ → Table → Table → Type 0
KeepsOthers tx old new = (n : ℕ) (o : Object) → n ≢ tx → held_mode new n o ≡ held_mode old n o

-- two transactions hold one object only where both hold it Shared
abbrev pub AreCompatible : Table → Type 0
AreCompatible table = (n k : ℕ) (o : Object) (a b : Mode) → n ≢ k → held_mode table n o ≡ Some a → held_mode table k o ≡ Some b
    → (a ≡ Shared) × (b ≡ Shared)
