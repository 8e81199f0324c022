-- Who else holds an object, of the modes in which transactions hold it.
use Rattle.std.specs.Prelude.{◌≡◌, ◌≢◌, ◌<◌, ℕ, true, false, Option, Some, None, MatchOption}
use Rattle.xc_data.specs.declared.claim.Mode.{Mode}
use Rattle.xc_data.specs.Claims.{compatible}
use Rattle.xc_locks.specs.declared.refusal.Refusal.{Refusal}
use Rattle.xc_locks.specs.declared.refusal.Refusal.TheVariants.{Met, NoMemory}

-- nobody but tx holds the object
abbrev pub HasNoOther : (ℕ → Option Mode) → ℕ → Type 0
HasNoOther modes tx = (n : ℕ) → n ≢ tx → modes n ≡ None

-- the smallest transaction but tx that holds the object, and its mode
pub record IsFirstOther (modes : ℕ → Option Mode) (tx n : ℕ) (mode : Mode) : Type 0 where
  pub other : n ≢ tx
  pub holds : modes n ≡ Some mode
  pub smallest : (k : ℕ) → k ≢ tx → k < n → modes k ≡ None

-- that transaction, if there is one
abbrev pub IsFirstBut : (ℕ → Option Mode) → ℕ → Option (ℕ × Mode) → Type 0
IsFirstBut modes tx first = MatchOption first (HasNoOther modes tx) (λ h. IsFirstOther modes tx h.0 h.1)

-- tx may hold the object in a mode: nobody else does, or the smallest that does has a compatible mode
pub record MayHold (modes : ℕ → Option Mode) (tx : ℕ) (mode : Mode) : Type 0 where
  pub first : Option (ℕ × Mode)
  pub is_first : IsFirstBut modes tx first
  pub fits : (h : ℕ × Mode) → first ≡ Some h → compatible mode h.1 ≡ true

-- tx may not: the smallest other holder has a mode that isn't compatible
pub record IsMetBy (modes : ℕ → Option Mode) (tx : ℕ) (mode : Mode) (n : ℕ) : Type 0 where
  pub held_as : Mode
  pub is_first : IsFirstOther modes tx n held_as
  pub clash : compatible mode held_as ≡ false

-- why tx doesn't get the object: another doesn't let it; or all do, and there was no memory
abbrev pub IsReason : (ℕ → Option Mode) → ℕ → Mode → Refusal → Type 0
IsReason modes tx mode (Met n) = IsMetBy modes tx mode n
IsReason modes tx mode NoMemory = MayHold modes tx mode
