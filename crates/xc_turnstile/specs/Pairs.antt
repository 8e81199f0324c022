-- Two passes that each try to enter once, and meet.
use Rattle.std.specs.Prelude.{◌≡◌, ◌↔◌, ◌⊎◌, ℕ, ◌++◌, length, Some}
use Rattle.std.specs.Borrow.{MutBor}
use Rattle.std.specs.Fn.{Mut}
use Rattle.xc_turnstile.specs.Insides.{MayFollow}
use Rattle.xc_turnstile.specs.Known.{Known}
use Rattle.xc_turnstile.specs.Meanings.{Meaning}
use Rattle.xc_turnstile.specs.Views.{BeginsWith, HasPlace, PlacesRise, added, views_met, entered_view, left_view, lost_view}

-- a call of the closure f at a `&mut` to x may leave y there, and the closure as f'
pub record Changes {F X : Type 0} (g : Mut F (MutBor X × Unit {0}) (Unit {0} × (MutBor X × Unit {0}))) (f f' : F)
    (x y : X) : Type 0 where
  pub shown : MutBor X
  pub shows : shown.now ≡ x
  pub left : MutBor X
  pub met : g.steps f (shown, tt) (tt, (left, tt)) f'
  pub leaves : left.now ≡ y

-- each call of the closure keeps what `leave` asks
abbrev pub KeepsLeave : {F X E V O : Type 0} → Meaning X E V O → Mut F (MutBor X × Unit {0}) (Unit {0} × (MutBor X × Unit {0})) → Type 0
KeepsLeave {F = F} {X = X} m g = (f f' : F) (x y : X) → Changes g f f' x y → MayFollow m x y

-- the pass entered once, and what it was handed was changed so before it left; its own entries go on with those that were added
pub record EntersOnce {X E V O : Type 0} (m : Meaning X E V O) (by : X → X → Type 0) (old new : Known E V O) : Type 0 where
  pub found : X
  pub put : X
  pub changed : by found put
  pub table : new.table ≡ old.table
  pub begins : BeginsWith (m.journal found) old.view.seen
  pub origin : old.view.origin ≡ Some (m.origin found)
  pub view : new.view ≡ left_view (m.journal put) (m.count put) (m.last put) (entered_view (m.journal found) (m.count found) old.view)
  pub mine : new.view.mine ≡ old.view.mine ++ added (length (m.journal found)) (m.journal put)

-- the pass found another inside: it lost once more, and is else as it was
pub record LosesOnce {E V O : Type 0} (old new : Known E V O) : Type 0 where
  pub table : new.table ≡ old.table
  pub view : new.view ≡ lost_view old.view

-- the pass tried once: it found another inside, or entered
abbrev pub TriesOnce : {X E V O : Type 0} → Meaning X E V O → (X → X → Type 0) → Known E V O → Known E V O → Type 0
TriesOnce m by old new = LosesOnce old new ⊎ EntersOnce m by old new

-- one pass of two, whose places are those of both, each once
pub record MeetsBoth {E V O : Type 0} (a b met : Known E V O) : Type 0 where
  pub table : met.table ≡ a.table
  pub view : met.view ≡ views_met a.view b.view
  pub places : (k : ℕ) → HasPlace k met.view.mine ↔ (HasPlace k a.view.mine ⊎ HasPlace k b.view.mine)
  pub once : PlacesRise 0 met.view.mine
