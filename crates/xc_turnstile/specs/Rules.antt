-- The rule of a turnstile: what is true of its word, of the value where it lies in the slot, and of what all passes know.
use Rattle.std.specs.Prelude.{◌≡◌, ℕ, ◌+◌, ◌*◌, ◌%◌, ◌^◌, ◌<◌, ◌≤◌, ◌⊎◌, Bool, true, false, List, [], ◌∷◌, length, Option, Some, ◌==◌}
use mathlib.Core.Option.{some, none}
use lib.ListN.{get_elem?}
use Rattle.std.specs.List.{sum_by}
use Rattle.atomic_table.specs.Table.{State, Me, Step}
use Rattle.xc_turnstile.specs.declared.view.View.{View}
use Rattle.xc_turnstile.specs.Meanings.{Meaning}
use Rattle.xc_turnstile.specs.Views.{BeginsWith, AreAtPlaces, PlacesRise, HasPlace, entered_view, lost_view, left_view}

-- a pass with shares has seen a front of the journal, its own entries stand at their places, and its origin is this one
pub record IsTrueView {E V O : Type 0} (log : List E) (from : O) (v : View E V O) : Type 0 where
  pub seen : BeginsWith log v.seen
  pub beside : BeginsWith log v.beside
  pub mine : AreAtPlaces log v.mine
  pub rises : PlacesRise 0 v.mine
  pub origin : v.origin ≡ Some from

-- all passes: none of them has a place of another, and their shares are all that there are
pub record AreTrueViews {E V O : Type 0} (log : List E) (from : O) (views : List (View E V O)) : Type 0 where
  pub true_view : (i : ℕ) (v : View E V O) → get_elem? views i ≡ some v → 0 < v.shares → IsTrueView log from v
  pub spent : (i : ℕ) (v : View E V O) → get_elem? views i ≡ some v → v.shares ≡ 0 → (v.inside ≡ false) × (v.mine ≡ [])
  pub apart : (i j k : ℕ) (v w : View E V O) → get_elem? views i ≡ some v → get_elem? views j ≡ some w → HasPlace k v.mine
      → HasPlace k w.mine → i ≡ j
  pub whole : sum_by (λ v. v.shares) views ≡ 2 ^ 32

module _ {X E V O : Type 0} (m : Meaning X E V O) where
  -- the value lies in the slot, and nobody is inside
  pub record IsOpen (log : List E) (from : O) (s : State (Option X) (View E V O)) : Type 0 where
    pub value : X
    pub word : s.words ≡ 2 * length log ∷ []
    pub home : s.homes ≡ some (Some value) ∷ []
    pub log_is : m.journal value ≡ log
    pub from_is : m.origin value ≡ from
    pub outside : (i : ℕ) (v : View E V O) → get_elem? s.views i ≡ some v → v.inside ≡ false

  -- the pass of this seat holds the value
  pub record IsTaken (log : List E) (s : State (Option X) (View E V O)) : Type 0 where
    pub seat : ℕ
    pub holder : View E V O
    pub word : s.words ≡ (2 * length log + 1) ∷ []
    pub home : s.homes ≡ none ∷ []
    pub there : get_elem? s.views seat ≡ some holder
    pub inside : holder.inside ≡ true
    pub given : holder.given ≡ log
    pub alone : (i : ℕ) (v : View E V O) → get_elem? s.views i ≡ some v → v.inside ≡ true → i ≡ seat

  -- the rule
  abbrev pub IsRuled : State (Option X) (View E V O) → Type 0
  IsRuled s = (log : List E) × (from : O) × AreTrueViews log from s.views × (IsOpen log from s ⊎ IsTaken log s)

  -- what a try to enter tells: where it found an even word it has the value, and else the pass lost once more
  abbrev pub IsEntering : Bool → Me (Option X) (View E V O) → Me (Option X) (View E V O) → Type 0
  IsEntering true v w = (x : X) × (w.1 ≡ (0, Some x) ∷ []) × BeginsWith (m.journal x) v.0.seen × (v.0.origin ≡ Some (m.origin x))
      × (w.0 ≡ entered_view (m.journal x) (m.count x) v.0)
  IsEntering false v w = (w.1 ≡ v.1) × (w.0 ≡ lost_view v.0)

  abbrev pub Enters : Step (Option X) → Me (Option X) (View E V O) → ℕ → Me (Option X) (View E V O) → Type 0
  Enters st v found w = IsEntering (found % 2 == 0) v w

  -- what a leaving tells: the pass has seen the value's journal
  abbrev pub IsLeaving : Me (Option X) (View E V O) → Me (Option X) (View E V O) → Type 0
  IsLeaving v w = (x : X) × (v.1 ≡ (0, Some x) ∷ []) × (w.1 ≡ []) × (w.0 ≡ left_view (m.journal x) (m.count x) (m.last x) v.0)

  abbrev pub Leaves : Step (Option X) → Me (Option X) (View E V O) → ℕ → Me (Option X) (View E V O) → Type 0
  Leaves st v found w = IsLeaving v w

-- what a look at the word tells: of two fronts of the journal the longer begins with the other, and the places rise
abbrev pub Looks : {X E V O : Type 0} → Step (Option X) → Me (Option X) (View E V O) → ℕ → Me (Option X) (View E V O) → Type 0
Looks st v found w =
    (w.0 ≡ v.0) × (w.1 ≡ v.1) × (length v.0.beside ≤ length v.0.seen → BeginsWith v.0.seen v.0.beside) × PlacesRise 0 v.0.mine
