-- The bars of a picture, one after another.
use Rattle.std.proofs.Common.{◌≡◌, ◌++◌, ◌∷◌, [], ◌+◌, ◌≤◌, ◌<◌, ℕ, List, Option, None, Some, length, true, false, Bool, refl, sym, ap}
use Rattle.std.proofs.Common.{◌∙◌, append_assoc, append-nil, arith, if◌then◌else◌}
use Rattle.std.specs.Prelude.{nat_le}
use Rattle.std.proofs.lemmas.Bool.{leb-true, le-leb, lt-leb}
use Rattle.xc_lines.specs.declared.heads.Head.{Head}
use Rattle.xc_sheet.specs.declared.lines.Line.{Line}
use Rattle.xc_picture.specs.Scenes.{head_in, own_lines, bar_of, bars_at, bars_from, StandInOrder}
use Rattle.xc_picture.specs.declared.scene.Bar.{Bar}

-- a bar more is within the number, if those that follow are
few_at : (number : ℕ) (found : Option Head) (lines : List Line) (others further : List Bar) → number ≤ 2001
    → length others + number ≤ 2001 → (number ≤ 2000 → length further + (number + 1) ≤ 2001)
    → length (bars_at number found lines others further) + number ≤ 2001
few_at number None lines others further few same more = same
few_at number (Some head) lines others further few same more = by_room (nat_le number 2000) refl
  where
    by_room : (room : Bool) → nat_le number 2000 ≡ room → length (if room then bar_of number head lines ∷ further else []) + number ≤ 2001
    by_room true is = omega (arith, more (leb-true number 2000 is))
    by_room false is = omega (arith, few)

-- from each number on there are at most as many bars as are left
few_from : (number : ℕ) (lines : List Line) → number ≤ 2001 → length (bars_from number lines) + number ≤ 2001
few_from number [] few = omega (arith, few)
few_from number (l ∷ lines) few =
    few_at number (head_in l) (own_lines (l ∷ lines)) (bars_from number lines) (bars_from (number + 1) lines) few (few_from number lines few)
    (λ le. few_from (number + 1) lines (omega (arith, le)))

-- there are at most 2,000 bars
pub few_bars : (lines : List Line) → length (bars_from 1 lines) ≤ 2000
few_bars lines = omega (arith, few_from 1 lines (omega arith))

-- a bar more stands in order, if those that follow do
order_at : (number : ℕ) (found : Option Head) (lines : List Line) (others further : List Bar) → StandInOrder number others
    → StandInOrder (number + 1) further → StandInOrder number (bars_at number found lines others further)
order_at number None lines others further same more = same
order_at number (Some head) lines others further same more = by_room (nat_le number 2000)
  where
    by_room : (room : Bool) → StandInOrder number (if room then bar_of number head lines ∷ further else [])
    by_room true = (refl, omega arith, more)
    by_room false = tt

-- bars stand in the order of their entries
pub bars_in_order : (number : ℕ) (lines : List Line) → StandInOrder number (bars_from number lines)
bars_in_order number [] = tt
bars_in_order number (l ∷ lines) =
    order_at number (head_in l) (own_lines (l ∷ lines)) (bars_from number lines) (bars_from (number + 1) lines) (bars_in_order number lines)
    (bars_in_order (number + 1) lines)

-- the bar of an entry, and those that follow it
bar_and_further : (number : ℕ) (l : Line) (lines : List Line) (head : Head) → head_in l ≡ Some head → number ≤ 2000
    → bars_from number (l ∷ lines) ≡ bar_of number head (own_lines (l ∷ lines)) ∷ bars_from (number + 1) lines
bar_and_further number l lines head is le =
    ap (λ (found : Option Head). bars_at number found (own_lines (l ∷ lines)) (bars_from number lines) (bars_from (number + 1) lines)) is
    ∙ ap (λ (room : Bool). if room then bar_of number head (own_lines (l ∷ lines)) ∷ bars_from (number + 1) lines else []) (le-leb number 2000 le)

-- the bar of an entry was added
pub bar_added : (number : ℕ) (l : Line) (lines : List Line) (head : Head) (bars all : List Bar) → head_in l ≡ Some head → number ≤ 2000
    → bars ++ bars_from number (l ∷ lines) ≡ all
    → (bars ++ bar_of number head (own_lines (l ∷ lines)) ∷ []) ++ bars_from (number + 1) lines ≡ all
bar_added number l lines head bars all is le before =
    append_assoc bars (bar_of number head (own_lines (l ∷ lines)) ∷ []) (bars_from (number + 1) lines)
    ∙ sym (ap (λ (further : List Bar). bars ++ further) (bar_and_further number l lines head is le)) ∙ before

-- no bar is added past 2,000
pub no_bar_added : (number : ℕ) (l : Line) (lines : List Line) (head : Head) (bars all : List Bar) → head_in l ≡ Some head → 2000 < number
    → bars ++ bars_from number (l ∷ lines) ≡ all → bars ≡ all
no_bar_added number l lines head bars all is past before =
    sym (append-nil bars)
    ∙ sym (ap (λ (further : List Bar). bars ++ further)
    (ap (λ (found : Option Head). bars_at number found (own_lines (l ∷ lines)) (bars_from number lines) (bars_from (number + 1) lines)) is
    ∙ ap (λ (room : Bool). if room then bar_of number head (own_lines (l ∷ lines)) ∷ bars_from (number + 1) lines else [])
    (lt-leb number 2000 past))) ∙ before

-- a line that begins no entry adds no bar
pub no_entry : (number : ℕ) (l : Line) (lines : List Line) (bars all : List Bar) → head_in l ≡ None
    → bars ++ bars_from number (l ∷ lines) ≡ all → bars ++ bars_from number lines ≡ all
no_entry number l lines bars all is before =
    sym (ap (λ (found : Option Head).
    bars ++ bars_at number found (own_lines (l ∷ lines)) (bars_from number lines) (bars_from (number + 1) lines)) is) ∙ before

-- a bar begins where its transaction began, if that isn't behind its end
pub begins_there : (number : ℕ) (head : Head) (lines : List Line) → head.began ≤ number → (bar_of number head lines).from ≡ head.began
begins_there number head lines within = omega (arith, within)
