-- Lines that are read from the last one on.
use Rattle.std.proofs.Common.{◌≡◌, ℕ, Option, Some, None, List, [], ◌∷◌, ◌++◌, length, refl, sym, ap, ◌∙◌, arith}
use Rattle.std.specs.Prelude.{MatchOption}
use Rattle.xc_sheet.specs.declared.lines.Line.{Line}
use Rattle.xc_shown.specs.Parting.{with_line, with_lines}
use Rattle.xc_shown.specs.declared.gathered.Gathered.{Gathered}

-- the last of several is read first
pub last_first : (lines : List Line) (l : Line) (g : Gathered) → with_lines (lines ++ l ∷ []) g ≡ with_lines lines (with_line l g)
unfolding with_lines
last_first [] l g = refl
last_first (first ∷ lines) l g = ap (with_line first) (last_first lines l g)

-- a line more was read
pub reads_on : (before rest : List Line) (l : Line) (g new all : Gathered) → before ≡ rest ++ l ∷ [] → new ≡ with_line l g → with_lines before g ≡ all
    → with_lines rest new ≡ all
reads_on before rest l g new all parts step e =
    ap (with_lines rest) step ∙ sym (last_first rest l g) ∙ sym (ap (λ ls. with_lines ls g) parts) ∙ e

-- where none was popped, none was there
pub none_popped : (popped : Option Line) (n m : ℕ) (More : Line → Type 0) → ((l : Line) → popped ≡ Some l → ⊥)
    → MatchOption popped ((n ≡ 0) × (m ≡ 0)) More → n ≡ 0
none_popped None n m More lacks cases = cases.0
none_popped (Some l) n m More lacks cases = absurd (lacks l refl)

-- none is left
pub all_read : (rest : List Line) (g all : Gathered) → length rest ≡ 0 → with_lines rest g ≡ all → g ≡ all
unfolding with_lines
all_read [] g all none e = e
all_read (l ∷ rest) g all none e = absurd (omega (arith, none))
