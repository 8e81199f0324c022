-- A text, read line by line.
use Rattle.std.specs.Prelude.{◌≡◌, ℕ, ◌+◌, ◌<◌, ◌≤◌, All, List, [], ◌++◌, length, Some, None}
use Rattle.xc_sheet.specs.declared.ending.Ending.{Ending}
use Rattle.xc_sheet.specs.declared.ending.Ending.TheVariants.{Whole, Broken}
use Rattle.xc_sheet.specs.declared.lines.Line.{Line}
use Rattle.xc_sheet.specs.declared.places.LinePlace.{LinePlace}
use Rattle.xc_sheet.specs.declared.places.LinePlace.TheVariants as place
use Rattle.xc_sheet.specs.Lines.{line_text}
use Rattle.xc_sheet.specs.Places.{behind_line, behind_lines, lines_text}
use Rattle.xc_sheet.specs.Ranges.{IsLineInRange, AreLinesInRange}

-- lines, each in its place from this one on, that are these bytes and end with the totals
pub record AreWholeFrom (first : LinePlace) (lines : List Line) (bytes : List ℕ) : Type 0 where
  pub written : bytes ≡ lines_text lines
  pub ended : behind_lines (Some first) lines ≡ Some place.Ended

-- no line is empty
abbrev pub HaveText : List Line → Type 0
HaveText lines = All (λ (l : Line). 0 < length (line_text l)) lines

-- no line that may stand in this place stands in front of these bytes
abbrev pub NoLineFits : LinePlace → List ℕ → Type 0
NoLineFits where_to bytes = (l : Line) (rest : List ℕ) → IsLineInRange l → bytes ≡ line_text l ++ rest → behind_line where_to l ≡ None

-- reading stops here, and not at the text's end behind the totals
pub record StopsReading (last : LinePlace) (rest : List ℕ) : Type 0 where
  pub nothing : NoLineFits last rest
  pub unfinished : rest ≡ [] → last ≡ place.Ended → ⊥

-- lines were read, each in its place, up to this place, with the rest behind it
pub record AreReadUpTo (lines : List Line) (bytes : List ℕ) (last : LinePlace) (rest : List ℕ) : Type 0 where
  pub written : bytes ≡ lines_text lines ++ rest
  pub placed : behind_lines (Some place.Between) lines ≡ Some last

-- the lines stop short of the text's end or of its totals
abbrev pub IsBrokenOff : List ℕ → List Line → Type 0
IsBrokenOff bytes lines = (last : LinePlace) × (rest : List ℕ) × AreReadUpTo lines bytes last rest × StopsReading last rest

-- what was read of a text, and how that ended: at the end of the text, or at the line of this number, counted from 1
abbrev pub IsReadSheet : List ℕ → List Line → Ending → Type 0
IsReadSheet bytes lines Whole = AreWholeFrom place.Between lines bytes
IsReadSheet bytes lines (Broken line) = (line ≡ length lines + 1) × IsBrokenOff bytes lines

-- lines within their ranges that are the whole text are those that were read
abbrev pub AreAllOf : List ℕ → List Line → Ending → Type 0
AreAllOf bytes lines ending =
    (all : List Line) → AreLinesInRange all → AreWholeFrom place.Between all bytes → (lines ≡ all) × (ending ≡ Whole)

-- how reading ends at the end of a text, in this place
abbrev pub ending_at : LinePlace → List Line → Ending
ending_at place.Ended lines = Whole
ending_at place.Between lines = Broken (length lines + 1)
ending_at place.Commits lines = Broken (length lines + 1)
ending_at place.Aborts lines = Broken (length lines + 1)
ending_at (place.Lates next) lines = Broken (length lines + 1)
ending_at (place.Undos left) lines = Broken (length lines + 1)
ending_at place.Remaining lines = Broken (length lines + 1)
ending_at place.Jobs lines = Broken (length lines + 1)
ending_at place.Words lines = Broken (length lines + 1)
ending_at place.Kept lines = Broken (length lines + 1)

-- a line was read in this place, with the next place and the rest behind it; no other one in its range stands there
pub record IsLineRead (l : Line) (first next : LinePlace) (bytes rest : List ℕ) : Type 0 where
  pub written : bytes ≡ line_text l ++ rest
  pub placed : behind_line first l ≡ Some next
  pub shorter : length rest + 1 ≤ length bytes
  pub alone : (other : Line) (more : List ℕ) → IsLineInRange other → bytes ≡ line_text other ++ more → (l ≡ other) × (rest ≡ more)
