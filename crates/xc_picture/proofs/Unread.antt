-- A text of which nothing was read.
use Rattle.std.proofs.Common.{◌≡◌, ◌≢◌, ◌++◌, [], ◌∷◌, ℕ, List, Bool, true, false, Option, Some, length, sym, ap, subst, arith}
use Rattle.std.specs.Prelude.{unwrap_or}
use Rattle.std.proofs.lemmas.Bool.{true≢false}
use Rattle.xc_sheet.specs.Places.{behind_lines, lines_text}
use Rattle.xc_sheet.specs.Sheets.{IsReadSheet, NoLineFits, AreReadUpTo, StopsReading}
use Rattle.xc_sheet.specs.declared.ending.Ending.{Ending}
use Rattle.xc_sheet.specs.declared.ending.Ending.TheVariants.{Whole, Broken}
use Rattle.xc_sheet.specs.declared.lines.Line.{Line}
use Rattle.xc_sheet.specs.declared.places.LinePlace.{LinePlace}
use Rattle.xc_sheet.specs.declared.places.LinePlace.TheVariants as place

-- whether a place is the end
abbrev is_end_place : LinePlace → Bool
is_end_place place.Ended = true
is_end_place _ = false

-- the start is not the end
start_is_no_end : place.Between ≢ place.Ended
start_is_no_end e = true≢false (sym (ap is_end_place e))

-- no line leads nowhere
stays : (last : LinePlace) → behind_lines (Some place.Between) [] ≡ Some last → place.Between ≡ last
unfolding behind_lines
stays last e = ap (λ (o : Option LinePlace). unwrap_or o place.Between) e

-- no line has no text
front : (bytes rest : List ℕ) → bytes ≡ lines_text [] ++ rest → bytes ≡ rest
unfolding lines_text
front bytes rest e = e

-- where nothing was read, no line of a journal stands in front
pub nothing_read : (bytes : List ℕ) (lines : List Line) (ending : Ending) → IsReadSheet bytes lines ending → length lines ≡ 0
    → NoLineFits place.Between bytes
nothing_read bytes [] Whole read none = absurd (start_is_no_end (stays place.Ended read.ended))
nothing_read bytes [] (Broken line) read none =
    let last : LinePlace = read.1.0 in
    let rest : List ℕ = read.1.1 in
    let up_to : AreReadUpTo [] bytes last rest = read.1.2 in
    let stops : StopsReading last rest = read.1.3 in
    subst (λ (p : LinePlace). NoLineFits p bytes) (sym (stays last up_to.placed))
    (subst (λ (bs : List ℕ). NoLineFits last bs) (sym (front bytes rest up_to.written)) stops.nothing)
nothing_read bytes (l ∷ lines) ending read none = absurd (omega (arith, none))
