-- Lines that are read one after the other.
use Rattle.std.proofs.Common.{◌≡◌, ℕ, ◌+◌, ◌<◌, ◌≤◌, Bool, true, false, List, [], ◌∷◌, ◌++◌, length}
use Rattle.std.proofs.Common.{Option, Some, None, refl, sym, ap, subst, ◌∙◌, append_assoc, arith}
use Rattle.std.specs.Prelude.{◌==◌, unwrap_or}
use Rattle.std.proofs.lemmas.Bool.{both_ways}
use Rattle.std.proofs.lemmas.List.{append-nil, length-append}
use Rattle.std.proofs.lemmas.List.Elements.{All-nil, All-push, All-same}
use Rattle.xc_sheet.specs.declared.ending.Ending.{Ending}
use Rattle.xc_sheet.specs.declared.ending.Ending.TheVariants.{Whole, Broken}
use Rattle.xc_sheet.specs.declared.lines.Line.{Line}
use Rattle.xc_sheet.specs.declared.places.LinePlace.{LinePlace}
use Rattle.xc_sheet.specs.declared.places.LinePlace.TheVariants as place
use Rattle.xc_sheet.specs.Lines.{line_text}
use Rattle.xc_sheet.specs.Places.{behind_line, behind_lines, lines_text}
use Rattle.xc_sheet.specs.Ranges.{IsLineInRange, AreLinesInRange}
use Rattle.xc_sheet.specs.Sheets.{AreWholeFrom, NoLineFits, StopsReading, AreReadUpTo, IsReadSheet, AreAllOf, HaveText, ending_at, IsLineRead}
use Rattle.xc_sheet.proofs.PrintedLaws.{line_some}

-- ---- a line that was read
longer : (l : Line) (old new : List ℕ) → old ≡ line_text l ++ new → 0 < length (line_text l) → length new + 1 ≤ length old
longer l old new e some =
    let sizes : length old ≡ length (line_text l) + length new = ap length e ∙ length-append (line_text l) new in
    omega (arith, sizes, some)

has_text : (l : Line) (old new : List ℕ) → old ≡ line_text l ++ new → length new + 1 ≤ length old → 0 < length (line_text l)
has_text l old new e less =
    let sizes : length old ≡ length (line_text l) + length new = ap length e ∙ length-append (line_text l) new in
    omega (arith, sizes, less)

-- the parts of what was read
read_pair : Line × List ℕ → Option (Line × List ℕ)
read_pair p = Some p

pair_is : (p q : Line × List ℕ) → read_pair p ≡ read_pair q → p ≡ q
unfolding read_pair
pair_is p q e = cc

-- a line that was read and may stand there
pub one_line : (l : Line) (first next : LinePlace) (old new : List ℕ) → old ≡ line_text l ++ new → 0 < length (line_text l) → behind_line first l ≡ Some next
    → ((other : Line) (rest : List ℕ) → IsLineInRange other → old ≡ line_text other ++ rest
    → ◌≡◌ {A = Option (Line × List ℕ)} (Some (l, new)) (Some (other, rest)))
    → IsLineRead l first next old new
unfolding read_pair
one_line l first next old new e some placed only =
    record {
      written = e;
      placed = placed;
      shorter = longer l old new e some;
      alone = λ other more is at.
          let same = pair_is (l, new) (other, more) (only other more is at) in
          (ap (λ (p : Line × List ℕ). p.0) same, ap (λ (p : Line × List ℕ). p.1) same);
    }

-- ---- several
more_text : (lines : List Line) (l : Line) → lines_text (lines ++ l ∷ []) ≡ lines_text lines ++ line_text l
unfolding lines_text
more_text [] l = append-nil (line_text l)
more_text (first ∷ lines) l = ap (λ t. line_text first ++ t) (more_text lines l) ∙ sym (append_assoc (line_text first) (lines_text lines) (line_text l))

text_on : (lines : List Line) (l : Line) (all old new : List ℕ) → all ≡ lines_text lines ++ old → old ≡ line_text l ++ new
    → all ≡ lines_text (lines ++ l ∷ []) ++ new
text_on lines l all old new e step =
    e ∙ ap (λ t. lines_text lines ++ t) step ∙ sym (append_assoc (lines_text lines) (line_text l) new) ∙ sym (ap (λ t. t ++ new) (more_text lines l))

same_place : (p q : LinePlace) → ◌≡◌ {A = Option LinePlace} (Some p) (Some q) → p ≡ q
same_place p q e = ap (λ (o : Option LinePlace). unwrap_or o p) e

place_on : (start : Option LinePlace) (lines : List Line) (l : Line) (last next : LinePlace) → behind_lines start lines ≡ Some last
    → behind_line last l ≡ Some next
    → behind_lines start (lines ++ l ∷ []) ≡ Some next
unfolding behind_lines
place_on None lines l last next e step = absurd cc
place_on (Some p) [] l last next e step = ap (λ o. behind_lines o []) (ap (λ q. behind_line q l) (same_place p last e) ∙ step)
place_on (Some p) (first ∷ lines) l last next e step = place_on (behind_line p first) lines l last next e step

-- no place, no line behind it
nowhere : (lines : List Line) (last : LinePlace) → behind_lines None lines ≡ Some last → ⊥
unfolding behind_lines
nowhere lines last e = cc

-- ---- what was read goes on to whatever lines in their ranges are the whole text
pub record ReadsRest (lines : List Line) (last : LinePlace) (rest : List ℕ) (all : List Line) : Type 0 where
  pub more : List Line
  pub joined : all ≡ lines ++ more
  pub within : AreLinesInRange more
  pub whole : AreWholeFrom last more rest

-- lines that were read of a text, up to a place
pub record IsReading (bytes : List ℕ) (lines : List Line) (last : LinePlace) (rest : List ℕ) : Type 0 where
  pub read : AreReadUpTo lines bytes last rest
  pub few : length lines + length rest ≤ length bytes
  pub some : HaveText lines
  pub onward : (all : List Line) → AreLinesInRange all → AreWholeFrom place.Between all bytes → ReadsRest lines last rest all

-- nothing is read yet
pub reading_begins : (bytes : List ℕ) → IsReading bytes [] place.Between bytes
unfolding behind_lines lines_text
reading_begins bytes =
    record {
      read = record { written = refl; placed = refl };
      few = omega arith;
      some = All-nil (λ (l : Line). 0 < length (line_text l));
      onward = λ all within whole. record { more = all; joined = refl; within = within; whole = whole };
    }

goes_with : (lines : List Line) (l : Line) (last next : LinePlace) (old new : List ℕ) (all more : List Line) → IsLineRead l last next old new
    → all ≡ lines ++ more
    → AreLinesInRange more → AreWholeFrom last more old → ReadsRest (lines ++ l ∷ []) next new all
unfolding behind_lines lines_text
goes_with lines l last next old new all [] h joined within whole =
    let ended : last ≡ place.Ended = same_place last place.Ended whole.ended in
    absurd (nowhere [] next (ap (λ o. behind_lines o []) (ap (λ q. behind_line q l) (sym ended) ∙ h.placed)))
goes_with lines l last next old new all (m ∷ ms) h joined within whole =
    let same = h.alone m (lines_text ms) within.0 whole.written in
    record {
      more = ms;
      joined = joined ∙ ap (λ x. lines ++ x ∷ ms) (sym same.0) ∙ sym (append_assoc lines (l ∷ []) ms);
      within = within.1;
      whole = record {
        written = same.1;
        ended = ap (λ o. behind_lines o ms) (sym h.placed ∙ ap (behind_line last) same.0) ∙ whole.ended;
      };
    }

-- a line more
pub reads_on : (bytes : List ℕ) (lines : List Line) (l : Line) (last next : LinePlace) (old new : List ℕ) → IsReading bytes lines last old
    → IsLineRead l last next old new → IsReading bytes (lines ++ l ∷ []) next new
reads_on bytes lines l last next old new r h =
    let counts : length (lines ++ l ∷ []) ≡ length lines + 1 = length-append lines (l ∷ []) in
    record {
      read = record {
        written = text_on lines l bytes old new r.read.written h.written;
        placed = place_on (Some place.Between) lines l last next r.read.placed h.placed;
      };
      few = omega (arith, counts, h.shorter, r.few);
      some = All-push (λ (l : Line). 0 < length (line_text l)) lines l r.some (has_text l old new h.written h.shorter);
      onward = λ all within whole.
          let g = r.onward all within whole in
          goes_with lines l last next old new all g.more h g.joined g.within g.whole;
    }

-- the same, of a list that has one line more
pub reading_goes_on : (bytes : List ℕ) (before behind : List Line) (last next : LinePlace) (old new : List ℕ) → IsReading bytes before last old
    → ((l : Line) × (behind ≡ before ++ l ∷ []) × IsLineRead l last next old new) → IsReading bytes behind next new
reading_goes_on bytes before behind last next old new r h =
    subst (λ ls. IsReading bytes ls next new) (sym h.1) (reads_on bytes before h.0 last next old new r h.2)

-- ---- reading stops
stops_all : (lines : List Line) (last : LinePlace) (rest : List ℕ) (all more : List Line) → StopsReading last rest → AreLinesInRange more
    → AreWholeFrom last more rest → ⊥
unfolding behind_lines lines_text
stops_all lines last rest all [] s within whole = s.unfinished whole.written (same_place last place.Ended whole.ended)
stops_all lines last rest all (m ∷ ms) s within whole =
    nowhere ms place.Ended (ap (λ o. behind_lines o ms) (sym (s.nothing m (lines_text ms) within.0 whole.written)) ∙ whole.ended)

-- what was read stops short
pub stops : (bytes : List ℕ) (lines : List Line) (last : LinePlace) (rest : List ℕ) → IsReading bytes lines last rest → StopsReading last rest
    → IsReadSheet bytes lines (Broken (length lines + 1))
stops bytes lines last rest r s = (refl, (last, rest, r.read, s))

-- then no lines in their ranges are the whole text
pub stops_whole : (bytes : List ℕ) (lines : List Line) (last : LinePlace) (rest : List ℕ) → IsReading bytes lines last rest → StopsReading last rest
    → AreAllOf bytes lines (Broken (length lines + 1))
stops_whole bytes lines last rest r s = λ all within whole.
    let g = r.onward all within whole in
    absurd (stops_all lines last rest all g.more s g.within g.whole)

-- before a line that may not stand there
pub breaks : (last : LinePlace) (rest : List ℕ) → 0 < length rest → NoLineFits last rest → StopsReading last rest
breaks last rest some nothing = record { nothing = nothing; unfinished = λ e ended. let sizes : length rest ≡ 0 = ap length e in omega (arith, sizes, some) }

-- at the text's end
nothing_fits : (last : LinePlace) → NoLineFits last []
nothing_fits last l rest is e =
    let sizes : 0 ≡ length (line_text l) + length rest = ap length e ∙ length-append (line_text l) rest in
    let empty : length (line_text l) ≡ 0 = omega (arith, sizes) in
    absurd (both_ways (length (line_text l) == 0) (line_some l is) (rw empty refl))

abbrev is_end : LinePlace → Bool
is_end place.Ended = true
is_end _ = false

short : (last : LinePlace) → is_end last ≡ false → StopsReading last []
short last other = record { nothing = nothing_fits last; unfinished = λ e ended. both_ways (is_end last) other (ap is_end ended) }

ends_whole : (bytes : List ℕ) (lines : List Line) → IsReading bytes lines place.Ended [] → IsReadSheet bytes lines Whole
ends_whole bytes lines r = record { written = r.read.written ∙ append-nil (lines_text lines); ended = r.read.placed }

none_more : (lines all more : List Line) → all ≡ lines ++ more → AreWholeFrom place.Ended more [] → lines ≡ all
unfolding behind_lines
none_more lines all [] joined whole = sym (joined ∙ append-nil lines)
none_more lines all (m ∷ ms) joined whole = absurd (nowhere ms place.Ended whole.ended)

whole_only : (bytes : List ℕ) (lines : List Line) → IsReading bytes lines place.Ended [] → AreAllOf bytes lines Whole
whole_only bytes lines r = λ all within whole.
    let g = r.onward all within whole in
    (none_more lines all g.more g.joined g.whole, refl)

ends_in : (bytes : List ℕ) (lines : List Line) (last : LinePlace) → IsReading bytes lines last [] → IsReadSheet bytes lines (ending_at last lines)
ends_in bytes lines place.Ended r = ends_whole bytes lines r
ends_in bytes lines place.Between r = stops bytes lines place.Between [] r (short place.Between refl)
ends_in bytes lines place.Commits r = stops bytes lines place.Commits [] r (short place.Commits refl)
ends_in bytes lines place.Aborts r = stops bytes lines place.Aborts [] r (short place.Aborts refl)
ends_in bytes lines (place.Lates next) r = stops bytes lines (place.Lates next) [] r (short (place.Lates next) refl)
ends_in bytes lines (place.Undos left) r = stops bytes lines (place.Undos left) [] r (short (place.Undos left) refl)
ends_in bytes lines place.Remaining r = stops bytes lines place.Remaining [] r (short place.Remaining refl)
ends_in bytes lines place.Jobs r = stops bytes lines place.Jobs [] r (short place.Jobs refl)
ends_in bytes lines place.Words r = stops bytes lines place.Words [] r (short place.Words refl)
ends_in bytes lines place.Kept r = stops bytes lines place.Kept [] r (short place.Kept refl)

ends_all : (bytes : List ℕ) (lines : List Line) (last : LinePlace) → IsReading bytes lines last [] → AreAllOf bytes lines (ending_at last lines)
ends_all bytes lines place.Ended r = whole_only bytes lines r
ends_all bytes lines place.Between r = stops_whole bytes lines place.Between [] r (short place.Between refl)
ends_all bytes lines place.Commits r = stops_whole bytes lines place.Commits [] r (short place.Commits refl)
ends_all bytes lines place.Aborts r = stops_whole bytes lines place.Aborts [] r (short place.Aborts refl)
ends_all bytes lines (place.Lates next) r = stops_whole bytes lines (place.Lates next) [] r (short (place.Lates next) refl)
ends_all bytes lines (place.Undos left) r = stops_whole bytes lines (place.Undos left) [] r (short (place.Undos left) refl)
ends_all bytes lines place.Remaining r = stops_whole bytes lines place.Remaining [] r (short place.Remaining refl)
ends_all bytes lines place.Jobs r = stops_whole bytes lines place.Jobs [] r (short place.Jobs refl)
ends_all bytes lines place.Words r = stops_whole bytes lines place.Words [] r (short place.Words refl)
ends_all bytes lines place.Kept r = stops_whole bytes lines place.Kept [] r (short place.Kept refl)

nothing_left : (rest : List ℕ) → length rest ≡ 0 → rest ≡ []
nothing_left [] e = refl
nothing_left (b ∷ bs) e = absurd (omega (arith, e))

-- at the text's end
pub ends : (bytes : List ℕ) (lines : List Line) (last : LinePlace) (rest : List ℕ) → IsReading bytes lines last rest → length rest ≡ 0
    → IsReadSheet bytes lines (ending_at last lines)
ends bytes lines last rest r e = ends_in bytes lines last (subst (IsReading bytes lines last) (nothing_left rest e) r)

-- then lines in their ranges that are the whole text are those that were read
pub ends_only : (bytes : List ℕ) (lines : List Line) (last : LinePlace) (rest : List ℕ) → IsReading bytes lines last rest → length rest ≡ 0
    → AreAllOf bytes lines (ending_at last lines)
ends_only bytes lines last rest r e = ends_all bytes lines last (subst (IsReading bytes lines last) (nothing_left rest e) r)

-- the lines that were read aren't empty
pub read_some : (bytes : List ℕ) (lines got : List Line) (last : LinePlace) (rest : List ℕ) → got ≡ lines → IsReading bytes lines last rest → HaveText got
read_some bytes lines got last rest same r = All-same (λ (l : Line). 0 < length (line_text l)) got lines same r.some

-- ---- what is answered
-- before a line that may not stand there
pub broken_sheet : (bytes : List ℕ) (lines got : List Line) (ending : Ending) (last : LinePlace) (rest : List ℕ) → got ≡ lines
    → ending ≡ Broken (length lines + 1)
    → IsReading bytes lines last rest → 0 < length rest → NoLineFits last rest → IsReadSheet bytes got ending × AreAllOf bytes got ending
broken_sheet bytes lines got ending last rest same ended r some nothing =
    let s = breaks last rest some nothing in
    subst (λ ls. IsReadSheet bytes ls ending × AreAllOf bytes ls ending) (sym same)
    (subst (λ e. IsReadSheet bytes lines e × AreAllOf bytes lines e) (sym ended) (stops bytes lines last rest r s, stops_whole bytes lines last rest r s))

-- at the text's end
pub ended_sheet : (bytes : List ℕ) (lines got : List Line) (ending : Ending) (last : LinePlace) (rest : List ℕ) → got ≡ lines → ending ≡ ending_at last lines
    → IsReading bytes lines last rest → length rest ≡ 0 → IsReadSheet bytes got ending × AreAllOf bytes got ending
ended_sheet bytes lines got ending last rest same ended r empty =
    subst (λ ls. IsReadSheet bytes ls ending × AreAllOf bytes ls ending) (sym same)
    (subst (λ e. IsReadSheet bytes lines e × AreAllOf bytes lines e) (sym ended)
    (ends bytes lines last rest r empty, ends_only bytes lines last rest r empty))
