use Rattle.std.proofs.Common.{rules, ◌≡◌, ◌+◌, ◌<◌, ◌++◌, ◌∷◌, List, [], length, None, sym, ap, subst, ◌∙◌}
use Rattle.xc_sheet.specs.declared.ending.Ending.TheVariants.{Broken}
use Rattle.xc_sheet.specs.declared.lines.Line.{Line}
use Rattle.xc_sheet.specs.declared.places.LinePlace.TheVariants as place
use Rattle.xc_sheet.specs.Sheets.{IsLineRead}
use Rattle.xc_sheet.proofs.Readings.{IsReading, reading_begins, reading_goes_on, read_some, broken_sheet, ended_sheet}
use Rattle.xc_sheet.proofs.sheet.read_lines.Goals as goal

pub loop-rest-init : goal.loop-rest-init
loop-rest-init c =
    subst (λ lines. IsReading c.args.text.now lines place.Between c.new-rest.result) (sym c.new-lines.ensures)
    (subst (IsReading c.args.text.now [] place.Between) (sym c.new-rest.ensures) (reading_begins c.args.text.now))

pub loop-rest-preserved : goal.loop-rest-preserved
loop-rest-preserved c =
    let read : (l : Line) × (c.add_line.new.lines ≡ c.loop-rest.lines ++ l ∷ [])
    × IsLineRead l c.loop-rest.place c.in-Some.next c.loop-rest.rest c.add_line.new.text =
    search rules in
    let r = c.loop-rest.invariant in
    reading_goes_on c.args.text.now c.loop-rest.lines c.add_line.new.lines c.loop-rest.place c.in-Some.next c.loop-rest.rest c.add_line.new.text r read

pub returns-in-None-clause-only : goal.returns-in-None-clause-only
returns-in-None-clause-only c =
    let nothing : c.in_ok-next.field-0 ≡ None = search rules in
    let kept : c.add_line.new.lines ≡ c.loop-rest.lines = c.in_ok-next.ensures.same nothing in
    let some : 0 < length c.loop-rest.rest = search rules in
    (broken_sheet c.args.text.now c.loop-rest.lines c.broken.result.lines c.broken.result.ending c.loop-rest.place c.loop-rest.rest
    (c.broken.ensures.lines ∙ kept) (c.broken.ensures.ending ∙ ap (λ (lines : List Line). Broken (length lines + 1)) kept) c.loop-rest.invariant some
    (c.in_ok-next.ensures.none nothing)).1

pub returns-in-None-clause-some : goal.returns-in-None-clause-some
returns-in-None-clause-some c =
    let nothing : c.in_ok-next.field-0 ≡ None = search rules in
    let kept : c.add_line.new.lines ≡ c.loop-rest.lines = c.in_ok-next.ensures.same nothing in
    read_some c.args.text.now c.loop-rest.lines c.broken.result.lines c.loop-rest.place c.loop-rest.rest (c.broken.ensures.lines ∙ kept)
    c.loop-rest.invariant

pub returns-clause-some : goal.returns-clause-some
returns-clause-some c =
    read_some c.args.text.now c.loop-rest.lines c.ended.result.lines c.loop-rest.place c.loop-rest.rest c.ended.ensures.lines c.loop-rest.invariant

pub returns-clause-only : goal.returns-clause-only
returns-clause-only c =
    let empty : length c.loop-rest.rest ≡ 0 = search rules in
    (ended_sheet c.args.text.now c.loop-rest.lines c.ended.result.lines c.ended.result.ending c.loop-rest.place c.loop-rest.rest c.ended.ensures.lines
    c.ended.ensures.ending c.loop-rest.invariant empty).1
