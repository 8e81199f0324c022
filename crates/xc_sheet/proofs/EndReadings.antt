-- The printed text of an end is read whole.
use Rattle.std.proofs.Common.{◌≡◌, ℕ, List, ◌∙◌}
use Rattle.xc_data.specs.declared.entry.Entry.{Entry}
use Rattle.xc_data.specs.declared.entry.JobLine.{JobLine}
use Rattle.xc_data.specs.declared.entry.KeptItem.{KeptItem}
use Rattle.xc_print.specs.Text.{rendered}
use Rattle.xc_sheet.specs.declared.ending.Ending.{Ending}
use Rattle.xc_sheet.specs.declared.ending.Ending.TheVariants.{Whole}
use Rattle.xc_sheet.specs.declared.lines.Line.{Line}
use Rattle.xc_sheet.specs.EndRanges.{IsEndInRange}
use Rattle.xc_sheet.specs.Ends.{end_lines}
use Rattle.xc_sheet.specs.Sheets.{AreAllOf}
use Rattle.xc_sheet.proofs.EndPlaces.{places_are}
use Rattle.xc_sheet.proofs.EndTexts.{text_is}
use Rattle.xc_sheet.proofs.EndWithin.{lines_in}

-- what was read of the printed text of an end are its lines
pub rendered_read : (bytes : List ℕ) (lines : List Line) (ending : Ending) → AreAllOf bytes lines ending
    → (journal : List Entry) (jobs : List JobLine) (words : List ℕ) (kept : List KeptItem) → IsEndInRange journal jobs words kept
    → bytes ≡ rendered journal jobs words kept → (lines ≡ end_lines journal jobs words kept) × (ending ≡ Whole)
rendered_read bytes lines ending only journal jobs words kept within e =
    only (end_lines journal jobs words kept) (lines_in journal jobs words kept within)
    (record { written = e ∙ text_is journal jobs words kept; ended = places_are journal jobs words kept within.entries })
