use Rattle.xc_sheet.proofs.EndPlaces.{places_are}
use Rattle.xc_sheet.proofs.EndTexts.{text_is}
use Rattle.xc_sheet.proofs.EndWithin.{lines_in}
use Rattle.xc_sheet.proofs.law.a_rendered_text_is_whole.Goals as goal

pub returns-clause-within : goal.returns-clause-within
returns-clause-within c = lines_in

pub returns-clause-whole : goal.returns-clause-whole
returns-clause-whole c = λ journal jobs words kept within.
    record { written = text_is journal jobs words kept; ended = places_are journal jobs words kept within.entries }
