-- The picture of a text.
use Rattle.std.specs.Prelude.{◌≡◌, ℕ, List}
use Rattle.xc_sheet.specs.Sheets.{IsReadSheet}
use Rattle.xc_sheet.specs.declared.ending.Ending.{Ending}
use Rattle.xc_sheet.specs.declared.lines.Line.{Line}
use Rattle.xc_picture.specs.Drawn.{picture_text}
use Rattle.xc_picture.specs.Scenes.{drawn_scene}

-- an SVG text is the picture of what is read of a text: of its lines up to its end, or to the first one that may not stand there
abbrev pub IsPictureOf : List ℕ → List ℕ → Type 0
IsPictureOf text svg =
    (lines : List Line) × (ending : Ending) × IsReadSheet text lines ending × (svg ≡ picture_text (drawn_scene lines ending))
