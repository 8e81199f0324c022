-- The elements of a picture, and their texts.
use Rattle.std.specs.Prelude.{ℕ, List, [], ◌∷◌, ◌++◌, codes}
use Rattle.std.specs.Fmt.{decimal}
use Rattle.xc_picture.specs.Escapes.{svg_escaped}
use Rattle.xc_picture.specs.declared.shapes.Area.{Area}
use Rattle.xc_picture.specs.declared.shapes.ShapeStyle.{ShapeStyle}
use Rattle.xc_picture.specs.declared.shapes.ShapeStyle.TheVariants as look
use Rattle.xc_picture.specs.declared.shapes.Point.{Point}

-- an element: its bytes aren't escaped yet
pub data Element : Type 0 where
  -- a rectangle with a tooltip
  Rect : Area → ShapeStyle → List ℕ → Element
  -- a line from a point to one where its head is
  Arrow : Point → Point → Element
  -- a text that begins at a point
  Label : Point → List ℕ → Element

-- the word that the style knows a look by
abbrev pub look_name : ShapeStyle → List ℕ
look_name look.Committed = codes "committed"
look_name look.Aborted = codes "aborted"
look_name look.Late = codes "late"
look_name look.Faults = codes "faults"
look_name look.Remains = codes "remains"

-- where a rectangle is, and how large
abbrev pub area_text : Area → List ℕ
area_text area = codes " x=\"" ++ decimal area.x ++ codes "\" y=\"" ++ decimal area.y
    ++ codes "\" width=\"" ++ decimal area.width ++ codes "\" height=\"" ++ decimal area.height ++ codes "\""

-- where a line begins and ends
abbrev pub ends_text : Point → Point → List ℕ
ends_text from to = codes " x1=\"" ++ decimal from.x ++ codes "\" y1=\"" ++ decimal from.y
    ++ codes "\" x2=\"" ++ decimal to.x ++ codes "\" y2=\"" ++ decimal to.y ++ codes "\""

-- where a text begins
abbrev pub point_text : Point → List ℕ
point_text at = codes " x=\"" ++ decimal at.x ++ codes "\" y=\"" ++ decimal at.y ++ codes "\""

-- the text of an element, a line for each
abbrev pub element_text : Element → List ℕ
element_text (Rect area look tip) =
    codes "<rect class=\"" ++ look_name look ++ codes "\"" ++ area_text area ++ codes "><title>" ++ svg_escaped tip
    ++ codes "</title></rect>\n"
element_text (Arrow from to) = codes "<line class=\"arrow\"" ++ ends_text from to ++ codes "/>\n"
element_text (Label at text) = codes "<text" ++ point_text at ++ codes ">" ++ svg_escaped text ++ codes "</text>\n"

-- the texts of elements in their order
abbrev pub elements_text : List Element → List ℕ
elements_text [] = []
elements_text (e ∷ elements) = element_text e ++ elements_text elements

-- the kind of file
unfoldable pub root_text : List ℕ
root_text = codes "<svg xmlns=\"http://www.w3.org/2000/svg\""

-- the kind of file, its width and its height
abbrev pub size_text : Point → List ℕ
size_text size = root_text ++ codes " width=\"" ++ decimal size.x ++ codes "\" height=\"" ++ decimal size.y
    ++ codes "\">\n"

-- what the looks are, and the head of an arrow
unfoldable pub style_text : List ℕ
style_text = codes "<style>text{font:11px monospace;fill:#222}rect{stroke:#222;stroke-width:0.5}" ++
    codes ".committed{fill:#a6d96a}.aborted{fill:#f4a582}.late{fill:#4575b4}.faults{fill:#fdae61}.remains{fill:#000}" ++
    codes ".arrow{stroke:#b2182b;stroke-width:1.5;marker-end:url(#head)}text,line{pointer-events:none}</style>\n" ++
    codes "<defs><marker id=\"head\" viewBox=\"0 0 6 6\" refX=\"6\" refY=\"3\" markerWidth=\"6\" markerHeight=\"6\" orient=\"auto\">" ++
    codes "<path d=\"M0 0L6 3L0 6Z\" fill=\"#b2182b\"/></marker></defs>\n" ++
    codes "<rect width=\"100%\" height=\"100%\" style=\"fill:#fff;stroke:none\"/>\n"

-- a picture of a size: a head, the elements, and a foot
abbrev pub svg_text : Point → List Element → List ℕ
svg_text size elements = size_text size ++ style_text ++ elements_text elements ++ codes "</svg>\n"
