-- How a scene is drawn: which elements, and where.
use Rattle.std.specs.Prelude.{ℕ, zero, suc, ◌+◌, ◌-◌, ◌*◌, ◌==◌, Bool, true, false}
use Rattle.std.specs.Prelude.{List, [], ◌∷◌, ◌++◌, codes, length, nat_le}
use Rattle.std.specs.Prelude.{Option, None, Some, if◌then◌else◌}
use Rattle.std.specs.FinMap as map
use Rattle.std.specs.Fmt.{decimal}
use Rattle.xc_picture.specs.Arrows.{spots_with, arrows_of}
use Rattle.xc_picture.specs.Elements.{Element, Rect, Label, svg_text}
use Rattle.xc_picture.specs.Places.{column_x, lane_y}
use Rattle.xc_picture.specs.Scenes.{lane_of}
use Rattle.xc_picture.specs.declared.scene.Bar.{Bar}
use Rattle.xc_picture.specs.declared.scene.LaneName.{LaneName}
use Rattle.xc_picture.specs.declared.scene.Scene.{Scene}
use Rattle.xc_picture.specs.declared.shapes.Area.{Area}
use Rattle.xc_picture.specs.declared.shapes.ShapeStyle.{ShapeStyle}
use Rattle.xc_picture.specs.declared.shapes.ShapeStyle.TheVariants as look
use Rattle.xc_picture.specs.declared.shapes.Point.{Point}

-- ---- where bars are
-- the area of a bar: from the column where it began to the one where it ended
abbrev pub bar_area : Bar → Area
bar_area bar = record {
  x = column_x bar.from;
  y = lane_y (lane_of bar.job);
  width = column_x bar.to - column_x bar.from;
  height = 22;
}

-- the area of a small mark in a bar; the places count from the right
abbrev pub mark_area : ℕ → Bar → Area
mark_area place bar = record {
  x = column_x bar.to - 10 * (place + 1);
  y = lane_y (lane_of bar.job) + 14;
  width = 6;
  height = 6;
}

-- ---- bars
-- a mark, where there is something to mark
unfoldable pub mark_if : Bool → Area → ShapeStyle → List ℕ → List Element
mark_if false area look tip = []
mark_if true area look tip = Rect area look tip ∷ []

-- the marks of a bar
abbrev pub marks_drawn : Bar → List Element
marks_drawn bar = mark_if bar.late (mark_area 0 bar) look.Late (codes "late calls") ++
    mark_if bar.faults (mark_area 1 bar) look.Faults (codes "faults") ++
    mark_if bar.remains (mark_area 2 bar) look.Remains (codes "something remains")

-- how a bar looks
abbrev pub bar_look : Bool → ShapeStyle
bar_look true = look.Committed
bar_look false = look.Aborted

-- the number of a transaction
abbrev pub tx_name : ℕ → List ℕ
tx_name tx = codes "t" ++ decimal tx

-- where that stands
abbrev pub tx_point : Bar → Point
tx_point bar = record { x = column_x bar.from + 3; y = lane_y (lane_of bar.job) + 11 }

-- the elements of a bar
unfoldable pub bar_elements : Bar → List Element
bar_elements bar = Rect (bar_area bar) (bar_look bar.committed) bar.tip ∷ Label (tx_point bar) (tx_name bar.tx) ∷ marks_drawn bar

-- those of bars
abbrev pub bars_elements : List Bar → List Element
bars_elements [] = []
bars_elements (bar ∷ bars) = bar_elements bar ++ bars_elements bars

-- ---- labels
-- what stands in front of a lane
abbrev pub lane_label : ℕ → List ℕ
lane_label lane = if nat_le lane 2000 then codes "job " ++ decimal lane else codes "further jobs"

-- where a text of a lane begins
abbrev pub lane_point : ℕ → ℕ → Point
lane_point x lane = record { x = x; y = lane_y lane + 15 }

-- the label of a lane
unfoldable pub lane_element : ℕ → Element
lane_element lane = Label (lane_point 8 lane) (lane_label lane)

-- the labels of so many lanes, from this one on
abbrev pub lane_labels : ℕ → ℕ → List Element
lane_labels lane zero = []
lane_labels lane (suc count) = lane_element lane ∷ lane_labels (lane + 1) count

-- the names behind them
abbrev pub name_labels : List LaneName → List Element
name_labels [] = []
name_labels (named ∷ names) = Label (lane_point 72 named.lane) named.name ∷ name_labels names

-- that entries are left out, and how many
abbrev pub left_out_note : ℕ → List Element
left_out_note count =
    if count == 0 then [] else Label (record { x = 8; y = 14 }) (decimal count ++ codes " further entries are not drawn") ∷ []

-- that the text broke, and where
unfoldable pub break_note : Option ℕ → List Element
break_note None = []
break_note (Some line) = Label (record { x = 8; y = 28 }) (codes "the journal breaks at line " ++ decimal line) ∷ []

-- ---- the whole
-- the elements of a scene
abbrev pub elements_of : Scene → List Element
elements_of scene = left_out_note scene.left_out ++ break_note scene.break_at ++ lane_labels 1 scene.lanes ++
    name_labels scene.names ++ bars_elements scene.bars ++ arrows_of (spots_with map.empty scene.bars) scene.bars

-- the width and the height of a scene
abbrev pub size_of : Scene → Point
size_of scene = record { x = column_x (length scene.bars) + 40; y = lane_y scene.lanes + 40 }

-- the text of the picture of a scene
abbrev pub picture_text : Scene → List ℕ
picture_text scene = svg_text (size_of scene) (elements_of scene)
