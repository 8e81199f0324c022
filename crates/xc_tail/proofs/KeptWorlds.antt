-- What is given back in a world: joined it is the same, and it is so in the contents alone.
use Rattle.std.proofs.Common.{◌≡◌, Bool, true, false, None, List, [], ◌∷◌, ◌++◌, refl, ap, sym, ◌∙◌}
use Rattle.std.specs.Prelude.{if◌then◌else◌}
use Rattle.xc_buffers.specs.Worlds.{with_held}
use Rattle.xc_buffers.proofs.Laws.{held_alone, gives_joined}
use Rattle.xc_data.specs.declared.entry.KeptItem.{KeptItem}
use Rattle.xc_data.specs.declared.entry.KeptItem.TheVariants.{Bytes, Message}
use Rattle.xc_host.specs.Contents.{Contents, contents_of, with_contents, world_of}
use Rattle.xc_host.specs.Kept.{with_kept}
use Rattle.xc_print.specs.Kept.{is_same, join, joined}
use Rattle.xc_sheet.specs.Ends.{lines_of_kept}
use Rattle.xc_sheet.specs.declared.lines.Line.{Line}
use Rattle.xc_tail.specs.KeptLines.{HasKeptLines, Stands}
use Rattle.xc_tail.proofs.KeptOrder.{same_num, follow_kept, follow_joined, kept_follow}
use Rattle.xc_world.specs.Run.{gives, given_back}
use Rattle.xc_world.specs.World.{World}

-- ---- joined
-- an item that is joined to others is given back before them
given_join : (w : World) (t : KeptItem) (items : List KeptItem) → given_back w (join t items) ≡ gives (given_back w items) t
given_join w (Message pair side bytes) items = refl
given_join w (Bytes pipe bytes) [] = refl
given_join w (Bytes pipe bytes) (Message pair side more ∷ items) = refl
given_join w (Bytes pipe bytes) (Bytes next more ∷ items) = by_same (is_same pipe next) refl
  where
    by_same : (b : Bool) → is_same pipe next ≡ b
        → given_back w (if b then Bytes pipe (bytes ++ more) ∷ items else Bytes pipe bytes ∷ Bytes next more ∷ items)
        ≡ gives (given_back w (Bytes next more ∷ items)) (Bytes pipe bytes)
    by_same true e =
        gives_joined (given_back w items) pipe bytes more
        ∙ ap (λ n. gives (gives (given_back w items) (Bytes n more)) (Bytes pipe bytes)) (same_num pipe next e)
    by_same false e = refl

-- joined items are given back as they are
pub given_joined : (w : World) (items : List KeptItem) → given_back w (joined items) ≡ given_back w items
given_joined w [] = refl
given_joined w (t ∷ items) = given_join w t (joined items) ∙ ap (λ x. gives x t) (given_joined w items)

-- ---- the contents
-- names and files stay
stays : (w : World) (items : List KeptItem) → given_back w items ≡ with_held w (given_back w items)
stays w items = held_alone w w items

-- a world under the items has contents under them
pub front_from : (under world : World) (items : List KeptItem) → given_back under items ≡ world → with_kept (contents_of under) items ≡ contents_of world
front_from under world items is =
    ap contents_of (held_alone (world_of (contents_of under)) under items)
    ∙ ap (λ (w : World). contents_of w) (sym (stays under items)) ∙ ap contents_of is

-- and contents under them make a world
pub world_from : (contents : Contents) (world : World) (items : List KeptItem) → with_kept contents items ≡ contents_of world
    → given_back (with_contents world contents) items ≡ world
world_from contents world items is =
    let x = world_of contents in
    let g = given_back x items in
    held_alone (with_contents world contents) x items
    ∙ ap (λ (y : World). record world { names = y.names; files = y.files; pipes = g.pipes; pairs = g.pairs }) (sym (stays x items))
    ∙ ap (with_contents world) is

-- ---- the lines
-- lines that stand are those of kept data
pub kept_from : (world : World) (lines : List Line) → Stands world None lines → HasKeptLines world lines
kept_from world lines s = (
  s.items,
  s.shown ∙ ap lines_of_kept (sym (follow_joined None s.items s.follow)),
  record { order = follow_kept s.items s.follow; contents = contents_of s.under; front = front_from s.under world s.items s.front },
)

-- and those of kept data stand
pub stand_from : (world : World) (lines : List Line) → HasKeptLines world lines → Stands world None lines
stand_from world lines has =
    let kept = has.0 in
    let front = has.2 in
    let under = with_contents world front.contents in
    record {
      items = joined kept;
      shown = has.1;
      follow = kept_follow kept front.order;
      under = under;
      front = given_joined under kept ∙ world_from front.contents world kept front.front;
    }
