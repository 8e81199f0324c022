-- An item is taken from the front, and the lines behind its own stand over what is left.
use Rattle.std.proofs.Common.{◌≡◌, ℕ, ◌+◌, ◌<◌, true, false, is_some, Option, Some, None, unwrap_or, List, [], ◌∷◌, length, get_or, drop}
use Rattle.std.proofs.Common.{refl, ap, sym, ◌∙◌, subst}
use Rattle.std.specs.Prelude.{◌↔◌, MatchOption}
use Rattle.std.proofs.lemmas.List.{drop_more}
use Rattle.xc_buffers.specs.Items.{is_fit}
use Rattle.xc_buffers.specs.Sources.{source_of}
use Rattle.xc_buffers.specs.Worlds.{without_front, without_first}
use Rattle.xc_buffers.specs.declared.source.Endpoint.{Endpoint}
use Rattle.xc_buffers.proofs.Laws.{Commutes, turn_pipe, turn_pair, given_passes, pipe_passes, pair_passes, pipe_fronted, firsted, front_left, first_left}
use Rattle.xc_buffers.proofs.Laws.{change_same}
use Rattle.xc_data.specs.declared.entry.KeptItem.{KeptItem}
use Rattle.xc_data.specs.declared.entry.KeptItem.TheVariants.{Bytes, Message}
use Rattle.xc_machine.specs.Taking.{Takes, IsNotInFront, has_source}
use Rattle.xc_maps.proofs.Laws.{get-insert_same, num_total, num_exact}
use Rattle.xc_sheet.specs.Ends.{lines_of_kept}
use Rattle.xc_sheet.specs.declared.lines.Line.{Line}
use Rattle.xc_sheet.specs.declared.lines.Line.TheVariants as line
use Rattle.xc_tail.specs.KeptLines.{Follow, Stands, comes_behind}
use Rattle.xc_world.specs.Run.{gives, given_back}
use Rattle.xc_world.specs.World.{World, empty_pipe, empty_pair}

-- ---- a world where the pipe or the pair of an item is there

-- such a world
abbrev with_source : KeptItem → World → World
with_source (Bytes pipe bytes) w = turn_pipe pipe (λ found. unwrap_or found empty_pipe) w
with_source (Message pair side bytes) w = turn_pair pair (λ found. unwrap_or found empty_pair) w

-- items may be given back before or after
source_passes : (t u : KeptItem) → Commutes (with_source t) u
source_passes (Bytes pipe bytes) (Bytes next more) = pipe_passes pipe (λ found. unwrap_or found empty_pipe) (Bytes next more) (λ e found. refl)
source_passes (Bytes pipe bytes) (Message pair side more) = pipe_passes pipe (λ found. unwrap_or found empty_pipe) (Message pair side more) tt
source_passes (Message pair side bytes) (Bytes next more) = pair_passes pair (λ found. unwrap_or found empty_pair) (Bytes next more) tt
source_passes (Message pair side bytes) (Message other s more) =
    pair_passes pair (λ found. unwrap_or found empty_pair) (Message other s more) (λ e found. refl)

-- the same is given back in it
gives_with_source : (t : KeptItem) (w : World) → gives (with_source t w) t ≡ gives w t
gives_with_source (Bytes pipe bytes) w =
    ap (λ m. record w { pipes = m }) (change_same w.pipes pipe (λ found. unwrap_or found empty_pipe) (pipe_fronted bytes))
gives_with_source (Message pair side bytes) w =
    ap (λ m. record w { pairs = m }) (change_same w.pairs pair (λ found. unwrap_or found empty_pair) (firsted side bytes))

-- it is there
source_there : (t : KeptItem) (w : World) → has_source (with_source t w) t ≡ true
source_there (Bytes pipe bytes) w = ap is_some (get-insert_same num_total num_exact w.pipes pipe _)
source_there (Message pair side bytes) w = ap is_some (get-insert_same num_total num_exact w.pairs pair _)

-- worlds in which it is there and in which the same item makes one world are one
one_under : (t : KeptItem) (v w : World) → has_source v t ≡ true → has_source w t ≡ true → gives v t ≡ gives w t → v ≡ w
one_under (Bytes pipe bytes) v w in_v in_w same =
    front_left v pipe bytes in_v ∙ ap (λ x. without_front x pipe (length bytes)) same ∙ sym (front_left w pipe bytes in_w)
one_under (Message pair side bytes) v w in_v in_w same =
    first_left v pair side bytes in_v ∙ ap (λ x. without_first x pair side) same ∙ sym (first_left w pair side bytes in_w)

-- what is left is what was under the item, but for that
under_taken : (t : KeptItem) (u old new : World) → Takes t old new → gives u t ≡ old → with_source t u ≡ new
under_taken t u old new taken is =
    one_under t (with_source t u) new (source_there t u) taken.there (gives_with_source t u ∙ is ∙ sym taken.back)

-- ---- lines
-- no line is left
pub stands_none : (w : World) (before : Option Endpoint) → Stands w before []
stands_none w before = record { items = []; shown = refl; follow = tt; under = w; front = refl }

-- an item that is taken comes before what stands behind it
pub stands_with : (t : KeptItem) (old new : World) (before : Option Endpoint) (lines : List Line) → Takes t old new → comes_behind before t ≡ true
    → is_fit t ≡ true → Stands new (Some (source_of t)) lines → Stands old before (line.Kept t ∷ lines)
stands_with t old new before lines taken behind fit s =
    record {
      items = t ∷ s.items;
      shown = ap (λ ls. line.Kept t ∷ ls) s.shown;
      follow = (behind, fit, s.follow);
      under = s.under;
      front = ap (λ x. gives x t) s.front ∙ taken.back;
    }

-- lines that stand, the first of which is known
record First (w : World) (before : Option Endpoint) (l : Line) (lines : List Line) : Type 0 where
  item : KeptItem
  items : List KeptItem
  first : l ≡ line.Kept item
  rest : lines ≡ lines_of_kept items
  behind : comes_behind before item ≡ true
  fit : is_fit item ≡ true
  follow : Follow (Some (source_of item)) items
  under : World
  front : gives (given_back under items) item ≡ w

-- their first line
first_of : (w : World) (before : Option Endpoint) (l : Line) (lines : List Line) → Stands w before (l ∷ lines) → First w before l lines
first_of w before l lines s = parted s.items s.shown s.follow s.front
  where
    parted : (items : List KeptItem) → (l ∷ lines) ≡ lines_of_kept items → Follow before items → given_back s.under items ≡ w → First w before l lines
    parted [] shown follow front = absurd (cc (shown))
    parted (t ∷ items) shown follow front =
        record {
          item = t;
          items = items;
          first = cc (shown);
          rest = cc (shown);
          behind = follow.0;
          fit = follow.1;
          follow = follow.2;
          under = s.under;
          front = front;
        }

-- a line of kept data is of one item
one_item : (t u : KeptItem) → line.Kept t ≡ line.Kept u → u ≡ t
one_item t u e = cc

-- a line that stands first is of kept data
pub stands_kept : (w : World) (before : Option Endpoint) (l : Line) (lines : List Line) → ((t : KeptItem) → l ≡ line.Kept t → ⊥)
    → Stands w before (l ∷ lines) → ⊥
stands_kept w before l lines other s = let f = first_of w before l lines s in other f.item f.first

-- of a fit item
pub stands_fit : (w : World) (before : Option Endpoint) (t : KeptItem) (lines : List Line) → Stands w before (line.Kept t ∷ lines) → is_fit t ≡ true
stands_fit w before t lines s =
    let f = first_of w before (line.Kept t) lines s in ap is_fit (sym (one_item t f.item f.first)) ∙ f.fit

-- that may come next
pub stands_behind : (w : World) (before : Option Endpoint) (t : KeptItem) (lines : List Line) → Stands w before (line.Kept t ∷ lines)
    → comes_behind before t ≡ true
stands_behind w before t lines s =
    let f = first_of w before (line.Kept t) lines s in ap (comes_behind before) (sym (one_item t f.item f.first)) ∙ f.behind

-- and stands in front
pub stands_front : (w : World) (before : Option Endpoint) (t : KeptItem) (lines : List Line) → IsNotInFront t w → Stands w before (line.Kept t ∷ lines) → ⊥
stands_front w before t lines never s =
    let f = first_of w before (line.Kept t) lines s in
    never (given_back f.under f.items) (ap (gives (given_back f.under f.items)) (sym (one_item t f.item f.first)) ∙ f.front)

-- where it is taken what is behind it stands
pub stands_without : (t : KeptItem) (old new : World) (before : Option Endpoint) (lines : List Line) → Takes t old new
    → Stands old before (line.Kept t ∷ lines) → Stands new (Some (source_of t)) lines
stands_without t old new before lines taken s =
    let f = first_of old before (line.Kept t) lines s in
    let is = one_item t f.item f.first in
    record {
      items = f.items;
      shown = f.rest;
      follow = subst (λ u. Follow (Some (source_of u)) f.items) is f.follow;
      under = with_source t f.under;
      front =
          given_passes (with_source t) f.items (λ k d lt. source_passes t _) f.under
          ∙ under_taken t (given_back f.under f.items) old new taken (ap (gives (given_back f.under f.items)) (sym is) ∙ f.front);
    }

-- ---- line by line
-- what is told of the place where the item of a line was taken
abbrev TellsPlace : Type 0 → World → List Line → Option Endpoint → Type 0
TellsPlace Before now lines found = MatchOption found (Before → ⊥) (λ source. Before ↔ Stands now (Some source) lines)

-- none was taken
pub no_item_taken : (Before : Type 0) (now : World) (lines : List Line) (found : Option Endpoint) → is_some found ≡ false → TellsPlace Before now lines found
    → Before → ⊥
no_item_taken Before now lines None none tells = tells
no_item_taken Before now lines (Some source) none tells = absurd (cc (none))

-- one was
pub is_taken : (Before : Type 0) (now : World) (lines : List Line) (found : Option Endpoint) → is_some found ≡ true → TellsPlace Before now lines found
    → Before ↔ Stands now found lines
is_taken Before now lines None some tells = absurd (cc (some))
is_taken Before now lines (Some source) some tells = tells

-- the lines from one on
pub line_there : (lines : List Line) (at : ℕ) (l : Line) → at < length lines → l ≡ get_or lines at l → drop at lines ≡ l ∷ drop (at + 1) lines
line_there lines at l within is = drop_more lines at l within ∙ ap (λ x. x ∷ drop (at + 1) lines) (sym is)
