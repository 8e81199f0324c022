-- Where a record's pipe or pair is empty, nothing is kept of it.
use Rattle.std.proofs.Common.{◌≡◌, ◌≢◌, ◌⊎◌, inl, inr, ℕ, zero, suc, Bool, true, false, ◌||◌, ◌<◌, List, [], ◌∷◌, ◌++◌, refl, ap, sym, ◌∙◌, subst, arith}
use Rattle.std.specs.Prelude.{All, Contains}
use Rattle.std.proofs.lemmas.List.Elements.{All-nil, All-cons, All-head, All-tail, All-contains, All-weaker}
use Rattle.xc_buffers.specs.Items.{is_fit, keeps_from, kept_bytes, kept_messages}
use Rattle.xc_buffers.specs.Sources.{is_from}
use Rattle.xc_buffers.specs.declared.source.Endpoint.{Endpoint}
use Rattle.xc_buffers.specs.declared.source.Endpoint.TheVariants as source
use Rattle.xc_buffers.proofs.Laws.{fit_side, no_items, no_message_items, pipe_front, side_front, own_source}
use Rattle.xc_data.specs.Remaining.{objects_of}
use Rattle.xc_data.specs.declared.entry.KeptItem.{KeptItem}
use Rattle.xc_data.specs.declared.entry.KeptItem.TheVariants.{Bytes, Message}
use Rattle.xc_data.specs.declared.object.Num.{Num}
use Rattle.xc_data.specs.declared.object.Object.{Object}
use Rattle.xc_data.specs.declared.object.Object.TheVariants as object
use Rattle.xc_data.specs.declared.undo.Undo.{Undo}
use Rattle.xc_data.specs.declared.undo.Undo.TheVariants as undo
use Rattle.xc_host.specs.Contents.{Contents, world_of}
use Rattle.xc_host.specs.Kept.{with_kept}
use Rattle.xc_refines.specs.InFlight.{IsEmptyNew}
use Rattle.xc_world.specs.Beside.{AreElsewhere}
use Rattle.xc_world.specs.Run.{given_back, item_object}
use Rattle.xc_world.specs.World.{Pipe, World, pair_of, pipe_of, waiting}
use Rattle.xc_world.proofs.Laws.{HasNoData, file_has_none, name_has_none, no_data_elsewhere, one_object}
use Rattle.xc_station.specs.Lent.{IsBacked}
use Rattle.xc_station.proofs.Lent.{world_kept}

nil_front : {A : Type 0} (xs ys : List A) → xs ++ ys ≡ [] → xs ≡ []
nil_front [] ys e = refl
nil_front (x ∷ xs) ys e = cc e

first_false : (a b : Bool) → (a || b) ≡ false → a ≡ false
first_false false b is = refl
first_false true b is = cc is

rest_false : (a b : Bool) → (a || b) ≡ false → b ≡ false
rest_false false b is = is
rest_false true b is = cc is

-- no item is of a source of which none is kept
none_from : (s : Endpoint) (items : List KeptItem) → keeps_from s items ≡ false → All (λ item. is_from s item ≡ false) items
none_from s [] none = All-nil (λ item. is_from s item ≡ false)
none_from s (item ∷ items) none =
    All-cons (λ item. is_from s item ≡ false) item items (first_false (is_from s item) (keeps_from s items) none)
    (none_from s items (rest_false (is_from s item) (keeps_from s items) none))

-- items that aren't of one object are of none in the list of it alone
none_of_one : (o : Object) (items : List KeptItem) → All (λ item. item_object item ≢ o) items → AreElsewhere (o ∷ []) items
none_of_one o items away = All-weaker (λ item. item_object item ≢ o) (λ item. Contains (o ∷ []) (item_object item) → ⊥)
    (λ item ne at. ne (All-contains (λ x. x ≡ o) (o ∷ []) (item_object item) (All-cons (λ x. x ≡ o) o [] refl (All-nil (λ x. x ≡ o))) at)) items away

not_both : (b : Bool) → b ≡ true → b ≡ false → ⊥
not_both b is not = let both : true ≡ false = sym is ∙ not in cc both

not_pipe : (num : Num) (item : KeptItem) → is_from (source.Pipe num) item ≡ false → item_object item ≢ object.Pipe num
not_pipe num (Bytes n bytes) lacks same =
    let is : n ≡ num = cc same in
    not_both (is_from (source.Pipe num) (Bytes n bytes))
    (subst (λ k. is_from (source.Pipe num) (Bytes k bytes) ≡ true) (sym is) (own_source (source.Pipe num))) lacks
not_pipe num (Message n side bytes) lacks same = cc same

one_of_two : (side : ℕ) → side < 2 → (side ≡ 0) ⊎ (side ≡ 1)
one_of_two zero less = inl refl
one_of_two (suc zero) less = inr refl
one_of_two (suc (suc n)) less = absurd (omega (arith, less))

not_side : (num : Num) (side : ℕ) (item : KeptItem) → is_from (source.Side num side) item ≡ false → (bytes : List ℕ) → item ≡ Message num side bytes → ⊥
not_side num side item lacks bytes is =
    not_both (is_from (source.Side num side) item) (subst (λ x. is_from (source.Side num side) x ≡ true) (sym is) (own_source (source.Side num side))) lacks

not_pair : (num : Num) (item : KeptItem) → is_fit item ≡ true → is_from (source.Side num 0) item ≡ false → is_from (source.Side num 1) item ≡ false
    → item_object item ≢ object.Pair num
not_pair num (Bytes n bytes) fit first second same = cc same
not_pair num (Message n side bytes) fit first second same =
    let is : n ≡ num = cc same in
    elim (one_of_two side (fit_side n side bytes fit)) [
      | inl low ↦ not_side num 0 (Message n side bytes) first bytes (λ i. Message (is i) (low i) bytes)
      | inr high ↦ not_side num 1 (Message n side bytes) second bytes (λ i. Message (is i) (high i) bytes)
    ]

all_pairs : (num : Num) (items : List KeptItem) → All (λ item. is_fit item ≡ true) items → All (λ item. is_from (source.Side num 0) item ≡ false) items
    → All (λ item. is_from (source.Side num 1) item ≡ false) items → All (λ item. item_object item ≢ object.Pair num) items
all_pairs num [] fit first second = All-nil (λ item. item_object item ≢ object.Pair num)
all_pairs num (item ∷ items) fit first second =
    let P : KeptItem → Type 0 = λ x. is_fit x ≡ true in
    let Q : KeptItem → Type 0 = λ x. is_from (source.Side num 0) x ≡ false in
    let R : KeptItem → Type 0 = λ x. is_from (source.Side num 1) x ≡ false in
    All-cons (λ x. item_object x ≢ object.Pair num) item items
    (not_pair num item (All-head P item items fit) (All-head Q item items first) (All-head R item items second))
    (all_pairs num items (All-tail P item items fit) (All-tail Q item items first) (All-tail R item items second))

module _ (c : Contents) (items : List KeptItem) (backed : All (IsBacked c) items) where
  all_fit : All (λ item. is_fit item ≡ true) items
  all_fit = All-weaker (IsBacked c) (λ item. is_fit item ≡ true) (λ item is. is.fit) items backed

  abbrev below : World
  below = world_of c

  -- where a side is empty no item is of it
  side_none : (num : Num) (side : ℕ) → side < 2 → waiting (pair_of (given_back below items) num) side ≡ []
      → All (λ item. is_from (source.Side num side) item ≡ false) items
  side_none num side low none =
      none_from (source.Side num side) items (no_message_items items num side
      (nil_front (kept_messages num side items) (waiting (pair_of below num) side) (sym (side_front below items num side all_fit low) ∙ none)))

  -- nothing is kept of what it made
  pub nothing_kept_of : (u : Undo) → IsEmptyNew (world_of (with_kept c items)) u → AreElsewhere (objects_of u) items
  nothing_kept_of (undo.Overwrite file at before after n) empty =
      no_data_elsewhere (object.File file ∷ []) items (one_object (object.File file) (file_has_none file))
  nothing_kept_of (undo.Append file from after n) empty = no_data_elsewhere (object.File file ∷ []) items (one_object (object.File file) (file_has_none file))
  nothing_kept_of (undo.Create name num) empty = no_data_elsewhere (object.Name name ∷ object.File num ∷ []) items
      (All-cons HasNoData (object.Name name) (object.File num ∷ []) (name_has_none name) (one_object (object.File num) (file_has_none num)))
  nothing_kept_of (undo.Rename from to) empty = no_data_elsewhere (object.Name from ∷ object.Name to ∷ []) items
      (All-cons HasNoData (object.Name from) (object.Name to ∷ []) (name_has_none from) (one_object (object.Name to) (name_has_none to)))
  nothing_kept_of (undo.NewPipe num) empty =
      let none : (pipe_of (given_back below items) num).held ≡ [] = subst (λ w. (pipe_of w num).held ≡ []) (world_kept c items) empty in
      let bytes = nil_front (kept_bytes num items) (pipe_of below num).held (sym (ap (λ (p : Pipe). p.held) (pipe_front below items num)) ∙ none) in
      none_of_one (object.Pipe num) items
      (All-weaker (λ item. is_from (source.Pipe num) item ≡ false) (λ item. item_object item ≢ object.Pipe num) (not_pipe num) items
      (none_from (source.Pipe num) items (no_items items num all_fit bytes)))
  nothing_kept_of (undo.NewPair num) empty =
      let first = subst (λ w. (pair_of w num).first ≡ []) (world_kept c items) empty.0 in
      let second = subst (λ w. (pair_of w num).second ≡ []) (world_kept c items) empty.1 in
      none_of_one (object.Pair num) items
      (all_pairs num items all_fit (side_none num 0 (omega arith) first) (side_none num 1 (omega arith) second))
