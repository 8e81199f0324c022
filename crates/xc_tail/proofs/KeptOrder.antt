-- Items of which each comes behind the one before it are kept in order, and joined they stay as they are; and items in order are such, once joined.
use Rattle.std.proofs.Common.{◌≡◌, ℕ, Bool, true, false, Option, Some, None, List, [], ◌∷◌, ◌++◌, length, refl, ap, sym, ◌∙◌, subst, arith}
use Rattle.std.proofs.Common.{length-append}
use Rattle.std.specs.Prelude.{All, if◌then◌else◌}
use Rattle.std.proofs.lemmas.Bool.{and_parts, not-true, not_from_false, leb-true, le-leb, eqb-true, eq-eqb}
use Rattle.std.specs.Cmp.Derive.{both_true}
use Rattle.std.proofs.lemmas.List.Elements.{All-nil, All-cons, All-head, All-tail}
use Rattle.xc_buffers.specs.Items.{AreKept, is_fit}
use Rattle.xc_buffers.specs.Sources.{source_of, is_before}
use Rattle.xc_buffers.specs.declared.source.Endpoint.{Endpoint}
use Rattle.xc_buffers.specs.declared.source.Endpoint.TheVariants.{Pipe, Side}
use Rattle.xc_buffers.proofs.Laws.{before_itself, before_not, neither, not_before, one_source, NotBefore, Rises, rises_from, order_from}
use Rattle.xc_data.specs.declared.entry.KeptItem.{KeptItem}
use Rattle.xc_data.specs.declared.entry.KeptItem.TheVariants.{Bytes, Message}
use Rattle.xc_data.specs.declared.object.Num.{Num}
use Rattle.xc_print.specs.Kept.{is_same, join, joined}
use Rattle.xc_tail.specs.KeptLines.{comes_behind, Follow}

-- ---- numbers
-- numbers that are the same are one
pub same_num : (a b : Num) → is_same a b ≡ true → a ≡ b
same_num a b e =
    let p = and_parts _ _ e in
    let tx = eqb-true a.tx b.tx p.0 in
    let k = eqb-true a.k b.k p.1 in
    ap (λ n. record { tx = n; k = a.k }) tx ∙ ap (λ n. record { tx = b.tx; k = n }) k

-- a number is the same as itself
same_itself : (a : Num) → is_same a a ≡ true
same_itself a = both_true (eq-eqb a.tx a.tx refl) (eq-eqb a.k a.k refl)

-- a pipe has one number
one_pipe : (p q : Num) → Pipe p ≡ Pipe q → p ≡ q
one_pipe p q e = cc

-- a pipe stands before another one that doesn't stand before it
before_other : (p q : Num) → is_before (Pipe q) (Pipe p) ≡ false → is_same p q ≡ false → is_before (Pipe p) (Pipe q) ≡ true
before_other p q behind other = by_order (is_before (Pipe p) (Pipe q)) refl
  where
    by_order : (b : Bool) → is_before (Pipe p) (Pipe q) ≡ b → b ≡ true
    by_order true e = refl
    by_order false e =
        let is = one_pipe p q (one_source (Pipe p) (Pipe q) (neither (Pipe p) (Pipe q) e behind)) in
        let alike : is_same p q ≡ true = ap (is_same p) (sym is) ∙ same_itself p in
        cc (alike, other)

-- ---- items that come one behind another
-- an item that comes behind a source isn't of one before it
not_behind : (s : Endpoint) (t : KeptItem) → comes_behind (Some s) t ≡ true → is_before (source_of t) s ≡ false
not_behind s (Bytes pipe bytes) e = before_not s (Pipe pipe) e
not_behind s (Message pair side bytes) e = not-true (is_before (Side pair side) s) e

-- nor are those behind it
all_behind : (s : Endpoint) (items : List KeptItem) → Follow (Some s) items → All (λ u. is_before (source_of u) s ≡ false) items
all_behind s [] follow = All-nil (λ (u : KeptItem). is_before (source_of u) s ≡ false)
all_behind s (t ∷ items) follow =
    let first = not_behind s t follow.0 in
    let rest = all_behind (source_of t) items follow.2 in
    All-cons (λ (u : KeptItem). is_before (source_of u) s ≡ false) t items first
    (λ k d lt. not_before _ (source_of t) s (rest k d lt) first)

-- they rise
they_rise : (before : Option Endpoint) (items : List KeptItem) → Follow before items → Rises items
they_rise before [] follow = tt
they_rise before (t ∷ items) follow = (all_behind (source_of t) items follow.2, they_rise (Some (source_of t)) items follow.2)

-- they are fit
all_fit : (before : Option Endpoint) (items : List KeptItem) → Follow before items → All (λ t. is_fit t ≡ true) items
all_fit before [] follow = All-nil (λ (t : KeptItem). is_fit t ≡ true)
all_fit before (t ∷ items) follow =
    All-cons (λ (u : KeptItem). is_fit u ≡ true) t items follow.1 (all_fit (Some (source_of t)) items follow.2)

-- they are kept in order
pub follow_kept : (items : List KeptItem) → Follow None items → AreKept items
follow_kept items follow = record { order = order_from items (they_rise None items follow); fit = all_fit None items follow }

-- an item is joined to none that comes behind it
join_apart : (t : KeptItem) (items : List KeptItem) → Follow (Some (source_of t)) items → join t items ≡ t ∷ items
join_apart (Message pair side bytes) items follow = refl
join_apart (Bytes pipe bytes) [] follow = refl
join_apart (Bytes pipe bytes) (Message pair side more ∷ items) follow = refl
join_apart (Bytes pipe bytes) (Bytes next more ∷ items) follow = by_same (is_same pipe next) refl
  where
    by_same : (b : Bool) → is_same pipe next ≡ b
        → (if b then Bytes pipe (bytes ++ more) ∷ items else Bytes pipe bytes ∷ Bytes next more ∷ items) ≡ Bytes pipe bytes ∷ Bytes next more ∷ items
    by_same true e =
        let itself = ap (λ n. is_before (Pipe pipe) (Pipe n)) (same_num pipe next e) in
        let never = before_itself (Pipe pipe) in
        let before = follow.0 in
        absurd (cc (itself, never, before))
    by_same false e = refl

-- and joined they stay as they are
pub follow_joined : (before : Option Endpoint) (items : List KeptItem) → Follow before items → joined items ≡ items
follow_joined before [] follow = refl
follow_joined before (t ∷ items) follow =
    ap (join t) (follow_joined (Some (source_of t)) items follow.2) ∙ join_apart t items follow.2

-- ---- items in order, joined
-- joined items are of the sources of the items
all_join : (t u : KeptItem) (items : List KeptItem) → NotBefore t u → All (NotBefore t) items → All (NotBefore t) (join u items)
all_join t (Message pair side bytes) items first rest = All-cons (NotBefore t) (Message pair side bytes) items first rest
all_join t (Bytes pipe bytes) [] first rest = All-cons (NotBefore t) (Bytes pipe bytes) [] first rest
all_join t (Bytes pipe bytes) (Message pair side more ∷ items) first rest =
    All-cons (NotBefore t) (Bytes pipe bytes) (Message pair side more ∷ items) first rest
all_join t (Bytes pipe bytes) (Bytes next more ∷ items) first rest = by_same (is_same pipe next)
  where
    by_same : (b : Bool) → All (NotBefore t) (if b then Bytes pipe (bytes ++ more) ∷ items else Bytes pipe bytes ∷ Bytes next more ∷ items)
    by_same true = All-cons (NotBefore t) (Bytes pipe (bytes ++ more)) items first (All-tail (NotBefore t) (Bytes next more) items rest)
    by_same false = All-cons (NotBefore t) (Bytes pipe bytes) (Bytes next more ∷ items) first rest

-- of a whole list
all_joined : (t : KeptItem) (items : List KeptItem) → All (NotBefore t) items → All (NotBefore t) (joined items)
all_joined t [] all = all
all_joined t (u ∷ items) all =
    all_join t u (joined items) (All-head (NotBefore t) u items all) (all_joined t items (All-tail (NotBefore t) u items all))

-- bytes with more bytes are fit
fit_joined : (pipe : Num) (bytes more : List ℕ) → is_fit (Bytes pipe bytes) ≡ true → is_fit (Bytes pipe (bytes ++ more)) ≡ true
fit_joined pipe bytes more fit =
    let some = leb-true 1 (length bytes) fit in
    let size = length-append bytes more in
    le-leb 1 (length (bytes ++ more)) (omega (arith, some, size))

-- an item joined to others behind which it comes
follow_join : (t : KeptItem) (items : List KeptItem) → is_fit t ≡ true → Follow None items → All (NotBefore t) items → Follow None (join t items)
follow_join (Message pair side bytes) [] fit follow all = (refl, fit, tt)
follow_join (Message pair side bytes) (Bytes next more ∷ items) fit follow all =
    let first : NotBefore (Message pair side bytes) (Bytes next more) = All-head (NotBefore (Message pair side bytes)) (Bytes next more) items all in
    absurd (cc (first))
follow_join (Message pair side bytes) (Message other s more ∷ items) fit follow all =
    let first = All-head (NotBefore (Message pair side bytes)) (Message other s more) items all in
    (refl, fit, (not_from_false (is_before (Side other s) (Side pair side)) first, follow.1, follow.2))
follow_join (Bytes pipe bytes) [] fit follow all = (refl, fit, tt)
follow_join (Bytes pipe bytes) (Message pair side more ∷ items) fit follow all = (refl, fit, (refl, follow.1, follow.2))
follow_join (Bytes pipe bytes) (Bytes next more ∷ items) fit follow all = by_same (is_same pipe next) refl
  where
    by_same : (b : Bool) → is_same pipe next ≡ b → Follow None (if b then Bytes pipe (bytes ++ more) ∷ items else Bytes pipe bytes ∷ Bytes next more ∷ items)
    by_same true e = (refl, fit_joined pipe bytes more fit, subst (λ n. Follow (Some (Pipe n)) items) (sym (same_num pipe next e)) follow.2)
    by_same false e =
        (refl, fit, (before_other pipe next (All-head (NotBefore (Bytes pipe bytes)) (Bytes next more) items all) e, follow.1, follow.2))

-- items that rise, joined
joined_follow : (items : List KeptItem) → Rises items → All (λ t. is_fit t ≡ true) items → Follow None (joined items)
joined_follow [] rises fit = tt
joined_follow (t ∷ items) rises fit =
    let P : KeptItem → Type 0 = λ u. is_fit u ≡ true in
    follow_join t (joined items) (All-head P t items fit) (joined_follow items rises.1 (All-tail P t items fit)) (all_joined t items rises.0)

-- they come one behind another
pub kept_follow : (items : List KeptItem) → AreKept items → Follow None (joined items)
kept_follow items kept = joined_follow items (rises_from items kept.order) kept.fit
