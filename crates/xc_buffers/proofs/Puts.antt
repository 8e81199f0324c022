-- An item between others, in front of those of its source: what is kept with it and without it.
use Rattle.std.proofs.Common.{◌≡◌, ℕ, suc, ◌<◌, ◌||◌, Bool, true, false, not, cond, get_or, set, take, ◌==◌, is_some, Option, None, Some, unwrap_or, List, ◌∷◌}
use Rattle.std.proofs.Common.{◌++◌, length, drop, refl, ap, sym, ◌∙◌, subst, append_assoc, arith}
use Rattle.std.specs.Prelude.{All, map, reverse, insert, remove}
use Rattle.std.specs.FinMap as finite
use Rattle.std.specs.List.{flat_map}
use Rattle.std.proofs.lemmas.List.{drop_at, reverse-append, set_split, set-get_or}
use Rattle.xc_data.specs.declared.entry.KeptItem.{KeptItem}
use Rattle.xc_data.specs.declared.entry.KeptItem.TheVariants.{Bytes, Message}
use Rattle.xc_data.specs.declared.object.Num.{Num}
use Rattle.xc_maps.proofs.Laws.{get-insert_same, insert-insert_same, insert-get_same, num_total, num_exact}
use Rattle.xc_world.specs.World.{World, Pipe, Pair, pipe_of, pair_of, with_pipe, with_pair, waiting, with_waiting, empty_pipe, empty_pair}
use Rattle.xc_world.specs.Run.{gives, given_back}
use Rattle.xc_buffers.specs.declared.source.Endpoint.TheVariants.{Pipe as OfPipe}
use Rattle.xc_buffers.specs.Sources.{source_of, is_before, is_from}
use Rattle.xc_buffers.specs.Items.{AreKept, IsInOrder, is_fit, item_bytes, items_from, items_apart, keeps_from, keeps_pair, kept_bytes}
use Rattle.xc_buffers.specs.Worlds.{world_has_pipe, world_has_pair, with_front, without_front, without_first}
use Rattle.xc_buffers.specs.Changes.{PutsFront, TakesBytes, TakesMessage}
use Rattle.xc_buffers.proofs.Orders.{own_source, before_apart}
use Rattle.xc_buffers.proofs.Ordered.{rises_from, rises_with, rises_without, rises_changed, order_from}
use Rattle.xc_buffers.proofs.Splits.{All-reverse, All-from, All-below, reverse-cut, reverse-between, All-both, All-between, All-without, All-of, All-first}
use Rattle.xc_buffers.proofs.Splits.{filter-first, filter-past}
use Rattle.xc_buffers.specs.Places.{IsPlace, IsFirst}
use Rattle.xc_buffers.proofs.Fronts.{given_passes, items_pass, pipe_fronted, Commutes}
use Rattle.xc_world.proofs.Laws.{given_append}
use Rattle.xc_buffers.proofs.Held.{pipe_is_there, pair_is_there}
use Rattle.xc_buffers.proofs.Turns.{change_same}

or_true : (b : Bool) → (b || true) ≡ true
or_true true = refl
or_true false = refl

-- a list without the item and with it, in front of those of its source
pub record IsAmong (t : KeptItem) (without whole : List KeptItem) : Type 0 where
  pub before : List KeptItem
  pub behind : List KeptItem
  pub apart : without ≡ before ++ behind
  pub there : whole ≡ before ++ t ∷ behind
  pub ahead : All (λ x. is_before (source_of x) (source_of t) ≡ true) before

module _ (t : KeptItem) (before behind : List KeptItem) (ahead : All (λ x. is_before (source_of x) (source_of t) ≡ true) before) where
  -- those before it are of other sources
  others : All (λ x. is_from (source_of t) x ≡ false) before
  others k d lt = before_apart _ (source_of t) (ahead k d lt)

  own_first : items_from (source_of t) (before ++ t ∷ behind) ≡ t ∷ items_from (source_of t) (before ++ behind)
  own_first = filter-first (is_from (source_of t)) before behind t others (own_source (source_of t))

  apart_stay : items_apart (source_of t) (before ++ t ∷ behind) ≡ items_apart (source_of t) (before ++ behind)
  apart_stay = filter-past (λ x. not (is_from (source_of t) x)) before behind t (ap not (own_source (source_of t)))

  in_front : All (λ x. is_fit x ≡ true) (before ++ t ∷ behind) → (w : World) → given_back w (before ++ t ∷ behind) ≡ gives (given_back w (before ++ behind)) t
  in_front fit w =
      let P : KeptItem → Type 0 = λ x. is_fit x ≡ true in
      let pass : All (Commutes (λ x. gives x t)) before =
      All-both P (λ x. is_from (source_of t) x ≡ false) (Commutes (λ x. gives x t)) (λ x f apart. items_pass t x (All-of P before behind t fit) f apart) before
      (All-first P before (t ∷ behind) fit) others in
      given_append w before (t ∷ behind) ∙ given_passes (λ x. gives x t) before pass (given_back w behind)
      ∙ ap (λ x. gives x t) (sym (given_append w before behind))

-- it was put in front
pub puts_front : (t : KeptItem) (without whole : List KeptItem) → IsAmong t without whole → All (λ x. is_fit x ≡ true) whole → PutsFront t without whole
puts_front t without whole s fit =
    let P : KeptItem → Type 0 = λ x. is_fit x ≡ true in
    let at = subst (All P) s.there fit in
    record {
      own =
          ap (items_from (source_of t)) s.there ∙ own_first t s.before s.behind s.ahead
          ∙ ap (λ items. t ∷ items_from (source_of t) items) (sym s.apart);
      apart =
          ap (items_apart (source_of t)) s.there ∙ apart_stay t s.before s.behind s.ahead ∙ ap (items_apart (source_of t)) (sym s.apart);
      world = λ w.
          ap (given_back w) s.there ∙ in_front t s.before s.behind s.ahead at w ∙ ap (λ items. gives (given_back w items) t) (sym s.apart);
    }

-- what is kept without it is kept in order
pub kept_without : (t : KeptItem) (without whole : List KeptItem) → IsAmong t without whole → AreKept whole → AreKept without
kept_without t without whole s kept =
    let P : KeptItem → Type 0 = λ x. is_fit x ≡ true in
    record {
      order = subst IsInOrder (sym s.apart) (order_from (s.before ++ s.behind) (rises_without s.before s.behind t (rises_from _
          (subst IsInOrder s.there kept.order))));
      fit = subst (All P) (sym s.apart) (All-without P s.before s.behind t (subst (All P) s.there kept.fit));
    }

-- and with it, where the others aren't of sources before its own
pub kept_with : (t : KeptItem) (without whole : List KeptItem) (s : IsAmong t without whole)
    → All (λ x. is_before (source_of x) (source_of t) ≡ false) s.behind → is_fit t ≡ true → AreKept without → AreKept whole
kept_with t without whole s others fit kept =
    let P : KeptItem → Type 0 = λ x. is_fit x ≡ true in
    record {
      order = subst IsInOrder (sym s.there) (order_from (s.before ++ t ∷ s.behind) (rises_with s.before s.behind t (rises_from _
          (subst IsInOrder s.apart kept.order)) s.ahead others));
      fit = subst (All P) (sym s.there) (All-between P s.before s.behind t (subst (All P) s.apart kept.fit) fit);
    }

-- ---- what a taking leaves
pipe_there : (w : World) (num : Num) → world_has_pipe w num ≡ true → finite.get w.pipes num ≡ Some (pipe_of w num)
pipe_there w num there = by_case (finite.get w.pipes num) there
  where
    by_case : (o : Option Pipe) → is_some o ≡ true → o ≡ Some (unwrap_or o empty_pipe)
    by_case None e = cc
    by_case (Some p) e = refl

pair_there : (w : World) (num : Num) → world_has_pair w num ≡ true → finite.get w.pairs num ≡ Some (pair_of w num)
pair_there w num there = by_case (finite.get w.pairs num) there
  where
    by_case : (o : Option Pair) → is_some o ≡ true → o ≡ Some (unwrap_or o empty_pair)
    by_case None e = cc
    by_case (Some p) e = refl

-- bytes that are given back are taken from the front again
pub front_left : (w : World) (num : Num) (front : List ℕ) → world_has_pipe w num ≡ true → w ≡ without_front (gives w (Bytes num front)) num (length front)
front_left w num front there =
    let p = pipe_of w num in
    let q = with_front front p in
    let now : pipe_of (gives w (Bytes num front)) num ≡ q = ap (λ o. unwrap_or o empty_pipe) (get-insert_same num_total num_exact w.pipes num q) in
    sym (ap (λ (r : Pipe). with_pipe (gives w (Bytes num front)) num (record r { held = drop (length front) r.held })) now
    ∙ ap (λ held. with_pipe (gives w (Bytes num front)) num (record p { held = held })) (drop_at front p.held (length front) refl)
    ∙ ap (λ m. record w { pipes = m }) (insert-insert_same num_total num_exact w.pipes num q p
    ∙ insert-get_same num_total num_exact w.pipes num p (pipe_there w num there)))

side_again : (b : Bool) (p : Pair) (message : List ℕ)
    → (let q = cond b (record p { first = message ∷ cond b p.first p.second }) (record p { second = message ∷ cond b p.first p.second }) in
    cond b (record q { first = drop 1 (cond b q.first q.second) }) (record q { second = drop 1 (cond b q.first q.second) })) ≡ p
side_again true p message = refl
side_again false p message = refl

-- a message that is given back is the first again
pub first_left : (w : World) (num : Num) (side : ℕ) (message : List ℕ) → world_has_pair w num ≡ true
    → w ≡ without_first (gives w (Message num side message)) num side
first_left w num side message there =
    let p = pair_of w num in
    let q = with_waiting p side (message ∷ waiting p side) in
    let now : pair_of (gives w (Message num side message)) num ≡ q = ap (λ o. unwrap_or o empty_pair) (get-insert_same num_total num_exact w.pairs num q) in
    sym (ap (λ (r : Pair). with_pair (gives w (Message num side message)) num (with_waiting r side (drop 1 (waiting r side)))) now
    ∙ ap (λ (r : Pair). with_pair (gives w (Message num side message)) num r) (side_again (side == 0) p message)
    ∙ ap (λ m. record w { pairs = m }) (insert-insert_same num_total num_exact w.pairs num q p
    ∙ insert-get_same num_total num_exact w.pairs num p (pair_there w num there)))

-- ---- a pipe that is there stays
-- what is given back leaves what is there
pub has_front : (w : World) (items : List KeptItem) (num : Num) → world_has_pipe w num ≡ true → world_has_pipe (given_back w items) num ≡ true
has_front w items num there = pipe_is_there w items num ∙ ap (λ b. keeps_from (OfPipe num) items || b) there ∙ or_true (keeps_from (OfPipe num) items)

-- so does it a pair
pub has_pair_kept : (w : World) (items : List KeptItem) (num : Num) → world_has_pair w num ≡ true → world_has_pair (given_back w items) num ≡ true
has_pair_kept w items num there = pair_is_there w items num ∙ ap (λ b. keeps_pair num items || b) there ∙ or_true (keeps_pair num items)

takes_front : (pipe : Num) (front : List ℕ) (old new : List KeptItem) → kept_bytes pipe old ≡ front ++ kept_bytes pipe new
    → items_apart (OfPipe pipe) new ≡ items_apart (OfPipe pipe) old
    → ((w : World) → given_back w old ≡ gives (given_back w new) (Bytes pipe front)) → TakesBytes pipe front old new
takes_front pipe front old new own apart back = record {
  own = own;
  apart = apart;
  back = back;
  left = λ w there.
      front_left (given_back w new) pipe front (has_front w new pipe there) ∙ ap (λ x. without_front x pipe (length front)) (sym (back w));
}

-- a whole item was taken
pub takes_whole : (pipe : Num) (bytes : List ℕ) (old new : List KeptItem) → PutsFront (Bytes pipe bytes) new old → TakesBytes pipe bytes old new
takes_whole pipe bytes old new put = takes_front pipe bytes old new (ap (flat_map item_bytes) put.own) (sym put.apart) put.world

-- two pieces that are given back are one
pub gives_joined : (x : World) (pipe : Num) (front rest : List ℕ) → gives x (Bytes pipe (front ++ rest)) ≡ gives (gives x (Bytes pipe rest)) (Bytes pipe front)
gives_joined x pipe front rest =
    let p = pipe_of x pipe in
    ap (λ held. with_pipe x pipe (record p { held = held })) (append_assoc front rest p.held)
    ∙ ap (λ m. record x { pipes = m }) (sym (change_same x.pipes pipe (pipe_fronted rest) (pipe_fronted front)))

-- the front of an item was taken, and the rest stays in its place
pub takes_part : (pipe : Num) (front rest : List ℕ) (without old new : List KeptItem) → PutsFront (Bytes pipe (front ++ rest)) without old
    → PutsFront (Bytes pipe rest) without new → TakesBytes pipe front old new
takes_part pipe front rest without old new was is =
    takes_front pipe front old new
    (ap (flat_map item_bytes) was.own ∙ append_assoc front rest (kept_bytes pipe without)
    ∙ ap (λ bytes. front ++ bytes) (sym (ap (flat_map item_bytes) is.own)))
    (is.apart ∙ sym was.apart)
    (λ w. was.world w ∙ gives_joined (given_back w without) pipe front rest ∙ ap (λ x. gives x (Bytes pipe front)) (sym (is.world w)))

-- a message was taken
pub takes_message : (pair : Num) (side : ℕ) (message : List ℕ) (old new : List KeptItem) → PutsFront (Message pair side message) new old
    → TakesMessage pair side message old new
takes_message pair side message old new put = record {
  own = ap (map item_bytes) put.own;
  apart = sym put.apart;
  back = put.world;
  left = λ w there.
      first_left (given_back w new) pair side message (has_pair_kept w new pair there) ∙ ap (λ x. without_first x pair side) (sym (put.world w));
}

-- ---- in a list in the reverse order
-- an item that is inserted at the place of its source
pub stands_inserted : (stored : List KeptItem) (at : ℕ) (t : KeptItem) → IsPlace (source_of t) stored at
    → IsAmong t (reverse stored) (reverse (insert stored at t))
stands_inserted stored at t place =
    let P : KeptItem → Type 0 = λ x. is_before (source_of x) (source_of t) ≡ true in
    record {
      before = reverse (drop at stored);
      behind = reverse (take at stored);
      apart = reverse-cut stored at;
      there = reverse-between (take at stored) (drop at stored) t;
      ahead = All-reverse P (drop at stored) (All-from P stored at place.1);
    }

-- what is kept with it is in order
pub kept_inserted : (stored : List KeptItem) (at : ℕ) (t : KeptItem) → IsPlace (source_of t) stored at → is_fit t ≡ true → AreKept (reverse stored)
    → AreKept (reverse (insert stored at t))
unfolding stands_inserted
kept_inserted stored at t place fit kept =
    let Q : KeptItem → Type 0 = λ x. is_before (source_of x) (source_of t) ≡ false in
    kept_with t (reverse stored) (reverse (insert stored at t)) (stands_inserted stored at t place)
    (All-reverse Q (take at stored) (All-below Q stored at place.0)) fit kept

-- a list with another item in a place, and the list itself, round that item
set_there : (stored : List KeptItem) (at : ℕ) (u : KeptItem) → at < length stored
    → reverse (set stored at u) ≡ reverse (drop (suc at) stored) ++ u ∷ reverse (take at stored)
set_there stored at u lt = ap reverse (set_split stored at u lt) ∙ reverse-between (take at stored) (drop (suc at) stored) u

cut_there : (stored : List KeptItem) (at : ℕ) (t : KeptItem) → at < length stored → t ≡ get_or stored at t
    → reverse stored ≡ reverse (drop (suc at) stored) ++ t ∷ reverse (take at stored)
cut_there stored at t lt is = ap reverse (sym (ap (set stored at) is ∙ set-get_or stored at t)) ∙ set_there stored at t lt

stands_as : (stored : List KeptItem) (at : ℕ) (t : KeptItem) (whole : List KeptItem) → IsFirst (source_of t) stored at
    → whole ≡ reverse (drop (suc at) stored) ++ t ∷ reverse (take at stored) → IsAmong t (reverse (remove stored at)) whole
stands_as stored at t whole first there =
    let P : KeptItem → Type 0 = λ x. is_before (source_of x) (source_of t) ≡ true in
    record {
      before = reverse (drop (suc at) stored);
      behind = reverse (take at stored);
      apart = reverse-append (take at stored) (drop (suc at) stored);
      there = there;
      ahead = All-reverse P (drop (suc at) stored) (All-from P stored (suc at) (λ k d le lt. first.before k d (omega arith) lt));
    }

-- the first item of its source, with any of that source in its place
pub stands_set : (stored : List KeptItem) (at : ℕ) (t : KeptItem) → IsFirst (source_of t) stored at
    → IsAmong t (reverse (remove stored at)) (reverse (set stored at t))
stands_set stored at t first = stands_as stored at t (reverse (set stored at t)) first (set_there stored at t first.within)

-- the item itself
pub stands_there : (stored : List KeptItem) (at : ℕ) (t : KeptItem) → IsFirst (source_of t) stored at → t ≡ get_or stored at t
    → IsAmong t (reverse (remove stored at)) (reverse stored)
stands_there stored at t first is = stands_as stored at t (reverse stored) first (cut_there stored at t first.within is)

-- what is kept with another of its source in its place is in order
pub kept_set : (stored : List KeptItem) (at : ℕ) (t u : KeptItem) → IsFirst (source_of u) stored at → t ≡ get_or stored at t → source_of t ≡ source_of u
    → is_fit u ≡ true → AreKept (reverse stored) → AreKept (reverse (set stored at u))
kept_set stored at t u first is same fit kept =
    let P : KeptItem → Type 0 = λ x. is_fit x ≡ true in
    let before = reverse (drop (suc at) stored) in
    let behind = reverse (take at stored) in
    let was = cut_there stored at t first.within is in
    let now = set_there stored at u first.within in
    record {
      order = subst IsInOrder (sym now) (order_from (before ++ u ∷ behind)
          (rises_changed before behind t u same (rises_from (before ++ t ∷ behind) (subst IsInOrder was kept.order))));
      fit = subst (All P) (sym now) (All-between P before behind u (All-without P before behind t (subst (All P) was kept.fit)) fit);
    }
