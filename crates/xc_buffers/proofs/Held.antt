-- What is where, with kept items in front; and which changes of the world go together with them.
use Rattle.std.proofs.Common.{◌≡◌, ◌≢◌, ℕ, ◌<◌, ◌||◌, ◌==◌, Bool, true, false, cond, is_some, Option, Some, unwrap_or, List, [], ◌∷◌, ◌++◌}
use Rattle.std.proofs.Common.{refl, ap, sym, ◌∙◌, append_assoc}
use Rattle.std.specs.Prelude.{All, map}
use Rattle.std.specs.Ordering.{nat_cmp, ordering_then, is_eq, eq_by_cmp}
use Rattle.std.specs.Cmp.{nat_cmp_total}
use Rattle.std.specs.FinMap as finite
use Rattle.std.specs.List.{flat_map, list_any}
use Rattle.std.proofs.lemmas.Cmp.{tied_itself}
use Rattle.std.proofs.lemmas.Map.Lookups.{exact_unsigned}
use Rattle.std.specs.declared.cmp.Ordering.{Ordering}
use Rattle.std.specs.declared.cmp.Ordering.TheVariants.{Less, Equal, Greater}
use Rattle.std.proofs.lemmas.List.Elements.{All-nil, All-cons, All-head, All-tail}
use Rattle.xc_data.specs.declared.entry.KeptItem.{KeptItem}
use Rattle.xc_data.specs.declared.entry.KeptItem.TheVariants.{Bytes, Message}
use Rattle.xc_data.specs.declared.object.Num.{Num}
use Rattle.xc_data.specs.declared.object.Object.{Object}
use Rattle.xc_data.specs.declared.object.Object.TheVariants as object
use Rattle.xc_maps.specs.Keys.{num_cmp}
use Rattle.xc_maps.proofs.Laws.{alike, tied, num_total, num_exact}
use Rattle.xc_world.specs.World.{World, Pipe, Pair, pipe_of, pair_of, with_pipe, with_pair, waiting, with_waiting, empty_pipe, empty_pair}
use Rattle.xc_world.specs.Late.{with_put, shut_down, sent_to}
use Rattle.xc_world.specs.Run.{given_back}
use Rattle.xc_buffers.specs.declared.source.Endpoint.TheVariants.{Pipe as OfPipe, Side as OfSide}
use Rattle.xc_buffers.specs.Sources.{is_from}
use Rattle.xc_buffers.specs.Items.{is_fit, is_of_pair, item_bytes, items_from, keeps_from, keeps_pair, kept_bytes, kept_messages}
use Rattle.xc_buffers.specs.Worlds.{world_has_pipe, world_has_pair, with_front, with_held}
use Rattle.xc_buffers.proofs.Turns.{get-change}
use Rattle.xc_buffers.proofs.Fronts.{Commutes, given_passes, pipe_fronted, PipeAlike, turn_pipe, pipe_passes, pair_turned, firsted, turn_pair, pair_passes}
use Rattle.xc_buffers.proofs.Fronts.{turned_apart}
use Rattle.xc_buffers.proofs.Fronts.{same_side, fit_side, apart_sides}

true_false : true ≡ false → ⊥
true_false e = cc

other : (a b : Num) → eq_by_cmp num_cmp a b ≡ false → a ≢ b
other a b e is = true_false (sym (ap (eq_by_cmp num_cmp a) (sym is) ∙ alike num_total num_exact a) ∙ e)

-- what holds of each item holds of all of a list
each : {P : KeptItem → Type 0} → ((t : KeptItem) → P t) → (items : List KeptItem) → All P items
each h items k d lt = h _

-- ---- what is where
-- a pipe has what is kept of it in front
pub pipe_front : (w : World) (items : List KeptItem) (num : Num) → pipe_of (given_back w items) num ≡ with_front (kept_bytes num items) (pipe_of w num)
pipe_front w [] num = refl
pipe_front w (Message pair side bytes ∷ items) num = pipe_front w items num
pipe_front w (Bytes pipe bytes ∷ items) num =
    ap (λ o. unwrap_or o empty_pipe) (get-change (given_back w items).pipes pipe num (pipe_fronted bytes))
    ∙ by_test (eq_by_cmp num_cmp num pipe) refl (pipe_front w items num)
  where
    x : World
    x = given_back w items

    rest : List KeptItem
    rest = items_from (OfPipe num) items

    by_test : (b : Bool) → eq_by_cmp num_cmp num pipe ≡ b → pipe_of x num ≡ with_front (flat_map item_bytes rest) (pipe_of w num)
        → unwrap_or (cond b (Some (pipe_fronted bytes (finite.get x.pipes pipe))) (finite.get x.pipes num)) empty_pipe
        ≡ with_front (flat_map item_bytes (cond b (Bytes pipe bytes ∷ rest) rest)) (pipe_of w num)
    by_test true e before =
        ap (λ n. with_front bytes (pipe_of x n)) (sym (tied num_total num_exact num pipe e)) ∙ ap (with_front bytes) before
        ∙ ap (λ held. record (pipe_of w num) { held = held }) (sym (append_assoc bytes (flat_map item_bytes rest) (pipe_of w num).held))
    by_test false e before = before

-- ---- the sides of a pair
abbrev wait_at : Bool → Pair → List (List ℕ)
wait_at b q = cond b q.first q.second

abbrev cond_turn_at : Bool → (List (List ℕ) → List (List ℕ)) → Pair → Pair
cond_turn_at b g q = cond b (record q { first = g (cond b q.first q.second) }) (record q { second = g (cond b q.first q.second) })

wait_same : (b : Bool) (g : List (List ℕ) → List (List ℕ)) (q : Pair) → wait_at b (cond_turn_at b g q) ≡ g (wait_at b q)
wait_same true g q = refl
wait_same false g q = refl

wait_other : (b c : Bool) (g : List (List ℕ) → List (List ℕ)) (q : Pair) → (b ≡ c → ⊥) → wait_at b (cond_turn_at c g q) ≡ wait_at b q
wait_other true true g q ne = absurd (ne refl)
wait_other true false g q ne = refl
wait_other false true g q ne = refl
wait_other false false g q ne = absurd (ne refl)

mark_stays : (b : Bool) (g : List (List ℕ) → List (List ℕ)) (q : Pair) → (cond_turn_at b g q).shut ≡ q.shut
mark_stays true g q = refl
mark_stays false g q = refl

-- the side that a change is for
waiting_same : (side : ℕ) (g : List (List ℕ) → List (List ℕ)) (q : Pair) → waiting (pair_turned side g q) side ≡ g (waiting q side)
waiting_same side g q = wait_same (side == 0) g q

-- and the other one
waiting_other : (side s : ℕ) (g : List (List ℕ) → List (List ℕ)) (q : Pair) → ((side == 0) ≡ (s == 0) → ⊥) → waiting (pair_turned s g q) side ≡ waiting q side
waiting_other side s g q ne = wait_other (side == 0) (s == 0) g q ne

shut_turned : (side : ℕ) (g : List (List ℕ) → List (List ℕ)) (q : Pair) → (pair_turned side g q).shut ≡ q.shut
shut_turned side g q = mark_stays (side == 0) g q

then_apart : (r b : Ordering) → is_eq r ≡ false → is_eq (ordering_then r b) ≡ false
then_apart Less b e = refl
then_apart Equal b e = cc
then_apart Greater b e = refl

then_one : (r b : Ordering) → is_eq r ≡ true → is_eq (ordering_then r b) ≡ is_eq b
then_one Less b e = cc
then_one Equal b e = refl
then_one Greater b e = cc

one_side : (s t : ℕ) → is_eq (nat_cmp s t) ≡ true → s ≡ t
one_side s t e = tied nat_cmp_total exact_unsigned s t e

-- messages for one side, in front of those for it, and elsewhere
message_front : (num pair : Num) (side s : ℕ) (bytes : List ℕ) (found there : Option Pair) → side < 2 → s < 2
    → (eq_by_cmp num_cmp num pair ≡ true → there ≡ found)
    → (b c : Bool) → eq_by_cmp num_cmp num pair ≡ b → is_eq (nat_cmp side s) ≡ c
    → waiting (unwrap_or (cond b (Some (firsted s bytes found)) there) empty_pair) side
    ≡ (cond (is_eq (ordering_then (num_cmp num pair) (nat_cmp side s))) (bytes ∷ []) [] ++ waiting (unwrap_or there empty_pair) side)
message_front num pair side s bytes found there lt lt' same false c e f =
    ap (λ d. cond d (bytes ∷ []) [] ++ waiting (unwrap_or there empty_pair) side) (sym (then_apart (num_cmp num pair) (nat_cmp side s) e))
message_front num pair side s bytes found there lt lt' same true true e f =
    let q = unwrap_or found empty_pair in
    let one : side ≡ s = one_side side s f in
    let now : is_eq (ordering_then (num_cmp num pair) (nat_cmp side s)) ≡ true = then_one (num_cmp num pair) (nat_cmp side s) e ∙ f in
    ap (λ k. waiting (pair_turned k (λ ms. bytes ∷ ms) q) side) (sym one) ∙ waiting_same side (λ ms. bytes ∷ ms) q
    ∙ ap (λ o. bytes ∷ waiting (unwrap_or o empty_pair) side) (sym (same e))
    ∙ ap (λ d. cond d (bytes ∷ []) [] ++ waiting (unwrap_or there empty_pair) side) (sym now)
message_front num pair side s bytes found there lt lt' same true false e f =
    let q = unwrap_or found empty_pair in
    let now : is_eq (ordering_then (num_cmp num pair) (nat_cmp side s)) ≡ false = then_one (num_cmp num pair) (nat_cmp side s) e ∙ f in
    let two : (side == 0) ≡ (s == 0) → ⊥ = λ is.
    let alike : is_eq (nat_cmp side s) ≡ true = ap (λ k. is_eq (nat_cmp side k)) (sym (same_side side s lt lt' is))
    ∙ ap is_eq (tied_itself nat_cmp_total side) in
    true_false (sym alike ∙ f) in
    waiting_other side s (λ ms. bytes ∷ ms) q two ∙ ap (λ o. waiting (unwrap_or o empty_pair) side) (sym (same e))
    ∙ ap (λ d. cond d (bytes ∷ []) [] ++ waiting (unwrap_or there empty_pair) side) (sym now)

pushed : (t : List ℕ) (rest : List KeptItem) (x : KeptItem) (more : List (List ℕ)) (b : Bool) → item_bytes x ≡ t
    → cond b (t ∷ []) [] ++ (map item_bytes rest ++ more) ≡ map item_bytes (cond b (x ∷ rest) rest) ++ more
pushed t rest x more true e = ap (λ m. m ∷ (map item_bytes rest ++ more)) (sym e)
pushed t rest x more false e = refl

-- a side of a pair has what is kept for it in front
pub side_front : (w : World) (items : List KeptItem) (num : Num) (side : ℕ) → All (λ t. is_fit t ≡ true) items → side < 2
    → waiting (pair_of (given_back w items) num) side ≡ kept_messages num side items ++ waiting (pair_of w num) side
side_front w [] num side fit lt = refl
side_front w (Bytes pipe bytes ∷ items) num side fit lt =
    side_front w items num side (All-tail (λ t. is_fit t ≡ true) (Bytes pipe bytes) items fit) lt
side_front w (Message pair s bytes ∷ items) num side fit lt =
    let P : KeptItem → Type 0 = λ t. is_fit t ≡ true in
    let x = given_back w items in
    let t = Message pair s bytes in
    let lt' = fit_side pair s bytes (All-head P t items fit) in
    let rest = items_from (OfSide num side) items in
    ap (λ o. waiting (unwrap_or o empty_pair) side) (get-change x.pairs pair num (firsted s bytes))
    ∙ message_front num pair side s bytes (finite.get x.pairs pair) (finite.get x.pairs num) lt lt'
    (λ e. ap (finite.get x.pairs) (tied num_total num_exact num pair e)) (eq_by_cmp num_cmp num pair) (is_eq (nat_cmp side s)) refl refl
    ∙ ap (λ ms. cond (is_from (OfSide num side) t) (bytes ∷ []) [] ++ ms) (side_front w items num side (All-tail P t items fit) lt)
    ∙ pushed bytes rest t (waiting (pair_of w num) side) (is_from (OfSide num side) t) refl

shut_at : (b : Bool) (found there : Option Pair) (side : ℕ) (bytes : List ℕ) → (b ≡ true → there ≡ found)
    → (unwrap_or (cond b (Some (firsted side bytes found)) there) empty_pair).shut ≡ (unwrap_or there empty_pair).shut
shut_at true found there side bytes same =
    shut_turned side (λ ms. bytes ∷ ms) (unwrap_or found empty_pair) ∙ ap (λ o. (unwrap_or o empty_pair).shut) (sym (same refl))
shut_at false found there side bytes same = refl

-- a pair's mark stays
pub pair_mark : (w : World) (items : List KeptItem) (num : Num) → (pair_of (given_back w items) num).shut ≡ (pair_of w num).shut
pair_mark w [] num = refl
pair_mark w (Bytes pipe bytes ∷ items) num = pair_mark w items num
pair_mark w (Message pair side bytes ∷ items) num =
    let x = given_back w items in
    ap (λ (o : Option Pair). (unwrap_or o empty_pair).shut) (get-change x.pairs pair num (firsted side bytes))
    ∙ shut_at (eq_by_cmp num_cmp num pair) (finite.get x.pairs pair) (finite.get x.pairs num) side bytes
    (λ e. ap (finite.get x.pairs) (tied num_total num_exact num pair e))
    ∙ pair_mark w items num

-- ---- what is there
there_at : {X : Type 0} (b : Bool) (x : X) (o : Option X) (more had : Bool) → is_some o ≡ (more || had) → is_some (cond b (Some x) o) ≡ ((b || more) || had)
there_at true x o more had e = refl
there_at false x o more had e = e

-- a pipe is there where something is kept of it, or it was
pub pipe_is_there : (w : World) (items : List KeptItem) (num : Num)
    → world_has_pipe (given_back w items) num ≡ (keeps_from (OfPipe num) items || world_has_pipe w num)
pipe_is_there w [] num = refl
pipe_is_there w (Message pair side bytes ∷ items) num = pipe_is_there w items num
pipe_is_there w (Bytes pipe bytes ∷ items) num =
    let x = given_back w items in
    ap is_some (get-change x.pipes pipe num (pipe_fronted bytes))
    ∙ there_at (eq_by_cmp num_cmp num pipe) (pipe_fronted bytes (finite.get x.pipes pipe)) (finite.get x.pipes num) (keeps_from (OfPipe num) items)
    (world_has_pipe w num) (pipe_is_there w items num)

-- so is a pair
pub pair_is_there : (w : World) (items : List KeptItem) (num : Num) → world_has_pair (given_back w items) num ≡ (keeps_pair num items || world_has_pair w num)
pair_is_there w [] num = refl
pair_is_there w (Bytes pipe bytes ∷ items) num = pair_is_there w items num
pair_is_there w (Message pair side bytes ∷ items) num =
    let x = given_back w items in
    ap is_some (get-change x.pairs pair num (firsted side bytes))
    ∙ there_at (eq_by_cmp num_cmp num pair) (firsted side bytes (finite.get x.pairs pair)) (finite.get x.pairs num) (keeps_pair num items)
    (world_has_pair w num) (pair_is_there w items num)

-- ---- where nothing is kept
both_empty : {X : Type 0} (xs ys : List X) → xs ++ ys ≡ [] → (xs ≡ []) × (ys ≡ [])
both_empty [] ys e = (refl, e)
both_empty (x ∷ xs) ys e = cc

-- an item of the pipe has no bytes
abbrev NoBytes : Num → KeptItem → Type 0
NoBytes num t = is_from (OfPipe num) t ≡ true → item_bytes t ≡ []

bytes_none : (items : List KeptItem) (num : Num) → kept_bytes num items ≡ [] → All (NoBytes num) items
bytes_none [] num e = All-nil (NoBytes num)
bytes_none (t ∷ items) num e =
    let p = by_test (is_from (OfPipe num) t) refl e in
    All-cons (NoBytes num) t items p.0 (bytes_none items num p.1)
  where
    rest : List KeptItem
    rest = items_from (OfPipe num) items

    by_test : (b : Bool) → is_from (OfPipe num) t ≡ b → flat_map item_bytes (cond b (t ∷ rest) rest) ≡ [] → NoBytes num t × (flat_map item_bytes rest ≡ [])
    by_test true e none = let p = both_empty (item_bytes t) (flat_map item_bytes rest) none in ((λ _. p.0), p.1)
    by_test false e none = ((λ f. absurd (true_false (sym f ∙ e))), none)

-- where none is found no item passes
pub none_any : (q : KeptItem → Bool) (items : List KeptItem) → list_any q items ≡ false → All (λ t. q t ≡ false) items
none_any q [] e = All-nil (λ t. q t ≡ false)
none_any q (t ∷ items) e =
    let p = neither_of (q t) (list_any q items) e in
    All-cons (λ t. q t ≡ false) t items p.0 (none_any q items p.1)
  where
    neither_of : (a b : Bool) → (a || b) ≡ false → (a ≡ false) × (b ≡ false)
    neither_of true b e = cc
    neither_of false b e = (refl, e)

-- where no item passes none is found
pub any_none : (q : KeptItem → Bool) (items : List KeptItem) → All (λ t. q t ≡ false) items → list_any q items ≡ false
any_none q [] all = refl
any_none q (t ∷ items) all =
    ap (λ b. b || list_any q items) (All-head (λ t. q t ≡ false) t items all) ∙ any_none q items (All-tail (λ t. q t ≡ false) t items all)

some_bytes : (bytes : List ℕ) (num pipe : Num) → is_fit (Bytes pipe bytes) ≡ true → bytes ≡ [] → ⊥
some_bytes [] num pipe fit e = cc
some_bytes (b ∷ bytes) num pipe fit e = cc

-- where no bytes are kept no item is, since each has some
pub no_items : (items : List KeptItem) (num : Num) → All (λ t. is_fit t ≡ true) items → kept_bytes num items ≡ [] → keeps_from (OfPipe num) items ≡ false
no_items items num fit none = any_none (is_from (OfPipe num)) items (λ k d lt. none_of _ (fit k d lt) (bytes_none items num none k d lt))
  where
    none_of : (t : KeptItem) → is_fit t ≡ true → NoBytes num t → is_from (OfPipe num) t ≡ false
    none_of (Message pair side bytes) fit none = refl
    none_of (Bytes pipe bytes) fit none = by_test (eq_by_cmp num_cmp num pipe) refl
      where
        by_test : (b : Bool) → eq_by_cmp num_cmp num pipe ≡ b → b ≡ false
        by_test true e = absurd (some_bytes bytes num pipe fit (none e))
        by_test false e = refl

-- where no messages are kept no item is
pub no_message_items : (items : List KeptItem) (num : Num) (side : ℕ) → kept_messages num side items ≡ [] → keeps_from (OfSide num side) items ≡ false
no_message_items [] num side none = refl
no_message_items (t ∷ items) num side none = by_test (is_from (OfSide num side) t) (no_message_items items num side) none
  where
    rest : List KeptItem
    rest = items_from (OfSide num side) items

    by_test : (b : Bool) → (map item_bytes rest ≡ [] → keeps_from (OfSide num side) items ≡ false) → map item_bytes (cond b (t ∷ rest) rest) ≡ []
        → (b || keeps_from (OfSide num side) items) ≡ false
    by_test true more e = cc
    by_test false more e = more e

-- ---- changes after what is kept
-- nothing but pipes and pairs
pub held_alone : (rest w : World) (items : List KeptItem) → given_back (with_held rest w) items ≡ with_held rest (given_back w items)
held_alone rest w items = given_passes (with_held rest) items (each passes items) w
  where
    passes : (t : KeptItem) → Commutes (with_held rest) t
    passes (Bytes pipe bytes) x = refl
    passes (Message pair side bytes) x = refl

abbrev put_behind : List ℕ → Option Pipe → Pipe
put_behind bytes found = let pipe = unwrap_or found empty_pipe in record pipe { held = pipe.held ++ bytes }

-- bytes after those of a pipe
pub put_stays : (w : World) (items : List KeptItem) (num : Num) (bytes : List ℕ)
    → given_back (with_put w num bytes) items ≡ with_put (given_back w items) num bytes
put_stays w items num bytes = given_passes (turn_pipe num (put_behind bytes)) items (each passes items) w
  where
    alike : (t : KeptItem) → PipeAlike num (put_behind bytes) t
    alike (Bytes pipe more) = λ e found.
        let p = unwrap_or found empty_pipe in
        ap (λ held. record p { held = held }) (sym (append_assoc more p.held bytes))
    alike (Message pair side more) = tt

    passes : (t : KeptItem) → Commutes (turn_pipe num (put_behind bytes)) t
    passes t = pipe_passes num (put_behind bytes) t (alike t)

-- a message after those for a side
pub sent_stays : (w : World) (items : List KeptItem) (num : Num) (side : ℕ) (bytes : List ℕ)
    → given_back (with_pair w num (sent_to (pair_of w num) side bytes)) items
    ≡ with_pair (given_back w items) num (sent_to (pair_of (given_back w items) num) side bytes)
sent_stays w items num side bytes = given_passes (turn_pair num sent) items (each passes items) w
  where
    sent : Option Pair → Pair
    sent found = pair_turned side (λ ms. ms ++ bytes ∷ []) (unwrap_or found empty_pair)

    passes : (t : KeptItem) → Commutes (turn_pair num sent) t
    passes (Bytes pipe more) = pair_passes num sent (Bytes pipe more) tt
    passes (Message pair s more) = pair_passes num sent (Message pair s more) (λ e found.
        turned_apart s side (λ ms. more ∷ ms) (λ ms. ms ++ bytes ∷ []) (λ same ms. refl) (unwrap_or found empty_pair))

shut_side : (b : Bool) (q : Pair) (m : List ℕ)
    → cond b (record q { first = m ∷ cond b q.first q.second; shut = true }) (record q { second = m ∷ cond b q.first q.second; shut = true })
    ≡ (let r = cond b (record q { first = m ∷ cond b q.first q.second }) (record q { second = m ∷ cond b q.first q.second }) in record r { shut = true })
shut_side true q m = refl
shut_side false q m = refl

-- a mark
pub shut_stays : (w : World) (items : List KeptItem) (object : Object)
    → given_back (shut_down w object).world items ≡ (shut_down (given_back w items) object).world
shut_stays w items (object.Word at) = refl
shut_stays w items (object.Name name) = refl
shut_stays w items (object.File num) = refl
shut_stays w items object.Jobs = refl
shut_stays w items (object.Pipe num) = given_passes (turn_pipe num shut) items (each passes items) w
  where
    shut : Option Pipe → Pipe
    shut found = record (unwrap_or found empty_pipe) { shut = true }

    passes : (t : KeptItem) → Commutes (turn_pipe num shut) t
    passes (Bytes pipe bytes) = pipe_passes num shut (Bytes pipe bytes) (λ e found. refl)
    passes (Message pair side bytes) = pipe_passes num shut (Message pair side bytes) tt
shut_stays w items (object.Pair num) = given_passes (turn_pair num shut) items (each passes items) w
  where
    shut : Option Pair → Pair
    shut found = record (unwrap_or found empty_pair) { shut = true }

    passes : (t : KeptItem) → Commutes (turn_pair num shut) t
    passes (Bytes pipe bytes) = pair_passes num shut (Bytes pipe bytes) tt
    passes (Message pair side bytes) = pair_passes num shut (Message pair side bytes) (λ e found. shut_side (side == 0) (unwrap_or found empty_pair) bytes)

-- a pipe of which nothing is kept becomes any other
pub pipe_put : (w : World) (items : List KeptItem) (num : Num) (pipe : Pipe) → kept_bytes num items ≡ []
    → given_back (with_pipe w num pipe) items ≡ with_pipe (given_back w items) num pipe
pipe_put w items num pipe none =
    given_passes (turn_pipe num (λ found. pipe)) items (λ k d lt. passes _ (bytes_none items num none k d lt)) w
  where
    passes : (t : KeptItem) → NoBytes num t → Commutes (turn_pipe num (λ found. pipe)) t
    passes (Bytes other bytes) none = pipe_passes num (λ found. pipe) (Bytes other bytes) (λ e found. ap (λ front. with_front front pipe) (none e))
    passes (Message pair side bytes) none = pipe_passes num (λ found. pipe) (Message pair side bytes) tt

-- a pair of which nothing is kept becomes any other
pub pair_put : (w : World) (items : List KeptItem) (num : Num) (pair : Pair) → keeps_pair num items ≡ false
    → given_back (with_pair w num pair) items ≡ with_pair (given_back w items) num pair
pair_put w items num pair none =
    given_passes (turn_pair num (λ found. pair)) items (λ k d lt. passes _ (none_any (is_of_pair num) items none k d lt)) w
  where
    passes : (t : KeptItem) → is_of_pair num t ≡ false → Commutes (turn_pair num (λ found. pair)) t
    passes (Bytes pipe bytes) apart = pair_passes num (λ found. pair) (Bytes pipe bytes) tt
    passes (Message p side bytes) apart = pair_passes num (λ found. pair) (Message p side bytes) (λ e found. absurd (true_false (sym e ∙ apart)))

-- a side of which nothing is kept has any other messages
pub side_put : (w : World) (items : List KeptItem) (num : Num) (side : ℕ) (messages : List (List ℕ)) → All (λ t. is_fit t ≡ true) items → side < 2
    → keeps_from (OfSide num side) items ≡ false
    → given_back (with_pair w num (with_waiting (pair_of w num) side messages)) items
    ≡ with_pair (given_back w items) num (with_waiting (pair_of (given_back w items) num) side messages)
side_put w items num side messages fit lt none =
    given_passes (turn_pair num put) items (λ k d within. passes _ (fit k d within) (none_any (is_from (OfSide num side)) items none k d within)) w
  where
    put : Option Pair → Pair
    put found = pair_turned side (λ ms. messages) (unwrap_or found empty_pair)

    passes : (t : KeptItem) → is_fit t ≡ true → is_from (OfSide num side) t ≡ false → Commutes (turn_pair num put) t
    passes (Bytes pipe bytes) fit apart = pair_passes num put (Bytes pipe bytes) tt
    passes (Message pair s bytes) fit apart = pair_passes num put (Message pair s bytes) (λ e found.
        turned_apart s side (λ ms. bytes ∷ ms) (λ ms. messages)
        (λ same. absurd (apart_sides num pair side s lt (fit_side pair s bytes fit) e apart (sym same))) (unwrap_or found empty_pair))
