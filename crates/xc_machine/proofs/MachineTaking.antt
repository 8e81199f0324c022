-- What stands in front of a pipe or of a pair's messages, and what doesn't.
use Rattle.std.proofs.Common.{◌≡◌, ℕ, ◌-◌, ◌<◌, ◌≤◌, ◌==◌, Bool, true, false, is_some, Option, Some, None, unwrap_or, List, [], ◌∷◌, ◌++◌}
use Rattle.std.proofs.Common.{length, take, drop, get_or, refl, ap, sym, ◌∙◌, arith}
use Rattle.std.specs.Prelude.{nat_eq, if◌then◌else◌}
use Rattle.std.specs.FinMap as map
use Rattle.std.specs.Cmp.Lexicographic.{pointwise, nat_list_eq_equiv, same_text}
use Rattle.std.proofs.Math.Seq.{take-append_seam}
use Rattle.std.proofs.lemmas.List.{take-append-drop, take_all}
use Rattle.xc_data.specs.declared.entry.KeptItem.TheVariants.{Bytes, Message}
use Rattle.xc_data.specs.declared.object.Num.{Num}
use Rattle.xc_maps.proofs.Laws.{get-insert_same, insert-insert_same, insert-get_same, num_total, num_exact}
use Rattle.xc_world.specs.World.{World, Pipe, Pair, pipe_of, pair_of, with_pipe, with_pair, waiting, with_waiting, empty_pipe, empty_pair}
use Rattle.xc_world.specs.Run.{gives}
use Rattle.xc_machine.specs.Taking.{Takes, IsNotInFront}

-- ---- what is there
module _ {X : Type 0} where
  -- what is there is the value, and not the empty one
  found : (o : Option X) (empty : X) → is_some o ≡ true → o ≡ Some (unwrap_or o empty)
  found None empty e = cc
  found (Some x) empty e = refl

-- ---- pipes
-- the front of what a pipe holds is taken
pub takes_front_bytes : (w : World) (num : Num) (bytes rest : List ℕ) → is_some (map.get w.pipes num) ≡ true → (pipe_of w num).held ≡ bytes ++ rest
    → Takes (Bytes num bytes) w (with_pipe w num (record (pipe_of w num) { held = rest }))
takes_front_bytes w num bytes rest there front =
    let p = pipe_of w num in
    let q : Pipe = record p { held = rest } in
    let is : map.get (map.insert w.pipes num q) num ≡ Some q = get-insert_same num_total num_exact w.pipes num q in
    record {
      back =
          ap (λ (o : Option Pipe). with_pipe (with_pipe w num q) num (record (unwrap_or o empty_pipe) { held = bytes ++ (unwrap_or o empty_pipe).held })) is
          ∙ ap (λ held. with_pipe (with_pipe w num q) num (record p { held = held })) (sym front)
          ∙ ap (λ m. record w { pipes = m }) (insert-insert_same num_total num_exact w.pipes num q p
          ∙ insert-get_same num_total num_exact w.pipes num p (found (map.get w.pipes num) empty_pipe there));
      there = ap is_some is;
    }

-- the front is what it was taken as
pub bytes_there : (bytes rest held : List ℕ) → pointwise nat_eq (take (length bytes) held) bytes ≡ true → rest ≡ drop (length bytes) held → held ≡ bytes ++ rest
bytes_there bytes rest held same is =
    sym (take-append-drop (length bytes) held) ∙ ap (λ front. front ++ drop (length bytes) held) (same_text _ bytes (sym same))
    ∙ ap (λ behind. bytes ++ behind) (sym is)

-- what holds given bytes has them in front
pub bytes_in_front : (before w : World) (num : Num) (bytes : List ℕ) → gives before (Bytes num bytes) ≡ w
    → map.get w.pipes num ≡ Some (record (pipe_of before num) { held = bytes ++ (pipe_of before num).held })
bytes_in_front before w num bytes given =
    ap (λ (x : World). map.get x.pipes num) (sym given) ∙ get-insert_same num_total num_exact before.pipes num _

-- what begins with these bytes has them as its front
front_of : (bytes rest held : List ℕ) → held ≡ bytes ++ rest → pointwise nat_eq (take (length bytes) held) bytes ≡ false → ⊥
front_of bytes rest held is other =
    let same : take (length bytes) held ≡ bytes = ap (take (length bytes)) is ∙ take-append_seam bytes rest in
    let alike : pointwise nat_eq (take (length bytes) held) bytes ≡ true = ap (λ front. pointwise nat_eq front bytes) same ∙ nat_list_eq_equiv.refl bytes in
    cc (alike, other)

-- nor has one that holds other bytes
pub other_front : (w : World) (num : Num) (bytes : List ℕ) → pointwise nat_eq (take (length bytes) (pipe_of w num).held) bytes ≡ false
    → IsNotInFront (Bytes num bytes) w
other_front w num bytes other before given =
    front_of bytes (pipe_of before num).held (pipe_of w num).held
    (ap (λ (o : Option Pipe). (unwrap_or o empty_pipe).held) (bytes_in_front before w num bytes given)) other

-- a pipe that isn't there has nothing in front
pub no_pipe : (w : World) (num : Num) (bytes : List ℕ) → is_some (map.get w.pipes num) ≡ false → IsNotInFront (Bytes num bytes) w
no_pipe w num bytes none before given = let is = ap is_some (bytes_in_front before w num bytes given) in cc (is, none)

-- ---- pairs
-- a list from its first item on
pub parted_first : (ms : List (List ℕ)) (first : List ℕ) → 1 ≤ length ms → first ≡ get_or ms 0 first → ms ≡ first ∷ take (length ms - 1) (drop 1 ms)
parted_first [] first some is = absurd (omega (arith, some))
parted_first (m ∷ ms) first some is =
    ap (λ x. x ∷ ms) (sym is) ∙ ap (λ rest. first ∷ rest) (sym (take_all (length (m ∷ ms) - 1) ms (omega arith)))

-- a side with messages is of a pair that is there
side_there : (o : Option Pair) (side : ℕ) (first : List ℕ) (rest : List (List ℕ)) → waiting (unwrap_or o empty_pair) side ≡ first ∷ rest → is_some o ≡ true
side_there (Some p) side first rest is = refl
side_there None side first rest is = absurd (none_there (side == 0) is)
  where
    none_there : (b : Bool) → (if b then [] else []) ≡ first ∷ rest → ⊥
    none_there true e = cc
    none_there false e = cc

-- the messages for a side, put and put again
side_again : (b : Bool) (p : Pair) (messages : List (List ℕ)) (first : List ℕ) → (if b then p.first else p.second) ≡ first ∷ messages
    → (let q = if b then record p { first = messages } else record p { second = messages } in
    if b then record q { first = first ∷ (if b then q.first else q.second) } else record q { second = first ∷ (if b then q.first else q.second) }) ≡ p
side_again true p messages first is = ap (λ ms. record p { first = ms }) (sym is)
side_again false p messages first is = ap (λ ms. record p { second = ms }) (sym is)

-- the first message for a side is taken
pub takes_first_message : (w : World) (num : Num) (side : ℕ) (first : List ℕ) (rest : List (List ℕ)) → waiting (pair_of w num) side ≡ first ∷ rest
    → Takes (Message num side first) w (with_pair w num (with_waiting (pair_of w num) side rest))
takes_first_message w num side first rest is =
    let p = pair_of w num in
    let q = with_waiting p side rest in
    let has : map.get (map.insert w.pairs num q) num ≡ Some q = get-insert_same num_total num_exact w.pairs num q in
    let there = side_there (map.get w.pairs num) side first rest is in
    record {
      back =
          ap (λ (o : Option Pair). let r = unwrap_or o empty_pair in with_pair (with_pair w num q) num (with_waiting r side (first ∷ waiting r side))) has
          ∙ ap (λ r. with_pair (with_pair w num q) num r) (side_again (side == 0) p rest first is)
          ∙ ap (λ m. record w { pairs = m }) (insert-insert_same num_total num_exact w.pairs num q p
          ∙ insert-get_same num_total num_exact w.pairs num p (found (map.get w.pairs num) empty_pair there));
      there = ap is_some has;
    }

-- the first message is the one that was given
first_given : (b : Bool) (p : Pair) (first : List ℕ)
    → (let q = if b then record p { first = first ∷ (if b then p.first else p.second) } else record p { second = first ∷ (if b then p.first else p.second) } in
    if b then q.first else q.second) ≡ first ∷ (if b then p.first else p.second)
first_given true p first = refl
first_given false p first = refl

-- a side that was given a message has it in front
pub message_in_front : (before w : World) (num : Num) (side : ℕ) (first : List ℕ) → gives before (Message num side first) ≡ w
    → waiting (pair_of w num) side ≡ first ∷ waiting (pair_of before num) side
message_in_front before w num side first given =
    ap (λ (x : World). waiting (pair_of x num) side) (sym given)
    ∙ ap (λ (o : Option Pair). waiting (unwrap_or o empty_pair) side) (get-insert_same num_total num_exact before.pairs num _)
    ∙ first_given (side == 0) (pair_of before num) first

-- a side without a message has none in front
pub no_message : (w : World) (num : Num) (side : ℕ) (first : List ℕ) → length (waiting (pair_of w num) side) < 1 → IsNotInFront (Message num side first) w
no_message w num side first none before given = let is = ap length (message_in_front before w num side first given) in omega (arith, is, none)

-- nor has one whose first message is another
pub other_message : (w : World) (num : Num) (side : ℕ) (first other : List ℕ) (rest : List (List ℕ)) → waiting (pair_of w num) side ≡ other ∷ rest
    → pointwise nat_eq other first ≡ false → IsNotInFront (Message num side first) w
other_message w num side first other rest is apart before given =
    let same : other ≡ first = ap (λ ms. get_or ms 0 []) (sym is ∙ message_in_front before w num side first given) in
    let alike : pointwise nat_eq other first ≡ true = ap (λ m. pointwise nat_eq m first) same ∙ nat_list_eq_equiv.refl first in
    cc (alike, apart)
