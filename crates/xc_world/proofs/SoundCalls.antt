-- Calls on names, pipes and pairs keep a world and a private state sound.
use Rattle.std.proofs.Common.{◌≡◌, ℕ, ◌+◌, ◌≤◌, ◌<◌, Bool, true, false, Option, Some, None, is_some, List, [], ◌∷◌, length, zero, suc, ◌∙◌, refl, arith, cond}
use Rattle.std.proofs.Common.{not, length-take}
use Rattle.std.specs.Prelude.{slice_set, drop, nat_lt, ◌==◌, count_by, if◌then◌else◌}
use Rattle.std.specs.List.{position_or_len}
use Rattle.std.proofs.lemmas.List.Sums.{sum_by-cons}
use Rattle.std.proofs.lemmas.List.Elements.{All-nil, All-head, All-tail}
use Rattle.std.specs.FinMap as map
use Rattle.xc_data.specs.declared.object.Num.{Num}
use Rattle.xc_data.specs.declared.call.Reply.TheVariants as reply
use Rattle.xc_data.specs.declared.private.Place.{Place}
use Rattle.xc_data.specs.declared.private.Place.TheVariants as place
use Rattle.xc_data.specs.declared.private.Private.{Private}
use Rattle.xc_data.specs.Private.{with_place, is_vacant, lowest_vacant}
use Rattle.xc_world.specs.World.{World, Pair, pipe_of, pair_of, waiting, with_waiting, with_pipe, with_pair, empty_pipe, empty_pair}
use Rattle.xc_world.specs.Sound.{AreShort, HoldsShort, IsKnown, IsSound}
use Rattle.xc_world.specs.Act.Names.{next_num, making, open_step, create_step, rename_step, with_new_file}
use Rattle.xc_world.specs.Act.Pipes.{empty_or_end, new_pipe, read_pipe_at, pair_made, new_pair, received, receive_at}
use Rattle.xc_world.proofs.SoundParts.{chosen_so, there_put, keeps_all, keeps_moved, adds_named, keeps_pipe, adds_pipe, with_pair_keeps, adds_pair}
use Rattle.xc_world.proofs.SoundSteps.{StepsWell, got_length, quiet, adds_nothing, kept_sound, made_sound, with_place_sound}

-- ---- names
pub opened_well : (w : World) (me : Private) (tx : ℕ) (name : List ℕ) (o : Option Num) (vacant : Option ℕ) → map.get w.names name ≡ o → IsSound w me tx
    → StepsWell w tx me 0 (open_step w me o vacant)
opened_well w me tx name None vacant e s = quiet w me tx 0 reply.NoName (omega arith) s
opened_well w me tx name (Some num) None e s = quiet w me tx 0 reply.TooMuch (omega arith) s
opened_well w me tx name (Some num) (Some h) e s =
    record {
      sound = with_place_sound w me tx h (place.File num 0) (s.world.names name num e) s;
      grows = adds_nothing w (next_num me tx) s.world;
      stored = refl;
      got = omega arith;
    }

-- to make a file under a name steps well
pub created_well : (w : World) (me : Private) (tx : ℕ) (name : List ℕ) (o : Option Num) (vacant : Option ℕ) → me.made < 16 → IsSound w me tx
    → StepsWell w tx me 0 (create_step w me tx name (o, vacant))
created_well w me tx name (Some num) vacant lt s = quiet w me tx 0 reply.Exists (omega arith) s
created_well w me tx name None None lt s = quiet w me tx 0 reply.TooMuch (omega arith) s
created_well w me tx name None (Some h) lt s =
    let num = next_num me tx in
    let adds = adds_named w name num [] (omega arith) s.world in
    record {
      sound = with_place_sound (with_new_file w name num) (making me) tx h (place.File num 0) (there_put w.files num []) (made_sound w _ me tx adds lt s);
      grows = adds;
      stored = refl;
      got = omega arith;
    }

-- to give a file another name steps well
pub renamed_well : (w : World) (me : Private) (tx : ℕ) (from to : List ℕ) (o there : Option Num) → map.get w.names from ≡ o → IsSound w me tx
    → StepsWell w tx me 0 (rename_step w me from to (o, there))
renamed_well w me tx from to None there e s = quiet w me tx 0 reply.NoName (omega arith) s
renamed_well w me tx from to (Some num) (Some q) e s = quiet w me tx 0 reply.Exists (omega arith) s
renamed_well w me tx from to (Some num) None e s =
    let keeps = keeps_moved true w from to num e s.world in
    record { sound = kept_sound w _ me tx keeps refl s; grows = keeps_all w _ (next_num me tx) keeps refl; stored = refl; got = omega arith }

-- ---- pipes
pub new_pipe_well : (w : World) (me : Private) (tx : ℕ) (vacant : Option ℕ) → me.made < 16 → IsSound w me tx → StepsWell w tx me 0 (new_pipe w me tx vacant)
new_pipe_well w me tx None lt s = quiet w me tx 0 reply.TooMuch (omega arith) s
new_pipe_well w me tx (Some h) lt s =
    let num = next_num me tx in
    record {
      sound =
          with_place_sound (with_pipe w num empty_pipe) (making me) tx h (place.Pipe num) (there_put w.pipes num empty_pipe)
          (made_sound w _ me tx (adds_pipe w num empty_pipe s.world) lt s);
      grows = adds_pipe w num empty_pipe s.world;
      stored = refl;
      got = omega arith;
    }

no_bytes : (b : Bool) (n : ℕ) → got_length (if b then reply.End else reply.Empty) ≤ n
no_bytes true n = omega arith
no_bytes false n = omega arith

-- to read from a pipe steps well
pub read_pipe_well : (w : World) (me : Private) (tx n : ℕ) (p : Place) → IsKnown w p → IsSound w me tx → StepsWell w tx me n (read_pipe_at w me n p)
read_pipe_well w me tx n (place.Pipe num) known s =
    chosen_so (StepsWell w tx me n) (n == 0) _ _ (λ _. quiet w me tx n (reply.Got []) (omega arith) s) (λ _.
    chosen_so (StepsWell w tx me n) (length (pipe_of w num).held == 0) _ _
    (λ _. quiet w me tx n (empty_or_end (pipe_of w num)) (no_bytes (pipe_of w num).shut n) s) (λ _.
    record {
      sound = kept_sound w _ me tx (keeps_pipe w num (record (pipe_of w num) { held = drop n (pipe_of w num).held }) s.world) known s;
      grows = keeps_all w _ (next_num me tx) (keeps_pipe w num (record (pipe_of w num) { held = drop n (pipe_of w num).held }) s.world) known;
      stored = refl;
      got = omega (arith, length-take n (pipe_of w num).held);
    }))
read_pipe_well w me tx n place.Vacant known s = quiet w me tx n reply.BadHandle (omega arith) s
read_pipe_well w me tx n (place.File num at) known s = quiet w me tx n reply.BadHandle (omega arith) s
read_pipe_well w me tx n (place.Pair num side) known s = quiet w me tx n reply.BadHandle (omega arith) s

-- ---- pairs
pub empty_short : HoldsShort empty_pair
empty_short = record { first = All-nil (λ message. length message ≤ 1024); second = All-nil (λ message. length message ≤ 1024) }

none_at : (b : Bool) (l n c : ℕ) → (l ≤ n → c ≡ 0) → suc l ≤ cond (not b) (1 + n) 0 → cond b 1 0 + c ≡ 0
none_at true l n c h le = omega arith
none_at false l n c h le = omega (arith, h (omega arith))

-- the first place and the others
counted_first : (p : Place) (places : List Place) → count_by is_vacant (p ∷ places) ≡ cond (is_vacant p) 1 0 + count_by is_vacant places
counted_first p places = sum_by-cons (λ q. cond (is_vacant q) 1 0) p places

none_vacant : (places : List Place) → length places ≤ position_or_len is_vacant places → count_by is_vacant places ≡ 0
none_vacant [] le = refl
none_vacant (p ∷ places) le =
    counted_first p places ∙ none_at (is_vacant p) (length places) (position_or_len is_vacant places) (count_by is_vacant places) (none_vacant places) le

position_none : {X : Type 0} (b : Bool) (x : X) → cond b (Some x) None ≡ None → b ≡ false
position_none true x e = cc
position_none false x e = refl

-- where no handle is vacant none is counted
pub no_vacant : (places : List Place) → lowest_vacant places ≡ None → count_by is_vacant places ≡ 0
no_vacant places e =
    let no : nat_lt (position_or_len is_vacant places) (length places) ≡ false =
    position_none (nat_lt (position_or_len is_vacant places) (length places)) (position_or_len is_vacant places) e in
    none_vacant places (grind (arith, no))

set_at : (b c : Bool) (n : ℕ) → cond b 1 0 + n ≤ 1 + (cond c 1 0 + n)
set_at true c n = omega arith
set_at false c n = omega arith

step_at : (b : Bool) (n m : ℕ) → n ≤ 1 + m → cond b 1 0 + n ≤ 1 + (cond b 1 0 + m)
step_at true n m le = omega arith
step_at false n m le = omega arith

-- one place that is set takes at most one
pub vacant_set : (places : List Place) (h : ℕ) (p : Place) → count_by is_vacant places ≤ 1 + count_by is_vacant (slice_set places h p)
vacant_set [] h p = omega arith
vacant_set (q ∷ places) zero p = omega (arith, counted_first q places, counted_first p places, set_at (is_vacant q) (is_vacant p) (count_by is_vacant places))
vacant_set (q ∷ places) (suc h) p =
    omega (
      arith,
      counted_first q places,
      counted_first q (slice_set places h p),
      step_at (is_vacant q) (count_by is_vacant places) (count_by is_vacant (slice_set places h p)) (vacant_set places h p),
    )

-- to make a pair, whose first side has its handle, steps well
pub pair_made_well : (w : World) (me : Private) (tx h : ℕ) (vacant : Option ℕ) → lowest_vacant (with_place me h (place.Pair (next_num me tx) 0)).places ≡ vacant
    → 2 ≤ count_by is_vacant me.places → me.made < 16 → IsSound w me tx
    → StepsWell w tx me 0 (pair_made w (with_place me h (place.Pair (next_num me tx) 0)) tx h vacant)
pair_made_well w me tx h None e two lt s =
    absurd (omega (arith, vacant_set me.places h (place.Pair (next_num me tx) 0), no_vacant (slice_set me.places h (place.Pair (next_num me tx) 0)) e))
pair_made_well w me tx h (Some g) e two lt s =
    let num = next_num me tx in
    let v = with_pair w num empty_pair in
    let there : is_some (map.get v.pairs num) ≡ true = there_put w.pairs num empty_pair in
    let all = made_sound w v me tx (adds_pair w num empty_pair empty_short s.world) lt s in
    record {
      sound =
          with_place_sound v (making (with_place me h (place.Pair num 0))) tx g (place.Pair num 1) (there, omega arith)
          (with_place_sound v (making me) tx h (place.Pair num 0) (there, omega arith) all);
      grows = adds_pair w num empty_pair empty_short s.world;
      stored = refl;
      got = omega arith;
    }

-- to make a pair steps well
pub new_pair_well : (w : World) (me : Private) (tx : ℕ) (vacant : Option ℕ) → 2 ≤ count_by is_vacant me.places → me.made < 16 → IsSound w me tx
    → StepsWell w tx me 0 (new_pair w me tx vacant)
new_pair_well w me tx None two lt s = quiet w me tx 0 reply.TooMuch (omega arith) s
new_pair_well w me tx (Some h) two lt s = pair_made_well w me tx h (lowest_vacant (with_place me h (place.Pair (next_num me tx) 0)).places) refl two lt s

-- the messages that wait for a side are short
pub waiting_short : (pair : Pair) (side : ℕ) → HoldsShort pair → AreShort (waiting pair side)
waiting_short pair side short = chosen_so AreShort (side == 0) _ _ (λ _. short.first) (λ _. short.second)

-- a pair stays short where the messages put for a side are
pub with_waiting_short : (pair : Pair) (side : ℕ) (messages : List (List ℕ)) → AreShort messages → HoldsShort pair
    → HoldsShort (with_waiting pair side messages)
with_waiting_short pair side messages all short =
    chosen_so HoldsShort (side == 0) _ _ (λ _. record { first = all; second = short.second }) (λ _. record { first = short.first; second = all })

-- to take a message of a pair steps well
pub received_well : (w : World) (me : Private) (tx : ℕ) (num : Num) (side : ℕ) (messages : List (List ℕ)) → is_some (map.get w.pairs num) ≡ true
    → AreShort messages → IsSound w me tx
    → StepsWell w tx me 1024 (received w me num side messages)
received_well w me tx num side [] there short s =
    quiet w me tx 1024 (if (pair_of w num).shut then reply.End else reply.Empty) (no_bytes (pair_of w num).shut 1024) s
received_well w me tx num side (message ∷ messages) there short s =
    let kept = All-tail (λ (m : List ℕ). length m ≤ 1024) message messages short in
    let keeps =
    with_pair_keeps w num (with_waiting (pair_of w num) side messages) (with_waiting_short (pair_of w num) side messages kept (s.world.messages num)) s.world in
    record {
      sound = kept_sound w _ me tx keeps there s;
      grows = keeps_all w _ (next_num me tx) keeps there;
      stored = refl;
      got = All-head (λ (m : List ℕ). length m ≤ 1024) message messages short;
    }

-- to take a message at a handle steps well
pub receive_well : (w : World) (me : Private) (tx : ℕ) (p : Place) → IsKnown w p → IsSound w me tx → StepsWell w tx me 1024 (receive_at w me p)
receive_well w me tx (place.Pair num side) known s =
    received_well w me tx num side (waiting (pair_of w num) side) known.0 (waiting_short (pair_of w num) side (s.world.messages num)) s
receive_well w me tx place.Vacant known s = quiet w me tx 1024 reply.BadHandle (omega arith) s
receive_well w me tx (place.File num at) known s = quiet w me tx 1024 reply.BadHandle (omega arith) s
receive_well w me tx (place.Pipe num) known s = quiet w me tx 1024 reply.BadHandle (omega arith) s
