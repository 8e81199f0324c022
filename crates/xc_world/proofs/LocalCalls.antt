-- Each call that passed the checks depends on its objects alone, and changes no other.
use Rattle.std.proofs.Common.{◌≡◌, ℕ, ◌+◌, Option, Some, None, List, [], ◌∷◌, ◌++◌, length, ap, sym, ◌∙◌, subst, refl, unwrap_or}
use Rattle.std.specs.Prelude.{slice_get, slice_index, take, drop, nat_lt, nat_le, nat_eq, ◌==◌, All, Contains, if◌then◌else◌}
use Rattle.std.specs.FinMap as map
use Rattle.std.specs.Cmp.Lexicographic.{pointwise, same_text}
use Rattle.std.proofs.lemmas.Option.{unwrap_or-slice_get}
use Rattle.std.proofs.lemmas.List.Elements.{All-contains}
use Rattle.xc_data.specs.declared.object.Num.{Num}
use Rattle.xc_data.specs.declared.object.Object.{Object}
use Rattle.xc_data.specs.declared.object.Object.TheVariants as object
use Rattle.xc_data.specs.declared.call.Call.{Call}
use Rattle.xc_data.specs.declared.call.Call.TheVariants as call
use Rattle.xc_data.specs.declared.call.Answer.{Answer}
use Rattle.xc_data.specs.declared.call.Answer.TheVariants as answer
use Rattle.xc_data.specs.declared.call.Reply.{Reply}
use Rattle.xc_data.specs.declared.call.Reply.TheVariants as reply
use Rattle.xc_data.specs.declared.private.Place.{Place}
use Rattle.xc_data.specs.declared.private.Place.TheVariants as place
use Rattle.xc_data.specs.declared.private.Private.{Private}
use Rattle.xc_data.specs.Private.{place_of, with_place, lowest_vacant}
use Rattle.xc_world.specs.World.{World, Pipe, Pair, file_of, pipe_of, pair_of, empty_pipe, empty_pair, waiting, with_waiting}
use Rattle.xc_world.specs.Act.{fine, faulty, done}
use Rattle.xc_world.specs.Act.Step.{step_to}
use Rattle.xc_world.specs.Act.Names.{next_num, open_step, create_step, rename_step}
use Rattle.xc_world.specs.Act.Files.{open_at, read_at, overwritten, put, overwrite_at, append_step, append_at, seek_at, len_at, overwrite_short, append_short}
use Rattle.xc_world.specs.Act.Pipes.{empty_or_end, new_pipe, read_pipe_at, pair_made, new_pair, received, receive_at}
use Rattle.xc_world.specs.Touch.{object_at, objects_of_call, made_by}
use Rattle.xc_world.specs.Laws.{AgreeAt, GoAlike, ActsAlike}
use Rattle.xc_world.proofs.SoundParts.{chosen_so}
use Rattle.xc_world.proofs.LocalParts.{both_so, first_in, later_in, same_alike, word_alike, file_alike, new_alike, moved_alike, pipe_alike, pair_alike}

-- the list has what stands at a handle
abbrev pub HasObjectAt : List Object → Place → Type 0
HasObjectAt objects place.Vacant = Unit {0}
HasObjectAt objects (place.File num at) = Contains objects (object.File num)
HasObjectAt objects (place.Pipe num) = Contains objects (object.Pipe num)
HasObjectAt objects (place.Pair num side) = Contains objects (object.Pair num)

has_it : (p : Place) (more : List Object) → HasObjectAt (object_at p ++ more) p
has_it place.Vacant more = tt
has_it (place.File num at) more = first_in (object.File num) more
has_it (place.Pipe num) more = first_in (object.Pipe num) more
has_it (place.Pair num side) more = first_in (object.Pair num) more

module _ (objects : List Object) (w v : World) where
  -- ---- what both steps do
  pub changed : (x y : World) (me you : Private) (r q : Reply) → me ≡ you → r ≡ q → GoAlike objects w v x y
      → ActsAlike objects w v (step_to x me r) (step_to y you q)
  changed x y me you r q same e worlds = record { reply = e; me = same; worlds = worlds }

  -- a call that changes neither world gives the same in both
  pub looked : (me you : Private) (r q : Reply) → me ≡ you → r ≡ q → All (AgreeAt w v) objects → ActsAlike objects w v (step_to w me r) (step_to v you q)
  looked me you r q same e agree = changed w v me you r q same e (same_alike objects w v agree)

  -- a call that changes nothing gives the same in both worlds
  pub quiet_alike : (me : Private) (r : Reply) → All (AgreeAt w v) objects → ActsAlike objects w v (step_to w me r) (step_to v me r)
  quiet_alike me r agree = looked me me r r refl refl agree

  -- ---- what both worlds have at an object of the list
  pub same_file : (num : Num) → Contains objects (object.File num) → All (AgreeAt w v) objects → file_of w num ≡ file_of v num
  same_file num has agree = ap (λ (o : Option (List ℕ)). unwrap_or o []) (All-contains (AgreeAt w v) objects (object.File num) agree has)

  -- worlds that agree on a pipe have the same there
  pub same_pipe : (num : Num) → Contains objects (object.Pipe num) → All (AgreeAt w v) objects → pipe_of w num ≡ pipe_of v num
  same_pipe num has agree = ap (λ o. unwrap_or o empty_pipe) (All-contains (AgreeAt w v) objects (object.Pipe num) agree has)

  -- worlds that agree on a pair have the same there
  pub same_pair : (num : Num) → Contains objects (object.Pair num) → All (AgreeAt w v) objects → pair_of w num ≡ pair_of v num
  same_pair num has agree = ap (λ o. unwrap_or o empty_pair) (All-contains (AgreeAt w v) objects (object.Pair num) agree has)

  -- worlds that agree on a name have the same file there
  pub same_name : (name : List ℕ) → Contains objects (object.Name name) → All (AgreeAt w v) objects → map.get w.names name ≡ map.get v.names name
  same_name name has agree = All-contains (AgreeAt w v) objects (object.Name name) agree has

  same_word : (at : ℕ) → Contains objects (object.Word at) → All (AgreeAt w v) objects → slice_index w.words at ≡ slice_index v.words at
  same_word at has agree =
      let e : slice_get w.words at ≡ slice_get v.words at = All-contains (AgreeAt w v) objects (object.Word at) agree has in
      sym (unwrap_or-slice_get w.words at 0) ∙ ap (λ o. unwrap_or o 0) e ∙ unwrap_or-slice_get v.words at 0

  -- ---- files
  read_alike : (me : Private) (h n : ℕ) (p : Place) → HasObjectAt objects p → All (AgreeAt w v) objects
      → ActsAlike objects w v (read_at w me h n p) (read_at v me h n p)
  read_alike me h n (place.File num at) has agree =
      let e = same_file num has agree in
      both_so (ActsAlike objects w v) (n == 0) (n == 0) _ _ _ _ refl (λ _. quiet_alike me (reply.Got []) agree) (λ _.
      both_so (ActsAlike objects w v) (nat_le (length (file_of w num)) at) (nat_le (length (file_of v num)) at) _ _ _ _ (ap (λ f. nat_le (length f) at) e)
      (λ _. quiet_alike me reply.End agree) (λ _.
      looked _ _ _ _ (ap (λ f. with_place me h (place.File num (at + length (take n (drop at f))))) e) (ap (λ f. reply.Got (take n (drop at f))) e) agree))
  read_alike me h n place.Vacant has agree = quiet_alike me reply.BadHandle agree
  read_alike me h n (place.Pipe num) has agree = quiet_alike me reply.BadHandle agree
  read_alike me h n (place.Pair num side) has agree = quiet_alike me reply.BadHandle agree

  put_alike : (me : Private) (h : ℕ) (num : Num) (at : ℕ) (bytes : List ℕ) (r : Reply) → Contains objects (object.File num) → All (AgreeAt w v) objects
      → ActsAlike objects w v (put w me (open_at h num at) bytes r) (put v me (open_at h num at) bytes r)
  put_alike me h num at bytes r has agree =
      changed _ _ _ _ r r refl refl (file_alike objects w v num (overwritten at bytes (file_of w num)) (overwritten at bytes (file_of v num))
      (ap (overwritten at bytes) (same_file num has agree)) has agree)

  overwrite_alike : (me : Private) (h : ℕ) (bytes : List ℕ) (p : Place) → HasObjectAt objects p → All (AgreeAt w v) objects
      → ActsAlike objects w v (overwrite_at w me h bytes p) (overwrite_at v me h bytes p)
  overwrite_alike me h bytes (place.File num at) has agree =
      let e = same_file num has agree in
      both_so (ActsAlike objects w v) (length bytes == 0) (length bytes == 0) _ _ _ _ refl (λ _. quiet_alike me reply.Done agree) (λ _.
      both_so (ActsAlike objects w v) (nat_lt (length (file_of w num)) (at + length bytes)) (nat_lt (length (file_of v num)) (at + length bytes)) _ _ _ _
      (ap (λ f. nat_lt (length f) (at + length bytes)) e)
      (λ _. quiet_alike me reply.PastEnd agree) (λ _. put_alike me h num at bytes reply.Done has agree))
  overwrite_alike me h bytes place.Vacant has agree = quiet_alike me reply.BadHandle agree
  overwrite_alike me h bytes (place.Pipe num) has agree = quiet_alike me reply.BadHandle agree
  overwrite_alike me h bytes (place.Pair num side) has agree = quiet_alike me reply.BadHandle agree

  appended_alike : (me : Private) (h : ℕ) (num : Num) (at : ℕ) (bytes : List ℕ) (r : Reply) → Contains objects (object.File num) → All (AgreeAt w v) objects
      → ActsAlike objects w v (append_step w me (open_at h num at) bytes r) (append_step v me (open_at h num at) bytes r)
  appended_alike me h num at bytes r has agree =
      let e = same_file num has agree in
      changed _ _ _ _ r r (ap (λ f. with_place me h (place.File num (length f + length bytes))) e) refl
      (file_alike objects w v num (file_of w num ++ bytes) (file_of v num ++ bytes) (ap (λ f. f ++ bytes) e) has agree)

  append_alike : (me : Private) (h : ℕ) (bytes : List ℕ) (p : Place) → HasObjectAt objects p → All (AgreeAt w v) objects
      → ActsAlike objects w v (append_at w me h bytes p) (append_at v me h bytes p)
  append_alike me h bytes (place.File num at) has agree =
      let e = same_file num has agree in
      both_so (ActsAlike objects w v) (length bytes == 0) (length bytes == 0) _ _ _ _ refl (λ _. quiet_alike me reply.Done agree) (λ _.
      both_so (ActsAlike objects w v) (nat_lt 65536 (length (file_of w num) + length bytes)) (nat_lt 65536 (length (file_of v num) + length bytes)) _ _ _ _
      (ap (λ f. nat_lt 65536 (length f + length bytes)) e)
      (λ _. quiet_alike me reply.TooBig agree) (λ _. appended_alike me h num at bytes reply.Done has agree))
  append_alike me h bytes place.Vacant has agree = quiet_alike me reply.BadHandle agree
  append_alike me h bytes (place.Pipe num) has agree = quiet_alike me reply.BadHandle agree
  append_alike me h bytes (place.Pair num side) has agree = quiet_alike me reply.BadHandle agree

  seek_alike : (me : Private) (h to : ℕ) (p : Place) → All (AgreeAt w v) objects → ActsAlike objects w v (seek_at w me h to p) (seek_at v me h to p)
  seek_alike me h to (place.File num at) agree =
      both_so (ActsAlike objects w v) (nat_lt 65536 to) (nat_lt 65536 to) _ _ _ _ refl (λ _. quiet_alike me reply.TooBig agree)
      (λ _. quiet_alike (with_place me h (place.File num to)) reply.Done agree)
  seek_alike me h to place.Vacant agree = quiet_alike me reply.BadHandle agree
  seek_alike me h to (place.Pipe num) agree = quiet_alike me reply.BadHandle agree
  seek_alike me h to (place.Pair num side) agree = quiet_alike me reply.BadHandle agree

  len_alike : (me : Private) (p : Place) → HasObjectAt objects p → All (AgreeAt w v) objects → ActsAlike objects w v (len_at w me p) (len_at v me p)
  len_alike me (place.File num at) has agree = looked me me _ _ refl (ap (λ f. reply.Number (length f)) (same_file num has agree)) agree
  len_alike me place.Vacant has agree = quiet_alike me reply.BadHandle agree
  len_alike me (place.Pipe num) has agree = quiet_alike me reply.BadHandle agree
  len_alike me (place.Pair num side) has agree = quiet_alike me reply.BadHandle agree

  -- ---- with a fault
  overwrite_short_alike : (me : Private) (h : ℕ) (bytes : List ℕ) (n : ℕ) (p : Place) → HasObjectAt objects p → All (AgreeAt w v) objects
      → ActsAlike objects w v (overwrite_short w me (h, p) bytes n) (overwrite_short v me (h, p) bytes n)
  overwrite_short_alike me h bytes n (place.File num at) has agree =
      both_so (ActsAlike objects w v) (n == 0) (n == 0) _ _ _ _ refl (λ _. quiet_alike me (reply.Fault n) agree)
      (λ _. put_alike me h num at (take n bytes) (reply.Fault n) has agree)
  overwrite_short_alike me h bytes n place.Vacant has agree = quiet_alike me (reply.Fault n) agree
  overwrite_short_alike me h bytes n (place.Pipe num) has agree = quiet_alike me (reply.Fault n) agree
  overwrite_short_alike me h bytes n (place.Pair num side) has agree = quiet_alike me (reply.Fault n) agree

  append_short_alike : (me : Private) (h : ℕ) (bytes : List ℕ) (n : ℕ) (p : Place) → HasObjectAt objects p → All (AgreeAt w v) objects
      → ActsAlike objects w v (append_short w me (h, p) bytes n) (append_short v me (h, p) bytes n)
  append_short_alike me h bytes n (place.File num at) has agree =
      both_so (ActsAlike objects w v) (n == 0) (n == 0) _ _ _ _ refl (λ _. quiet_alike me (reply.Fault n) agree)
      (λ _. appended_alike me h num at (take n bytes) (reply.Fault n) has agree)
  append_short_alike me h bytes n place.Vacant has agree = quiet_alike me (reply.Fault n) agree
  append_short_alike me h bytes n (place.Pipe num) has agree = quiet_alike me (reply.Fault n) agree
  append_short_alike me h bytes n (place.Pair num side) has agree = quiet_alike me (reply.Fault n) agree

  -- ---- names
  opened_alike : (me : Private) (o q : Option Num) (vacant : Option ℕ) → o ≡ q → All (AgreeAt w v) objects
      → ActsAlike objects w v (open_step w me o vacant) (open_step v me q vacant)
  opened_alike me o q vacant e agree = subst (λ there. ActsAlike objects w v (open_step w me o vacant) (open_step v me there vacant)) e (same o vacant)
    where
      same : (o : Option Num) (vacant : Option ℕ) → ActsAlike objects w v (open_step w me o vacant) (open_step v me o vacant)
      same None vacant = quiet_alike me reply.NoName agree
      same (Some num) None = quiet_alike me reply.TooMuch agree
      same (Some num) (Some h) = quiet_alike (with_place me h (place.File num 0)) (reply.Made h) agree

  created_alike : (me : Private) (tx : ℕ) (name : List ℕ) (o q : Option Num) (vacant : Option ℕ) → o ≡ q → Contains objects (object.Name name)
      → Contains objects (object.File (next_num me tx)) → All (AgreeAt w v) objects
      → ActsAlike objects w v (create_step w me tx name (o, vacant)) (create_step v me tx name (q, vacant))
  created_alike me tx name o q vacant e named has agree =
      subst (λ there. ActsAlike objects w v (create_step w me tx name (o, vacant)) (create_step v me tx name (there, vacant))) e (same o vacant)
    where
      same : (o : Option Num) (vacant : Option ℕ) → ActsAlike objects w v (create_step w me tx name (o, vacant)) (create_step v me tx name (o, vacant))
      same (Some num) vacant = quiet_alike me reply.Exists agree
      same None None = quiet_alike me reply.TooMuch agree
      same None (Some h) = changed _ _ _ _ (reply.Made h) (reply.Made h) refl refl (new_alike objects w v name (next_num me tx) named has agree)

  renamed_alike : (me : Private) (from to : List ℕ) (o q there here : Option Num) → o ≡ q → there ≡ here → Contains objects (object.Name from)
      → Contains objects (object.Name to) → All (AgreeAt w v) objects
      → ActsAlike objects w v (rename_step w me from to (o, there)) (rename_step v me from to (q, here))
  renamed_alike me from to o q there here e f old new agree =
      subst (λ a. ActsAlike objects w v (rename_step w me from to (o, there)) (rename_step v me from to (a, here))) e
      (subst (λ a. ActsAlike objects w v (rename_step w me from to (o, there)) (rename_step v me from to (o, a))) f (same o there))
    where
      same : (o there : Option Num) → ActsAlike objects w v (rename_step w me from to (o, there)) (rename_step v me from to (o, there))
      same None there = quiet_alike me reply.NoName agree
      same (Some num) (Some q) = quiet_alike me reply.Exists agree
      same (Some num) None = changed _ _ me me reply.Done reply.Done refl refl (moved_alike objects w v from to num num refl old new agree)

  -- ---- pipes
  new_pipe_alike : (me : Private) (tx : ℕ) (vacant : Option ℕ) → Contains objects (object.Pipe (next_num me tx)) → All (AgreeAt w v) objects
      → ActsAlike objects w v (new_pipe w me tx vacant) (new_pipe v me tx vacant)
  new_pipe_alike me tx None has agree = quiet_alike me reply.TooMuch agree
  new_pipe_alike me tx (Some h) has agree =
      changed _ _ _ _ (reply.Made h) (reply.Made h) refl refl (pipe_alike objects w v (next_num me tx) empty_pipe empty_pipe refl has agree)

  read_pipe_alike : (me : Private) (n : ℕ) (p : Place) → HasObjectAt objects p → All (AgreeAt w v) objects
      → ActsAlike objects w v (read_pipe_at w me n p) (read_pipe_at v me n p)
  read_pipe_alike me n (place.Pipe num) has agree =
      let e = same_pipe num has agree in
      both_so (ActsAlike objects w v) (n == 0) (n == 0) _ _ _ _ refl (λ _. quiet_alike me (reply.Got []) agree) (λ _.
      both_so (ActsAlike objects w v) (length (pipe_of w num).held == 0) (length (pipe_of v num).held == 0) _ _ _ _ (ap (λ p. length p.held == 0) e)
      (λ _. looked me me _ _ refl (ap empty_or_end e) agree) (λ _.
      changed _ _ me me _ _ refl (ap (λ p. reply.Got (take n p.held)) e)
      (pipe_alike objects w v num (record (pipe_of w num) { held = drop n (pipe_of w num).held })
      (record (pipe_of v num) { held = drop n (pipe_of v num).held }) (ap (λ (p : Pipe). record p { held = drop n p.held }) e) has agree)))
  read_pipe_alike me n place.Vacant has agree = quiet_alike me reply.BadHandle agree
  read_pipe_alike me n (place.File num at) has agree = quiet_alike me reply.BadHandle agree
  read_pipe_alike me n (place.Pair num side) has agree = quiet_alike me reply.BadHandle agree

  -- ---- pairs
  pair_made_alike : (me : Private) (tx h : ℕ) (vacant : Option ℕ) → Contains objects (object.Pair (next_num me tx)) → All (AgreeAt w v) objects
      → ActsAlike objects w v (pair_made w me tx h vacant) (pair_made v me tx h vacant)
  pair_made_alike me tx h None has agree = quiet_alike me reply.TooMuch agree
  pair_made_alike me tx h (Some g) has agree =
      changed _ _ _ _ (reply.MadePair h g) (reply.MadePair h g) refl refl (pair_alike objects w v (next_num me tx) empty_pair empty_pair refl has agree)

  new_pair_alike : (me : Private) (tx : ℕ) (vacant : Option ℕ) → Contains objects (object.Pair (next_num me tx)) → All (AgreeAt w v) objects
      → ActsAlike objects w v (new_pair w me tx vacant) (new_pair v me tx vacant)
  new_pair_alike me tx None has agree = quiet_alike me reply.TooMuch agree
  new_pair_alike me tx (Some h) has agree =
      let one = with_place me h (place.Pair (next_num me tx) 0) in
      pair_made_alike one tx h (lowest_vacant one.places) has agree

  received_alike : (me : Private) (num : Num) (side : ℕ) (messages : List (List ℕ)) → pair_of w num ≡ pair_of v num → Contains objects (object.Pair num)
      → All (AgreeAt w v) objects
      → ActsAlike objects w v (received w me num side messages) (received v me num side messages)
  received_alike me num side [] e has agree = looked me me _ _ refl (ap (λ (p : Pair). if p.shut then reply.End else reply.Empty) e) agree
  received_alike me num side (message ∷ messages) e has agree =
      changed _ _ me me _ _ refl refl
      (pair_alike objects w v num (with_waiting (pair_of w num) side messages) (with_waiting (pair_of v num) side messages)
      (ap (λ p. with_waiting p side messages) e) has agree)

  receive_alike : (me : Private) (p : Place) → HasObjectAt objects p → All (AgreeAt w v) objects → ActsAlike objects w v (receive_at w me p) (receive_at v me p)
  receive_alike me (place.Pair num side) has agree =
      let e = same_pair num has agree in
      subst (λ m. ActsAlike objects w v (received w me num side (waiting (pair_of w num) side)) (received v me num side m)) (ap (λ p. waiting p side) e)
      (received_alike me num side (waiting (pair_of w num) side) e has agree)
  receive_alike me place.Vacant has agree = quiet_alike me reply.BadHandle agree
  receive_alike me (place.File num at) has agree = quiet_alike me reply.BadHandle agree
  receive_alike me (place.Pipe num) has agree = quiet_alike me reply.BadHandle agree

-- ---- the names of a rename
from_in : (from to : List ℕ)
    → Contains ((if pointwise nat_eq from to then object.Name from ∷ [] else object.Name from ∷ object.Name to ∷ []) ++ []) (object.Name from)
from_in from to =
    chosen_so (λ l. Contains (l ++ []) (object.Name from)) (pointwise nat_eq from to) _ _ (λ _. first_in (object.Name from) [])
    (λ _. first_in (object.Name from) (object.Name to ∷ []))

to_in : (from to : List ℕ)
    → Contains ((if pointwise nat_eq from to then object.Name from ∷ [] else object.Name from ∷ object.Name to ∷ []) ++ []) (object.Name to)
to_in from to =
    chosen_so (λ l. Contains (l ++ []) (object.Name to)) (pointwise nat_eq from to) _ _
    (λ same. subst (λ n. Contains (object.Name from ∷ []) (object.Name n)) (same_text from to (sym same)) (first_in (object.Name from) []))
    (λ _. later_in (object.Name from) (object.Name to) (object.Name to ∷ []) (first_in (object.Name to) []))

-- ---- each call
-- a call's objects, and what it makes
abbrev pub all_of_call : Private → ℕ → Call → List Object
all_of_call me tx c = objects_of_call c me ++ made_by c me tx

-- two worlds agree on a call's objects and on what it makes
abbrev pub AgreeOfCall : World → World → Private → ℕ → Call → Type 0
AgreeOfCall w v me tx c = All (AgreeAt w v) (all_of_call me tx c)

fine_alike : (w v : World) (me : Private) (tx : ℕ) (c : Call) → AgreeOfCall w v me tx c → ActsAlike (all_of_call me tx c) w v (fine w me tx c) (fine v me tx c)
fine_alike w v me tx (call.Load at) agree =
    looked _ w v me me _ _ refl (ap reply.Number (same_word (object.Word at ∷ []) w v at (first_in (object.Word at) []) agree)) agree
fine_alike w v me tx (call.Store at value) agree =
    changed _ w v _ _ me me reply.Done reply.Done refl refl (word_alike _ w v at value (first_in (object.Word at) []) agree)
fine_alike w v me tx (call.XOpen name) agree =
    opened_alike _ w v me (map.get w.names name) (map.get v.names name) (lowest_vacant me.places)
    (same_name (object.Name name ∷ []) w v name (first_in (object.Name name) []) agree) agree
fine_alike w v me tx (call.XCreate name) agree =
    let file = object.File (next_num me tx) in
    let named = first_in (object.Name name) (file ∷ []) in
    created_alike _ w v me tx name (map.get w.names name) (map.get v.names name) (lowest_vacant me.places)
    (same_name (object.Name name ∷ file ∷ []) w v name named agree) named (later_in (object.Name name) file (file ∷ []) (first_in file [])) agree
fine_alike w v me tx (call.XRead h n) agree = read_alike _ w v me h n (place_of me.places h) (has_it (place_of me.places h) []) agree
fine_alike w v me tx (call.XWriteOvr h bytes) agree = overwrite_alike _ w v me h bytes (place_of me.places h) (has_it (place_of me.places h) []) agree
fine_alike w v me tx (call.XWriteSeq h bytes) agree = append_alike _ w v me h bytes (place_of me.places h) (has_it (place_of me.places h) []) agree
fine_alike w v me tx (call.XSeek h to) agree = seek_alike _ w v me h to (place_of me.places h) agree
fine_alike w v me tx (call.XLen h) agree = len_alike _ w v me (place_of me.places h) (has_it (place_of me.places h) []) agree
fine_alike w v me tx (call.XRename from to) agree =
    renamed_alike _ w v me from to (map.get w.names from) (map.get v.names from) (map.get w.names to) (map.get v.names to)
    (same_name _ w v from (from_in from to) agree) (same_name _ w v to (to_in from to) agree)
    (from_in from to) (to_in from to) agree
fine_alike w v me tx (call.XClose h) agree = quiet_alike _ w v (with_place me h place.Vacant) reply.Done agree
fine_alike w v me tx call.XPipe agree = new_pipe_alike _ w v me tx (lowest_vacant me.places) (first_in (object.Pipe (next_num me tx)) []) agree
fine_alike w v me tx (call.XReadPipe h n) agree = read_pipe_alike _ w v me n (place_of me.places h) (has_it (place_of me.places h) []) agree
fine_alike w v me tx call.XPair agree = new_pair_alike _ w v me tx (lowest_vacant me.places) (first_in (object.Pair (next_num me tx)) []) agree
fine_alike w v me tx (call.XRecvmsg h) agree = receive_alike _ w v me (place_of me.places h) (has_it (place_of me.places h) []) agree
fine_alike w v me tx call.Save agree = quiet_alike _ w v me reply.Done agree
fine_alike w v me tx call.Keep agree = quiet_alike _ w v me reply.Done agree
fine_alike w v me tx call.Back agree = quiet_alike _ w v me (reply.Undone 0) agree
fine_alike w v me tx _ agree = quiet_alike _ w v me reply.Late agree

faulty_alike : (w v : World) (me : Private) (tx : ℕ) (c : Call) (n : ℕ) → AgreeOfCall w v me tx c
    → ActsAlike (all_of_call me tx c) w v (faulty w me c n) (faulty v me c n)
faulty_alike w v me tx (call.XWriteOvr h bytes) n agree =
    overwrite_short_alike _ w v me h bytes n (place_of me.places h) (has_it (place_of me.places h) []) agree
faulty_alike w v me tx (call.XWriteSeq h bytes) n agree = append_short_alike _ w v me h bytes n (place_of me.places h) (has_it (place_of me.places h) []) agree
faulty_alike w v me tx _ n agree = quiet_alike _ w v me (reply.Fault n) agree

-- a call that passes gives the same in worlds that agree on its objects
pub done_alike : (w v : World) (me : Private) (tx : ℕ) (c : Call) (a : Answer) → AgreeOfCall w v me tx c
    → ActsAlike (all_of_call me tx c) w v (done w me tx c a) (done v me tx c a)
done_alike w v me tx c answer.Fine agree = fine_alike w v me tx c agree
done_alike w v me tx c (answer.Fault n) agree = faulty_alike w v me tx c n agree
done_alike w v me tx c (answer.Undone n) agree = quiet_alike _ w v me (reply.Undone n) agree
