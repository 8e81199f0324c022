-- Calls on files keep a world and a private state sound.
use Rattle.std.proofs.Common.{◌≡◌, ◌⊎◌, inl, inr, ℕ, ◌+◌, ◌≤◌, ◌<◌, true, is_some, List, [], ◌++◌, length, refl, arith, length-take, length-drop, length-append}
use Rattle.std.specs.Prelude.{take, drop, nat_lt, nat_le, ◌==◌}
use Rattle.std.specs.FinMap as map
use Rattle.xc_data.specs.declared.object.Num.{Num}
use Rattle.xc_data.specs.declared.call.Reply.{Reply}
use Rattle.xc_data.specs.declared.call.Reply.TheVariants as reply
use Rattle.xc_data.specs.declared.private.Place.{Place}
use Rattle.xc_data.specs.declared.private.Place.TheVariants as place
use Rattle.xc_data.specs.declared.private.Private.{Private}
use Rattle.xc_world.specs.World.{World, file_of}
use Rattle.xc_world.specs.Sound.{IsKnown, IsSound}
use Rattle.xc_world.specs.Fits.{is_done}
use Rattle.xc_world.specs.Act.Names.{next_num}
use Rattle.xc_world.specs.Act.Files.{open_at, read_at, overwritten, put, overwrite_at, append_step, append_at, seek_at, len_at, overwrite_short, append_short}
use Rattle.xc_world.proofs.SoundParts.{chosen_so, keeps_all, keeps_file}
use Rattle.xc_world.proofs.SoundSteps.{StepsWell, got_length, quiet, adds_nothing, kept_sound, with_place_sound}

-- to read from a file steps well
pub read_well : (w : World) (me : Private) (tx h n : ℕ) (p : Place) → IsKnown w p → IsSound w me tx → StepsWell w tx me n (read_at w me h n p)
read_well w me tx h n (place.File num at) known s =
    chosen_so (StepsWell w tx me n) (n == 0) _ _ (λ _. quiet w me tx n (reply.Got []) (omega arith) s) (λ _.
    chosen_so (StepsWell w tx me n) (nat_le (length (file_of w num)) at) _ _ (λ _. quiet w me tx n reply.End (omega arith) s) (λ _.
    record {
      sound = with_place_sound w me tx h (place.File num (at + length (take n (drop at (file_of w num))))) known s;
      grows = adds_nothing w (next_num me tx) s.world;
      stored = refl;
      got = omega (arith, length-take n (drop at (file_of w num)));
    }))
read_well w me tx h n place.Vacant known s = quiet w me tx n reply.BadHandle (omega arith) s
read_well w me tx h n (place.Pipe num) known s = quiet w me tx n reply.BadHandle (omega arith) s
read_well w me tx h n (place.Pair num side) known s = quiet w me tx n reply.BadHandle (omega arith) s

-- an overwrite keeps the length
pub length-overwritten : (at : ℕ) (bytes file : List ℕ) → at + length bytes ≤ length file → length (overwritten at bytes file) ≡ length file
length-overwritten at bytes file le = grind (arith, length-take {A = ℕ}, length-drop {A = ℕ}, length-append {A = ℕ})

put_well : (w : World) (me : Private) (tx h : ℕ) (num : Num) (at : ℕ) (bytes : List ℕ) (r : Reply) → is_some (map.get w.files num) ≡ true
    → at + length bytes ≤ length (file_of w num) → got_length r ≤ 0 → IsSound w me tx
    → StepsWell w tx me 0 (put w me (open_at h num at) bytes r)
put_well w me tx h num at bytes r there inside none s =
    let next = overwritten at bytes (file_of w num) in
    let keeps = keeps_file w num next (omega (arith, length-overwritten at bytes (file_of w num) inside, s.world.files num)) s.world in
    record {
      sound =
          with_place_sound (record w { files = map.insert w.files num next }) me tx h (place.File num (at + length bytes))
          (keeps.known (place.File num at) there) (kept_sound w _ me tx keeps there s);
      grows = keeps_all w _ (next_num me tx) keeps there;
      stored = refl;
      got = none;
    }

-- to overwrite bytes of a file steps well
pub overwrite_well : (w : World) (me : Private) (tx h : ℕ) (bytes : List ℕ) (p : Place) → IsKnown w p → IsSound w me tx
    → StepsWell w tx me 0 (overwrite_at w me h bytes p)
overwrite_well w me tx h bytes (place.File num at) known s =
    chosen_so (StepsWell w tx me 0) (length bytes == 0) _ _ (λ _. quiet w me tx 0 reply.Done (omega arith) s) (λ _.
    chosen_so (StepsWell w tx me 0) (nat_lt (length (file_of w num)) (at + length bytes)) _ _ (λ _. quiet w me tx 0 reply.PastEnd (omega arith) s) (λ no.
    put_well w me tx h num at bytes reply.Done known (grind (arith, no)) (omega arith) s))
overwrite_well w me tx h bytes place.Vacant known s = quiet w me tx 0 reply.BadHandle (omega arith) s
overwrite_well w me tx h bytes (place.Pipe num) known s = quiet w me tx 0 reply.BadHandle (omega arith) s
overwrite_well w me tx h bytes (place.Pair num side) known s = quiet w me tx 0 reply.BadHandle (omega arith) s

appended_well : (w : World) (me : Private) (tx h : ℕ) (num : Num) (at : ℕ) (bytes : List ℕ) (r : Reply) → is_some (map.get w.files num) ≡ true
    → length (file_of w num) + length bytes ≤ 65536 → got_length r ≤ 0 → IsSound w me tx
    → StepsWell w tx me 0 (append_step w me (open_at h num at) bytes r)
appended_well w me tx h num at bytes r there inside none s =
    let next = file_of w num ++ bytes in
    let keeps = keeps_file w num next (omega (arith, length-append (file_of w num) bytes)) s.world in
    record {
      sound =
          with_place_sound (record w { files = map.insert w.files num next }) me tx h (place.File num (length (file_of w num) + length bytes))
          (keeps.known (place.File num 0) there) (kept_sound w _ me tx keeps there s);
      grows = keeps_all w _ (next_num me tx) keeps there;
      stored = refl;
      got = none;
    }

-- to append to a file steps well
pub append_well : (w : World) (me : Private) (tx h : ℕ) (bytes : List ℕ) (p : Place) → IsKnown w p → IsSound w me tx
    → StepsWell w tx me 0 (append_at w me h bytes p)
append_well w me tx h bytes (place.File num at) known s =
    chosen_so (StepsWell w tx me 0) (length bytes == 0) _ _ (λ _. quiet w me tx 0 reply.Done (omega arith) s) (λ _.
    chosen_so (StepsWell w tx me 0) (nat_lt 65536 (length (file_of w num) + length bytes)) _ _ (λ _. quiet w me tx 0 reply.TooBig (omega arith) s) (λ no.
    appended_well w me tx h num at bytes reply.Done known (grind (arith, no)) (omega arith) s))
append_well w me tx h bytes place.Vacant known s = quiet w me tx 0 reply.BadHandle (omega arith) s
append_well w me tx h bytes (place.Pipe num) known s = quiet w me tx 0 reply.BadHandle (omega arith) s
append_well w me tx h bytes (place.Pair num side) known s = quiet w me tx 0 reply.BadHandle (omega arith) s

-- to set a handle's position steps well
pub seek_well : (w : World) (me : Private) (tx h to : ℕ) (p : Place) → IsKnown w p → IsSound w me tx → StepsWell w tx me 0 (seek_at w me h to p)
seek_well w me tx h to (place.File num at) known s =
    chosen_so (StepsWell w tx me 0) (nat_lt 65536 to) _ _ (λ _. quiet w me tx 0 reply.TooBig (omega arith) s) (λ _.
    record {
      sound = with_place_sound w me tx h (place.File num to) known s;
      grows = adds_nothing w (next_num me tx) s.world;
      stored = refl;
      got = omega
          arith;
    })
seek_well w me tx h to place.Vacant known s = quiet w me tx 0 reply.BadHandle (omega arith) s
seek_well w me tx h to (place.Pipe num) known s = quiet w me tx 0 reply.BadHandle (omega arith) s
seek_well w me tx h to (place.Pair num side) known s = quiet w me tx 0 reply.BadHandle (omega arith) s

-- to ask for a file's length steps well
pub len_well : (w : World) (me : Private) (tx : ℕ) (p : Place) → IsSound w me tx → StepsWell w tx me 0 (len_at w me p)
len_well w me tx (place.File num at) s = quiet w me tx 0 (reply.Number (length (file_of w num))) (omega arith) s
len_well w me tx place.Vacant s = quiet w me tx 0 reply.BadHandle (omega arith) s
len_well w me tx (place.Pipe num) s = quiet w me tx 0 reply.BadHandle (omega arith) s
len_well w me tx (place.Pair num side) s = quiet w me tx 0 reply.BadHandle (omega arith) s

-- ---- with a fault
-- the place of a write that would be done
pub may_overwrite : (w : World) (me : Private) (h : ℕ) (bytes : List ℕ) (n : ℕ) (num : Num) (at : ℕ)
    → is_done (overwrite_at w me h bytes (place.File num at)).reply ≡ true → n < length bytes → at + n ≤ length (file_of w num)
may_overwrite w me h bytes n num at done lt = grind (arith, done)

-- an overwrite that stops after n bytes steps well
pub overwrite_short_well : (w : World) (me : Private) (tx h : ℕ) (bytes : List ℕ) (n : ℕ) (p : Place) → IsKnown w p
    → (n ≡ 0) ⊎ ((is_done (overwrite_at w me h bytes p).reply ≡ true) × (n < length bytes)) → IsSound w me tx
    → StepsWell w tx me 0 (overwrite_short w me (h, p) bytes n)
overwrite_short_well w me tx h bytes n (place.File num at) known (inl none) s =
    chosen_so (StepsWell w tx me 0) (n == 0) _ _ (λ _. quiet w me tx 0 (reply.Fault n) (omega arith) s) (λ no. absurd (grind (arith, no, none)))
overwrite_short_well w me tx h bytes n (place.File num at) known (inr may) s =
    chosen_so (StepsWell w tx me 0) (n == 0) _ _ (λ _. quiet w me tx 0 (reply.Fault n) (omega arith) s) (λ _.
    put_well w me tx h num at (take n bytes) (reply.Fault n) known (omega (arith, length-take n bytes, may_overwrite w me h bytes n num at may.0 may.1))
    (omega arith) s)
overwrite_short_well w me tx h bytes n place.Vacant known may s = quiet w me tx 0 (reply.Fault n) (omega arith) s
overwrite_short_well w me tx h bytes n (place.Pipe num) known may s = quiet w me tx 0 (reply.Fault n) (omega arith) s
overwrite_short_well w me tx h bytes n (place.Pair num side) known may s = quiet w me tx 0 (reply.Fault n) (omega arith) s

-- where an append would be done, its first n bytes fit the file
pub may_append : (w : World) (me : Private) (h : ℕ) (bytes : List ℕ) (n : ℕ) (num : Num) (at : ℕ)
    → is_done (append_at w me h bytes (place.File num at)).reply ≡ true → n < length bytes → length (file_of w num) + n ≤ 65536
may_append w me h bytes n num at done lt = grind (arith, done)

-- an append that stops after n bytes steps well
pub append_short_well : (w : World) (me : Private) (tx h : ℕ) (bytes : List ℕ) (n : ℕ) (p : Place) → IsKnown w p
    → (n ≡ 0) ⊎ ((is_done (append_at w me h bytes p).reply ≡ true) × (n < length bytes)) → IsSound w me tx
    → StepsWell w tx me 0 (append_short w me (h, p) bytes n)
append_short_well w me tx h bytes n (place.File num at) known (inl none) s =
    chosen_so (StepsWell w tx me 0) (n == 0) _ _ (λ _. quiet w me tx 0 (reply.Fault n) (omega arith) s) (λ no. absurd (grind (arith, no, none)))
append_short_well w me tx h bytes n (place.File num at) known (inr may) s =
    chosen_so (StepsWell w tx me 0) (n == 0) _ _ (λ _. quiet w me tx 0 (reply.Fault n) (omega arith) s) (λ _.
    appended_well w me tx h num at (take n bytes) (reply.Fault n) known (omega (arith, length-take n bytes, may_append w me h bytes n num at may.0 may.1))
    (omega arith) s)
append_short_well w me tx h bytes n place.Vacant known may s = quiet w me tx 0 (reply.Fault n) (omega arith) s
append_short_well w me tx h bytes n (place.Pipe num) known may s = quiet w me tx 0 (reply.Fault n) (omega arith) s
append_short_well w me tx h bytes n (place.Pair num side) known may s = quiet w me tx 0 (reply.Fault n) (omega arith) s
