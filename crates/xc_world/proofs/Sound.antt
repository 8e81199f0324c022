-- A step of a transaction keeps a world and its private state sound.
use Rattle.std.proofs.Common.{◌≡◌, ◌≢◌, ap, ◌⊎◌, inl, inr, ℕ, ◌+◌, ◌≤◌, ◌<◌, Bool, true, false, not, ◌&&◌, ◌||◌, length, refl, arith, is_none}
use Rattle.std.specs.Prelude.{slice_set, nat_lt, nat_le, ◌==◌, IsTrue, count_by, if◌then◌else◌}
use Rattle.std.specs.FinMap as map
use Rattle.xc_data.specs.declared.object.Num.{Num}
use Rattle.xc_data.specs.declared.call.Call.{Call}
use Rattle.xc_data.specs.declared.call.Call.TheVariants as call
use Rattle.xc_data.specs.declared.call.Answer.{Answer}
use Rattle.xc_data.specs.declared.call.Answer.TheVariants as answer
use Rattle.xc_data.specs.declared.call.Reply.{Reply}
use Rattle.xc_data.specs.declared.call.Reply.TheVariants as reply
use Rattle.xc_data.specs.declared.private.Place.TheVariants.{Vacant}
use Rattle.xc_data.specs.declared.private.Private.{Private}
use Rattle.xc_data.specs.Private.{place_of, is_vacant, lowest_vacant}
use Rattle.xc_world.specs.World.{World}
use Rattle.xc_world.specs.Checks.{is_bad_handle, is_too_big, is_too_much, is_bad_word, is_refused}
use Rattle.xc_world.specs.Act.{act, fine, faulty, done}
use Rattle.xc_world.specs.Act.Step.{Stepped, storing, storing_call, storing_reply}
use Rattle.xc_world.specs.Act.Names.{next_num}
use Rattle.xc_world.specs.Act.Files.{overwrite_at, append_at}
use Rattle.xc_world.specs.Fits.{fits, is_done}
use Rattle.xc_world.specs.Sound.{IsSound}
use Rattle.xc_world.proofs.SoundParts.{chosen_so, Adds, keeps_words, keeps_all}
use Rattle.xc_world.proofs.SoundSteps.{StepsWell, got_length, quiet, adds_nothing, kept_sound, with_place_sound, storing_sound}
use Rattle.xc_world.proofs.SoundFiles.{read_well, overwrite_well, append_well, seek_well, len_well, overwrite_short_well, append_short_well}
use Rattle.xc_world.proofs.SoundCalls.{opened_well, created_well, renamed_well, new_pipe_well, read_pipe_well, new_pair_well, receive_well}

-- how many bytes a call may bring
abbrev pub read_size : Call → ℕ
read_size (call.XRead h n) = n
read_size (call.XReadPipe h n) = n
read_size (call.XRecvmsg h) = 1024
read_size _ = 0

no_more : (a b : Bool) → (a || b) ≡ false → a ≡ false
no_more true b e = cc
no_more false b e = refl

few_made : (me : Private) (b : Bool) → (nat_le 16 me.made || b) ≡ false → me.made < 16
few_made me b e = let no = no_more (nat_le 16 me.made) b e in grind (arith, no)

two_vacant : (me : Private) → (nat_le 16 me.made || nat_lt (count_by is_vacant me.places) 2) ≡ false → 2 ≤ count_by is_vacant me.places
two_vacant me e = grind (arith, e)

-- ---- a call that passed the checks
fine_well : (w : World) (me : Private) (tx : ℕ) (c : Call) → is_too_much c me ≡ false → IsSound w me tx → StepsWell w tx me (read_size c) (fine w me tx c)
fine_well w me tx (call.Load at) few s = quiet w me tx 0 _ (omega arith) s
fine_well w me tx (call.Store at value) few s =
    let keeps = keeps_words true w (slice_set w.words at value) s.world in
    record { sound = kept_sound w _ me tx keeps refl s; grows = keeps_all w _ (next_num me tx) keeps refl; stored = refl; got = omega arith }
fine_well w me tx (call.XOpen name) few s = opened_well w me tx name (map.get w.names name) (lowest_vacant me.places) refl s
fine_well w me tx (call.XCreate name) few s =
    created_well w me tx name (map.get w.names name) (lowest_vacant me.places) (few_made me (is_none (lowest_vacant me.places)) few) s
fine_well w me tx (call.XRead h n) few s = read_well w me tx h n (place_of me.places h) (s.handles h) s
fine_well w me tx (call.XWriteOvr h bytes) few s = overwrite_well w me tx h bytes (place_of me.places h) (s.handles h) s
fine_well w me tx (call.XWriteSeq h bytes) few s = append_well w me tx h bytes (place_of me.places h) (s.handles h) s
fine_well w me tx (call.XSeek h to) few s = seek_well w me tx h to (place_of me.places h) (s.handles h) s
fine_well w me tx (call.XLen h) few s = len_well w me tx (place_of me.places h) s
fine_well w me tx (call.XRename from to) few s = renamed_well w me tx from to (map.get w.names from) (map.get w.names to) refl s
fine_well w me tx (call.XClose h) few s =
    record { sound = with_place_sound w me tx h Vacant tt s; grows = adds_nothing w (next_num me tx) s.world; stored = refl; got = omega arith }
fine_well w me tx call.XPipe few s = new_pipe_well w me tx (lowest_vacant me.places) (few_made me (is_none (lowest_vacant me.places)) few) s
fine_well w me tx (call.XReadPipe h n) few s = read_pipe_well w me tx n (place_of me.places h) (s.handles h) s
fine_well w me tx call.XPair few s =
    new_pair_well w me tx (lowest_vacant me.places) (two_vacant me few) (few_made me (nat_lt (count_by is_vacant me.places) 2) few) s
fine_well w me tx (call.XRecvmsg h) few s = receive_well w me tx (place_of me.places h) (s.handles h) s
fine_well w me tx call.Save few s = quiet w me tx 0 reply.Done (omega arith) s
fine_well w me tx call.Keep few s = quiet w me tx 0 reply.Done (omega arith) s
fine_well w me tx call.Back few s = quiet w me tx 0 (reply.Undone 0) (omega arith) s
fine_well w me tx _ few s = quiet w me tx 0 reply.Late (omega arith) s

-- what a fault's number says of a write
stops_at : (d : Bool) (l n : ℕ) → (true && d && nat_lt n l) ≡ true → (d ≡ true) × (n < l)
stops_at true l n e = (refl, grind (arith, e))
stops_at false l n e = cc

behind_test : (r b : Bool) → (r && b) ≡ true → b ≡ true
behind_test true b e = e
behind_test false b e = cc

front_at : (b t d : Bool) (l n : ℕ) → (n == 0) ≡ b → (if b then t else (true && d && nat_lt n l)) ≡ true → (n ≡ 0) ⊎ ((d ≡ true) × (n < l))
front_at true t d l n is e = inl (grind (arith, is))
front_at false t d l n is e = inr (stops_at d l n e)

front_of : (r t d : Bool) (l n : ℕ) → (not r && (if n == 0 then t else (true && d && nat_lt n l))) ≡ true → (n ≡ 0) ⊎ ((d ≡ true) × (n < l))
front_of r t d l n e = front_at (n == 0) t d l n refl (behind_test (not r) _ e)

faulty_well : (w : World) (me : Private) (tx : ℕ) (c : Call) (n : ℕ) → IsTrue (fits w me tx c (answer.Fault n)) → IsSound w me tx
    → StepsWell w tx me (read_size c) (faulty w me c n)
faulty_well w me tx (call.XWriteOvr h bytes) n fit s =
    let may =
    front_of (is_refused (call.XWriteOvr h bytes) me (length w.words)) (nat_le 1 (length bytes))
    (is_done (overwrite_at w me h bytes (place_of me.places h)).reply) (length bytes) n fit in
    overwrite_short_well w me tx h bytes n (place_of me.places h) (s.handles h) may s
faulty_well w me tx (call.XWriteSeq h bytes) n fit s =
    let may =
    front_of (is_refused (call.XWriteSeq h bytes) me (length w.words)) (nat_le 1 (length bytes))
    (is_done (append_at w me h bytes (place_of me.places h)).reply) (length bytes) n fit in
    append_short_well w me tx h bytes n (place_of me.places h) (s.handles h) may s
faulty_well w me tx c n fit s = quiet w me tx (read_size c) (reply.Fault n) (omega arith) s

-- a call that passes steps well
pub done_well : (w : World) (me : Private) (tx : ℕ) (c : Call) (a : Answer) → IsTrue (fits w me tx c a) → is_too_much c me ≡ false → IsSound w me tx
    → StepsWell w tx me (read_size c) (done w me tx c a)
done_well w me tx c answer.Fine fit few s = fine_well w me tx c few s
done_well w me tx c (answer.Fault n) fit few s = faulty_well w me tx c n fit s
done_well w me tx c (answer.Undone n) fit few s = quiet w me tx (read_size c) (reply.Undone n) (omega arith) s

-- ---- what is stored
replied_sound : (w : World) (me : Private) (tx : ℕ) (r : Reply) → me.stored + got_length r ≤ 16384 → IsSound w me tx → IsSound w (storing_reply r me) tx
replied_sound w me tx (reply.Got bytes) le s = storing_sound w me tx (length bytes) le s
replied_sound w me tx _ le s = s

read_sound : (w : World) (me : Private) (tx n : ℕ) (t : Stepped) → nat_lt 16384 (me.stored + n) ≡ false → StepsWell w tx me n t
    → IsSound t.world (storing_reply t.reply t.me) tx
read_sound w me tx n t fits well = replied_sound t.world t.me tx t.reply (grind (arith, fits, well.stored, well.got)) well.sound

write_sound : (w : World) (me : Private) (tx n : ℕ) (t : Stepped) → nat_lt 16384 (me.stored + n) ≡ false → StepsWell w tx me 0 t
    → IsSound t.world (storing_reply t.reply (storing t.me n)) tx
write_sound w me tx n t fits well =
    replied_sound t.world (storing t.me n) tx t.reply (grind (arith, fits, well.stored, well.got))
    (storing_sound t.world t.me tx n (grind (arith, fits, well.stored)) well.sound)

quiet_sound : (w : World) (me : Private) (tx : ℕ) (t : Stepped) → StepsWell w tx me 0 t → IsSound t.world (storing_reply t.reply t.me) tx
quiet_sound w me tx t well = replied_sound t.world t.me tx t.reply (omega (arith, well.got, well.sound.stored)) well.sound

counted_sound : (w : World) (me : Private) (tx : ℕ) (c : Call) (t : Stepped) → is_too_much c me ≡ false → StepsWell w tx me (read_size c) t
    → IsSound t.world (storing_reply t.reply (storing_call c t.me)) tx
counted_sound w me tx (call.XRead h n) t few well = read_sound w me tx n t few well
counted_sound w me tx (call.XReadPipe h n) t few well = read_sound w me tx n t few well
counted_sound w me tx (call.XRecvmsg h) t few well = read_sound w me tx 1024 t few well
counted_sound w me tx (call.XWriteOvr h bytes) t few well = write_sound w me tx (length bytes) t few well
counted_sound w me tx (call.XWriteSeq h bytes) t few well = write_sound w me tx (length bytes) t few well
counted_sound w me tx (call.XWritePipe h bytes slot) t few well = write_sound w me tx (length bytes) t few well
counted_sound w me tx (call.XSendmsg h bytes slot) t few well = write_sound w me tx (length bytes) t few well
counted_sound w me tx _ t few well = quiet_sound w me tx t well

-- ---- every call
-- the private state is sound, and the world keeps what it has and takes one number at most
pub record ActsWell (w : World) (me : Private) (tx : ℕ) (s : Stepped) : Type 0 where
  pub sound : IsSound s.world s.me tx
  pub grows : Adds w s.world (next_num me tx)

-- a call that its answer fits leaves all sound, and takes at most the next number
pub act_well : (w : World) (me : Private) (tx : ℕ) (c : Call) (a : Answer) → IsTrue (fits w me tx c a) → IsSound w me tx → ActsWell w me tx (act w me tx c a)
act_well w me tx c a fit s =
    let still : Adds w w (next_num me tx) = adds_nothing w (next_num me tx) s.world in
    chosen_so (ActsWell w me tx) (is_bad_handle c me) _ _ (λ _. record { sound = s; grows = still }) (λ _.
    chosen_so (ActsWell w me tx) (is_too_big c) _ _ (λ _. record { sound = s; grows = still }) (λ _.
    chosen_so (ActsWell w me tx) (is_too_much c me) _ _ (λ _. record { sound = s; grows = still }) (λ few.
    chosen_so (ActsWell w me tx) (is_bad_word c (length w.words)) _ _ (λ _. record { sound = s; grows = still }) (λ _.
    let well = done_well w me tx c a fit few s in
    record { sound = counted_sound w me tx c (done w me tx c a) few well; grows = well.grows }))))

-- a call that its answer fits leaves its world and private state sound
pub act_sound : (w : World) (me : Private) (tx : ℕ) (c : Call) (a : Answer) → IsTrue (fits w me tx c a) → IsSound w me tx
    → IsSound (act w me tx c a).world (act w me tx c a).me tx
act_sound w me tx c a fit s = (act_well w me tx c a fit s).sound

-- what another transaction has stays sound
pub others_sound : (w : World) (me you : Private) (tx ty : ℕ) (c : Call) (a : Answer) → IsTrue (fits w me tx c a) → (ty ≢ tx) → IsSound w me tx
    → IsSound w you ty → IsSound (act w me tx c a).world you ty
others_sound w me you tx ty c a fit other s t =
    let grows = (act_well w me tx c a fit s).grows in
    record {
      world = grows.fit;
      made = t.made;
      stored = t.stored;
      new = λ k le. grows.free (record { tx = ty; k = k }) (λ e. other (ap (λ (n : Num). n.tx) e)) (t.new k le);
      handles = λ h. grows.known (place_of you.places h) (t.handles h);
    }
