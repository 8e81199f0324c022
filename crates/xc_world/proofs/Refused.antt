-- A refused call changes no world.
use Rattle.std.proofs.Common.{◌≡◌, ℕ, ◌+◌, Bool, true, false, Option, Some, None, List, [], ◌∷◌, length, refl}
use Rattle.std.specs.Prelude.{IsTrue, nat_lt, nat_le, ◌==◌, ◌||◌, if◌then◌else◌}
use Rattle.std.specs.FinMap as map
use Rattle.xc_data.specs.declared.object.Num.{Num}
use Rattle.xc_data.specs.declared.call.Call.{Call}
use Rattle.xc_data.specs.declared.call.Call.TheVariants as call
use Rattle.xc_data.specs.declared.call.Answer.{Answer}
use Rattle.xc_data.specs.declared.call.Answer.TheVariants as answer
use Rattle.xc_data.specs.declared.call.Reply.TheVariants as reply
use Rattle.xc_data.specs.declared.private.Place.{Place}
use Rattle.xc_data.specs.declared.private.Place.TheVariants as place
use Rattle.xc_data.specs.declared.private.Private.{Private}
use Rattle.xc_data.specs.Private.{place_of, with_place, lowest_vacant}
use Rattle.xc_world.specs.World.{World, file_of, pipe_of, pair_of, waiting}
use Rattle.xc_world.specs.Checks.{is_bad_handle, is_too_big, is_too_much, is_bad_word, is_refused, refusal}
use Rattle.xc_world.specs.Act.{act, fine, faulty, done}
use Rattle.xc_world.specs.Act.Step.{Stepped, step_to, bytes_counted}
use Rattle.xc_world.specs.Act.Names.{next_num, open_step, create_step, rename_step}
use Rattle.xc_world.specs.Act.Files.{read_at, overwrite_at, append_at, seek_at, len_at, overwrite_short, append_short}
use Rattle.xc_world.specs.Act.Pipes.{new_pipe, read_pipe_at, pair_made, new_pair, received, receive_at}
use Rattle.xc_world.specs.Laws.{is_refusal}
use Rattle.xc_world.proofs.SoundParts.{chosen_so}

abbrev StaysRefused : World → Stepped → Type 0
StaysRefused w s = IsTrue (is_refusal s.reply) → s.world ≡ w

reads : (w : World) (me : Private) (h n : ℕ) (p : Place) → StaysRefused w (read_at w me h n p)
reads w me h n (place.File num at) =
    chosen_so (StaysRefused w) (n == 0) _ _ (λ _ _. refl) (λ _.
    chosen_so (StaysRefused w) (nat_le (length (file_of w num)) at) _ _ (λ _ _. refl) (λ _ _. refl))
reads w me h n _ = λ _. refl

overwrites : (w : World) (me : Private) (h : ℕ) (bytes : List ℕ) (p : Place) → StaysRefused w (overwrite_at w me h bytes p)
overwrites w me h bytes (place.File num at) =
    chosen_so (StaysRefused w) (length bytes == 0) _ _ (λ _ _. refl) (λ _.
    chosen_so (StaysRefused w) (nat_lt (length (file_of w num)) (at + length bytes)) _ _ (λ _ _. refl) (λ _ e. cc))
overwrites w me h bytes _ = λ _. refl

appends : (w : World) (me : Private) (h : ℕ) (bytes : List ℕ) (p : Place) → StaysRefused w (append_at w me h bytes p)
appends w me h bytes (place.File num at) =
    chosen_so (StaysRefused w) (length bytes == 0) _ _ (λ _ _. refl) (λ _.
    chosen_so (StaysRefused w) (nat_lt 65536 (length (file_of w num) + length bytes)) _ _ (λ _ _. refl) (λ _ e. cc))
appends w me h bytes _ = λ _. refl

overwrites_short : (w : World) (me : Private) (h : ℕ) (bytes : List ℕ) (n : ℕ) (p : Place) → StaysRefused w (overwrite_short w me (h, p) bytes n)
overwrites_short w me h bytes n (place.File num at) = chosen_so (StaysRefused w) (n == 0) _ _ (λ _ _. refl) (λ some e. cc)
overwrites_short w me h bytes n _ = λ _. refl

appends_short : (w : World) (me : Private) (h : ℕ) (bytes : List ℕ) (n : ℕ) (p : Place) → StaysRefused w (append_short w me (h, p) bytes n)
appends_short w me h bytes n (place.File num at) = chosen_so (StaysRefused w) (n == 0) _ _ (λ _ _. refl) (λ some e. cc)
appends_short w me h bytes n _ = λ _. refl

seeks : (w : World) (me : Private) (h to : ℕ) (p : Place) → StaysRefused w (seek_at w me h to p)
seeks w me h to (place.File num at) = chosen_so (StaysRefused w) (nat_lt 65536 to) _ _ (λ _ _. refl) (λ _ _. refl)
seeks w me h to _ = λ _. refl

lens : (w : World) (me : Private) (p : Place) → StaysRefused w (len_at w me p)
lens w me (place.File num at) = λ _. refl
lens w me _ = λ _. refl

opens : (w : World) (me : Private) (o : Option Num) (vacant : Option ℕ) → StaysRefused w (open_step w me o vacant)
opens w me None vacant = λ _. refl
opens w me (Some num) None = λ _. refl
opens w me (Some num) (Some h) = λ _. refl

creates : (w : World) (me : Private) (tx : ℕ) (name : List ℕ) (o : Option Num) (vacant : Option ℕ) → StaysRefused w (create_step w me tx name (o, vacant))
creates w me tx name (Some num) vacant = λ _. refl
creates w me tx name None None = λ _. refl
creates w me tx name None (Some h) = λ e. cc

renames : (w : World) (me : Private) (from to : List ℕ) (o there : Option Num) → StaysRefused w (rename_step w me from to (o, there))
renames w me from to None there = λ _. refl
renames w me from to (Some num) (Some q) = λ _. refl
renames w me from to (Some num) None = λ e. cc

pipes : (w : World) (me : Private) (tx : ℕ) (vacant : Option ℕ) → StaysRefused w (new_pipe w me tx vacant)
pipes w me tx None = λ _. refl
pipes w me tx (Some h) = λ e. cc

read_pipes : (w : World) (me : Private) (n : ℕ) (p : Place) → StaysRefused w (read_pipe_at w me n p)
read_pipes w me n (place.Pipe num) =
    chosen_so (StaysRefused w) (n == 0) _ _ (λ _ _. refl) (λ _.
    chosen_so (StaysRefused w) (length (pipe_of w num).held == 0) _ _ (λ _ _. refl) (λ _ e. cc))
read_pipes w me n _ = λ _. refl

pairs_made : (w : World) (me : Private) (tx h : ℕ) (vacant : Option ℕ) → StaysRefused w (pair_made w me tx h vacant)
pairs_made w me tx h None = λ _. refl
pairs_made w me tx h (Some g) = λ e. cc

pairs : (w : World) (me : Private) (tx : ℕ) (vacant : Option ℕ) → StaysRefused w (new_pair w me tx vacant)
pairs w me tx None = λ _. refl
pairs w me tx (Some h) =
    let one = with_place me h (place.Pair (next_num me tx) 0) in
    pairs_made w one tx h (lowest_vacant one.places)

receives : (w : World) (me : Private) (num : Num) (side : ℕ) (messages : List (List ℕ)) → StaysRefused w (received w me num side messages)
receives w me num side [] = λ _. refl
receives w me num side (message ∷ messages) = λ e. cc

receives_at : (w : World) (me : Private) (p : Place) → StaysRefused w (receive_at w me p)
receives_at w me (place.Pair num side) = receives w me num side (waiting (pair_of w num) side)
receives_at w me _ = λ _. refl

fine_refused : (w : World) (me : Private) (tx : ℕ) (c : Call) → StaysRefused w (fine w me tx c)
fine_refused w me tx (call.Store at value) = λ e. cc
fine_refused w me tx (call.XOpen name) = opens w me (map.get w.names name) (lowest_vacant me.places)
fine_refused w me tx (call.XCreate name) = creates w me tx name (map.get w.names name) (lowest_vacant me.places)
fine_refused w me tx (call.XRead h n) = reads w me h n (place_of me.places h)
fine_refused w me tx (call.XWriteOvr h bytes) = overwrites w me h bytes (place_of me.places h)
fine_refused w me tx (call.XWriteSeq h bytes) = appends w me h bytes (place_of me.places h)
fine_refused w me tx (call.XSeek h to) = seeks w me h to (place_of me.places h)
fine_refused w me tx (call.XLen h) = lens w me (place_of me.places h)
fine_refused w me tx (call.XRename from to) = renames w me from to (map.get w.names from) (map.get w.names to)
fine_refused w me tx call.XPipe = pipes w me tx (lowest_vacant me.places)
fine_refused w me tx (call.XReadPipe h n) = read_pipes w me n (place_of me.places h)
fine_refused w me tx call.XPair = pairs w me tx (lowest_vacant me.places)
fine_refused w me tx (call.XRecvmsg h) = receives_at w me (place_of me.places h)
fine_refused w me tx _ = λ _. refl

faulty_refused : (w : World) (me : Private) (c : Call) (n : ℕ) → StaysRefused w (faulty w me c n)
faulty_refused w me (call.XWriteOvr h bytes) n = overwrites_short w me h bytes n (place_of me.places h)
faulty_refused w me (call.XWriteSeq h bytes) n = appends_short w me h bytes n (place_of me.places h)
faulty_refused w me _ n = λ _. refl

done_refused : (w : World) (me : Private) (tx : ℕ) (c : Call) (a : Answer) → StaysRefused w (done w me tx c a)
done_refused w me tx c answer.Fine = fine_refused w me tx c
done_refused w me tx c (answer.Fault n) = faulty_refused w me c n
done_refused w me tx c (answer.Undone n) = λ _. refl

-- a refused call leaves the world as it is
pub act_refused : (w : World) (me : Private) (tx : ℕ) (c : Call) (a : Answer) → IsTrue (is_refusal (act w me tx c a).reply) → (act w me tx c a).world ≡ w
act_refused w me tx c a =
    chosen_so (StaysRefused w) (is_bad_handle c me) _ _ (λ _ _. refl) (λ _.
    chosen_so (StaysRefused w) (is_too_big c) _ _ (λ _ _. refl) (λ _.
    chosen_so (StaysRefused w) (is_too_much c me) _ _ (λ _ _. refl) (λ _.
    chosen_so (StaysRefused w) (is_bad_word c (length w.words)) _ _ (λ _ _. refl) (λ _. done_refused w me tx c a))))

-- ---- a private refusal
-- the first check that refuses gives the reply
first_refusal : (w : World) (me : Private) (a b c d : Bool) (s : Stepped) → (a || b || c || d) ≡ true
    → (if a then step_to w me reply.BadHandle else if b then step_to w me reply.TooBig else if c then step_to w me reply.TooMuch
    else if d then step_to w me reply.BadWord else s)
    ≡ step_to w me (if a then reply.BadHandle else if b then reply.TooBig else if c then reply.TooMuch else reply.BadWord)
first_refusal w me true b c d s e = refl
first_refusal w me false true c d s e = refl
first_refusal w me false false true d s e = refl
first_refusal w me false false false true s e = refl
first_refusal w me false false false false s e = cc

-- a call that a private check refuses leaves the world and the private state
pub act_refused_whole : (w : World) (me : Private) (tx : ℕ) (call : Call) (answer : Answer) → IsTrue (is_refused call me (length w.words))
    → act w me tx call answer ≡ step_to w me (refusal call me)
act_refused_whole w me tx c a e =
    first_refusal w me (is_bad_handle c me) (is_too_big c) (is_too_much c me) (is_bad_word c (length w.words)) (bytes_counted c (done w me tx c a)) e
