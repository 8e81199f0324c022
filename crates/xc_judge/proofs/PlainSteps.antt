-- What one call does to the words, and when it replies: by the call alone.
use Rattle.std.proofs.Common.{◌≡◌, ℕ, ◌==◌, ◌&&◌, Bool, true, false, Option, Some, None, List, [], ◌∷◌, length, refl, ap, sym, ◌∙◌}
use Rattle.std.specs.Prelude.{IsTrue, not, nat_le, nat_lt, slice_index, slice_set, if◌then◌else◌}
use Rattle.std.proofs.lemmas.Bool.{and_parts}
use Rattle.std.specs.FinMap as map
use Rattle.xc_data.specs.declared.object.Num.{Num}
use Rattle.xc_data.specs.declared.call.Call.{Call}
use Rattle.xc_data.specs.declared.call.Call.TheVariants as call
use Rattle.xc_data.specs.declared.call.Answer.{Answer}
use Rattle.xc_data.specs.declared.call.Answer.TheVariants as answer
use Rattle.xc_data.specs.declared.call.Reply.{Reply}
use Rattle.xc_data.specs.declared.call.Reply.TheVariants as reply
use Rattle.xc_data.specs.declared.private.Place.{Place}
use Rattle.xc_data.specs.declared.private.Place.TheVariants as place
use Rattle.xc_data.specs.declared.private.Private.{Private}
use Rattle.xc_data.specs.Calls.{is_late, is_kept, bytes_of}
use Rattle.xc_data.specs.Private.{place_of, lowest_vacant}
use Rattle.xc_world.specs.Act.{act, done, fine, faulty}
use Rattle.xc_world.specs.Act.Step.{Stepped, step_to, storing_call}
use Rattle.xc_world.specs.Act.Names.{open_step, create_step, rename_step}
use Rattle.xc_world.specs.Act.Files.{read_at, overwrite_at, append_at, seek_at, len_at, overwrite_short, append_short}
use Rattle.xc_world.specs.Act.Pipes.{new_pipe, read_pipe_at, pair_made, new_pair, received, receive_at}
use Rattle.xc_world.specs.Checks.{is_bad_handle, is_too_big, is_too_much, is_refused}
use Rattle.xc_world.specs.Fits.{asks_host, is_write, is_back, is_done, may_stop, fits}
use Rattle.xc_world.specs.World.{World, file_of, pipe_of, pair_of, waiting}
use Rattle.xc_world.proofs.Laws.{chosen_so, act-cases}
use Rattle.xc_model.specs.WordCalls.{is_word_call, word_reply, words_after}

-- ---- calls that reply at once, and are not on words
-- a step that leaves the words, and that is no late one
record LeavesWordsNow (w : World) (s : Stepped) : Type 0 where
  words : s.world.words ≡ w.words
  now : is_late s.reply ≡ false

-- a reply alone
stays : (w : World) (me : Private) (r : Reply) → is_late r ≡ false → LeavesWordsNow w (step_to w me r)
stays w me r e = record { words = refl; now = e }

-- a file that is opened
opened_stays : (w : World) (me : Private) (found : Option Num) (vacant : Option ℕ) → LeavesWordsNow w (open_step w me found vacant)
opened_stays w me None vacant = stays w me _ refl
opened_stays w me (Some num) (Some h) = stays w _ _ refl
opened_stays w me (Some num) None = stays w me _ refl

-- one that is made
created_stays : (w : World) (me : Private) (tx : ℕ) (name : List ℕ) (found : Option Num) (vacant : Option ℕ)
    → LeavesWordsNow w (create_step w me tx name (found, vacant))
created_stays w me tx name (Some num) vacant = stays w me _ refl
created_stays w me tx name None (Some h) = record { words = refl; now = refl }
created_stays w me tx name None None = stays w me _ refl

-- one that takes another name
renamed_stays : (w : World) (me : Private) (from to : List ℕ) (found there : Option Num) → LeavesWordsNow w (rename_step w me from to (found, there))
renamed_stays w me from to None there = stays w me _ refl
renamed_stays w me from to (Some num) (Some other) = stays w me _ refl
renamed_stays w me from to (Some num) None = record { words = refl; now = refl }

-- bytes that are read
read_stays : (w : World) (me : Private) (h n : ℕ) (p : Place) → LeavesWordsNow w (read_at w me h n p)
read_stays w me h n (place.File num at) =
    chosen_so (LeavesWordsNow w) (n == 0) _ _ (λ _. stays w me _ refl) (λ _.
    chosen_so (LeavesWordsNow w) (nat_le (length (file_of w num)) at) _ _ (λ _. stays w me _ refl) (λ _. stays w _ _ refl))
read_stays w me h n _ = stays w me _ refl

-- bytes that are overwritten
overwrite_stays : (w : World) (me : Private) (h : ℕ) (bytes : List ℕ) (p : Place) → LeavesWordsNow w (overwrite_at w me h bytes p)
overwrite_stays w me h bytes (place.File num at) =
    chosen_so (LeavesWordsNow w) (length bytes == 0) _ _ (λ _. stays w me _ refl) (λ _.
    chosen_so (LeavesWordsNow w) _ _ _ (λ _. stays w me _ refl) (λ _. record { words = refl; now = refl }))
overwrite_stays w me h bytes _ = stays w me _ refl

-- bytes that are appended
append_stays : (w : World) (me : Private) (h : ℕ) (bytes : List ℕ) (p : Place) → LeavesWordsNow w (append_at w me h bytes p)
append_stays w me h bytes (place.File num at) =
    chosen_so (LeavesWordsNow w) (length bytes == 0) _ _ (λ _. stays w me _ refl) (λ _.
    chosen_so (LeavesWordsNow w) _ _ _ (λ _. stays w me _ refl) (λ _. record { words = refl; now = refl }))
append_stays w me h bytes _ = stays w me _ refl

-- a place that is sought
seek_stays : (w : World) (me : Private) (h to : ℕ) (p : Place) → LeavesWordsNow w (seek_at w me h to p)
seek_stays w me h to (place.File num at) = chosen_so (LeavesWordsNow w) _ _ _ (λ _. stays w me _ refl) (λ _. stays w _ _ refl)
seek_stays w me h to _ = stays w me _ refl

-- a length that is asked
len_stays : (w : World) (me : Private) (p : Place) → LeavesWordsNow w (len_at w me p)
len_stays w me (place.File num at) = stays w me _ refl
len_stays w me _ = stays w me _ refl

-- an overwrite that met a fault
overwrite_short_stays : (w : World) (me : Private) (h : ℕ) (p : Place) (bytes : List ℕ) (n : ℕ) → LeavesWordsNow w (overwrite_short w me (h, p) bytes n)
overwrite_short_stays w me h (place.File num at) bytes n =
    chosen_so (LeavesWordsNow w) (n == 0) _ _ (λ _. stays w me _ refl) (λ _. record { words = refl; now = refl })
overwrite_short_stays w me h _ bytes n = stays w me _ refl

-- an append that met one
append_short_stays : (w : World) (me : Private) (h : ℕ) (p : Place) (bytes : List ℕ) (n : ℕ) → LeavesWordsNow w (append_short w me (h, p) bytes n)
append_short_stays w me h (place.File num at) bytes n =
    chosen_so (LeavesWordsNow w) (n == 0) _ _ (λ _. stays w me _ refl) (λ _. record { words = refl; now = refl })
append_short_stays w me h _ bytes n = stays w me _ refl

-- a pipe that is made
new_pipe_stays : (w : World) (me : Private) (tx : ℕ) (vacant : Option ℕ) → LeavesWordsNow w (new_pipe w me tx vacant)
new_pipe_stays w me tx (Some h) = record { words = refl; now = refl }
new_pipe_stays w me tx None = stays w me _ refl

-- a source with nothing in it
end_or_empty : (b : Bool) → is_late (if b then reply.End else reply.Empty) ≡ false
end_or_empty true = refl
end_or_empty false = refl

-- bytes that are taken from a pipe
read_pipe_stays : (w : World) (me : Private) (n : ℕ) (p : Place) → LeavesWordsNow w (read_pipe_at w me n p)
read_pipe_stays w me n (place.Pipe num) =
    chosen_so (LeavesWordsNow w) (n == 0) _ _ (λ _. stays w me _ refl) (λ _.
    chosen_so (LeavesWordsNow w) (length (pipe_of w num).held == 0) _ _ (λ _. stays w me _ (end_or_empty (pipe_of w num).shut))
    (λ _. record { words = refl; now = refl }))
read_pipe_stays w me n _ = stays w me _ refl

-- a second handle of a pair
pair_made_stays : (w : World) (me : Private) (tx h : ℕ) (vacant : Option ℕ) → LeavesWordsNow w (pair_made w me tx h vacant)
pair_made_stays w me tx h (Some g) = record { words = refl; now = refl }
pair_made_stays w me tx h None = stays w me _ refl

-- a pair that is made
new_pair_stays : (w : World) (me : Private) (tx : ℕ) (vacant : Option ℕ) → LeavesWordsNow w (new_pair w me tx vacant)
new_pair_stays w me tx (Some h) = pair_made_stays w _ tx h (lowest_vacant _)
new_pair_stays w me tx None = stays w me _ refl

-- a message, or none
received_stays : (w : World) (me : Private) (num : Num) (side : ℕ) (messages : List (List ℕ)) → LeavesWordsNow w (received w me num side messages)
received_stays w me num side [] = stays w me _ (end_or_empty (pair_of w num).shut)
received_stays w me num side (m ∷ messages) = record { words = refl; now = refl }

-- a message that is taken
receive_stays : (w : World) (me : Private) (p : Place) → LeavesWordsNow w (receive_at w me p)
receive_stays w me (place.Pair num side) = received_stays w me num side (waiting (pair_of w num) side)
receive_stays w me _ = stays w me _ refl

-- any such call that is done
fine_stays : (w : World) (me : Private) (tx : ℕ) (c : Call) → is_word_call c ≡ false → is_kept c ≡ false → LeavesWordsNow w (fine w me tx c)
fine_stays w me tx (call.XOpen name) word kept = opened_stays w me (map.get w.names name) (lowest_vacant me.places)
fine_stays w me tx (call.XCreate name) word kept = created_stays w me tx name (map.get w.names name) (lowest_vacant me.places)
fine_stays w me tx (call.XRead h n) word kept = read_stays w me h n (place_of me.places h)
fine_stays w me tx (call.XWriteOvr h bytes) word kept = overwrite_stays w me h bytes (place_of me.places h)
fine_stays w me tx (call.XWriteSeq h bytes) word kept = append_stays w me h bytes (place_of me.places h)
fine_stays w me tx (call.XSeek h to) word kept = seek_stays w me h to (place_of me.places h)
fine_stays w me tx (call.XLen h) word kept = len_stays w me (place_of me.places h)
fine_stays w me tx (call.XRename from to) word kept = renamed_stays w me from to (map.get w.names from) (map.get w.names to)
fine_stays w me tx (call.XClose h) word kept = stays w _ _ refl
fine_stays w me tx call.XPipe word kept = new_pipe_stays w me tx (lowest_vacant me.places)
fine_stays w me tx (call.XReadPipe h n) word kept = read_pipe_stays w me n (place_of me.places h)
fine_stays w me tx call.XPair word kept = new_pair_stays w me tx (lowest_vacant me.places)
fine_stays w me tx (call.XRecvmsg h) word kept = receive_stays w me (place_of me.places h)
fine_stays w me tx call.Save word kept = stays w me _ refl
fine_stays w me tx call.Keep word kept = stays w me _ refl
fine_stays w me tx call.Back word kept = stays w me _ refl
fine_stays w me tx (call.Load at) word kept = cc word
fine_stays w me tx (call.Store at value) word kept = cc word
fine_stays w me tx _ word kept = cc kept

-- any that met a fault
faulty_stays : (w : World) (me : Private) (c : Call) (n : ℕ) → LeavesWordsNow w (faulty w me c n)
faulty_stays w me (call.XWriteOvr h bytes) n = overwrite_short_stays w me h (place_of me.places h) bytes n
faulty_stays w me (call.XWriteSeq h bytes) n = append_short_stays w me h (place_of me.places h) bytes n
faulty_stays w me _ n = stays w me _ refl

-- any that passes its checks
done_stays : (w : World) (me : Private) (tx : ℕ) (c : Call) (a : Answer) → is_word_call c ≡ false → is_kept c ≡ false
    → LeavesWordsNow w (done w me tx c a)
done_stays w me tx c answer.Fine word kept = fine_stays w me tx c word kept
done_stays w me tx c (answer.Fault n) word kept = faulty_stays w me c n
done_stays w me tx c (answer.Undone n) word kept = stays w me _ refl

-- any at all
act_stays : (w : World) (me : Private) (tx : ℕ) (c : Call) (a : Answer) → is_word_call c ≡ false → is_kept c ≡ false
    → LeavesWordsNow w (act w me tx c a)
act_stays w me tx c a word kept =
    let so = done_stays w me tx c a word kept in
    act-cases w me tx c a (LeavesWordsNow w) (stays w me _ refl) (stays w me _ refl) (stays w me _ refl) (stays w me _ refl)
    (record { words = so.words; now = so.now })

-- ---- calls on words, and those that are kept for the commit: nothing but a fine answer fits
no_fault : (zero asks stops : Bool) → asks ≡ false → stops ≡ false → (if zero then asks else stops) ≡ true → ⊥
no_fault true asks stops p q e = cc
no_fault false asks stops p q e = cc

-- a call that asks no host, writes nothing and is no back fits no other answer
fine_only : (w : World) (me : Private) (tx : ℕ) (c : Call) (a : Answer) → asks_host c ≡ false → is_write c ≡ false → is_back c ≡ false
    → IsTrue (fits w me tx c a) → a ≡ answer.Fine
fine_only w me tx c answer.Fine asks write back fit = refl
fine_only w me tx c (answer.Fault n) asks write back fit =
    let parts = and_parts (not (is_refused c me (length w.words))) (if n == 0 then asks_host c else may_stop w me tx c n) fit in
    let none : may_stop w me tx c n ≡ false =
    ap (λ b. b && is_done (fine w me tx c).reply && nat_lt n (length (bytes_of c))) write in
    absurd (no_fault (n == 0) (asks_host c) (may_stop w me tx c n) asks none parts.1)
fine_only w me tx c (answer.Undone n) asks write back fit = let no : true ≡ false = sym fit ∙ back in cc

-- of a call on words
word_fine : (w : World) (me : Private) (tx : ℕ) (c : Call) (a : Answer) → is_word_call c ≡ true → IsTrue (fits w me tx c a) → a ≡ answer.Fine
word_fine w me tx (call.Load at) a word fit = fine_only w me tx (call.Load at) a refl refl refl fit
word_fine w me tx (call.Store at value) a word fit = fine_only w me tx (call.Store at value) a refl refl refl fit
word_fine w me tx _ a word fit = cc word

-- of a call that is kept
kept_fine : (w : World) (me : Private) (tx : ℕ) (c : Call) (a : Answer) → is_kept c ≡ true → IsTrue (fits w me tx c a) → a ≡ answer.Fine
kept_fine w me tx (call.XUnlink name slot) a kept fit = fine_only w me tx (call.XUnlink name slot) a refl refl refl fit
kept_fine w me tx (call.XSync h slot) a kept fit = fine_only w me tx (call.XSync h slot) a refl refl refl fit
kept_fine w me tx (call.XWritePipe h bytes slot) a kept fit = fine_only w me tx (call.XWritePipe h bytes slot) a refl refl refl fit
kept_fine w me tx (call.XShutdown h slot) a kept fit = fine_only w me tx (call.XShutdown h slot) a refl refl refl fit
kept_fine w me tx (call.XSendmsg h bytes slot) a kept fit = fine_only w me tx (call.XSendmsg h bytes slot) a refl refl refl fit
kept_fine w me tx (call.XThreadCreate body slot) a kept fit = fine_only w me tx (call.XThreadCreate body slot) a refl refl refl fit
kept_fine w me tx _ a kept fit = cc kept

-- what a call on words does is what the words alone say
record ByWords (w : World) (c : Call) (s : Stepped) : Type 0 where
  words : s.world.words ≡ words_after w.words c
  gives : s.reply ≡ word_reply w.words c

-- a load replies so
load_by : (b : Bool) (w : World) (me : Private) (n : ℕ)
    → (if b then step_to w me reply.BadWord else step_to w me (reply.Number n)).reply ≡ (if b then reply.BadWord else reply.Number n)
load_by true w me n = refl
load_by false w me n = refl

-- and leaves the words
load_words : (b : Bool) (w : World) (me : Private) (n : ℕ)
    → (if b then step_to w me reply.BadWord else step_to w me (reply.Number n)).world.words ≡ w.words
load_words true w me n = refl
load_words false w me n = refl

-- a store replies so
store_by : (b : Bool) (w : World) (me : Private) (ws : List ℕ)
    → (if b then step_to w me reply.BadWord else step_to (record w { words = ws }) me reply.Done).reply ≡ (if b then reply.BadWord else reply.Done)
store_by true w me ws = refl
store_by false w me ws = refl

-- and leaves these words
store_words : (b : Bool) (w : World) (me : Private) (ws : List ℕ)
    → (if b then step_to w me reply.BadWord else step_to (record w { words = ws }) me reply.Done).world.words ≡ (if b then w.words else ws)
store_words true w me ws = refl
store_words false w me ws = refl

-- a call on words acts by them
by_words : (w : World) (me : Private) (tx : ℕ) (c : Call) → is_word_call c ≡ true → ByWords w c (act w me tx c answer.Fine)
by_words w me tx (call.Load at) word =
    let b = nat_le (length w.words) at in
    record { words = load_words b w me (slice_index w.words at); gives = load_by b w me (slice_index w.words at) }
by_words w me tx (call.Store at value) word =
    let b = nat_le (length w.words) at in
    record { words = store_words b w me (slice_set w.words at value); gives = store_by b w me (slice_set w.words at value) }
by_words w me tx _ word = cc word

-- ---- calls that are kept: the reply doesn't look at the world, which stays
abbrev kept_reply : Private → Call → Reply
kept_reply me c =
    if is_bad_handle c me then reply.BadHandle else if is_too_big c then reply.TooBig else if is_too_much c me then reply.TooMuch else reply.Late

-- it replies so, and leaves the words
record RepliesSo (w : World) (r : Reply) (s : Stepped) : Type 0 where
  words : s.world.words ≡ w.words
  gives : s.reply ≡ r

-- where the checks choose
chosen_kept : (a b c : Bool) (w : World) (me you : Private)
    → RepliesSo w (if a then reply.BadHandle else if b then reply.TooBig else if c then reply.TooMuch else reply.Late)
    (if a then step_to w me reply.BadHandle else if b then step_to w me reply.TooBig else if c then step_to w me reply.TooMuch
    else step_to w you reply.Late)
chosen_kept true b c w me you = record { words = refl; gives = refl }
chosen_kept false true c w me you = record { words = refl; gives = refl }
chosen_kept false false true w me you = record { words = refl; gives = refl }
chosen_kept false false false w me you = record { words = refl; gives = refl }

-- so it is of a call that is kept
kept_so : (w : World) (me : Private) (c : Call)
    → RepliesSo w (kept_reply me c)
    (if is_bad_handle c me then step_to w me reply.BadHandle else if is_too_big c then step_to w me reply.TooBig
    else if is_too_much c me then step_to w me reply.TooMuch else step_to w (storing_call c me) reply.Late)
kept_so w me c = chosen_kept (is_bad_handle c me) (is_too_big c) (is_too_much c me) w me (storing_call c me)

-- which acts by its checks
kept_by : (w : World) (me : Private) (tx : ℕ) (c : Call) → is_kept c ≡ true → RepliesSo w (kept_reply me c) (act w me tx c answer.Fine)
kept_by w me tx (call.XUnlink name slot) kept = kept_so w me (call.XUnlink name slot)
kept_by w me tx (call.XSync h slot) kept = kept_so w me (call.XSync h slot)
kept_by w me tx (call.XWritePipe h bytes slot) kept = kept_so w me (call.XWritePipe h bytes slot)
kept_by w me tx (call.XShutdown h slot) kept = kept_so w me (call.XShutdown h slot)
kept_by w me tx (call.XSendmsg h bytes slot) kept = kept_so w me (call.XSendmsg h bytes slot)
kept_by w me tx (call.XThreadCreate body slot) kept = kept_so w me (call.XThreadCreate body slot)
kept_by w me tx _ kept = cc kept

-- ---- any call
-- with an answer that fits, a call leaves the words that it says
pub act_words : (w : World) (me : Private) (tx : ℕ) (c : Call) (a : Answer) → IsTrue (fits w me tx c a)
    → (act w me tx c a).world.words ≡ words_after w.words c
act_words w me tx c a fit = by_test (is_word_call c) (is_kept c) refl refl
  where
    still : (d : Call) → is_word_call d ≡ false → w.words ≡ words_after w.words d
    still (call.Load at) e = cc e
    still (call.Store at value) e = cc e
    still _ e = refl

    kept_no_word : (d : Call) → is_kept d ≡ true → is_word_call d ≡ false
    kept_no_word (call.Load at) e = cc e
    kept_no_word (call.Store at value) e = cc e
    kept_no_word _ e = refl

    by_test : (word kept : Bool) → is_word_call c ≡ word → is_kept c ≡ kept → (act w me tx c a).world.words ≡ words_after w.words c
    by_test true kept e f =
        ap (λ b. (act w me tx c b).world.words) (word_fine w me tx c a e fit) ∙ (by_words w me tx c e).words
    by_test false true e f =
        ap (λ b. (act w me tx c b).world.words) (kept_fine w me tx c a f fit) ∙ (kept_by w me tx c f).words ∙ still c e
    by_test false false e f = (act_stays w me tx c a e f).words ∙ still c e

-- a call on words replies as they say
pub act_word : (w : World) (me : Private) (tx : ℕ) (c : Call) (a : Answer) → IsTrue (fits w me tx c a) → is_word_call c ≡ true
    → (act w me tx c a).reply ≡ word_reply w.words c
act_word w me tx c a fit word = ap (λ b. (act w me tx c b).reply) (word_fine w me tx c a word fit) ∙ (by_words w me tx c word).gives

-- one that is kept replies the same in every world
pub act_kept : (w v : World) (me : Private) (tx : ℕ) (c : Call) (a : Answer) → IsTrue (fits w me tx c a) → is_kept c ≡ true
    → (act w me tx c a).reply ≡ (act v me tx c answer.Fine).reply
act_kept w v me tx c a fit kept =
    ap (λ b. (act w me tx c b).reply) (kept_fine w me tx c a kept fit) ∙ (kept_by w me tx c kept).gives ∙ sym (kept_by v me tx c kept).gives

-- a load replies at once
load_now : (b : Bool) (n : ℕ) → is_late (if b then reply.BadWord else reply.Number n) ≡ false
load_now true n = refl
load_now false n = refl

-- and so does a store
store_now : (b : Bool) → is_late (if b then reply.BadWord else reply.Done) ≡ false
store_now true = refl
store_now false = refl

-- any call on words does
word_now : (words : List ℕ) (c : Call) → is_word_call c ≡ true → is_late (word_reply words c) ≡ false
word_now words (call.Load at) word = load_now (nat_le (length words) at) (slice_index words at)
word_now words (call.Store at value) word = store_now (nat_le (length words) at)
word_now words _ word = cc word

-- and no other one replies late
pub act_now : (w : World) (me : Private) (tx : ℕ) (c : Call) (a : Answer) → IsTrue (fits w me tx c a) → is_kept c ≡ false
    → is_late (act w me tx c a).reply ≡ false
act_now w me tx c a fit now = by_test (is_word_call c) refl
  where
    by_test : (word : Bool) → is_word_call c ≡ word → is_late (act w me tx c a).reply ≡ false
    by_test true e = ap is_late (act_word w me tx c a fit e) ∙ word_now w.words c e
    by_test false e = (act_stays w me tx c a e now).now
