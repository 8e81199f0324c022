-- What a call does is the effect of its record, outside the words.
use Rattle.std.proofs.Common.{◌≡◌, ℕ, ◌+◌, Bool, true, false, Option, Some, None, List, [], ◌∷◌, ◌++◌, length, take, drop, refl, ap, sym, ◌∙◌, subst, arith}
use Rattle.std.proofs.Common.{take_all}
use Rattle.std.specs.Prelude.{◌==◌, nat_lt, nat_le, if◌then◌else◌}
use Rattle.std.specs.FinMap as finite
use Rattle.std.proofs.lemmas.Bool.{cond_both}
use Rattle.xc_data.specs.declared.object.Num.{Num}
use Rattle.xc_data.specs.declared.call.Call.{Call}
use Rattle.xc_data.specs.declared.call.Call.TheVariants as call
use Rattle.xc_data.specs.declared.call.Answer.{Answer}
use Rattle.xc_data.specs.declared.call.Answer.TheVariants as answer
use Rattle.xc_data.specs.declared.call.Reply.TheVariants as reply
use Rattle.xc_data.specs.declared.undo.Undo.{Undo}
use Rattle.xc_data.specs.declared.undo.Undo.TheVariants.{Overwrite, Append}
use Rattle.xc_data.specs.declared.private.Place.{Place}
use Rattle.xc_data.specs.declared.private.Place.TheVariants.{Vacant, File, Pipe, Pair}
use Rattle.xc_data.specs.declared.private.Private.{Private}
use Rattle.xc_data.specs.Private.{place_of, with_place, lowest_vacant}
use Rattle.xc_world.specs.World.{World, file_of, with_file}
use Rattle.xc_world.specs.Act.Step.{Stepped, step_to}
use Rattle.xc_world.specs.Act.Names.{next_num, open_step, create_step, rename_step}
use Rattle.xc_world.specs.Act.Files.{open_at, read_step, read_at, overwritten, put, overwrite_at, append_step, append_at, seek_at, len_at, overwrite_short}
use Rattle.xc_world.specs.Act.Files.{append_short}
use Rattle.xc_world.specs.Act.Pipes.{new_pipe, pair_made, new_pair}
use Rattle.xc_world.specs.Act.{fine, faulty, done, act}
use Rattle.xc_world.specs.Trail.{done_of, overwrite_record, append_record, create_record, rename_record, pipe_record, pair_record, recorded, move_name}
use Rattle.xc_world.specs.Ends.{with_remains}
use Rattle.xc_world.specs.Effects.{whole, takes_data}
use Rattle.xc_world.proofs.UndoingBody.{refusal-none, act-cases, undone-none}
use Rattle.xc_world.proofs.EffectsParts.{with_words}

-- from w to v by these records, outside the words
abbrev pub LeadsByRecords : World → World → List Undo → Type 0
LeadsByRecords w v us = v ≡ with_words (with_remains w (whole us)) v.words

-- nothing is recorded, and the world is as it was
abbrev pub RecordsNothing : World → Stepped → Type 0
RecordsNothing w s = LeadsByRecords w s.world []

-- a write of no byte records nothing, any other one record
none_leads : (w : World) (us : List Undo) (b : Bool) → b ≡ true → LeadsByRecords w w (if b then [] else us)
none_leads w us b e = subst (λ c. LeadsByRecords w w (if c then [] else us)) (sym e) refl

one_leads : (w v : World) (us : List Undo) (b : Bool) → b ≡ false → LeadsByRecords w v us → LeadsByRecords w v (if b then [] else us)
one_leads w v us b e h = subst (λ c. LeadsByRecords w v (if c then [] else us)) (sym e) h

-- ---- overwrites
abbrev pub LeadsOverwrite : World → List ℕ → Place → Stepped → Type 0
LeadsOverwrite w bytes p s = LeadsByRecords w s.world (overwrite_record w bytes (done_of (length bytes) s.reply) p)

-- an effect from the first covered byte on
pub at_start : (at : ℕ) (bytes file : List ℕ) → overwritten (at + 0) bytes file ≡ overwritten at bytes file
at_start at bytes file = let e : at + 0 ≡ at = omega arith in ap (λ i. overwritten i bytes file) e

put-leads : (w : World) (num : Num) (at n : ℕ) (before bytes written : List ℕ) → written ≡ take n bytes
    → LeadsByRecords w (with_file w num (overwritten at written (file_of w num))) (Overwrite num at before bytes n ∷ [])
put-leads w num at n before bytes written e =
    ap (λ x. with_file w num (overwritten at x (file_of w num))) e ∙ ap (with_file w num) (sym (at_start at (take n bytes) (file_of w num)))

overwrite_at-leads : (w : World) (me : Private) (h : ℕ) (bytes : List ℕ) (p : Place) → LeadsOverwrite w bytes p (overwrite_at w me h bytes p)
overwrite_at-leads w me h bytes (File num at) =
    let before = take (length bytes) (drop at (file_of w num)) in
    cond_both (length bytes == 0) _ _ (LeadsOverwrite w bytes (File num at)) (λ none. none_leads w _ (length bytes == 0) none) (λ some.
    cond_both (nat_lt (length (file_of w num)) (at + length bytes)) (step_to w me reply.PastEnd) (put w me (open_at h num at) bytes reply.Done)
    (LeadsOverwrite w bytes (File num at)) (λ _. refl) (λ _.
    one_leads w _ (Overwrite num at before bytes (length bytes) ∷ []) (length bytes == 0) some
    (put-leads w num at (length bytes) before bytes bytes (sym (take_all (length bytes) bytes (omega arith))))))
overwrite_at-leads w me h bytes Vacant = refl
overwrite_at-leads w me h bytes (Pipe num) = refl
overwrite_at-leads w me h bytes (Pair num side) = refl

overwrite_short-leads : (w : World) (me : Private) (h : ℕ) (bytes : List ℕ) (n : ℕ) (p : Place) → LeadsOverwrite w bytes p (overwrite_short w me (h, p) bytes n)
overwrite_short-leads w me h bytes n (File num at) =
    let before = take (length bytes) (drop at (file_of w num)) in
    cond_both (n == 0) _ _ (LeadsOverwrite w bytes (File num at)) (λ none. none_leads w _ (n == 0) none) (λ some.
    one_leads w _ (Overwrite num at before bytes n ∷ []) (n == 0) some (put-leads w num at n before bytes (take n bytes) refl))
overwrite_short-leads w me h bytes n Vacant = refl
overwrite_short-leads w me h bytes n (Pipe num) = refl
overwrite_short-leads w me h bytes n (Pair num side) = refl

-- ---- appends
abbrev pub LeadsAppend : World → List ℕ → Place → Stepped → Type 0
LeadsAppend w bytes p s = LeadsByRecords w s.world (append_record w bytes (done_of (length bytes) s.reply) p)

appended-leads : (w : World) (num : Num) (from n : ℕ) (bytes written : List ℕ) → written ≡ take n bytes
    → LeadsByRecords w (with_file w num (file_of w num ++ written)) (Append num from bytes n ∷ [])
appended-leads w num from n bytes written e = ap (λ x. with_file w num (file_of w num ++ x)) e

append_at-leads : (w : World) (me : Private) (h : ℕ) (bytes : List ℕ) (p : Place) → LeadsAppend w bytes p (append_at w me h bytes p)
append_at-leads w me h bytes (File num at) =
    let from = length (file_of w num) in
    cond_both (length bytes == 0) _ _ (LeadsAppend w bytes (File num at)) (λ none. none_leads w _ (length bytes == 0) none) (λ some.
    cond_both (nat_lt 65536 (from + length bytes)) (step_to w me reply.TooBig) (append_step w me (open_at h num at) bytes reply.Done)
    (LeadsAppend w bytes (File num at)) (λ _. refl) (λ _.
    one_leads w _ (Append num from bytes (length bytes) ∷ []) (length bytes == 0) some
    (appended-leads w num from (length bytes) bytes bytes (sym (take_all (length bytes) bytes (omega arith))))))
append_at-leads w me h bytes Vacant = refl
append_at-leads w me h bytes (Pipe num) = refl
append_at-leads w me h bytes (Pair num side) = refl

append_short-leads : (w : World) (me : Private) (h : ℕ) (bytes : List ℕ) (n : ℕ) (p : Place) → LeadsAppend w bytes p (append_short w me (h, p) bytes n)
append_short-leads w me h bytes n (File num at) =
    let from = length (file_of w num) in
    cond_both (n == 0) _ _ (LeadsAppend w bytes (File num at)) (λ none. none_leads w _ (n == 0) none) (λ some.
    one_leads w _ (Append num from bytes n ∷ []) (n == 0) some (appended-leads w num from n bytes (take n bytes) refl))
append_short-leads w me h bytes n Vacant = refl
append_short-leads w me h bytes n (Pipe num) = refl
append_short-leads w me h bytes n (Pair num side) = refl

-- ---- names, pipes and pairs
created-leads : (w : World) (me : Private) (tx : ℕ) (name : List ℕ) (o : Option Num) (vacant : Option ℕ)
    → LeadsByRecords w (create_step w me tx name (o, vacant)).world (create_record me tx name (create_step w me tx name (o, vacant)).reply)
created-leads w me tx name (Some num) vacant = refl
created-leads w me tx name None None = refl
created-leads w me tx name None (Some h) = refl

renamed-leads : (w : World) (me : Private) (from to : List ℕ) (o there : Option Num) → finite.get w.names from ≡ o
    → LeadsByRecords w (rename_step w me from to (o, there)).world (rename_record from to (rename_step w me from to (o, there)).reply)
renamed-leads w me from to None there e = refl
renamed-leads w me from to (Some num) (Some other) e = refl
renamed-leads w me from to (Some num) None e = ap (λ o. with_words (move_name w from to o) w.words) (sym e)

opened-leads : (w : World) (me : Private) (o : Option Num) (vacant : Option ℕ) → RecordsNothing w (open_step w me o vacant)
opened-leads w me None vacant = refl
opened-leads w me (Some num) None = refl
opened-leads w me (Some num) (Some h) = refl

new_pipe-leads : (w : World) (me : Private) (tx : ℕ) (vacant : Option ℕ)
    → LeadsByRecords w (new_pipe w me tx vacant).world (pipe_record me tx (new_pipe w me tx vacant).reply)
new_pipe-leads w me tx None = refl
new_pipe-leads w me tx (Some h) = refl

pair_made-leads : (w : World) (me : Private) (tx h : ℕ) (p : Place) (vacant : Option ℕ)
    → LeadsByRecords w (pair_made w (with_place me h p) tx h vacant).world (pair_record me tx (pair_made w (with_place me h p) tx h vacant).reply)
pair_made-leads w me tx h p None = refl
pair_made-leads w me tx h p (Some g) = refl

new_pair-leads : (w : World) (me : Private) (tx : ℕ) (vacant : Option ℕ)
    → LeadsByRecords w (new_pair w me tx vacant).world (pair_record me tx (new_pair w me tx vacant).reply)
new_pair-leads w me tx None = refl
new_pair-leads w me tx (Some h) =
    let first = Pair (next_num me tx) 0 in
    pair_made-leads w me tx h first (lowest_vacant (with_place me h first).places)

-- ---- calls on files that change none
read_at-leads : (w : World) (me : Private) (h n : ℕ) (p : Place) → RecordsNothing w (read_at w me h n p)
read_at-leads w me h n (File num at) =
    cond_both (n == 0) (step_to w me (reply.Got [])) _ (RecordsNothing w) (λ _. refl) (λ _.
    cond_both (nat_le (length (file_of w num)) at) (step_to w me reply.End) (read_step w me (open_at h num at) (take n (drop at (file_of w num))))
    (RecordsNothing w)
    (λ _. refl) (λ _. refl))
read_at-leads w me h n Vacant = refl
read_at-leads w me h n (Pipe num) = refl
read_at-leads w me h n (Pair num side) = refl

seek_at-leads : (w : World) (me : Private) (h to : ℕ) (p : Place) → RecordsNothing w (seek_at w me h to p)
seek_at-leads w me h to (File num at) =
    cond_both (nat_lt 65536 to) (step_to w me reply.TooBig) (step_to w (with_place me h (File num to)) reply.Done) (RecordsNothing w) (λ _. refl) (λ _. refl)
seek_at-leads w me h to Vacant = refl
seek_at-leads w me h to (Pipe num) = refl
seek_at-leads w me h to (Pair num side) = refl

len_at-leads : (w : World) (me : Private) (p : Place) → RecordsNothing w (len_at w me p)
len_at-leads w me (File num at) = refl
len_at-leads w me Vacant = refl
len_at-leads w me (Pipe num) = refl
len_at-leads w me (Pair num side) = refl

-- ---- every call
abbrev pub LeadsCall : World → Private → ℕ → Call → Stepped → Type 0
LeadsCall w me tx c s = LeadsByRecords w s.world (recorded w me tx c s.reply)

fine-leads : (w : World) (me : Private) (tx : ℕ) (c : Call) → takes_data c ≡ false → LeadsCall w me tx c (fine w me tx c)
fine-leads w me tx (call.Load at) e = refl
fine-leads w me tx (call.Store at value) e = refl
fine-leads w me tx (call.XOpen name) e = opened-leads w me (finite.get w.names name) (lowest_vacant me.places)
fine-leads w me tx (call.XCreate name) e = created-leads w me tx name (finite.get w.names name) (lowest_vacant me.places)
fine-leads w me tx (call.XRead h n) e = read_at-leads w me h n (place_of me.places h)
fine-leads w me tx (call.XWriteOvr h bytes) e = overwrite_at-leads w me h bytes (place_of me.places h)
fine-leads w me tx (call.XWriteSeq h bytes) e = append_at-leads w me h bytes (place_of me.places h)
fine-leads w me tx (call.XSeek h to) e = seek_at-leads w me h to (place_of me.places h)
fine-leads w me tx (call.XLen h) e = len_at-leads w me (place_of me.places h)
fine-leads w me tx (call.XRename from to) e = renamed-leads w me from to (finite.get w.names from) (finite.get w.names to) refl
fine-leads w me tx call.XPipe e = new_pipe-leads w me tx (lowest_vacant me.places)
fine-leads w me tx (call.XReadPipe h n) e = cc
fine-leads w me tx call.XPair e = new_pair-leads w me tx (lowest_vacant me.places)
fine-leads w me tx (call.XRecvmsg h) e = cc
fine-leads w me tx _ e = refl

faulty-leads : (w : World) (me : Private) (tx : ℕ) (c : Call) (n : ℕ) → LeadsCall w me tx c (faulty w me c n)
faulty-leads w me tx (call.XWriteOvr h bytes) n = overwrite_short-leads w me h bytes n (place_of me.places h)
faulty-leads w me tx (call.XWriteSeq h bytes) n = append_short-leads w me h bytes n (place_of me.places h)
faulty-leads w me tx _ n = refl

refused-leads : (w : World) (us : List Undo) → us ≡ [] → LeadsByRecords w w us
refused-leads w us e = subst (LeadsByRecords w w) (sym e) refl

done-leads : (w : World) (me : Private) (tx : ℕ) (c : Call) (a : Answer) → takes_data c ≡ false → LeadsCall w me tx c (done w me tx c a)
done-leads w me tx c answer.Fine e = fine-leads w me tx c e
done-leads w me tx c (answer.Fault n) e = faulty-leads w me tx c n
done-leads w me tx c (answer.Undone n) e = refused-leads w _ (undone-none w me tx c n)

-- but for the words, a call that takes no data leaves the world with the effect of its record
pub act-leads : (w : World) (me : Private) (tx : ℕ) (c : Call) (a : Answer) → takes_data c ≡ false
    → (act w me tx c a).world ≡ record (with_remains w (whole (recorded w me tx c (act w me tx c a).reply))) { words = (act w me tx c a).world.words }
act-leads w me tx c a e =
    let none = refusal-none w me tx c in
    act-cases w me tx c a (LeadsCall w me tx c) (refused-leads w _ none.bad_handle) (refused-leads w _ none.too_big)
    (refused-leads w _ none.too_much) (refused-leads w _ none.bad_word) (done-leads w me tx c a e)
