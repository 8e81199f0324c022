-- What a late call does depends on its object alone, and it changes no other.
use Rattle.std.proofs.Common.{◌≡◌, ℕ, true, not, Option, Some, None, List, [], ◌∷◌, ◌++◌, length, take, ap, ◌∙◌, subst, refl}
use Rattle.std.specs.Prelude.{min, nat_lt, nat_le, nat_eq, ◌==◌, ◌||◌, All, Contains}
use Rattle.std.specs.List.{list_any}
use Rattle.std.specs.Cmp.Lexicographic.{pointwise}
use Rattle.std.specs.FinMap as map
use Rattle.std.proofs.lemmas.List.Elements.{All-contains}
use Rattle.xc_data.specs.declared.object.Num.{Num}
use Rattle.xc_data.specs.declared.object.Object.{Object}
use Rattle.xc_data.specs.declared.object.Object.TheVariants as object
use Rattle.xc_data.specs.declared.call.LateCall.{LateCall}
use Rattle.xc_data.specs.declared.call.LateCall.TheVariants.{Unlink, Sync, WritePipe, Shutdown, Send, Thread}
use Rattle.xc_data.specs.declared.call.LateEnd.{LateEnd}
use Rattle.xc_data.specs.declared.call.LateEnd.TheVariants as end
use Rattle.xc_data.specs.declared.call.LateAnswer.{LateAnswer}
use Rattle.xc_data.specs.declared.call.LateAnswer.TheVariants as late_answer
use Rattle.xc_world.specs.World.{World, Pipe, Pair, pipe_of, pair_of, waiting, other_side}
use Rattle.xc_world.specs.Late.{ends, late, late_fine, stopped, unlinked, room, with_put, pipe_written, shut_down, sent_to, sent, is_block, thread_started}
use Rattle.xc_world.specs.Laws.{AgreeAt, GoAlike, EndsAlike, late_objects}
use Rattle.xc_world.proofs.LocalParts.{both_so, first_in, same_alike, gone_alike, pipe_alike, pair_alike, job_alike}
use Rattle.xc_world.proofs.LocalCalls.{same_pipe, same_pair, same_name}

module _ (objects : List Object) (w v : World) where
  rests : (a b : LateEnd) → a ≡ b → All (AgreeAt w v) objects → EndsAlike objects w v (ends w a) (ends v b)
  rests a b e agree = record { end = e; worlds = same_alike objects w v agree }

  moves : (x y : World) (a b : LateEnd) → a ≡ b → GoAlike objects w v x y → EndsAlike objects w v (ends x a) (ends y b)
  moves x y a b e worlds = record { end = e; worlds = worlds }

  unlinked_alike : (name : List ℕ) (o q : Option Num) → o ≡ q → Contains objects (object.Name name) → All (AgreeAt w v) objects
      → EndsAlike objects w v (unlinked w name o) (unlinked v name q)
  unlinked_alike name o q e has agree = subst (λ there. EndsAlike objects w v (unlinked w name o) (unlinked v name there)) e (same o)
    where
      same : (o : Option Num) → EndsAlike objects w v (unlinked w name o) (unlinked v name o)
      same None = rests end.NoName end.NoName refl agree
      same (Some num) = moves _ _ end.Done end.Done refl (gone_alike objects w v name has agree)

  put_alike : (num : Num) (bytes more : List ℕ) → bytes ≡ more → Contains objects (object.Pipe num) → All (AgreeAt w v) objects
      → GoAlike objects w v (with_put w num bytes) (with_put v num more)
  put_alike num bytes more e has agree =
      pipe_alike objects w v num (record (pipe_of w num) { held = (pipe_of w num).held ++ bytes })
      (record (pipe_of v num) { held = (pipe_of v num).held ++ more })
      (ap (λ (p : Pipe). record p { held = p.held ++ bytes }) (same_pipe objects w v num has agree)
      ∙ ap (λ b. record (pipe_of v num) { held = (pipe_of v num).held ++ b }) e) has agree

  written_alike : (num : Num) (bytes : List ℕ) → Contains objects (object.Pipe num) → All (AgreeAt w v) objects
      → EndsAlike objects w v (pipe_written w num bytes) (pipe_written v num bytes)
  written_alike num bytes has agree =
      let e = same_pipe objects w v num has agree in
      both_so (EndsAlike objects w v) (pipe_of w num).shut (pipe_of v num).shut _ _ _ _ (ap (λ (p : Pipe). p.shut) e)
      (λ _. rests end.Shut end.Shut refl agree) (λ _.
      both_so (EndsAlike objects w v) (nat_lt (room (pipe_of w num)) (length bytes)) (nat_lt (room (pipe_of v num)) (length bytes)) _ _ _ _
      (ap (λ p. nat_lt (room p) (length bytes)) e)
      (λ _. moves _ _ _ _ (ap (λ p. end.Full (room p)) e)
      (put_alike num (take (room (pipe_of w num)) bytes) (take (room (pipe_of v num)) bytes) (ap (λ p. take (room p) bytes) e) has agree))
      (λ _. moves _ _ end.Done end.Done refl (put_alike num bytes bytes refl has agree)))

  shut_alike : (o : Object) → Contains objects o → All (AgreeAt w v) objects → EndsAlike objects w v (shut_down w o) (shut_down v o)
  shut_alike (object.Pipe num) has agree =
      moves _ _ end.Done end.Done refl (pipe_alike objects w v num (record (pipe_of w num) { shut = true }) (record (pipe_of v num) { shut = true })
      (ap (λ (p : Pipe). record p { shut = true }) (same_pipe objects w v num has agree)) has agree)
  shut_alike (object.Pair num) has agree =
      moves _ _ end.Done end.Done refl (pair_alike objects w v num (record (pair_of w num) { shut = true }) (record (pair_of v num) { shut = true })
      (ap (λ (p : Pair). record p { shut = true }) (same_pair objects w v num has agree)) has agree)
  shut_alike _ has agree = rests end.Done end.Done refl agree

  sent_alike : (num : Num) (side : ℕ) (bytes : List ℕ) → Contains objects (object.Pair num) → All (AgreeAt w v) objects
      → EndsAlike objects w v (sent w num side bytes) (sent v num side bytes)
  sent_alike num side bytes has agree =
      let e = same_pair objects w v num has agree in
      both_so (EndsAlike objects w v) (pair_of w num).shut (pair_of v num).shut _ _ _ _ (ap (λ (p : Pair). p.shut) e)
      (λ _. rests end.Shut end.Shut refl agree) (λ _.
      both_so (EndsAlike objects w v) (nat_le 8 (length (waiting (pair_of w num) (other_side side))))
      (nat_le 8 (length (waiting (pair_of v num) (other_side side)))) _ _ _ _
      (ap (λ p. nat_le 8 (length (waiting p (other_side side)))) e) (λ _. rests (end.Full 0) (end.Full 0) refl agree)
      (λ _. moves _ _ end.Done end.Done refl
      (pair_alike objects w v num (sent_to (pair_of w num) (other_side side) bytes) (sent_to (pair_of v num) (other_side side) bytes)
      (ap (λ p. sent_to p (other_side side) bytes) e) has agree)))

  started_alike : (body : List ℕ) → w.blocks ≡ v.blocks → w.started ≡ v.started → Contains objects object.Jobs → All (AgreeAt w v) objects
      → EndsAlike objects w v (thread_started w body) (thread_started v body)
  started_alike body blocks started has agree =
      both_so (EndsAlike objects w v) (not (is_block w body)) (not (is_block v body)) _ _ _ _
      (ap (λ names. not (list_any (λ block. pointwise nat_eq block body) names)) blocks) (λ _. rests end.NoScript end.NoScript refl agree) (λ _.
      both_so (EndsAlike objects w v) (nat_le 1000 (length w.started)) (nat_le 1000 (length v.started)) _ _ _ _ (ap (λ s. nat_le 1000 (length s)) started)
      (λ _. rests (end.Full 0) (end.Full 0) refl agree)
      (λ _. moves _ _ end.Done end.Done refl (job_alike objects w v body has agree)))

fine_alike : (w v : World) (c : LateCall) → w.blocks ≡ v.blocks → All (AgreeAt w v) (late_objects c)
    → EndsAlike (late_objects c) w v (late_fine w c) (late_fine v c)
fine_alike w v (Unlink name) blocks agree =
    let has = first_in (object.Name name) [] in
    unlinked_alike _ w v name (map.get w.names name) (map.get v.names name) (same_name (object.Name name ∷ []) w v name has agree) has agree
fine_alike w v (Sync num) blocks agree = rests _ w v end.Done end.Done refl agree
fine_alike w v (WritePipe num bytes) blocks agree = written_alike _ w v num bytes (first_in (object.Pipe num) []) agree
fine_alike w v (Shutdown o) blocks agree = shut_alike _ w v o (first_in o []) agree
fine_alike w v (Send num side bytes) blocks agree = sent_alike _ w v num side bytes (first_in (object.Pair num) []) agree
fine_alike w v (Thread body) blocks agree =
    let has = first_in object.Jobs [] in
    started_alike _ w v body blocks (All-contains (AgreeAt w v) (object.Jobs ∷ []) object.Jobs agree has) has agree

stopped_alike : (w v : World) (c : LateCall) (n : ℕ) → All (AgreeAt w v) (late_objects c) → GoAlike (late_objects c) w v (stopped w c n) (stopped v c n)
stopped_alike w v (WritePipe num bytes) n agree =
    let has = first_in (object.Pipe num) [] in
    let e = same_pipe (object.Pipe num ∷ []) w v num has agree in
    both_so (GoAlike (object.Pipe num ∷ []) w v) (n == 0 || (pipe_of w num).shut) (n == 0 || (pipe_of v num).shut) _ _ _ _
    (ap (λ (p : Pipe). n == 0 || p.shut) e) (λ _. same_alike _ w v agree)
    (λ _. put_alike _ w v num (take (min n (room (pipe_of w num))) bytes) (take (min n (room (pipe_of v num))) bytes)
    (ap (λ p. take (min n (room p)) bytes) e) has agree)
stopped_alike w v _ n agree = same_alike _ w v agree

-- the object agrees afterwards, and each other is as before, on both sides
pub late_alike : (w v : World) (c : LateCall) (a : LateAnswer) → w.blocks ≡ v.blocks → All (AgreeAt w v) (late_objects c)
    → EndsAlike (late_objects c) w v (late w c a) (late v c a)
late_alike w v c late_answer.Fine blocks agree = fine_alike w v c blocks agree
late_alike w v c (late_answer.Fault n) blocks agree = moves _ w v _ _ (end.Fault n) (end.Fault n) refl (stopped_alike w v c n agree)
late_alike w v c (late_answer.NoMemory n) blocks agree = moves _ w v _ _ (end.NoMemory n) (end.NoMemory n) refl (stopped_alike w v c n agree)
