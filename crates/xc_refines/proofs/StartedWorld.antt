-- Which jobs are started in a world: a body starts none, and its late calls those that end so.
use Rattle.std.proofs.Common.{◌≡◌, ◌<◌, ◌≤◌, ℕ, Bool, true, false, not, List, [], ◌∷◌, ◌++◌, length, map, take, Some, None, Option, refl, ap, sym}
use Rattle.std.proofs.Common.{◌∙◌, subst, arith, append-nil, append_assoc}
use Rattle.std.specs.Prelude.{◌||◌, ◌==◌, IsTrue, min, nat_eq, nat_le, nat_lt, if◌then◌else◌}
use Rattle.std.specs.FinMap as finite
use Rattle.std.specs.Cmp.Lexicographic.{pointwise}
use Rattle.std.specs.List.{list_any}
use Rattle.std.proofs.lemmas.Bool.Decides.{nat_tests}
use Rattle.xc_data.specs.declared.call.LateAnswer.{LateAnswer}
use Rattle.xc_data.specs.declared.call.LateAnswer.TheVariants as late_answer
use Rattle.xc_data.specs.declared.call.LateCall.{LateCall}
use Rattle.xc_data.specs.declared.call.LateCall.TheVariants.{Unlink, Sync, WritePipe, Shutdown, Send, Thread}
use Rattle.xc_data.specs.declared.call.LateEnd.{LateEnd}
use Rattle.xc_data.specs.declared.call.LateEnd.TheVariants as end
use Rattle.xc_data.specs.declared.entry.KeptItem.{KeptItem}
use Rattle.xc_data.specs.declared.entry.KeptItem.TheVariants.{Bytes, Message}
use Rattle.xc_data.specs.declared.object.Num.{Num}
use Rattle.xc_data.specs.declared.object.Object.TheVariants as object
use Rattle.xc_text.specs.declared.script.Script.{Script}
use Rattle.xc_world.specs.World.{World, pipe_of, pair_of, waiting, with_pair, other_side}
use Rattle.xc_world.specs.Late.{Ended, ends, late, late_fine, is_block, room, sent_to, stopped, thread_started, unlinked, with_put}
use Rattle.xc_world.specs.Fits.{late_fits, late_answer_of}
use Rattle.xc_world.specs.Run.{given_back, lates, late_asked_of}
use Rattle.xc_world.specs.Sound.{IsSound}
use Rattle.xc_model.specs.LateCalls.{started_late, started_with}
use Rattle.xc_data.specs.Calls.{thread_in}
use Rattle.xc_model.specs.Starts.{IsStart, is_block_in}
use Rattle.xc_world.specs.Effects.{whole}
use Rattle.xc_flight.specs.Active.{Tx}
use Rattle.xc_flight.specs.Flight.{Inside, ran}
use Rattle.xc_flight.proofs.Laws.{returns_left}
use Rattle.xc_world.specs.Ends.{with_remains}
use Rattle.xc_world.specs.Trail.{move_name, with_effect}
use Rattle.xc_data.specs.declared.undo.Undo.{Undo}
use Rattle.xc_data.specs.declared.undo.Undo.TheVariants as undo

-- ---- what stands changes no word and no job
abbrev pub SameBase : World → World → Type 0
SameBase w v = (v.words ≡ w.words) × (v.started ≡ w.started)

moved_base : (w : World) (from to : List ℕ) (o : Option Num) → SameBase w (move_name w from to o)
moved_base w from to None = (refl, refl)
moved_base w from to (Some num) = (refl, refl)

effect_base : (w : World) (u : Undo) (k : ℕ) → SameBase w (with_effect w u k)
effect_base w (undo.Overwrite file at before after n) k = (refl, refl)
effect_base w (undo.Append file from after n) k = (refl, refl)
effect_base w (undo.Create name num) k = (refl, refl)
effect_base w (undo.Rename from to) k = moved_base w from to (finite.get w.names from)
effect_base w (undo.NewPipe num) k = (refl, refl)
effect_base w (undo.NewPair num) k = (refl, refl)

-- nor do all that stand
pub remains_base : (w : World) (us : List (Undo × ℕ)) → SameBase w (with_remains w us)
remains_base w [] = (refl, refl)
remains_base w ((u, k) ∷ us) =
    let one = effect_base w u k in
    let more = remains_base (with_effect w u k) us in
    (more.0 ∙ one.0, more.1 ∙ one.1)

-- ---- a body
-- nor does what is given back
pub given_started : (w : World) (items : List KeptItem) → (given_back w items).started ≡ w.started
given_started w [] = refl
given_started w (Bytes num bytes ∷ items) = given_started w items
given_started w (Message num side bytes ∷ items) = given_started w items

-- it starts none
pub body_started : (w : World) (t : Tx) → Inside w t → IsSound w t.began t.number → (ran w t).world.started ≡ w.started
body_started w t i sound =
    sym (given_started (record (ran w t).world { words = w.words }) (ran w t).taken) ∙ ap (λ (v : World). v.started) (returns_left w t i sound)
    ∙ (remains_base w (whole (ran w t).trail)).1

-- ---- a late call
abbrev Starting : World → LateCall → Ended → Type 0
Starting w c e = e.world.started ≡ w.started ++ started_with (thread_in c) e.end

if_ended : (P : Ended → Type 0) (b : Bool) (x y : Ended) → P x → P y → P (if b then x else y)
if_ended P true x y px py = px
if_ended P false x y px py = py

if_started : (b : Bool) (w v : World) → v.started ≡ w.started → (if b then w else v).started ≡ w.started
if_started true w v e = refl
if_started false w v e = e

no_more : (w : World) → w.started ≡ w.started ++ []
no_more w = sym (append-nil w.started)

unlinks_none : (w : World) (name : List ℕ) (o : Option Num) → Starting w (Unlink name) (unlinked w name o)
unlinks_none w name None = no_more w
unlinks_none w name (Some num) = no_more w

fine_starts : (w : World) (c : LateCall) → Starting w c (late_fine w c)
fine_starts w (Unlink name) = unlinks_none w name (finite.get w.names name)
fine_starts w (Sync num) = no_more w
fine_starts w (WritePipe num bytes) =
    let P = Starting w (WritePipe num bytes) in
    let full = ends (with_put w num (take (room (pipe_of w num)) bytes)) (end.Full (room (pipe_of w num))) in
    let whole = ends (with_put w num bytes) end.Done in
    let long = nat_lt (room (pipe_of w num)) (length bytes) in
    if_ended P (pipe_of w num).shut (ends w end.Shut) (if long then full else whole) (no_more w) (if_ended P long full whole (no_more w) (no_more w))
fine_starts w (Shutdown (object.Pipe num)) = no_more w
fine_starts w (Shutdown (object.Pair num)) = no_more w
fine_starts w (Shutdown (object.Word at)) = no_more w
fine_starts w (Shutdown (object.Name name)) = no_more w
fine_starts w (Shutdown (object.File num)) = no_more w
fine_starts w (Shutdown object.Jobs) = no_more w
fine_starts w (Send num side bytes) =
    let P = Starting w (Send num side bytes) in
    let whole = ends (with_pair w num (sent_to (pair_of w num) (other_side side) bytes)) end.Done in
    let many = nat_le 8 (length (waiting (pair_of w num) (other_side side))) in
    if_ended P (pair_of w num).shut (ends w end.Shut) (if many then ends w (end.Full 0) else whole) (no_more w)
    (if_ended P many (ends w (end.Full 0)) whole (no_more w) (no_more w))
fine_starts w (Thread body) =
    let P = Starting w (Thread body) in
    let done = ends (record w { started = w.started ++ body ∷ [] }) end.Done in
    let many = nat_le 1000 (length w.started) in
    if_ended P (not (is_block w body)) (ends w end.NoScript) (if many then ends w (end.Full 0) else done) (no_more w)
    (if_ended P many (ends w (end.Full 0)) done (no_more w) refl)

stopped_none : (w : World) (c : LateCall) (n : ℕ) → (stopped w c n).started ≡ w.started
stopped_none w (WritePipe num bytes) n =
    if_started (n == 0 || (pipe_of w num).shut) w (with_put w num (take (min n (room (pipe_of w num))) bytes)) refl
stopped_none w _ n = refl

stops_none : (w : World) (c : LateCall) (o : Option (List ℕ)) (n : ℕ) (e : LateEnd) → started_with o e ≡ []
    → (stopped w c n).started ≡ w.started ++ started_with o e
stops_none w c o n e none = stopped_none w c n ∙ no_more w ∙ ap (λ bs. w.started ++ bs) (sym none)

fault_none : (o : Option (List ℕ)) (n : ℕ) → started_with o (end.Fault n) ≡ []
fault_none None n = refl
fault_none (Some block) n = refl

memory_none : (o : Option (List ℕ)) (n : ℕ) → started_with o (end.NoMemory n) ≡ []
memory_none None n = refl
memory_none (Some block) n = refl

one_starts : (w : World) (c : LateCall) (a : LateAnswer) → Starting w c (late w c a)
one_starts w c late_answer.Fine = fine_starts w c
one_starts w c (late_answer.Fault n) = stops_none w c (thread_in c) n (end.Fault n) (fault_none (thread_in c) n)
one_starts w c (late_answer.NoMemory n) = stops_none w c (thread_in c) n (end.NoMemory n) (memory_none (thread_in c) n)

-- several
lates_start : (w : World) (calls : List (LateCall × LateAnswer))
    → (lates w calls).world.started ≡ w.started ++ started_late (map (λ x. x.0) calls) (lates w calls).ends
lates_start w [] = no_more w
lates_start w ((c, a) ∷ rest) =
    let e = late w c a in
    let more = lates e.world rest in
    lates_start e.world rest ∙ ap (λ bs. bs ++ started_late (map (λ (x : LateCall × LateAnswer). x.0) rest) more.ends) (one_starts w c a)
    ∙ append_assoc w.started (started_with (thread_in c) e.end) (started_late (map (λ (x : LateCall × LateAnswer). x.0) rest) more.ends)

asked_calls : (calls : List LateCall) (es : List LateEnd) → map (λ (x : LateCall × LateAnswer). x.0) (late_asked_of calls es) ≡ calls
asked_calls [] es = refl
asked_calls (c ∷ calls) [] = ap (λ cs. c ∷ cs) (asked_calls calls [])
asked_calls (c ∷ calls) (e ∷ es) = ap (λ cs. c ∷ cs) (asked_calls calls es)

-- late calls that ended so start what their ends tell of
pub ended_start : (w : World) (calls : List LateCall) (es : List LateEnd) → (lates w (late_asked_of calls es)).ends ≡ es
    → (lates w (late_asked_of calls es)).world.started ≡ w.started ++ started_late calls es
ended_start w calls es same =
    lates_start w (late_asked_of calls es) ∙ (λ i. w.started ++ started_late (asked_calls calls es i) (same i))

-- ---- one that starts a job, on the plain machine
pub record DoesStart (w : World) (block : List ℕ) (e : LateEnd) (is : List (List ℕ)) : Type 0 where
  pub fits : IsTrue (late_fits w (Thread block) (late_answer_of e))
  pub step : late w (Thread block) (late_answer_of e) ≡ ends (record w { started = is }) e

few_of : (n : ℕ) → n < 1000 → nat_le 1000 n ≡ false
few_of n lt = grind (arith, nat_tests)

many_of : (n : ℕ) → 1000 ≤ n → nat_le 1000 n ≡ true
many_of n le = grind (arith, nat_tests)

module _ (script : Script) (w : World) (block : List ℕ) (blocks : w.blocks ≡ script.outline.jobs ++ script.outline.bodies) where
  same_block : is_block w block ≡ is_block_in script block
  same_block = ap (λ bs. list_any (λ b. pointwise nat_eq b block) bs) blocks

  known : is_block_in script block ≡ true → thread_started w block
      ≡ (if nat_le 1000 (length w.started) then ends w (end.Full 0) else ends (record w { started = w.started ++ block ∷ [] }) end.Done)
  known e = ap (λ b. if not b then ends w end.NoScript
      else if nat_le 1000 (length w.started) then ends w (end.Full 0) else ends (record w { started = w.started ++ block ∷ [] }) end.Done) (same_block ∙ e)

  unknown : is_block_in script block ≡ false → thread_started w block ≡ ends w end.NoScript
  unknown e = ap (λ b. if not b then ends w end.NoScript
      else if nat_le 1000 (length w.started) then ends w (end.Full 0) else ends (record w { started = w.started ++ block ∷ [] }) end.Done) (same_block ∙ e)

  by_room : (b : Bool) → nat_le 1000 (length w.started) ≡ b
      → (if nat_le 1000 (length w.started) then ends w (end.Full 0) else ends (record w { started = w.started ++ block ∷ [] }) end.Done)
      ≡ (if b then ends w (end.Full 0) else ends (record w { started = w.started ++ block ∷ [] }) end.Done)
  by_room b e = ap (λ c. if c then ends w (end.Full 0) else ends (record w { started = w.started ++ block ∷ [] }) end.Done) e

  pub starts_there : (e : LateEnd) (is : List (List ℕ)) → IsStart script w.started block e is → DoesStart w block e is
  starts_there end.Done is h =
      record {
        fits = refl;
        step = known h.0 ∙ by_room false (few_of (length w.started) h.1) ∙ ap (λ st. ends (record w { started = st }) end.Done) (sym h.2);
      }
  starts_there end.NoScript is h =
      record { fits = refl; step = unknown h.0 ∙ ap (λ st. ends (record w { started = st }) end.NoScript) (sym h.1) }
  starts_there (end.Full n) is h =
      record {
        fits = refl;
        step = known h.0 ∙ by_room true (many_of (length w.started) h.1) ∙ (λ i. ends (record w { started = sym h.3 i }) (end.Full (sym h.2 i)));
      }
  starts_there (end.NoMemory n) is h =
      record {
        fits = subst (λ k. IsTrue (late_fits w (Thread block) (late_answer.NoMemory k))) (sym h.0) refl;
        step = ap (λ st. ends (record w { started = st }) (end.NoMemory n)) (sym h.1);
      }
  starts_there (end.Fault n) is h = absurd h
  starts_there end.Shut is h = absurd h
  starts_there end.NoName is h = absurd h
