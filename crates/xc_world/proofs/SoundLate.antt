-- A late call keeps a world sound, with every private state in it.
use Rattle.std.proofs.Common.{ℕ, ◌≤◌, Bool, true, not, Option, Some, None, is_some, List, [], ◌∷◌, ◌++◌, length, take}
use Rattle.std.specs.Prelude.{IsTrue, min, nat_lt, nat_le, ◌==◌, ◌||◌}
use Rattle.std.specs.FinMap as map
use Rattle.std.proofs.lemmas.List.Elements.{All-push}
use Rattle.xc_data.specs.declared.object.Num.{Num}
use Rattle.xc_data.specs.declared.object.Object.{Object}
use Rattle.xc_data.specs.declared.object.Object.TheVariants as object
use Rattle.xc_data.specs.declared.call.LateCall.{LateCall}
use Rattle.xc_data.specs.declared.call.LateCall.TheVariants.{Unlink, Sync, WritePipe, Shutdown, Send, Thread}
use Rattle.xc_data.specs.declared.call.LateAnswer.{LateAnswer}
use Rattle.xc_data.specs.declared.call.LateAnswer.TheVariants as late_answer
use Rattle.xc_data.specs.declared.private.Private.{Private}
use Rattle.xc_world.specs.World.{World, Pair, pipe_of, pair_of, waiting, other_side}
use Rattle.xc_world.specs.Late.{Ended, late, late_fine, stopped, unlinked, room, with_put, pipe_written, shut_down, sent_to, sent, is_block, thread_started}
use Rattle.xc_world.specs.Sound.{HoldsShort, IsFit, IsSound, IsShortCall, is_there, names_there}
use Rattle.xc_world.proofs.SoundParts.{chosen_so, Keeps, fit_keeps_itself, keeps_removed, keeps_started, keeps_pipe, with_pair_keeps}
use Rattle.xc_world.proofs.SoundSteps.{kept_sound}
use Rattle.xc_world.proofs.SoundCalls.{waiting_short, with_waiting_short}

-- the world that a late call leaves keeps what the world before had
abbrev pub KeepsEnd : Bool → World → Ended → Type 0
KeepsEnd there w e = Keeps there w e.world

unlinked_keeps : (w : World) (name : List ℕ) (o : Option Num) → IsFit w → KeepsEnd true w (unlinked w name o)
unlinked_keeps w name None fit = fit_keeps_itself true w fit
unlinked_keeps w name (Some num) fit = keeps_removed true w name fit

put_keeps : (w : World) (num : Num) (bytes : List ℕ) → IsFit w → Keeps (is_some (map.get w.pipes num)) w (with_put w num bytes)
put_keeps w num bytes fit = keeps_pipe w num (record (pipe_of w num) { held = (pipe_of w num).held ++ bytes }) fit

written_keeps : (w : World) (num : Num) (bytes : List ℕ) → IsFit w → KeepsEnd (is_some (map.get w.pipes num)) w (pipe_written w num bytes)
written_keeps w num bytes fit =
    let there = is_some (map.get w.pipes num) in
    chosen_so (KeepsEnd there w) (pipe_of w num).shut _ _ (λ _. fit_keeps_itself there w fit) (λ _.
    chosen_so (KeepsEnd there w) (nat_lt (room (pipe_of w num)) (length bytes)) _ _ (λ _. put_keeps w num (take (room (pipe_of w num)) bytes) fit)
    (λ _. put_keeps w num bytes fit))

shut_keeps : (w : World) (o : Object) → IsFit w → KeepsEnd (is_there w o) w (shut_down w o)
shut_keeps w (object.Pipe num) fit = keeps_pipe w num (record (pipe_of w num) { shut = true }) fit
shut_keeps w (object.Pair num) fit =
    with_pair_keeps w num (record (pair_of w num) { shut = true }) (record { first = (fit.messages num).first; second = (fit.messages num).second }) fit
shut_keeps w o fit = fit_keeps_itself (is_there w o) w fit

sent_to_short : (pair : Pair) (side : ℕ) (bytes : List ℕ) → length bytes ≤ 1024 → HoldsShort pair → HoldsShort (sent_to pair side bytes)
sent_to_short pair side bytes le short =
    with_waiting_short pair side (waiting pair side ++ bytes ∷ [])
    (All-push (λ (m : List ℕ). length m ≤ 1024) (waiting pair side) bytes (waiting_short pair side short) le) short

sent_keeps : (w : World) (num : Num) (side : ℕ) (bytes : List ℕ) → length bytes ≤ 1024 → IsFit w
    → KeepsEnd (is_some (map.get w.pairs num)) w (sent w num side bytes)
sent_keeps w num side bytes le fit =
    let there = is_some (map.get w.pairs num) in
    chosen_so (KeepsEnd there w) (pair_of w num).shut _ _ (λ _. fit_keeps_itself there w fit) (λ _.
    chosen_so (KeepsEnd there w) (nat_le 8 (length (waiting (pair_of w num) (other_side side)))) _ _ (λ _. fit_keeps_itself there w fit) (λ _.
    with_pair_keeps w num (sent_to (pair_of w num) (other_side side) bytes) (sent_to_short (pair_of w num) (other_side side) bytes le (fit.messages num)) fit))

started_keeps : (w : World) (body : List ℕ) → IsFit w → KeepsEnd true w (thread_started w body)
started_keeps w body fit =
    chosen_so (KeepsEnd true w) (not (is_block w body)) _ _ (λ _. fit_keeps_itself true w fit) (λ _.
    chosen_so (KeepsEnd true w) (nat_le 1000 (length w.started)) _ _ (λ _. fit_keeps_itself true w fit)
    (λ _. keeps_started true w (w.started ++ body ∷ []) fit))

fine_keeps : (w : World) (c : LateCall) → IsShortCall c → IsFit w → KeepsEnd (names_there w c) w (late_fine w c)
fine_keeps w (Unlink name) short fit = unlinked_keeps w name (map.get w.names name) fit
fine_keeps w (Sync num) short fit = fit_keeps_itself _ w fit
fine_keeps w (WritePipe num bytes) short fit = written_keeps w num bytes fit
fine_keeps w (Shutdown o) short fit = shut_keeps w o fit
fine_keeps w (Send num side bytes) short fit = sent_keeps w num side bytes short fit
fine_keeps w (Thread body) short fit = started_keeps w body fit

stopped_keeps : (w : World) (c : LateCall) (n : ℕ) → IsFit w → Keeps (names_there w c) w (stopped w c n)
stopped_keeps w (WritePipe num bytes) n fit =
    let there = is_some (map.get w.pipes num) in
    chosen_so (Keeps there w) (n == 0 || (pipe_of w num).shut) _ _ (λ _. fit_keeps_itself there w fit)
    (λ _. put_keeps w num (take (min n (room (pipe_of w num))) bytes) fit)
stopped_keeps w c n fit = fit_keeps_itself (names_there w c) w fit

-- a late call keeps the objects and, where its object is there, what is free
pub late_keeps_objects : (w : World) (c : LateCall) (a : LateAnswer) → IsShortCall c → IsFit w → Keeps (names_there w c) w (late w c a).world
late_keeps_objects w c late_answer.Fine short fit = fine_keeps w c short fit
late_keeps_objects w c (late_answer.Fault n) short fit = stopped_keeps w c n fit
late_keeps_objects w c (late_answer.NoMemory n) short fit = stopped_keeps w c n fit

-- a short late call leaves a fit world fit
pub late_fit : (w : World) (c : LateCall) (a : LateAnswer) → IsShortCall c → IsFit w → IsFit (late w c a).world
late_fit w c a short fit = (late_keeps_objects w c a short fit).fit

-- a short late call on an object that is there keeps a private state sound
pub late_sound : (w : World) (me : Private) (tx : ℕ) (c : LateCall) (a : LateAnswer) → IsShortCall c → IsTrue (names_there w c) → IsSound w me tx
    → IsSound (late w c a).world me tx
late_sound w me tx c a short there s = kept_sound w (late w c a).world me tx (late_keeps_objects w c a short s.world) there s
