-- Each record of a body was made in the world that the ones before it left.
use Rattle.std.proofs.Common.{◌≡◌, ℕ, ◌+◌, false, Option, Some, None, List, [], ◌∷◌, length, drop, take, unwrap_or, ◌++◌, refl, ap, sym, ◌∙◌, subst}
use Rattle.std.specs.Prelude.{IsTrue, ◌==◌, Contains}
use Rattle.std.specs.FinMap as finite
use Rattle.std.proofs.lemmas.Bool.{cond_both}
use Rattle.std.proofs.lemmas.List.Elements.{All-weaker, All-contains_itself}
use Rattle.xc_data.specs.declared.object.Num.{Num}
use Rattle.xc_data.specs.declared.object.Object.{Object}
use Rattle.xc_data.specs.declared.object.Object.TheVariants as object
use Rattle.xc_data.specs.declared.call.CallWithAnswer.{CallWithAnswer}
use Rattle.xc_data.specs.declared.call.Call.{Call}
use Rattle.xc_data.specs.declared.call.Call.TheVariants as call
use Rattle.xc_data.specs.declared.call.Answer.{Answer}
use Rattle.xc_data.specs.declared.call.Answer.TheVariants as answer
use Rattle.xc_data.specs.declared.undo.Undo.{Undo}
use Rattle.xc_data.specs.declared.undo.Undo.TheVariants.{Overwrite, Append, Create, Rename, NewPipe, NewPair}
use Rattle.xc_data.specs.declared.private.Place.{Place}
use Rattle.xc_data.specs.declared.private.Place.TheVariants.{Vacant, File, Pipe, Pair}
use Rattle.xc_data.specs.declared.private.Private.{Private}
use Rattle.xc_data.specs.Private.{place_of}
use Rattle.xc_data.specs.Remaining.{objects_of}
use Rattle.xc_maps.specs.Keys.{num_cmp, name_cmp}
use Rattle.xc_world.specs.World.{World, pair_of, pipe_of, waiting, empty_pipe, empty_pair}
use Rattle.xc_world.specs.Sound.{IsSound}
use Rattle.xc_world.specs.Act.Step.{Stepped}
use Rattle.xc_world.specs.Act.Files.{overwritten}
use Rattle.xc_world.specs.Act.Pipes.{read_pipe_at, received, receive_at}
use Rattle.xc_world.specs.Act.{done, act}
use Rattle.xc_world.specs.Fits.{fits}
use Rattle.xc_world.specs.Run.{BodyResult, step, after_calls, gone_back, opens, body, body_fits}
use Rattle.xc_world.specs.Trail.{move_name, recorded, with_effect}
use Rattle.xc_world.specs.Ends.{with_remains}
use Rattle.xc_world.specs.Effects.{whole, takes_data, AreMadeIn}
use Rattle.xc_world.proofs.Blocks.{FitEach, Fits, fit_all, runs_keep}
use Rattle.xc_world.proofs.EffectsBody.{step_sound, back_sound}
use Rattle.xc_world.proofs.UndoingBody.{act-cases}
use Rattle.xc_world.proofs.EffectsParts.{absent_before, absent_both, made-append, whole-append, remains-append}
use Rattle.xc_world.proofs.EffectsCalls.{act-leads}
use Rattle.xc_world.proofs.EffectsApart.{LeavesRoom, made_there}
use Rattle.xc_world.proofs.EffectsMade.{act-made}

-- ---- a world after a call, and what its records alone leave
-- the same names and files, and no pipe or pair more
pub record HasNoNewPipes (v w : World) : Type 0 where
  pub names : v.names ≡ w.names
  pub files : v.files ≡ w.files
  pub pipes : (q : Num) → finite.get v.pipes q ≡ None → finite.get w.pipes q ≡ None
  pub pairs : (q : Num) → finite.get v.pairs q ≡ None → finite.get w.pairs q ≡ None

room_itself : (w : World) → HasNoNewPipes w w
room_itself w = record { names = refl; files = refl; pipes = λ q none. none; pairs = λ q none. none }

room_at : (v w : World) → HasNoNewPipes v w → (o : Object) → LeavesRoom v w o
room_at v w room (object.Name name) = ap (λ (m : finite.FinMap name_cmp Num). finite.get m name) room.names
room_at v w room (object.File num) = ap (λ (m : finite.FinMap num_cmp (List ℕ)). finite.get m num) room.files
room_at v w room (object.Pipe num) = room.pipes num
room_at v w room (object.Pair num) = room.pairs num
room_at v w room (object.Word at) = tt
room_at v w room object.Jobs = tt

-- ---- what is taken
abbrev pub LeavesIts : World → Stepped → Type 0
LeavesIts w s = HasNoNewPipes s.world w

read_pipe_at-room : (w : World) (me : Private) (n : ℕ) (p : Place) → LeavesIts w (read_pipe_at w me n p)
read_pipe_at-room w me n (Pipe num) =
    cond_both (n == 0) _ _ (LeavesIts w) (λ _. room_itself w) (λ _.
    cond_both (length (pipe_of w num).held == 0) _ _ (LeavesIts w) (λ _. room_itself w) (λ _.
    record {
      names = refl;
      files = refl;
      pipes = λ q none. (absent_before w.pipes num q (record (pipe_of w num) { held = drop n (pipe_of w num).held }) none).1;
      pairs = λ q none. none;
    }))
read_pipe_at-room w me n Vacant = room_itself w
read_pipe_at-room w me n (File num at) = room_itself w
read_pipe_at-room w me n (Pair num side) = room_itself w

received-room : (w : World) (me : Private) (num : Num) (side : ℕ) (messages : List (List ℕ)) → LeavesIts w (received w me num side messages)
received-room w me num side [] = room_itself w
received-room w me num side (message ∷ messages) =
    record { names = refl; files = refl; pipes = λ q none. none; pairs = λ q none. (absent_before w.pairs num q _ none).1 }

receive_at-room : (w : World) (me : Private) (p : Place) → LeavesIts w (receive_at w me p)
receive_at-room w me (Pair num side) = received-room w me num side (waiting (pair_of w num) side)
receive_at-room w me Vacant = room_itself w
receive_at-room w me (File num at) = room_itself w
receive_at-room w me (Pipe num) = room_itself w

read_pipe-room : (w : World) (me : Private) (tx h n : ℕ) (a : Answer) → LeavesIts w (done w me tx (call.XReadPipe h n) a)
read_pipe-room w me tx h n answer.Fine = read_pipe_at-room w me n (place_of me.places h)
read_pipe-room w me tx h n (answer.Fault k) = room_itself w
read_pipe-room w me tx h n (answer.Undone k) = room_itself w

recvmsg-room : (w : World) (me : Private) (tx h : ℕ) (a : Answer) → LeavesIts w (done w me tx (call.XRecvmsg h) a)
recvmsg-room w me tx h answer.Fine = receive_at-room w me (place_of me.places h)
recvmsg-room w me tx h (answer.Fault n) = room_itself w
recvmsg-room w me tx h (answer.Undone n) = room_itself w

-- ---- every call
abbrev pub LeavesRecorded : World → Private → ℕ → Call → Stepped → Type 0
LeavesRecorded w me tx c s = HasNoNewPipes s.world (with_remains w (whole (recorded w me tx c s.reply)))

-- what takes no data leaves just what is recorded
led-room : (w : World) (me : Private) (tx : ℕ) (c : Call) (a : Answer) → takes_data c ≡ false → LeavesRecorded w me tx c (act w me tx c a)
led-room w me tx c a e =
    let v = (act w me tx c a).world in
    let led = act-leads w me tx c a e in
    record {
      names = ap (λ (x : World). x.names) led;
      files = ap (λ (x : World). x.files) led;
      pipes = λ q none. sym (ap (λ (x : World). finite.get x.pipes q) led) ∙ none;
      pairs = λ q none. sym (ap (λ (x : World). finite.get x.pairs q) led) ∙ none;
    }

act-room : (w : World) (me : Private) (tx : ℕ) (c : Call) (a : Answer) → LeavesRecorded w me tx c (act w me tx c a)
act-room w me tx (call.XReadPipe h n) a =
    let same = room_itself w in act-cases w me tx (call.XReadPipe h n) a (LeavesIts w) same same same same (read_pipe-room w me tx h n a)
act-room w me tx (call.XRecvmsg h) a =
    let same = room_itself w in act-cases w me tx (call.XRecvmsg h) a (LeavesIts w) same same same same (recvmsg-room w me tx h a)
act-room w me tx c a = led-room w me tx c a refl

-- ---- all calls of a body
moved-room : (v w : World) (from to : List ℕ) (o : Option Num) → HasNoNewPipes v w → HasNoNewPipes (move_name v from to o) (move_name w from to o)
moved-room v w from to None room = room
moved-room v w from to (Some num) room =
    record {
      names = ap (λ m. finite.insert (finite.remove m from) to num) room.names;
      files = room.files;
      pipes = room.pipes;
      pairs = room.pairs;
    }

-- the files with one that is changed by its own bytes
abbrev changed_in : finite.FinMap num_cmp (List ℕ) → Num → (List ℕ → List ℕ) → finite.FinMap num_cmp (List ℕ)
changed_in files file change = finite.insert files file (change (unwrap_or (finite.get files file) []))

effect-room : (v w : World) (u : Undo) → HasNoNewPipes v w → HasNoNewPipes (with_effect v u 0) (with_effect w u 0)
effect-room v w (Overwrite file at before after n) room =
    record {
      names = room.names;
      files = ap (λ m. changed_in m file (overwritten (at + 0) (drop 0 (take n after)))) room.files;
      pipes = room.pipes;
      pairs = room.pairs;
    }
effect-room v w (Append file from after n) room =
    record {
      names = room.names;
      files = ap (λ m. changed_in m file (λ bytes. bytes ++ drop 0 (take n after))) room.files;
      pipes = room.pipes;
      pairs = room.pairs;
    }
effect-room v w (Create name num) room =
    record {
      names = ap (λ m. finite.insert m name num) room.names;
      files = ap (λ m. finite.insert m num []) room.files;
      pipes = room.pipes;
      pairs = room.pairs;
    }
effect-room v w (Rename from to) room =
    subst (λ o. HasNoNewPipes (move_name v from to (finite.get v.names from)) (move_name w from to o)) (room_at v w room (object.Name from))
    (moved-room v w from to (finite.get v.names from) room)
effect-room v w (NewPipe num) room =
    record {
      names = room.names;
      files = room.files;
      pipes = λ q. absent_both w.pipes v.pipes num q empty_pipe empty_pipe (room.pipes q);
      pairs = room.pairs;
    }
effect-room v w (NewPair num) room =
    record {
      names = room.names;
      files = room.files;
      pipes = room.pipes;
      pairs = λ q. absent_both w.pairs v.pairs num q empty_pair empty_pair (room.pairs q);
    }

made-in : (v w : World) (us : List Undo) → HasNoNewPipes v w → AreMadeIn v us → AreMadeIn w us
made-in v w [] room made = tt
made-in v w (u ∷ us) room made = (
  made_there v w u
      (All-weaker (Contains (objects_of u)) (LeavesRoom v w) (λ o _. room_at v w room o) (objects_of u) (All-contains_itself (objects_of u))) made.0,
  made-in (with_effect v u 0) (with_effect w u 0) us (effect-room v w u room) made.1,
)

room_through : (u v w : World) → HasNoNewPipes u v → HasNoNewPipes v w → HasNoNewPipes u w
room_through u v w first later =
    record {
      names = first.names ∙ later.names;
      files = first.files ∙ later.files;
      pipes = λ q none. later.pipes q (first.pipes q none);
      pairs = λ q none. later.pairs q (first.pairs q none);
    }

remains-room : (v w : World) (us : List Undo) → HasNoNewPipes v w → HasNoNewPipes (with_remains v (whole us)) (with_remains w (whole us))
remains-room v w [] room = room
remains-room v w (u ∷ us) room = remains-room (with_effect v u 0) (with_effect w u 0) us (effect-room v w u room)

-- the records of a body were made one after another, and its world has the names and files that they leave
pub record Traces (w : World) (tx : ℕ) (r : BodyResult) : Type 0 where
  pub sound : IsSound r.world r.me tx
  pub room : HasNoNewPipes r.world (with_remains w (whole r.trail))
  pub made : AreMadeIn w r.trail

step_traces : (w : World) (tx : ℕ) (r : BodyResult) (c : CallWithAnswer) → Fits tx r c → Traces w tx r → Traces w tx (step tx r c)
step_traces w tx r c fit so =
    let s = act r.world r.me tx c.call c.answer in
    let us = recorded r.world r.me tx c.call s.reply in
    let led = with_remains w (whole r.trail) in
    record {
      sound = step_sound tx r c fit so.sound;
      room = subst (HasNoNewPipes s.world) (sym (ap (with_remains w) (whole-append r.trail us) ∙ remains-append w (whole r.trail) (whole us)))
          (room_through s.world (with_remains r.world (whole us)) (with_remains led (whole us)) (act-room r.world r.me tx c.call c.answer)
          (remains-room r.world led us so.room));
      made = made-append w r.trail us so.made (made-in r.world led us so.room (act-made r.world r.me tx c.call c.answer so.sound fit));
    }

back_traces : (w : World) (tx : ℕ) (s : BodyResult) (calls : List CallWithAnswer) → FitEach tx (Fits tx) s calls → Traces w tx s
    → Traces w tx (after_calls tx s calls) → Traces w tx (gone_back s (after_calls tx s calls))
back_traces w tx s calls fit was is = record { sound = back_sound tx s calls fit was.sound is.sound; room = was.room; made = was.made }

-- each record of a body was made in the world that the ones before it left
pub body-made : (w : World) (me : Private) (tx : ℕ) (asked : List CallWithAnswer) → IsSound w me tx → IsTrue (body_fits w me tx asked)
    → AreMadeIn w (body w me tx asked).trail
body-made w me tx asked sound fit =
    (runs_keep tx (Fits tx) (Traces w tx) (record { plain = step_traces w tx; back = back_traces w tx }) (opens w me) asked (fit_all tx (opens w me) asked fit)
    (record { now = record { sound = sound; room = room_itself w; made = tt }; saved = tt })).now.made
