-- The late calls that a body leaves are ready when they are made, and stay so.
use Rattle.std.proofs.Common.{◌≡◌, ℕ, true, false, List, [], ◌∷◌, length, refl, arith}
use Rattle.std.specs.Prelude.{IsTrue, All, nat_lt}
use Rattle.std.proofs.lemmas.List.Elements.{All-nil, All-cons, All-weaker}
use Rattle.xc_data.specs.declared.object.Object.{Object}
use Rattle.xc_data.specs.declared.object.Object.TheVariants as object
use Rattle.xc_data.specs.declared.call.Call.{Call}
use Rattle.xc_data.specs.declared.call.Call.TheVariants as call
use Rattle.xc_data.specs.declared.call.Answer.{Answer}
use Rattle.xc_data.specs.declared.call.Reply.{Reply}
use Rattle.xc_data.specs.declared.call.Reply.TheVariants as reply
use Rattle.xc_data.specs.declared.call.LateCall.{LateCall}
use Rattle.xc_data.specs.declared.call.LateCall.TheVariants.{Unlink, Sync, WritePipe, Shutdown, Send, Thread}
use Rattle.xc_data.specs.declared.call.LateAnswer.{LateAnswer}
use Rattle.xc_data.specs.declared.private.Place.{Place}
use Rattle.xc_data.specs.declared.private.Place.TheVariants as place
use Rattle.xc_data.specs.declared.private.Private.{Private}
use Rattle.xc_data.specs.Private.{place_of}
use Rattle.xc_world.specs.World.{World}
use Rattle.xc_world.specs.Checks.{is_bad_handle, is_too_big, is_too_much, is_bad_word}
use Rattle.xc_world.specs.Act.{act, done}
use Rattle.xc_world.specs.Act.Step.{Stepped}
use Rattle.xc_world.specs.Fits.{fits}
use Rattle.xc_world.specs.Late.{late, kept_call}
use Rattle.xc_data.specs.Calls.{late_call, sync_of, write_pipe_of, shutdown_of, send_of}
use Rattle.xc_world.specs.Sound.{IsFit, IsKnown, IsSound, IsShortCall, is_there, names_there, IsReady}
use Rattle.xc_world.proofs.SoundParts.{chosen_so}
use Rattle.xc_world.proofs.Sound.{act_well}
use Rattle.xc_world.proofs.SoundLate.{late_keeps_objects}

-- ---- what is there stays there
there_known : (w v : World) → ((p : Place) → IsKnown w p → IsKnown v p) → (o : Object) → is_there w o ≡ true → is_there v o ≡ true
there_known w v known (object.File num) there = known (place.File num 0) there
there_known w v known (object.Pipe num) there = known (place.Pipe num) there
there_known w v known (object.Pair num) there = (known (place.Pair num 0) (there, omega arith)).0
there_known w v known _ there = refl

names_known : (w v : World) → ((p : Place) → IsKnown w p → IsKnown v p) → (c : LateCall) → names_there w c ≡ true → names_there v c ≡ true
names_known w v known (Sync num) there = known (place.File num 0) there
names_known w v known (WritePipe num bytes) there = known (place.Pipe num) there
names_known w v known (Shutdown o) there = there_known w v known o there
names_known w v known (Send num side bytes) there = (known (place.Pair num 0) (there, omega arith)).0
names_known w v known _ there = refl

ready_known : (w v : World) → ((p : Place) → IsKnown w p → IsKnown v p) → (c : LateCall) → IsReady w c → IsReady v c
ready_known w v known c ready = record { short = ready.short; there = names_known w v known c ready.there }

-- a call keeps a late call ready
pub act_keeps_ready : (w : World) (me : Private) (tx : ℕ) (c : Call) (a : Answer) (d : LateCall) → IsTrue (fits w me tx c a) → IsSound w me tx → IsReady w d
    → IsReady (act w me tx c a).world d
act_keeps_ready w me tx c a d fit s ready = ready_known w (act w me tx c a).world (act_well w me tx c a fit s).grows.known d ready

-- a short late call keeps another one ready
pub late_keeps_ready : (w : World) (c : LateCall) (a : LateAnswer) (d : LateCall) → IsShortCall c → IsFit w → IsReady w d → IsReady (late w c a).world d
late_keeps_ready w c a d short fit ready = ready_known w (late w c a).world (late_keeps_objects w c a short fit).known d ready

-- ---- what a call leaves
one_ready : (w : World) (c : LateCall) → IsShortCall c → names_there w c ≡ true → All (IsReady w) (c ∷ [])
one_ready w c short there = All-cons (IsReady w) c [] (record { short = short; there = there }) (All-nil (IsReady w))

sync_ready : (w : World) (p : Place) → IsKnown w p → All (IsReady w) (sync_of p)
sync_ready w (place.File num at) known = one_ready w (Sync num) (omega arith) known
sync_ready w place.Vacant known = All-nil (IsReady w)
sync_ready w (place.Pipe num) known = All-nil (IsReady w)
sync_ready w (place.Pair num side) known = All-nil (IsReady w)

write_ready : (w : World) (p : Place) (bytes : List ℕ) → nat_lt 1024 (length bytes) ≡ false → IsKnown w p → All (IsReady w) (write_pipe_of p bytes)
write_ready w (place.Pipe num) bytes short known = one_ready w (WritePipe num bytes) (grind (arith, short)) known
write_ready w place.Vacant bytes short known = All-nil (IsReady w)
write_ready w (place.File num at) bytes short known = All-nil (IsReady w)
write_ready w (place.Pair num side) bytes short known = All-nil (IsReady w)

shutdown_ready : (w : World) (p : Place) → IsKnown w p → All (IsReady w) (shutdown_of p)
shutdown_ready w (place.Pipe num) known = one_ready w (Shutdown (object.Pipe num)) (omega arith) known
shutdown_ready w (place.Pair num side) known = one_ready w (Shutdown (object.Pair num)) (omega arith) known.0
shutdown_ready w place.Vacant known = All-nil (IsReady w)
shutdown_ready w (place.File num at) known = All-nil (IsReady w)

send_ready : (w : World) (p : Place) (bytes : List ℕ) → nat_lt 1024 (length bytes) ≡ false → IsKnown w p → All (IsReady w) (send_of p bytes)
send_ready w (place.Pair num side) bytes short known = one_ready w (Send num side bytes) (grind (arith, short)) known.0
send_ready w place.Vacant bytes short known = All-nil (IsReady w)
send_ready w (place.File num at) bytes short known = All-nil (IsReady w)
send_ready w (place.Pipe num) bytes short known = All-nil (IsReady w)

late_call_ready : (w : World) (me : Private) (c : Call) → ((h : ℕ) → IsKnown w (place_of me.places h)) → is_too_big c ≡ false → All (IsReady w) (late_call c me)
late_call_ready w me (call.XUnlink name slot) known short = one_ready w (Unlink name) (omega arith) refl
late_call_ready w me (call.XSync h slot) known short = sync_ready w (place_of me.places h) (known h)
late_call_ready w me (call.XWritePipe h bytes slot) known short = write_ready w (place_of me.places h) bytes short (known h)
late_call_ready w me (call.XShutdown h slot) known short = shutdown_ready w (place_of me.places h) (known h)
late_call_ready w me (call.XSendmsg h bytes slot) known short = send_ready w (place_of me.places h) bytes short (known h)
late_call_ready w me (call.XThreadCreate body slot) known short = one_ready w (Thread body) (omega arith) refl
late_call_ready w me _ known short = All-nil (IsReady w)

kept_ready : (w : World) (me : Private) (c : Call) (r : Reply) → All (IsReady w) (late_call c me) → All (IsReady w) (kept_call c me r)
kept_ready w me c reply.Late all = all
kept_ready w me c _ all = All-nil (IsReady w)

abbrev LeavesReady : World → Private → Call → Stepped → Type 0
LeavesReady w me c s = All (IsReady w) (kept_call c me s.reply)

-- a call leaves its own late call ready
pub act_leaves_ready : (w : World) (me : Private) (tx : ℕ) (c : Call) (a : Answer) → IsTrue (fits w me tx c a) → IsSound w me tx
    → All (IsReady (act w me tx c a).world) (kept_call c me (act w me tx c a).reply)
act_leaves_ready w me tx c a fit s =
    All-weaker (IsReady w) (IsReady (act w me tx c a).world) (λ d. act_keeps_ready w me tx c a d fit s) (kept_call c me (act w me tx c a).reply)
    (chosen_so (LeavesReady w me c) (is_bad_handle c me) _ _ (λ _. All-nil (IsReady w)) (λ _.
    chosen_so (LeavesReady w me c) (is_too_big c) _ _ (λ _. All-nil (IsReady w)) (λ short.
    chosen_so (LeavesReady w me c) (is_too_much c me) _ _ (λ _. All-nil (IsReady w)) (λ _.
    chosen_so (LeavesReady w me c) (is_bad_word c (length w.words)) _ _ (λ _. All-nil (IsReady w)) (λ _.
    kept_ready w me c (done w me tx c a).reply (late_call_ready w me c s.handles short))))))
