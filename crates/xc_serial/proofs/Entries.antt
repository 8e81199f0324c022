-- An entry that was settled without a fault is the plain machine's.
use Rattle.std.proofs.Common.{◌≡◌, ℕ, ◌+◌, ◌≤◌, true, false, List, [], ◌∷◌, ◌++◌, length, refl, ap, ap₂, sym, ◌∙◌, subst, arith}
use Rattle.std.specs.Prelude.{Option, map, count_by, sum_by, IsTrue, unwrap_or}
use Rattle.std.specs.declared.option.Option.TheVariants.{None, Some}
use Rattle.std.specs.List.{list_any}
use Rattle.std.proofs.lemmas.Bool.{or_parts}
use Rattle.xc_data.specs.Claims.{held_of}
use Rattle.xc_data.specs.Faults.{is_fault_end, reply_faults, undo_faults, outcome_faults, entry_faults}
use Rattle.xc_data.specs.declared.call.Call.{Call}
use Rattle.xc_data.specs.declared.call.LateAnswer.TheVariants as late_answer
use Rattle.xc_data.specs.declared.call.LateCall.{LateCall}
use Rattle.xc_data.specs.declared.call.LateEnd.{LateEnd}
use Rattle.xc_data.specs.declared.call.LateEnd.TheVariants as late_end
use Rattle.xc_data.specs.declared.call.Reply.{Reply}
use Rattle.xc_data.specs.declared.entry.Cause.{Cause}
use Rattle.xc_data.specs.declared.entry.Cause.TheVariants as cause
use Rattle.xc_data.specs.declared.entry.Entry.{Entry}
use Rattle.xc_data.specs.declared.entry.Outcome.{Outcome}
use Rattle.xc_data.specs.declared.entry.Outcome.TheVariants.{Committed, Aborted}
use Rattle.xc_data.specs.declared.entry.Report.{Report}
use Rattle.xc_data.specs.declared.undo.Undo.{Undo}
use Rattle.xc_data.specs.declared.undo.UndoEnd.TheVariants.{Undone, Failed, Blocked}
use Rattle.xc_script.specs.Blocks.{block_from}
use Rattle.xc_script.specs.declared.ask.Ask.{Ask}
use Rattle.xc_script.specs.declared.ask.Ask.TheVariants as ask
use Rattle.xc_model.specs.Ending.{has_memory_end, is_memory_end}
use Rattle.xc_model.specs.Progress.{Following, Progress, private_of, body_of, run_of}
use Rattle.xc_model.specs.Setting.{Setting}
use Rattle.xc_model.specs.Recorded.{Recorded, no_records, all_records, IsStuckIn, saved_records}
use Rattle.xc_model.specs.Asked.{next_of}
use Rattle.xc_model.specs.Live.{IsScripted}
use Rattle.xc_model.specs.EntryEnds.{IsReport, IsHeld, IsHeldAt, IsCauseOf, HasAbortCause, AreRecords}
use Rattle.xc_model.specs.Joint.{IsEntry, IsAskedFor, IsPlayedOutcome}
use Rattle.xc_model.specs.Serial.{is_asked, is_final}
use Rattle.xc_world.specs.Ends.{Ending, AreLegal, blocker, is_undone}
use Rattle.xc_world.specs.Fits.{late_answer_of}
use Rattle.xc_world.specs.Run.{body, body_fits, opens, run, lates, asked_of, late_asked_of}
use Rattle.xc_serial.specs.Plain.{Replied, calls_from, outcome_of, entry_at}
use Rattle.xc_serial.proofs.Calls.{no_count, no_sum, asks_call, pairs, head_of, rest_of, replies_behind, same_calls, calls_of_pairs}
use Rattle.xc_serial.proofs.Calls.{replies_of_pairs}

-- ---- the compensations of an aborted transaction
-- records, each undone without a fault
abbrev pub undone_cleanly : List Undo → List Ending
undone_cleanly us = map (λ (undo : Undo). (undo, Undone 0)) us

none_blocks : (from : ℕ) (u : Undo) (us : List Undo) → blocker from u (undone_cleanly us) ≡ None
none_blocks from u [] = refl
none_blocks from u (v ∷ us) = none_blocks (from + 1) u us

-- legal ends without a fault undid their records
pub legal_undone : (tries from : ℕ) (records : List Ending) → 1 ≤ tries → AreLegal tries from records → sum_by undo_faults records ≡ 0
    → records ≡ undone_cleanly (map (λ r. r.0) records)
legal_undone tries from [] some legal none = refl
legal_undone tries from ((u, Undone n) ∷ newer) some legal none =
    let parts = no_sum undo_faults (u, Undone n) newer none in
    ap₂ (λ k l. (u, Undone k) ∷ l) parts.0 (legal_undone tries (from + 1) newer some legal.1 parts.1)
legal_undone tries from ((u, Failed done n) ∷ newer) some legal none =
    let parts = no_sum undo_faults (u, Failed done n) newer none in
    let met : n ≡ tries = legal.0.1 in
    let no : n ≡ 0 = parts.0 in
    absurd (omega arith)
legal_undone tries from ((u, Blocked by) ∷ newer) some legal none =
    let parts = no_sum undo_faults (u, Blocked by) newer none in
    let later = legal_undone tries (from + 1) newer some legal.1 parts.1 in
    let no : None ≡ Some by = sym (none_blocks (from + 1) u (map (λ r. r.0) newer)) ∙ sym (ap (blocker (from + 1) u) later) ∙ legal.0 in
    cc

-- ---- its end
none_failed : (us : List Undo) (older : List Ending) (u : Undo) (done faults : ℕ) (newer : List Ending)
    → undone_cleanly us ≡ older ++ (u, Failed done faults) ∷ newer → ⊥
none_failed [] [] u done faults newer e = cc
none_failed [] (o ∷ older) u done faults newer e = cc
none_failed (v ∷ us) [] u done faults newer e =
    let no : true ≡ false = ap (λ (r : Ending). is_undone r.1) (ap (head_of (v, Undone 0)) e) in cc
none_failed (v ∷ us) (o ∷ older) u done faults newer e = none_failed us older u done faults newer (ap rest_of e)

asked_where : (c : Cause) (k : Option ℕ) (us : List Undo) → is_asked c ≡ true → IsStuckIn k 1 (undone_cleanly us) c → c ≡ cause.Asked
asked_where cause.Asked k us e stuck = refl
asked_where (cause.Stuck failed) k us e stuck =
    let at = stuck.1 in absurd (none_failed us at.older at.stuck at.done at.faults at.newer at.parts)
asked_where _ k us e stuck = cc

-- where each record was undone without a fault, no way back got stuck: the script asked for the abort
pub asked_is : (tries : ℕ) (k : Recorded) (last : Ask) (report : Report) → 1 ≤ tries → IsReport tries k report → HasAbortCause k last report
    → sum_by undo_faults report.records ≡ 0 → is_asked report.cause ≡ true → report.cause ≡ cause.Asked
asked_is tries k last report some is caused none asked =
    asked_where report.cause (saved_records k) (map (λ r. r.0) report.records) asked
    (subst (λ rs. IsStuckIn (saved_records k) 1 rs report.cause) (legal_undone tries 1 report.records some is.legal none) caused.stuck)

-- why an entry was aborted, where it was
abbrev IsCausedBy : Outcome → Cause → Type 0
IsCausedBy (Committed late) c = Unit {0}
IsCausedBy (Aborted report) c = report.cause ≡ c

-- a settled one without a fault was aborted where the script asked it
asked_for : (tries : ℕ) (e : Entry) (next : Ask) (o : Outcome) → 1 ≤ tries → IsAskedFor tries e next o → outcome_faults o ≡ 0
    → is_final o ≡ true → IsCausedBy o cause.Asked
asked_for tries e next (Committed late) some asked none settled = tt
asked_for tries e next (Aborted report) some asked none settled =
    asked_is tries (all_records no_records e.calls e.replies) next report some asked.1 asked.0 none settled

-- it asks no call after its last reply
end_asked : (tries : ℕ) (e : Entry) (next : Ask) (o : Outcome) → IsAskedFor tries e next o → IsCausedBy o cause.Asked → asks_call next ≡ false
end_asked tries e next (Committed late) asked why = ap asks_call asked.0
end_asked tries e next (Aborted report) asked why =
    let aborts : next ≡ ask.Abort = subst (λ c. IsCauseOf c next) why asked.0.asked in
    ap asks_call aborts

-- what it held is what its calls touched
held_same : (p : Progress) (e : Entry) (next : Ask) (o : Outcome) → IsCausedBy o cause.Asked → IsHeld (body_of p.state e) next o e.held
    → e.held ≡ held_of (body_of p.state e).touched
held_same p e next (Committed late) why held = held
held_same p e next (Aborted report) why held = subst (λ c. IsHeldAt (body_of p.state e) next c e.held) why held

fine_end : (end : LateEnd) → is_fault_end end ≡ false → is_memory_end end ≡ false → late_answer_of end ≡ late_answer.Fine
fine_end (late_end.Fault n) met starved = cc
fine_end (late_end.NoMemory n) met starved = cc
fine_end _ met starved = refl

-- where no late call met a fault or wanted memory, the host did its part of each
fine_asked : (calls : List LateCall) (ends : List LateEnd) → count_by is_fault_end ends ≡ 0 → list_any is_memory_end ends ≡ false
    → late_asked_of calls ends ≡ late_asked_of calls []
fine_asked [] ends faults starved = refl
fine_asked (c ∷ calls) [] faults starved = refl
fine_asked (c ∷ calls) (end ∷ ends) faults starved =
    let met = no_count is_fault_end end ends faults in
    let wanted = or_parts (is_memory_end end) (list_any is_memory_end ends) starved in
    ap₂ (λ answer rest. (c, answer) ∷ rest) (fine_end end met.0 wanted.0) (fine_asked calls ends met.1 wanted.1)

-- its outcome is the plain machine's
same_outcome : (tries : ℕ) (p : Progress) (e : Entry) (next : Ask) (o : Outcome) → 1 ≤ tries → IsAskedFor tries e next o
    → IsPlayedOutcome p next e o → outcome_faults o ≡ 0 → has_memory_end o ≡ false → IsCausedBy o cause.Asked
    → o ≡ outcome_of (run_of p.state e []) next
same_outcome tries p e next (Committed late) some asked played faults starved why =
    let ran = body_of p.state e in
    let fine : (run_of p.state e late).late.ends ≡ (run_of p.state e []).late.ends =
    ap (λ l. (lates ran.world l).ends) (fine_asked ran.late late faults starved) in
    ap Committed (sym played.ends ∙ fine) ∙ sym (ap (outcome_of (run_of p.state e [])) asked.0)
same_outcome tries p e next (Aborted report) some asked played faults starved why =
    let aborts : next ≡ ask.Abort = subst (λ c. IsCauseOf c next) why asked.0.asked in
    let trail : map (λ (r : Ending). r.0) report.records ≡ (body_of p.state e).trail =
    subst (λ c. AreRecords (body_of p.state e) e.tx next c (map (λ r. r.0) report.records)) why played in
    let records = legal_undone tries 1 report.records some asked.1.legal faults ∙ ap undone_cleanly trail in
    let made : Outcome = Aborted (record { cause = cause.Asked; records = undone_cleanly (body_of p.state e).trail }) in
    let here : Aborted report ≡ made = λ i. Aborted (record { cause = why i; records = records i }) in
    here ∙ sym (ap (outcome_of (run_of p.state e [])) aborts)

-- ---- the whole entry
sum_parts : (a b : ℕ) → a + b ≡ 0 → (a ≡ 0) × (b ≡ 0)
sum_parts a b h = (omega arith, omega arith)

-- an entry that was settled without a fault, where no late call wanted memory, is the plain machine's
pub same_entry : (s : Setting) (p : Progress) (f : Following) (last : Ask) (e : Entry) (place : ℕ) → IsScripted s.script → IsEntry s p f last e → IsTrue s.tells
    → 1 ≤ s.rules.undo_tries → e.tx ≡ place + 1 → e.began ≡ place → f.first ≡ None → entry_faults e ≡ 0
    → has_memory_end e.outcome ≡ false → is_final e.outcome ≡ true → e ≡ entry_at s.script place p e.job f
same_entry s p f last e place own told tells tries tx began first faults starved settled =
    let as_asked = told.story.scripted own in
    let is : IsEntry s p f (next_of s.script f e.replies) e = subst (λ (a : Ask). IsEntry s p f a e) as_asked.after told in
    let story = is.story in
    let played = is.played tells in
    let next = next_of s.script f e.replies in
    let begin = block_from s.script f.job in
    let me = private_of p.state e.job in
    let parts = sum_parts (sum_by reply_faults e.replies) (outcome_faults e.outcome) faults in
    let why = asked_for s.rules.undo_tries e next e.outcome tries story.asked parts.1 settled in
    let outcome = same_outcome s.rules.undo_tries p e next e.outcome tries story.asked played.outcome parts.1 starved why in
    let held = held_same p e next e.outcome why played.held in
    let rank : e.rank ≡ place + 1 = story.rank ∙ ap (λ o. unwrap_or o e.tx) first ∙ tx in
    let entry : List Call → List Reply → Entry = λ calls replies.
    let whole = run p.state.world me (place + 1) (asked_of calls replies) [] in
    record {
      tx = place + 1;
      job = e.job;
      rank = place + 1;
      began = place;
      calls = calls;
      replies = replies;
      held = held_of whole.body.touched;
      outcome = outcome_of whole (next_of s.script f replies);
    } in
    let at = λ (n : ℕ). run p.state.world me n (asked_of e.calls e.replies) [] in
    let held' : e.held ≡ held_of (at (place + 1)).body.touched = held ∙ ap (λ n. held_of (at n).body.touched) tx in
    let outcome' : e.outcome ≡ outcome_of (at (place + 1)) next = outcome ∙ ap (λ n. outcome_of (at n) next) tx in
    let as_made : e ≡ entry e.calls e.replies =
    λ i. record {
      tx = tx i;
      job = e.job;
      rank = rank i;
      began = began i;
      calls = e.calls;
      replies = e.replies;
      held = held' i;
      outcome = outcome' i;
    } in
    let done : calls_from (length begin.walk.left) (place + 1) (opens p.state.world me) begin ≡ pairs e.calls e.replies =
    same_calls (length begin.walk.left) (place + 1) (opens p.state.world me) begin e.calls e.replies (omega arith) as_asked.calls
    (sym (replies_behind (place + 1) (opens p.state.world me) (asked_of e.calls e.replies))
    ∙ subst (λ n. (body p.state.world me n (asked_of e.calls e.replies)).replies ≡ e.replies) tx played.replies)
    (subst (λ n. IsTrue (body_fits p.state.world me n (asked_of e.calls e.replies))) tx played.fits) parts.0
    (end_asked s.rules.undo_tries e next e.outcome story.asked why) in
    let calls = ap (map (λ (c : Replied). c.0)) done ∙ calls_of_pairs begin e.calls e.replies as_asked.calls in
    let replies = ap (map (λ (c : Replied). c.1)) done ∙ replies_of_pairs begin e.calls e.replies as_asked.calls in
    as_made ∙ sym (ap₂ entry calls replies)
