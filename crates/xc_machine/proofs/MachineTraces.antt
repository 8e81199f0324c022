-- The records of a body that is made call by call.
use Rattle.std.proofs.Common.{◌≡◌, ℕ, ◌≤◌, Option, Some, None, List, ◌++◌, length, take, ap, sym, ◌∙◌, subst, arith}
use Rattle.std.proofs.Common.{length-append}
use Rattle.std.proofs.lemmas.List.{take-append-le, take_all}
use Rattle.xc_data.specs.declared.call.CallWithAnswer.{CallWithAnswer}
use Rattle.xc_data.specs.declared.private.Private.{Private}
use Rattle.xc_data.specs.declared.undo.Undo.{Undo}
use Rattle.xc_world.specs.Act.{act}
use Rattle.xc_world.specs.Run.{BodyResult, BlockState, body_state, step}
use Rattle.xc_world.specs.Trail.{recorded}
use Rattle.xc_world.specs.World.{World}
use Rattle.xc_machine.specs.Traced.{IsSavedTrail, TracesAt}
use Rattle.xc_machine.specs.declared.traced.Trail.{Trail}

-- the record that a call with an answer leaves where a body stands
abbrev pub record_left_at : ℕ → BodyResult → CallWithAnswer → List Undo
record_left_at tx r c = recorded r.world r.me tx c.call (act r.world r.me tx c.call c.answer).reply

saved_more : (tx : ℕ) (kept : Option ℕ) (saved : Option BodyResult) (now : BodyResult) (c : CallWithAnswer) → IsSavedTrail kept saved now
    → IsSavedTrail kept saved (step tx now c)
saved_more tx None None now c so = tt
saved_more tx None (Some s) now c so = absurd so
saved_more tx (Some k) None now c so = absurd so
saved_more tx (Some k) (Some s) now c so =
    let within = so.within in
    record {
      within = omega (arith, within, length-append now.trail (record_left_at tx now c));
      front = take-append-le k now.trail (record_left_at tx now c) so.within ∙ so.front;
    }

-- one call more, which opens or closes no block
pub traces_more : (tx : ℕ) (old new : Trail) (b : BlockState) (c : CallWithAnswer) → TracesAt old b
    → new.records.items ≡ old.records.items ++ record_left_at tx b.now c → new.saved ≡ old.saved
    → TracesAt new (record { now = step tx b.now c; saved = b.saved })
traces_more tx old new b c so records saved =
    record {
      records = records ∙ ap (λ us. us ++ record_left_at tx b.now c) so.records;
      saved = saved_more tx new.saved b.saved b.now c (subst (λ k. IsSavedTrail k b.saved b.now) (sym saved) so.saved);
    }

-- the records of all calls
pub traces_whole : (w : World) (me : Private) (tx : ℕ) (asked : List CallWithAnswer) (i : ℕ) (trail : Trail) → length asked ≤ i
    → TracesAt trail (body_state w me tx (take i asked)) → TracesAt trail (body_state w me tx asked)
traces_whole w me tx asked i trail le so = subst (λ xs. TracesAt trail (body_state w me tx xs)) (take_all i asked le) so
