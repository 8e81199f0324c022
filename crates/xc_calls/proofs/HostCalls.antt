-- Calls on a host, as their contract has them.
use Rattle.std.proofs.Common.{◌≡◌, ℕ, ◌≤◌, false, length, IsTrue, IsSome, Option, Some, None, Ok, Err, inl}
use Rattle.std.proofs.Common.{List, [], ◌++◌, refl, ap, sym, ◌∙◌, subst, append-nil, arith}
use Rattle.std.specs.Prelude.{IfOk, OnErr, Result}
use Rattle.xc_data.specs.Counts.{CountsFault}
use Rattle.xc_data.specs.declared.memory.NoMemory.{NoMemory}
use Rattle.xc_data.specs.declared.call.Call.{Call}
use Rattle.xc_data.specs.declared.call.Answer.TheVariants.{Fine}
use Rattle.xc_data.specs.declared.call.Reply.{Reply}
use Rattle.xc_data.specs.declared.call.Reply.TheVariants as reply
use Rattle.xc_data.specs.declared.private.Private.{Private}
use Rattle.xc_data.specs.declared.undo.Undo.{Undo}
use Rattle.xc_data.specs.Faults.{is_fault_reply}
use Rattle.xc_world.specs.World.{World}
use Rattle.xc_world.specs.Act.{act}
use Rattle.xc_world.specs.Act.Step.{step_to}
use Rattle.xc_world.specs.After.{IsMeAfter, stored_with_reply}
use Rattle.xc_world.specs.Checks.{IsChecked, is_bad_handle, is_too_big, is_too_much, refusal_of}
use Rattle.xc_world.specs.Ends.{Ending}
use Rattle.xc_world.specs.Fits.{fits, answer_of}
use Rattle.xc_world.specs.RecordOf.{AreRecordsOf, leaves_record, left_by}
use Rattle.xc_world.specs.Trail.{recorded}
use Rattle.xc_world.proofs.Laws.{as_many, none_of, one_left, recorded_of}
use Rattle.xc_data.specs.Step.{Step}
use Rattle.xc_host.specs.Model.{HostModel}
use Rattle.xc_host.specs.Uses.{Uses, CallsFor, CallsOf}
use Rattle.xc_host.proofs.Laws.{unused}
use Rattle.xc_host.specs.Contents.{Contents, with_contents, world_of}
use Rattle.xc_compensate.specs.Records.{Records}
use Rattle.xc_calls.specs.Calls.{CallState, CallView, call_view, IsHostCall, IsMePassed, AreRecorded, StepsAlone}
use Rattle.xc_calls.specs.Passing.{IsAsBefore, Passes, at_host}
use Rattle.xc_calls.proofs.Refusals.{plain_first, refused_acts}

-- a record with nothing after
grown_by_none : (undo : Records) → undo ≡ record undo { pending = undo.pending ++ [] }
grown_by_none undo = ap (λ (p : List Undo). let u : Records = record undo { pending = p } in u) (sym (append-nil undo.pending))

-- what follows of each reply
pub ok_more : (P Q : Reply → Type 0) (result : Result Reply NoMemory) → ((r : Reply) → P r → Q r) → IfOk result P → IfOk result Q
ok_more P Q (Ok r) more p = more r p
ok_more P Q (Err e) more p = tt

-- what holds anyway holds after each failure
pub always_err : {T E : Type 0} (P : Type 0) (result : Result T E) → P → OnErr result P
always_err P (Ok x) p = tt
always_err P (Err e) p = p

-- where the plain machine records nothing, the call leaves no record
unrecorded_kinds : (w : World) (me : Private) (number : ℕ) (call : Call) (r : Reply) → IsChecked (refusal_of call me) call r
    → [] ≡ recorded w me number call r → AreRecordsOf (left_by call r) []
unrecorded_kinds w me number call r checked none = subst (AreRecordsOf (left_by call r)) (sym none) (recorded_of w me number call r checked)

-- it leaves one at most
pub one_made : (call : Call) (r : Reply) (made : List Undo) → AreRecordsOf (left_by call r) made → length made ≤ 1
one_made call r made kinds = omega (arith, as_many (left_by call r) made kinds, one_left call r)

-- ---- a call that a check refuses
refused_me : (call : Call) (me : Private) (tx : ℕ) (r : Reply) → refusal_of call me ≡ Some r → IsMeAfter tx call r me me
refused_me call me tx r e =
    let plain = plain_first (is_bad_handle call me) (is_too_big call) (is_too_much call me) r e in
    record {
      places = plain.places tx call me;
      made = sym (plain.made call me.made);
      stored = ap (λ o. stored_with_reply o call r me.stored) (sym e);
    }

-- a call that a check refuses, and that leaves no record then
pub refused_call : {H : Type 0} (model : HostModel H) (call : Call) (s : CallState H) (r : Reply) → refusal_of call s.me ≡ Some r
    → ((w : World) (number : ℕ) → [] ≡ recorded w s.me number call r)
    → IsHostCall model call s s (Ok r)
refused_call model call s r e none =
    let plain = plain_first (is_bad_handle call s.me) (is_too_big call) (is_too_much call s.me) r e in
    record {
      checked = subst (λ o. IsChecked o call r) (sym e) refl;
      unchanged = λ some. (refl, refl);
      after = refused_me call s.me s.number r e;
      uses = record { made = []; named = subst (λ o. CallsOf o call r []) (sym e) refl; used = unused model s.host };
      made = [];
      one = omega arith;
      kinds = unrecorded_kinds (world_of (model.contents s.host)) s.me s.number call r (subst (λ o. IsChecked o call r) (sym e) refl)
          (none (world_of (model.contents s.host)) s.number);
      undo = grown_by_none s.undo;
      acts = λ _. record {
        step = λ w. refused_acts (with_contents w (model.contents s.host)) s.me s.number call (answer_of r) r e;
        fits = λ w. subst (λ a. IsTrue (fits (with_contents w (model.contents s.host)) s.me s.number call a)) (sym plain.answer) refl;
      };
      records = λ _ w. none (with_contents w (model.contents s.host)) s.number;
      cause = subst (λ b. CountsFault b (model.fault_count s.host) (model.fault_count s.host)) (sym plain.fault) refl;
      memory = tt;
    }

-- ---- a call that the checks let pass
-- nothing is refused that passes
pub some_refusal : (o : Option Reply) (P : Type 0) → o ≡ None → IsSome o → P
some_refusal None P e some = cc
some_refusal (Some r) P e some = cc

free_me : (call : Call) (me next : Private) (tx : ℕ) (r : Reply) → refusal_of call me ≡ None → IsMePassed tx call me next r → IsMeAfter tx call r me next
free_me call me next tx r e after = record {
  places = after.places;
  made = after.made;
  stored = after.stored ∙ ap (λ o. stored_with_reply o call r me.stored) (sym e);
}

free_uses : {H : Type 0} (model : HostModel H) (step : Step H) (call : Call) (me : Private) (r : Reply) → refusal_of call me ≡ None
    → Uses model step (CallsFor call r) → Uses model step (CallsOf (refusal_of call me) call r)
free_uses model step call me r e uses = subst (λ o. Uses model step (CallsOf o call r)) (sym e) uses

-- the records that a call with this reply leaves: one at most, and those of the plain machine where the host tells
pub record RecordsGrow {H : Type 0} (model : HostModel H) (call : Call) (old new : CallState H) (r : Reply) : Type 0 where
  pub made : List Undo
  pub one : length made ≤ 1
  pub kinds : AreRecordsOf (left_by call r) made
  pub undo : new.undo ≡ record old.undo { pending = old.undo.pending ++ made }
  pub records : IsTrue model.tells → AreRecorded call (call_view model old) made r

-- a call that is passed, and replies
pub replied_call : {H : Type 0} (model : HostModel H) (call : Call) (old new : CallState H) (r : Reply)
    → refusal_of call old.me ≡ None → Passes model call (record { old = old; new = new }) (Ok r) → RecordsGrow model call old new r
    → IsHostCall model call old new (Ok r)
replied_call model call old new r free passes grows =
    record {
      checked = subst (λ o. IsChecked o call r) (sym free) passes.reply;
      unchanged = some_refusal (refusal_of call old.me) _ free;
      after = free_me call old.me new.me old.number r free passes.after;
      uses = free_uses model _ call old.me r free passes.uses;
      made = grows.made;
      one = grows.one;
      kinds = grows.kinds;
      undo = grows.undo;
      acts = passes.acts;
      records = grows.records;
      cause = passes.cause;
      memory = tt;
    }

-- a call that is passed, and runs out of memory before it changes anything
starved_call : {H : Type 0} (model : HostModel H) (call : Call) (old new : CallState H) (e : NoMemory)
    → refusal_of call old.me ≡ None → Passes model call (record { old = old; new = new }) (Err e)
    → IsAsBefore model (at_host (record { old = old; new = new }))
    → IsHostCall model call old new (Err e)
starved_call model call old new e free passes before =
    record {
      checked = tt;
      unchanged = some_refusal (refusal_of call old.me) _ free;
      after = tt;
      uses = passes.uses;
      made = [];
      one = omega arith;
      kinds = tt;
      undo = before.undo ∙ grown_by_none old.undo;
      acts = λ _. tt;
      records = λ _. tt;
      cause = passes.cause;
      memory = record { me = passes.err; effect = λ t. inl (refl, before.contents t); none = λ _. refl };
    }

-- a call that is passed
pub passed_call : {H : Type 0} (model : HostModel H) (call : Call) (old new : CallState H) (result : Result Reply NoMemory)
    → refusal_of call old.me ≡ None → Passes model call (record { old = old; new = new }) result
    → IfOk result (RecordsGrow model call old new) → OnErr result (IsAsBefore model (at_host (record { old = old; new = new })))
    → IsHostCall model call old new result
passed_call model call old new (Ok r) free passes grows before = replied_call model call old new r free passes grows
passed_call model call old new (Err e) free passes grows before = starved_call model call old new e free passes before

-- a call that leaves no record
pub none_grow : {H : Type 0} (model : HostModel H) (call : Call) (old new : CallState H) (result : Result Reply NoMemory)
    → new.undo ≡ old.undo → ((r : Reply) → leaves_record call r ≡ false) → ((r : Reply) (w : World) → [] ≡ recorded w old.me old.number call r)
    → IfOk result (RecordsGrow model call old new)
none_grow model call old new (Ok r) undo leaves none =
    record {
      made = [];
      one = omega arith;
      kinds = none_of call r (leaves r);
      undo = undo ∙ grown_by_none old.undo;
      records = λ _ w. none r (with_contents w (model.contents old.host));
    }
none_grow model call old new (Err e) undo leaves none = tt

-- a call whose records its reply tells, whatever the world
pub told_grow : {H : Type 0} (model : HostModel H) (call : Call) (made : Reply → List Undo) (old new : CallState H) (result : Result Reply NoMemory)
    → old.undo.ended ≡ [] → ((r : Reply) → AreRecordsOf (left_by call r) (made r)) → ((r : Reply) (w : World) → made r ≡ recorded w old.me old.number call r)
    → IfOk result (λ r. new.undo ≡ record { pending = old.undo.pending ++ made r; ended = [] }) → IfOk result (RecordsGrow model call old new)
told_grow model call made old new (Ok r) none kinds are undo =
    record {
      made = made r;
      one = one_made call r (made r) (kinds r);
      kinds = kinds r;
      undo = undo ∙ ap (λ (rs : List Ending). let u : Records = record { pending = old.undo.pending ++ made r; ended = rs } in u) (sym none);
      records = λ _ w. are r (with_contents w (model.contents old.host));
    }
told_grow model call made old new (Err e) none kinds are undo = tt

-- the moment of these contents, with this private state
abbrev pub call_view_at : Contents → ℕ → Private → CallView
call_view_at c number me = record { contents = c; number = number; me = me }

-- a reply of a fine answer is no fault
no_fault : (r : Reply) → answer_of r ≡ Fine → is_fault_reply r ≡ false
no_fault (reply.Fault n) e = cc
no_fault _ e = refl

-- a call that reaches no host is a host call, over each
pub alone_call : {H : Type 0} (model : HostModel H) (call : Call) (s : CallState H) (next : Private) (r : Reply) → StepsAlone call s.me next r
    → IsHostCall model call s (record s { me = next }) (Ok r)
alone_call {H = H} model call s next r alone =
    let w_of = λ (w : World). with_contents w (model.contents s.host) in
    record {
      checked = alone.checked;
      unchanged = λ some. (ap (λ (m : Private). let t : CallState H = record s { me = m } in t) (alone.unchanged some), refl);
      after = alone.after s.number;
      uses = record { made = []; named = alone.uncalled; used = unused model s.host };
      made = [];
      one = omega arith;
      kinds = unrecorded_kinds (world_of (model.contents s.host)) s.me s.number call r alone.checked
          (sym (alone.unrecorded (world_of (model.contents s.host)) s.number));
      undo = grown_by_none s.undo;
      acts = λ _. record {
        step = λ w. subst (λ a. act (w_of w) s.me s.number call a ≡ step_to (w_of w) next r) (sym alone.answer) (alone.step (w_of w) s.number);
        fits = λ w. subst (λ a. IsTrue (fits (w_of w) s.me s.number call a)) (sym alone.answer) refl;
      };
      records = λ _ w. sym (alone.unrecorded (w_of w) s.number);
      cause = subst (λ b. CountsFault b (model.fault_count s.host) (model.fault_count s.host)) (sym (no_fault r alone.answer)) refl;
      memory = tt;
    }
