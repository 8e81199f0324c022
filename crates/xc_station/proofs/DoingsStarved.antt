-- A call that is out of memory for the variable that takes its reply leaves its part.
use Rattle.std.proofs.Common.{◌≡◌, inl, inr, ℕ, true, false, List, [], ◌++◌, length, refl, ap, sym, ◌∙◌, subst, IsTrue, arith}
use Rattle.std.proofs.lemmas.List.{append_cancel_left}
use Rattle.std.specs.Prelude.{All, Option, Result, Ok, Err, IsErr, IsOk, is_err}
use Rattle.std.specs.declared.option.Option.TheVariants.{None, Some}
use Rattle.xc_data.specs.Counts.{CountsFault}
use Rattle.xc_data.specs.Faults.{is_fault_reply}
use Rattle.xc_data.specs.declared.call.Call.{Call}
use Rattle.xc_data.specs.declared.call.Call.TheVariants as call
use Rattle.xc_data.specs.declared.call.Reply.{Reply}
use Rattle.xc_data.specs.declared.call.Reply.TheVariants as reply
use Rattle.xc_data.specs.declared.entry.KeptItem.{KeptItem}
use Rattle.xc_data.specs.declared.memory.NoMemory.{NoMemory}
use Rattle.xc_buffers.specs.Items.{is_fit}
use Rattle.xc_compensate.specs.Records.{Records}
use Rattle.xc_host.specs.Contents.{contents_of, world_of}
use Rattle.xc_host.specs.Model.{HostModel}
use Rattle.xc_host.specs.Uses.{CallsOf}
use Rattle.xc_data.specs.declared.script.HostCallKind.{HostCallKind}
use Rattle.xc_script.specs.declared.ask.Ask.TheVariants as ask
use Rattle.xc_script.specs.Answers.{value_in}
use Rattle.xc_txmem.specs.Overlay.{overlaid}
use Rattle.xc_world.specs.World.{World}
use Rattle.xc_world.specs.Checks.{refusal_of}
use Rattle.xc_world.specs.Act.Step.{Stepped}
use Rattle.xc_world.specs.Effects.{takes_data}
use Rattle.xc_world.specs.Fits.{is_back, answer_of}
use Rattle.xc_world.specs.Late.{kept_call}
use Rattle.xc_world.specs.Run.{given_back, taken_by}
use Rattle.xc_data.specs.Calls.{is_late}
use Rattle.xc_data.specs.declared.undo.Undo.{Undo}
use Rattle.xc_world.specs.RecordOf.{AreRecordsOf, left_by}
use Rattle.xc_world.specs.Trail.{recorded}
use Rattle.xc_model.specs.PlainSteps.{StopsAt, tx_parts, contents_seen}
use Rattle.xc_model.specs.Moment.{TxView}
use Rattle.xc_model.specs.WordCalls.{is_word_call}
use Rattle.xc_station.specs.Acting.{Acting, HasActedAsPlain, HasDoneAsPlain, IsLentFor, IsSidedFor, LeavesOff, leaving, told_of}
use Rattle.xc_station.proofs.Lent.{kept_again, kept_of}
use Rattle.xc_station.proofs.TakenAgain.{same_kept, still_kept, taken_again}
use Rattle.xc_station.proofs.Takings.{IsTakingStep, TakingCall, taking_returns}
use Rattle.xc_station.proofs.WordActs.{append_nil, no_stores, no_value}
use Rattle.xc_station.proofs.Doings.{none_behind, framed_now}

-- ---- memory runs out for the variable that takes the reply
-- a reply that brings a value is no fault, and no call was kept
unkept : (r : Reply) → (value_in r ≡ None → ⊥) → is_late r ≡ false
unkept reply.Late h = absurd (h refl)
unkept _ h = refl

unfaulty : (r : Reply) → (value_in r ≡ None → ⊥) → is_fault_reply r ≡ false
unfaulty (reply.Fault n) h = absurd (h refl)
unfaulty _ h = refl

-- only a reply that brings a value may want memory
pub wants_value : {A E : Type 0} (a : Result A E) (r : Reply) → is_err a ≡ true → (value_in r ≡ None → IsOk a) → value_in r ≡ None → ⊥
wants_value (Ok x) r failed lasting nothing = cc
wants_value (Err e) r failed lasting nothing = let ok = lasting nothing in cc

-- it made all its calls of the host
stops_behind : (refused : Option Reply) (c : Call) (r : Reply) (made : List HostCallKind) → CallsOf refused c r made → StopsAt (ask.Call c) made
stops_behind None c r made calls = inr (inr (r, calls))
stops_behind (Some refusal) c r made calls = inl calls

-- the call was done, and the handles are as before it: its part stands as it was left
pub unanswered : {H : Type 0} (model : HostModel H) (c : Call) (old new behind : Acting H) (reply : Reply) → HasDoneAsPlain model c old new reply
    → takes_data c ≡ false → is_back c ≡ false
    → behind ≡ record new { tx = record new.tx { me = old.tx.me } } → (value_in reply ≡ None → ⊥) → LeavesOff model c old behind
unanswered model c old new behind reply d untaken ahead is brings =
    let writes : new.tx.writes ≡ old.tx.writes =
    d.stores ∙ ap (λ ws. old.tx.writes ++ ws) (no_value (length old.words) (overlaid old.words old.tx.writes) c reply d.spoken.gives brings)
    ∙ append_nil old.tx.writes in
    let quiet = unfaulty reply brings in
    let left : new.tx ≡ record old.tx { me = new.tx.me; undo = record old.tx.undo { pending = old.tx.undo.pending ++ d.made } } =
    d.tx ∙ sym (framed_now old.tx (tx_parts new.tx) c reply untaken (unkept reply brings))
    ∙ (λ i. record old.tx { me = new.tx.me; writes = writes i; undo = d.undo i }) in
    let now : LeavesOff model c old (record new { tx = record new.tx { me = old.tx.me } }) = record {
      left = d.made;
      one = d.one;
      tx = ap (λ (t : TxView). record t { me = old.tx.me }) left;
      uses = record {
        made = d.uses.made;
        named = stops_behind (refusal_of c old.tx.me) c reply d.uses.made d.uses.named;
        used = d.uses.used;
      };
      faults = subst (λ b. CountsFault b (model.fault_count old.host) (model.fault_count new.host)) quiet d.cause;
      lent = still_kept c old.tx.me (record { old = old.kept; new = new.kept }) (Err (record {})) untaken
          (same_kept c old.tx.me (record { old = old.kept; new = new.kept }) (Ok reply) untaken d.lent);
      keeps = d.keeps;
      contents = λ tells. inr (
        answer_of reply,
        λ w at.
            let does = d.does tells w at in
            record {
              untaken = untaken;
              ahead = ahead;
              fits = does.fits;
              world = ap (λ (ws : List (ℕ × ℕ)). contents_seen w (told_of model new) ws) (sym writes) ∙ ap (λ (s : Stepped). s.world) (sym does.step);
              records = append_cancel_left old.tx.undo.pending d.made
                  (recorded (contents_seen w (told_of model old) old.tx.writes) old.tx.me old.tx.number c reply)
                  (sym (ap (λ (u : Records). u.pending) d.undo) ∙ does.records)
                  ∙ ap (λ (s : Stepped). recorded (contents_seen w (told_of model old) old.tx.writes) old.tx.me old.tx.number c s.reply) (sym does.step);
            },
      );
    } in
    subst (λ a. LeavesOff model c old a) (sym is) now

-- a call that takes at a moment, in one of the worlds that show it
abbrev pub taking_at : {H : Type 0} → HostModel H → Call → Acting H → Acting H → Reply → TakingCall
taking_at model d old new reply =
    let w = record (world_of (told_of model old)) { words = old.words } in
    record {
      world = record { old = contents_seen w (told_of model old) old.tx.writes; new = contents_seen w (told_of model new) new.tx.writes };
      me = record { old = old.tx.me; new = new.tx.me };
      number = old.tx.number;
      call = d;
      reply = reply;
    }

-- it was done
pub taking_step : {H : Type 0} (model : HostModel H) (d : Call) (old new : Acting H) (reply : Reply) → takes_data d ≡ true
    → HasDoneAsPlain model d old new reply
    → (IsTrue model.tells → IsLentFor old.tx.me old.tx.number d (model.contents old.host) old.kept) → IsSidedFor old.tx.me d
    → IsTrue model.tells → IsTakingStep (taking_at model d old new reply) (model.contents old.host) old.kept
taking_step model d old new reply takes done lent sided tells =
    let w = record (world_of (told_of model old)) { words = old.words } in
    record { takes = takes; told = refl; step = (done.does tells w refl).step; there = (lent tells).source; sided = sided }

-- a call that takes is none on words, and leaves no record
takes_alone : (d : Call) → takes_data d ≡ true → is_word_call d ≡ false
takes_alone (call.XReadPipe h n) takes = refl
takes_alone (call.XRecvmsg h) takes = refl
takes_alone d takes = cc takes

takes_unrecorded : (d : Call) (r : Reply) (made : List Undo) → takes_data d ≡ true → AreRecordsOf (left_by d r) made → made ≡ []
takes_unrecorded (call.XReadPipe h n) r made takes kinds = kinds
takes_unrecorded (call.XRecvmsg h) r made takes kinds = kinds
takes_unrecorded d r made takes kinds = cc takes

-- what it took was given back: all is as before
pub taking_undone : {H : Type 0} (model : HostModel H) (d : Call) (old new behind : Acting H) (kept : List KeptItem) (reply : Reply)
    → takes_data d ≡ true → HasDoneAsPlain model d old new reply
    → (IsTrue model.tells → IsLentFor old.tx.me old.tx.number d (model.contents old.host) old.kept) → IsSidedFor old.tx.me d
    → All (λ t. is_fit t ≡ true) old.kept
    → ((w : World) → given_back w kept ≡ given_back (given_back w new.kept) (taken_by d old.tx.me reply))
    → (taken_by d old.tx.me reply ≡ [] → kept ≡ new.kept)
    → behind ≡ record new { kept = kept; tx = record new.tx { me = old.tx.me; taken = old.tx.taken } } → (value_in reply ≡ None → ⊥)
    → LeavesOff model d old behind
taking_undone model d old new behind kept reply takes done lent sided fit given nothing is brings =
    let none : done.made ≡ [] = takes_unrecorded d reply done.made takes done.kinds in
    let undo : new.tx.undo ≡ record old.tx.undo { pending = old.tx.undo.pending ++ [] } =
    done.undo ∙ ap (λ us. record old.tx.undo { pending = old.tx.undo.pending ++ us }) none in
    let writes : new.tx.writes ≡ old.tx.writes =
    done.stores ∙ ap (λ ws. old.tx.writes ++ ws) (no_stores (length old.words) d (takes_alone d takes)) ∙ append_nil old.tx.writes in
    let late : old.tx.late ++ kept_call d old.tx.me reply ≡ old.tx.late = sym (none_behind old.tx.late d old.tx.me reply (unkept reply brings)) in
    let whole : record new.tx { me = old.tx.me; taken = old.tx.taken } ≡ leaving old.tx [] =
    ap (λ (t : TxView). record t { me = old.tx.me; taken = old.tx.taken }) done.tx
    ∙ (λ i. record old.tx {
      writes = writes i;
      undo = undo i;
      late = late i;
    }) in
    let now : LeavesOff model d old (record new { kept = kept; tx = record new.tx { me = old.tx.me; taken = old.tx.taken } }) = record {
      left = [];
      one = omega arith;
      tx = whole;
      uses = record {
        made = done.uses.made;
        named = stops_behind (refusal_of d old.tx.me) d reply done.uses.made done.uses.named;
        used = done.uses.used;
      };
      faults = subst (λ b. CountsFault b (model.fault_count old.host) (model.fault_count new.host)) (unfaulty reply brings) done.cause;
      lent = taken_again old.kept new.kept kept d old.tx.me reply (record {}) takes fit sided done.lent given nothing;
      keeps = done.keeps;
      contents = λ tells. inl (
        refl,
        kept_again (model.contents new.host) new.kept kept (taken_by d old.tx.me reply) given
            ∙ (let w = record (world_of (told_of model old)) { words = old.words } in
            sym (kept_of (contents_seen w (told_of model new) new.tx.writes) (taken_by d old.tx.me reply))
            ∙ ap contents_of (taking_returns _ _ _ (taking_step model d old new reply takes done lent sided tells))),
      );
    } in
    subst (λ a. LeavesOff model d old a) (sym is) now

-- the same of an answer
pub unanswered_so : {H : Type 0} (model : HostModel H) (c : Call) (old new : Acting H) (r : Result Reply NoMemory) → IsErr r
    → LeavesOff model c old new → HasActedAsPlain model c old new r
unanswered_so model c old new (Ok reply) failed left = cc
unanswered_so model c old new (Err e) failed left = left
