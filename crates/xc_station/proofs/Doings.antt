-- A call of a transaction on files, or one that reaches no host, is the plain machine's.
use Rattle.std.proofs.Common.{◌≡◌, ◌⊎◌, inl, inr, ℕ, ◌≤◌, false, List, [], ◌++◌, length, refl, ap, sym, ◌∙◌, subst, IsTrue}
use Rattle.std.proofs.lemmas.List.Elements.{All-nil}
use Rattle.std.specs.Prelude.{All, Result, Ok, Err, IfOk}
use Rattle.xc_data.specs.Counts.{CountsFault}
use Rattle.xc_data.specs.Faults.{is_fault_reply}
use Rattle.xc_data.specs.Step.{Step}
use Rattle.xc_data.specs.declared.call.Answer.{Answer}
use Rattle.xc_data.specs.declared.call.Call.{Call}
use Rattle.xc_data.specs.declared.call.Call.TheVariants as call
use Rattle.xc_data.specs.declared.call.LateCall.{LateCall}
use Rattle.xc_data.specs.declared.call.Reply.{Reply}
use Rattle.xc_data.specs.declared.call.Reply.TheVariants as reply
use Rattle.xc_data.specs.declared.entry.KeptItem.{KeptItem}
use Rattle.xc_data.specs.declared.memory.NoMemory.{NoMemory}
use Rattle.xc_data.specs.declared.private.Private.{Private}
use Rattle.xc_data.specs.declared.undo.Undo.{Undo}
use Rattle.xc_compensate.specs.Records.{Records}
use Rattle.xc_calls.specs.Calls.{ActsAsPlain, AreRecorded, CallState, DidPart, IsHostCall, CallView, StepsAlone}
use Rattle.xc_calls.proofs.Laws.{alone_call}
use Rattle.xc_host.specs.Fronted.{Fronted, before as in_front, fronted}
use Rattle.xc_host.specs.Kept.{KeepsData, with_kept}
use Rattle.xc_host.specs.Model.{HostModel}
use Rattle.xc_host.specs.Uses.{CallsOf, Uses}
use Rattle.xc_data.specs.declared.script.HostCallKind.{HostCallKind}
use Rattle.xc_calls.specs.Taking.{HasTaken}
use Rattle.xc_txmem.specs.Overlay.{overlaid}
use Rattle.xc_world.specs.World.{World}
use Rattle.xc_world.specs.Beside.{is_on_data}
use Rattle.xc_world.specs.Checks.{refusal_of}
use Rattle.xc_world.specs.Act.Step.{step_to}
use Rattle.xc_world.specs.Effects.{takes_data}
use Rattle.xc_world.specs.Late.{kept_call}
use Rattle.xc_world.specs.Fits.{is_back}
use Rattle.xc_world.specs.Run.{taken_by}
use Rattle.xc_data.specs.Calls.{is_late, is_kept}
use Rattle.xc_model.specs.PlainSteps.{Parts, LeavesAsPlainIn, IsReplyInTime, tx_parts, contents_seen}
use Rattle.xc_model.specs.Moment.{TxView}
use Rattle.xc_model.specs.WordCalls.{IsWordStep, is_word_call}
use Rattle.xc_station.specs.Acting.{Acting, HasActedAsPlain, HasDoneAsPlain, LeavesOff, told_between, told_of, with_parts}
use Rattle.xc_station.specs.Lent.{IsBacked}
use Rattle.xc_station.proofs.Backed.{keeps_called, keeps_part}
use Rattle.xc_station.proofs.Lent.{acts_kept, part_kept, recorded_there}
use Rattle.xc_host.proofs.Laws.{data_keeps_itself}
use Rattle.xc_station.proofs.TakenAgain.{still_kept}
use Rattle.xc_station.proofs.WordActs.{append_nil, still_words, no_stores}

-- a host with a transaction at it, as calls see them
abbrev pub calling_at : {K : Type 0} → K → TxView → CallState K
calling_at host tx = record { host = host; number = tx.number; me = tx.me; undo = tx.undo }

-- as calls on files do
abbrev pub calling : {H : Type 0} → Acting H → CallState H
calling a = calling_at a.host a.tx

-- and as calls on pipes do: with what is kept in front
abbrev pub calling_front : {H : Type 0} → Acting H → CallState (Fronted H)
calling_front a = calling_at (in_front a.host a.kept) a.tx

-- ---- calls that are done now
-- one that replies now isn't kept for the commit
none_kept : (c : Call) (me : Private) (r : Reply) → is_late r ≡ false → kept_call c me r ≡ []
none_kept c me reply.Late e = cc e
none_kept c me _ e = refl

-- so no late call comes after the others
pub none_behind : (late : List LateCall) (c : Call) (me : Private) (r : Reply) → is_late r ≡ false → late ≡ late ++ kept_call c me r
none_behind late c me r now = sym (append_nil late) ∙ ap (λ calls. late ++ calls) (sym (none_kept c me r now))

-- it is done in its time
pub in_time_now : (c : Call) (me : Private) (number : ℕ) (r : Reply) → is_kept c ≡ false → is_late r ≡ false → IsReplyInTime me number c r
in_time_now c me number r at_once now = record { kept = λ waiting. absurd (cc (at_once, waiting)); now = λ _. now }

-- the transaction with these parts alone
abbrev pub framed : TxView → Parts → TxView
framed tx parts = record tx { me = parts.me; writes = parts.stores; undo = parts.undo }

-- a call that is on no pipe and no pair takes no data
pub off_untaken : (c : Call) → is_on_data c ≡ false → takes_data c ≡ false
off_untaken (call.XReadPipe h n) off = cc off
off_untaken (call.XRecvmsg h) off = cc off
off_untaken _ off = refl

-- a call that takes no data adds no note
pub none_taken : (c : Call) (me : Private) (r : Reply) → takes_data c ≡ false → taken_by c me r ≡ []
none_taken (call.XReadPipe h n) me r untaken = cc untaken
none_taken (call.XRecvmsg h) me r untaken = cc untaken
none_taken _ me r untaken = refl

-- a call that takes nothing notes nothing
pub none_noted : (taken : List KeptItem) (c : Call) (me : Private) (r : Reply) → takes_data c ≡ false → taken ≡ taken ++ taken_by c me r
none_noted taken c me r untaken = sym (append_nil taken) ∙ ap (λ items. taken ++ items) (sym (none_taken c me r untaken))

-- a call that is done now and takes nothing changes no more than its parts
pub framed_now : (tx : TxView) (parts : Parts) (c : Call) (r : Reply) → takes_data c ≡ false → is_late r ≡ false → framed tx parts ≡ with_parts tx c r parts
framed_now tx parts c r untaken now =
    λ i. record (framed tx parts) { taken = none_noted tx.taken c tx.me r untaken i; late = none_behind tx.late c tx.me r now i }

-- what the plain machine knows of it, with what is kept in front
abbrev pub told_call_view : {H : Type 0} → HostModel H → Acting H → CallView
told_call_view model a = record { contents = told_of model a; number = a.tx.number; me = a.tx.me }

-- what the host did is the plain machine's, with what is kept in front; what was taken is the host's, and it keeps its pipes and pairs
pub record IsToldCall {H : Type 0} (model : HostModel H) (c : Call) (step : Step (Acting H)) (made : List Undo) (reply : Reply) : Type 0 where
  pub acts : ActsAsPlain c (told_call_view model step.old) (told_call_view model step.new) reply
  pub records : AreRecorded c (told_call_view model step.old) made reply
  pub backed : All (IsBacked (model.contents step.old.host)) (taken_by c step.old.tx.me reply)
  pub keeps : KeepsData (model.contents step.old.host) (model.contents step.new.host)

-- calls of a host with something in front are its own
pub uses_below : {H : Type 0} {IsMade : List HostCallKind → Type 0} (model : HostModel H) (a b : Fronted H)
    → Uses (fronted model) (record { old = a; new = b }) IsMade
    → Uses model (record { old = a.host; new = b.host }) IsMade
uses_below model a b u = record { made = u.made; named = u.named; used = record { called = u.used.called; plan = u.used.plan } }

-- ---- a call on files or on pipes, or one that reaches no host
module _ {H K : Type 0} (model : HostModel H) (seen_as : HostModel K) (a b : K) (c : Call) (old new : Acting H) (other : is_word_call c ≡ false) where
  -- it is done
  pub call_done : (reply : Reply) (k : IsHostCall seen_as c (calling_at a old.tx) (calling_at b new.tx) (Ok reply))
      → Uses model (record { old = old.host; new = new.host }) (CallsOf (refusal_of c old.tx.me) c reply)
      → CountsFault (is_fault_reply reply) (model.fault_count old.host) (model.fault_count new.host)
      → (IsTrue model.tells → IsToldCall model c (record { old = old; new = new }) k.made reply)
      → new.tx ≡ with_parts old.tx c reply (tx_parts new.tx)
      → new.tx.writes ≡ old.tx.writes → new.tx.me.stored ≤ 16384 → IsReplyInTime old.tx.me old.tx.number c reply
      → HasTaken c old.tx.me (record { old = old.kept; new = new.kept }) (Ok reply) → HasDoneAsPlain model c old new reply
  call_done reply k uses cause told frame writes stored in_time lent =
      let over = λ (w : World). record w { words = overlaid w.words old.tx.writes } in
      record {
        tx = frame;
        stores = writes ∙ sym (append_nil old.tx.writes) ∙ ap (λ ws. old.tx.writes ++ ws) (sym (no_stores (length old.words) c other));
        checked = k.checked;
        after = k.after;
        stored = stored;
        made = k.made;
        one = k.one;
        kinds = k.kinds;
        undo = k.undo;
        in_time = in_time;
        uses = uses;
        cause = cause;
        lent = lent;
        spoken = subst (λ ws. IsWordStep (overlaid old.words old.tx.writes) (overlaid old.words ws) c reply) (sym writes)
            (still_words (overlaid old.words old.tx.writes) c reply other);
        backed = λ tells. (told tells).backed;
        keeps = λ tells. (told tells).keeps;
        does = λ tells w at. record {
          step = (told tells).acts.step (over w) ∙ ap (λ ws. step_to (contents_seen w (told_of model new) ws) new.tx.me reply) (sym writes);
          fits = (told tells).acts.fits (over w);
          records = ap (λ (u : Records). u.pending) k.undo ∙ ap (λ us. old.tx.undo.pending ++ us) ((told tells).records (over w));
        };
      }

module _ {H : Type 0} (model : HostModel H) (c : Call) (old new : Acting H) (other : is_word_call c ≡ false) (off : is_on_data c ≡ false)
    (ahead : is_back c ≡ false) (kept : new.kept ≡ old.kept) where
  abbrev before : CallView
  before = record { contents = model.contents old.host; number = old.tx.number; me = old.tx.me }

  told_new : told_of model new ≡ with_kept (model.contents new.host) old.kept
  told_new = ap (with_kept (model.contents new.host)) kept

  -- it goes on beside what is kept
  file_told : (reply : Reply) (k : IsHostCall model c (calling old) (calling new) (Ok reply)) → IsTrue model.tells
      → IsToldCall model c (record { old = old; new = new }) k.made reply
  file_told reply k tells =
      let after : CallView = record { contents = model.contents new.host; number = new.tx.number; me = new.tx.me } in
      record {
        acts = subst (λ told. ActsAsPlain c (told_call_view model old) (record { contents = told; number = new.tx.number; me = new.tx.me }) reply)
            (sym told_new)
            (acts_kept c before old.kept off after reply (k.acts tells));
        records = recorded_there c before old.kept off after k.made reply (k.acts tells) (k.records tells);
        backed = subst (All (IsBacked (model.contents old.host))) (sym (none_taken c old.tx.me reply (off_untaken c off)))
            (All-nil (IsBacked (model.contents old.host)));
        keeps = keeps_called c before off after reply (k.acts tells);
      }

  -- what it did at the host is a part of it
  part_left : (left : List Undo) → ((left ≡ []) × (model.contents new.host ≡ model.contents old.host)) ⊎ DidPart c before (model.contents new.host) left
      → ((left ≡ []) × (told_of model new ≡ told_of model old))
      ⊎ ((a : Answer) × LeavesAsPlainIn old.words (told_between model old new) (tx_parts old.tx) (record { call = c; answer = a }) left)
  part_left left (inl same) = inl (same.0, told_new ∙ ap (λ told. with_kept told old.kept) same.1)
  part_left left (inr did) =
      let over = λ (w : World). record w { words = overlaid w.words old.tx.writes } in
      let part : DidPart c (told_call_view model old) (told_of model new) left =
      subst (λ told. DidPart c (told_call_view model old) told left) (sym told_new)
      (part_kept c before old.kept off (model.contents new.host) left did) in
      inr (
        part.answer,
        λ w at. record {
          untaken = off_untaken c off;
          ahead = ahead;
          fits = part.fits (over w);
          world = sym (part.world (over w));
          records = part.records (over w);
        },
      )

  data_left : (left : List Undo) → ((left ≡ []) × (model.contents new.host ≡ model.contents old.host)) ⊎ DidPart c before (model.contents new.host) left
      → KeepsData (model.contents old.host) (model.contents new.host)
  data_left left (inl same) = subst (KeepsData (model.contents old.host)) (sym same.1) (data_keeps_itself (model.contents old.host))
  data_left left (inr did) = keeps_part c before off (model.contents new.host) left did

  -- memory runs out
  file_left : (e : NoMemory) → IsHostCall model c (calling old) (calling new) (Err e) → new.tx ≡ framed old.tx (tx_parts new.tx)
      → new.tx.writes ≡ old.tx.writes → LeavesOff model c old new
  file_left e k frame writes =
      record {
        left = k.made;
        one = k.one;
        tx = frame ∙ (λ i. record old.tx { me = k.memory.me i; writes = writes i; undo = k.undo i });
        uses = record { made = k.uses.made; named = inr (inl k.uses.named); used = k.uses.used };
        faults = k.cause;
        lent = still_kept c old.tx.me (record { old = old.kept; new = new.kept }) (Err e) (off_untaken c off) kept;
        keeps = λ tells. data_left k.made (k.memory.effect tells);
        contents = λ tells. part_left k.made (k.memory.effect tells);
      }

  file_answered : (r : Result Reply NoMemory) → IsHostCall model c (calling old) (calling new) r → new.tx ≡ framed old.tx (tx_parts new.tx)
      → new.tx.writes ≡ old.tx.writes → new.tx.me.stored ≤ 16384 → is_kept c ≡ false → IfOk r (λ reply. is_late reply ≡ false)
      → HasActedAsPlain model c old new r
  file_answered (Ok reply) k frame writes stored at_once now =
      call_done model model old.host new.host c old new other reply k k.uses k.cause (file_told reply k)
      (frame ∙ framed_now old.tx (tx_parts new.tx) c reply (off_untaken c off) now) writes stored
      (in_time_now c old.tx.me old.tx.number reply at_once now)
      (still_kept c old.tx.me (record { old = old.kept; new = new.kept }) (Ok reply) (off_untaken c off) kept)
  file_answered (Err e) k frame writes stored at_once now = file_left e k frame writes

-- so it has acted; the transaction and the words are as before but for its private state and its records
pub file_acted : {H : Type 0} (model : HostModel H) (c d : Call) (old new : Acting H) (r : Result Reply NoMemory) → c ≡ d → is_word_call d ≡ false
    → is_on_data d ≡ false → is_back d ≡ false → new.kept ≡ old.kept → is_kept d ≡ false → IsHostCall model d (calling old) (calling new) r
    → new.tx ≡ record old.tx { me = new.tx.me; undo = new.tx.undo }
    → new.tx.me.stored ≤ 16384 → IfOk r (λ reply. is_late reply ≡ false) → HasActedAsPlain model c old new r
file_acted model c d old new r is other off ahead kept at_once k frame stored now =
    let writes = ap (λ (t : TxView). t.writes) frame in
    let whole : new.tx ≡ framed old.tx (tx_parts new.tx) =
    frame ∙ ap (λ ws. record old.tx { me = new.tx.me; writes = ws; undo = new.tx.undo }) (sym writes) in
    subst (λ (e : Call). HasActedAsPlain model e old new r) (sym is) (file_answered model d old new other off ahead kept r k whole writes stored at_once now)

-- so has one at these handles, which are those of the transaction
pub file_acted_at : {H : Type 0} (model : HostModel H) (c d : Call) (old new : Acting H) (me : Private) (r : Result Reply NoMemory) → me ≡ old.tx.me
    → c ≡ d → is_word_call d ≡ false → is_on_data d ≡ false → is_back d ≡ false → new.kept ≡ old.kept → is_kept d ≡ false
    → IsHostCall model d (record (calling old) { me = me }) (calling new) r
    → new.tx ≡ record old.tx { me = new.tx.me; undo = new.tx.undo } → new.tx.me.stored ≤ 16384 → IfOk r (λ reply. is_late reply ≡ false)
    → HasActedAsPlain model c old new r
file_acted_at model c d old new me r same is other off ahead kept at_once k =
    file_acted model c d old new r is other off ahead kept at_once
    (subst (λ (m : Private). IsHostCall model d (record (calling old) { me = m }) (calling new) r) same k)

-- a call that reaches no host has acted
pub alone_acted : {H : Type 0} (model : HostModel H) (c d : Call) (old : Acting H) (next : Private) (reply : Reply) → c ≡ d → is_word_call d ≡ false
    → is_on_data d ≡ false → is_back d ≡ false → is_kept d ≡ false → StepsAlone d old.tx.me next reply → next.stored ≤ 16384 → is_late reply ≡ false
    → HasDoneAsPlain model c old (record old { tx = record old.tx { me = next } }) reply
alone_acted model c d old next reply is other off ahead at_once alone stored now =
    file_acted model c d old (record old { tx = record old.tx { me = next } }) (Ok reply) is other off ahead refl at_once
    (alone_call model d (calling old) next reply alone) refl stored now

-- so has one at these handles
pub alone_acted_at : {H : Type 0} (model : HostModel H) (c d : Call) (old : Acting H) (next me : Private) (reply : Reply) → me ≡ old.tx.me → c ≡ d
    → is_word_call d ≡ false → is_on_data d ≡ false → is_back d ≡ false → is_kept d ≡ false → StepsAlone d me next reply → next.stored ≤ 16384
    → is_late reply ≡ false
    → HasDoneAsPlain model c old (record old { tx = record old.tx { me = next } }) reply
alone_acted_at model c d old next me reply same is other off ahead at_once alone =
    alone_acted model c d old next reply is other off ahead at_once (subst (λ (m : Private). StepsAlone d m next reply) same alone)
