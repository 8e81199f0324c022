-- A call that is kept for the commit is the plain machine's.
use Rattle.std.proofs.Common.{◌≡◌, inl, ◌≤◌, true, false, [], refl, ap, sym, ◌∙◌, subst, IsTrue, arith}
use Rattle.std.proofs.lemmas.List.Elements.{All-nil}
use Rattle.std.specs.Prelude.{All, Result, Ok, Err, IfOk, OnErr}
use Rattle.xc_data.specs.declared.call.Call.{Call}
use Rattle.xc_data.specs.declared.call.Reply.{Reply}
use Rattle.xc_data.specs.declared.memory.NoMemory.{NoMemory}
use Rattle.xc_data.specs.declared.private.Private.{Private}
use Rattle.xc_deferred.specs.Queue.{Queue}
use Rattle.xc_calls.specs.Calls.{StepsAlone}
use Rattle.xc_calls.specs.Deferred.{IsDeferred, IsKeptWith}
use Rattle.xc_calls.proofs.Laws.{alone_call}
use Rattle.xc_host.specs.Contents.{with_contents}
use Rattle.xc_host.specs.Model.{HostModel}
use Rattle.xc_host.proofs.Laws.{unused, data_keeps_itself}
use Rattle.xc_world.specs.Act.Step.{Stepped}
use Rattle.xc_world.specs.Effects.{takes_data}
use Rattle.xc_data.specs.Calls.{is_kept}
use Rattle.xc_model.specs.Moment.{queue_of, with_queue}
use Rattle.xc_model.specs.WordCalls.{is_word_call}
use Rattle.xc_station.specs.Acting.{Acting, HasActedAsPlain, HasDoneAsPlain, told_of}
use Rattle.xc_station.specs.Lent.{IsBacked}
use Rattle.xc_station.proofs.TakenAgain.{still_kept}
use Rattle.xc_station.proofs.WordActs.{append_nil}
use Rattle.xc_station.proofs.Doings.{call_done, calling, none_taken, none_noted, IsToldCall}

-- ---- a call that is kept for the commit
-- a transaction at a host with other late calls, and another private state
abbrev pub queueing : {H : Type 0} → Acting H → Private → Queue → Acting H
queueing a me queue = record a { tx = with_queue (record a.tx { me = me }) queue }

-- the host does nothing, with what is kept in front too
kept_told : {H : Type 0} (model : HostModel H) (d : Call) (old : Acting H) (me : Private) (queue : Queue) (reply : Reply) → takes_data d ≡ false
    → (alone : StepsAlone d old.tx.me me reply) → IsTrue model.tells
    → IsToldCall model d (record { old = old; new = queueing old me queue }) (alone_call model d (calling old) me reply alone).made reply
kept_told model d old me queue reply untaken alone tells =
    let k = alone_call (record model { tells = true; contents = λ host. told_of model old }) d (calling old) me reply alone in
    record {
      acts = k.acts refl;
      records = λ w.
          (alone_call model d (calling old) me reply alone).records tells w
          ∙ alone.unrecorded (with_contents w (model.contents old.host)) old.tx.number
          ∙ sym (alone.unrecorded (with_contents w (told_of model old)) old.tx.number);
      backed = subst (All (IsBacked (model.contents old.host))) (sym (none_taken d old.tx.me reply untaken)) (All-nil (IsBacked (model.contents old.host)));
      keeps = data_keeps_itself (model.contents old.host);
    }

-- it has acted: the host is as it was
pub stored_acted : {H : Type 0} (model : HostModel H) (c d : Call) (old : Acting H) (me : Private) (queue : Queue) (r : Result Reply NoMemory) → c ≡ d
    → is_word_call d ≡ false → takes_data d ≡ false → is_kept d ≡ true
    → IfOk r (λ reply. IsKeptWith d (record { old = old.tx.me; new = me }) (record { old = queue_of old.tx; new = queue }) reply)
    → OnErr r ((queue ≡ queue_of old.tx) × (me ≡ old.tx.me)) → me.stored ≤ 16384 → HasActedAsPlain model c old (queueing old me queue) r
stored_acted model c d old me queue (Ok reply) is other untaken waiting kept err stored =
    let k = alone_call model d (calling old) me reply kept.alone in
    subst (λ (e : Call). HasDoneAsPlain model e old (queueing old me queue) reply) (sym is)
    (call_done model model old.host old.host d old (queueing old me queue) other reply k k.uses k.cause
    (kept_told model d old me queue reply untaken kept.alone)
    (λ i. record old.tx {
      me = me;
      taken = none_noted old.tx.taken d old.tx.me reply untaken i;
      late = (kept.left i).calls;
      ends = (kept.left i).ends;
    })
    refl stored (record {
      kept = λ _ w. ap (λ (s : Stepped). s.reply) (sym (kept.alone.step w old.tx.number));
      now = λ at_once. absurd (cc (at_once, waiting));
    })
    (still_kept d old.tx.me (record { old = old.kept; new = old.kept }) (Ok reply) untaken refl))
stored_acted model c d old me queue (Err e) is other untaken waiting kept err stored =
    record {
      left = [];
      one = omega arith;
      tx = λ i. record (queueing old (err.1 i) (err.0 i)).tx { undo = record old.tx.undo { pending = sym (append_nil old.tx.undo.pending) i } };
      uses = record { made = []; named = inl refl; used = unused model old.host };
      faults = refl;
      lent = still_kept c old.tx.me (record { old = old.kept; new = old.kept }) (Err e) (ap takes_data is ∙ untaken) refl;
      keeps = λ tells. data_keeps_itself (model.contents old.host);
      contents = λ tells. inl (refl, refl);
    }

-- so has one at these handles
pub stored_acted_at : {H : Type 0} (model : HostModel H) (c d : Call) (old : Acting H) (was me : Private) (queue : Queue) (r : Result Reply NoMemory)
    → was ≡ old.tx.me → c ≡ d → is_word_call d ≡ false → takes_data d ≡ false → is_kept d ≡ true
    → IfOk r (λ reply. IsKeptWith d (record { old = was; new = me }) (record { old = queue_of old.tx; new = queue }) reply)
    → OnErr r ((queue ≡ queue_of old.tx) × (me ≡ was)) → me.stored ≤ 16384 → HasActedAsPlain model c old (queueing old me queue) r
stored_acted_at model c d old was me queue r same is other untaken waiting kept err =
    stored_acted model c d old me queue r is other untaken waiting
    (subst (λ (m : Private). IfOk r (λ reply. IsKeptWith d (record { old = m; new = me }) (record { old = queue_of old.tx; new = queue }) reply)) same kept)
    (subst (λ (m : Private). OnErr r ((queue ≡ queue_of old.tx) × (me ≡ m))) same err)

-- so has one that leaves the private state
pub kept_acted : {H : Type 0} (model : HostModel H) (c d : Call) (old : Acting H) (queue : Queue) (r : Result Reply NoMemory) → c ≡ d
    → is_word_call d ≡ false → takes_data d ≡ false → is_kept d ≡ true → IfOk r (λ reply. IsDeferred d old.tx.me (queue_of old.tx) queue reply)
    → OnErr r (queue ≡ queue_of old.tx) → old.tx.me.stored ≤ 16384 → HasActedAsPlain model c old (queueing old old.tx.me queue) r
kept_acted model c d old queue (Ok reply) is other untaken waiting kept err =
    stored_acted model c d old old.tx.me queue (Ok reply) is other untaken waiting (record { alone = kept.alone; left = kept.left }) tt
kept_acted model c d old queue (Err e) is other untaken waiting kept err =
    stored_acted model c d old old.tx.me queue (Err e) is other untaken waiting tt (err, refl)

-- so has one at these handles
pub kept_acted_at : {H : Type 0} (model : HostModel H) (c d : Call) (old : Acting H) (queue : Queue) (me : Private) (r : Result Reply NoMemory)
    → me ≡ old.tx.me → c ≡ d → is_word_call d ≡ false → takes_data d ≡ false → is_kept d ≡ true
    → IfOk r (λ reply. IsDeferred d me (queue_of old.tx) queue reply)
    → OnErr r (queue ≡ queue_of old.tx) → old.tx.me.stored ≤ 16384 → HasActedAsPlain model c old (queueing old old.tx.me queue) r
kept_acted_at model c d old queue me r same is other untaken waiting kept =
    kept_acted model c d old queue r is other untaken waiting
    (subst (λ (m : Private). IfOk r (λ reply. IsDeferred d m (queue_of old.tx) queue reply)) same kept)
