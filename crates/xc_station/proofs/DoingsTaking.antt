-- A call that takes from a pipe or a pair is the plain machine's.
use Rattle.std.proofs.Common.{◌≡◌, ◌⊎◌, inl, inr, ◌≤◌, false, List, [], refl, ap, sym, ◌∙◌, subst, IsTrue, arith}
use Rattle.std.proofs.lemmas.List.Elements.{All-nil}
use Rattle.std.specs.Prelude.{All, Result, Ok, Err, IfOk, OnErr}
use Rattle.xc_data.specs.declared.call.Answer.{Answer}
use Rattle.xc_data.specs.declared.call.Call.{Call}
use Rattle.xc_data.specs.declared.call.Reply.{Reply}
use Rattle.xc_data.specs.declared.entry.KeptItem.{KeptItem}
use Rattle.xc_data.specs.declared.memory.NoMemory.{NoMemory}
use Rattle.xc_data.specs.declared.private.Private.{Private}
use Rattle.xc_data.specs.declared.undo.Undo.{Undo}
use Rattle.xc_calls.specs.Calls.{DidPart, IsHostCall}
use Rattle.xc_host.specs.Fronted.{before as in_front, fronted}
use Rattle.xc_host.specs.Kept.{KeepsData, with_kept}
use Rattle.xc_host.specs.Model.{HostModel}
use Rattle.xc_calls.specs.Taking.{Notes, HasTaken}
use Rattle.xc_txmem.specs.Overlay.{overlaid}
use Rattle.xc_world.specs.World.{World}
use Rattle.xc_world.specs.Effects.{takes_data}
use Rattle.xc_world.specs.Fits.{is_back}
use Rattle.xc_world.specs.Run.{taken_by}
use Rattle.xc_data.specs.Calls.{is_late, is_kept}
use Rattle.xc_model.specs.PlainSteps.{LeavesAsPlainIn, IsReplyInTime, tx_parts}
use Rattle.xc_model.specs.Moment.{TxView}
use Rattle.xc_model.specs.WordCalls.{is_word_call}
use Rattle.xc_station.specs.Acting.{Acting, HasActedAsPlain, HasDoneAsPlain, LeavesOff, StopsTaking, told_between, told_of}
use Rattle.xc_station.specs.Acting.{with_parts}
use Rattle.xc_station.specs.Lent.{IsBacked}
use Rattle.xc_station.proofs.TakenAgain.{still_kept}
use Rattle.xc_station.proofs.WordActs.{append_nil}
use Rattle.xc_station.proofs.Doings.{call_done, calling_front, none_behind, in_time_now, framed, none_taken, framed_now, told_call_view}
use Rattle.xc_station.proofs.Doings.{uses_below}

-- ---- a call on a pipe
module _ {H : Type 0} (model : HostModel H) (c : Call) (old new : Acting H) (other : is_word_call c ≡ false) where
  -- over the host with what is kept in front it is the plain machine's
  pub pipe_done : (reply : Reply) → IsHostCall (fronted model) c (calling_front old) (calling_front new) (Ok reply)
      → (IsTrue model.tells → All (IsBacked (model.contents old.host)) (taken_by c old.tx.me reply))
      → (IsTrue model.tells → KeepsData (model.contents old.host) (model.contents new.host))
      → new.tx ≡ with_parts old.tx c reply (tx_parts new.tx) → new.tx.writes ≡ old.tx.writes → new.tx.me.stored ≤ 16384
      → IsReplyInTime old.tx.me old.tx.number c reply → HasTaken c old.tx.me (record { old = old.kept; new = new.kept }) (Ok reply)
      → HasDoneAsPlain model c old new reply
  pipe_done reply k backed keeps frame writes stored in_time lent =
      call_done model (fronted model) (in_front old.host old.kept) (in_front new.host new.kept) c old new other reply k
      (uses_below model (in_front old.host old.kept) (in_front new.host new.kept) k.uses) k.cause
      (λ tells. record { acts = k.acts tells; records = k.records tells; backed = backed tells; keeps = keeps tells })
      frame writes stored in_time lent

  -- what it did where memory runs out
  pipe_part : takes_data c ≡ false → is_back c ≡ false → (left : List Undo)
      → ((left ≡ []) × (told_of model new ≡ told_of model old)) ⊎ DidPart c (told_call_view model old) (told_of model new) left
      → ((left ≡ []) × (told_of model new ≡ told_of model old))
      ⊎ ((a : Answer) × LeavesAsPlainIn old.words (told_between model old new) (tx_parts old.tx) (record { call = c; answer = a }) left)
  pipe_part untaken ahead left (inl same) = inl same
  pipe_part untaken ahead left (inr did) =
      let over = λ (w : World). record w { words = overlaid w.words old.tx.writes } in
      inr (
        did.answer,
        λ w at. record { untaken = untaken; ahead = ahead; fits = did.fits (over w); world = sym (did.world (over w)); records = did.records (over w) },
      )

  pub pipe_left : (e : NoMemory) → takes_data c ≡ false → is_back c ≡ false → IsHostCall (fronted model) c (calling_front old) (calling_front new) (Err e)
      → (IsTrue model.tells → KeepsData (model.contents old.host) (model.contents new.host))
      → new.tx ≡ framed old.tx (tx_parts new.tx) → new.tx.writes ≡ old.tx.writes → new.kept ≡ old.kept → LeavesOff model c old new
  pipe_left e untaken ahead k keeps frame writes still =
      let uses = uses_below model (in_front old.host old.kept) (in_front new.host new.kept) k.uses in
      record {
        left = k.made;
        one = k.one;
        tx = frame ∙ (λ i. record old.tx { me = k.memory.me i; writes = writes i; undo = k.undo i });
        uses = record { made = uses.made; named = inr (inl uses.named); used = uses.used };
        faults = k.cause;
        lent = still_kept c old.tx.me (record { old = old.kept; new = new.kept }) (Err e) untaken still;
        keeps = keeps;
        contents = λ tells. pipe_part untaken ahead k.made (k.memory.effect tells);
      }

-- a call on a pipe or a pair that takes nothing and isn't kept is done, or memory ran out
pub made_acted : {H : Type 0} (model : HostModel H) (c d : Call) (old new : Acting H) (me : Private) (r : Result Reply NoMemory) → me ≡ old.tx.me
    → c ≡ d → is_word_call d ≡ false → takes_data d ≡ false → is_back d ≡ false → is_kept d ≡ false → new.kept ≡ old.kept
    → IsHostCall (fronted model) d (record (calling_front old) { me = me }) (calling_front new) r
    → (IsTrue model.tells → KeepsData (model.contents old.host) (model.contents new.host))
    → new.tx ≡ record old.tx { me = new.tx.me; undo = new.tx.undo } → new.tx.me.stored ≤ 16384 → IfOk r (λ reply. is_late reply ≡ false)
    → HasActedAsPlain model c old new r
made_acted {H = H} model c d old new me r same is other untaken ahead at_once still k keeps frame stored now =
    let writes = ap (λ (t : TxView). t.writes) frame in
    let whole : new.tx ≡ framed old.tx (tx_parts new.tx) =
    frame ∙ ap (λ ws. record old.tx { me = new.tx.me; writes = ws; undo = new.tx.undo }) (sym writes) in
    let called = subst (λ (m : Private). IsHostCall (fronted model) d (record (calling_front old) { me = m }) (calling_front new) r) same k in
    subst (λ (e : Call). HasActedAsPlain model e old new r) (sym is) (by_result r whole writes called now)
  where
    by_result : (r : Result Reply NoMemory) → new.tx ≡ framed old.tx (tx_parts new.tx) → new.tx.writes ≡ old.tx.writes
        → IsHostCall (fronted model) d (calling_front old) (calling_front new) r → IfOk r (λ reply. is_late reply ≡ false)
        → HasActedAsPlain model d old new r
    by_result (Ok reply) whole writes called now =
        let P = IsBacked (model.contents old.host) in
        pipe_done model d old new other reply called (λ tells. subst (All P) (sym (none_taken d old.tx.me reply untaken)) (All-nil P)) keeps
        (whole ∙ framed_now old.tx (tx_parts new.tx) d reply untaken now) writes stored (in_time_now d old.tx.me old.tx.number reply at_once now)
        (still_kept d old.tx.me (record { old = old.kept; new = new.kept }) (Ok reply) untaken still)
    by_result (Err e) whole writes called now = pipe_left model d old new other e untaken ahead called keeps whole writes still

-- a transaction that took something, and noted it
abbrev pub noting_taken : TxView → Private → List KeptItem → TxView
noting_taken tx me taken = record tx { me = me; taken = taken }

-- something is taken, or memory ran out
module _ {H : Type 0} (model : HostModel H) (d : Call) (old : Acting H) (host : H) (kept taken : List KeptItem) (me : Private) where
  abbrev pub read_to : Acting H
  read_to = record old { host = host; kept = kept; tx = noting_taken old.tx me taken }

  pub read_acted : (r : Result Reply NoMemory) → is_word_call d ≡ false → is_kept d ≡ false
      → IfOk r (λ reply. IsHostCall (fronted model) d (calling_front old) (calling_front read_to) (Ok reply))
      → OnErr r (StopsTaking model d (record { old = old.host; new = host }) (record { old = old.tx.me; new = me }))
      → Notes d old.tx.me (record { old = old.tx.taken; new = taken }) r
      → (IsTrue model.tells → OnErr r (told_of model read_to ≡ told_of model old))
      → (IsTrue model.tells → IfOk r (λ reply. All (IsBacked (model.contents old.host)) (taken_by d old.tx.me reply)))
      → (IsTrue model.tells → KeepsData (model.contents old.host) (model.contents host)) → me.stored ≤ 16384 → IfOk r (λ reply. is_late reply ≡ false)
      → HasTaken d old.tx.me (record { old = old.kept; new = kept }) r → HasActedAsPlain model d old read_to r
  read_acted (Ok reply) other at_once k stops notes err backed keeps stored now lent =
      pipe_done model d old read_to other reply k backed keeps
      (λ i. record read_to.tx { taken = notes i; late = none_behind old.tx.late d old.tx.me reply now i }) refl stored
      (in_time_now d old.tx.me old.tx.number reply at_once now) lent
  read_acted (Err e) other at_once k stops notes err backed keeps stored now lent =
      record {
        left = [];
        one = omega arith;
        tx = λ i. record old.tx { me = stops.me i; taken = notes i; undo = record old.tx.undo { pending = sym (append_nil old.tx.undo.pending) i } };
        uses = record { made = stops.uses.made; named = inr (inl stops.uses.named); used = stops.uses.used };
        faults = stops.faults;
        lent = lent;
        keeps = keeps;
        contents = λ tells. inl (refl, err tells);
      }

-- so is it at these handles
pub read_acted_at : {H : Type 0} (model : HostModel H) (c d : Call) (old : Acting H) (host : H) (kept taken : List KeptItem) (was me : Private)
    (r : Result Reply NoMemory) → was ≡ old.tx.me → c ≡ d → is_word_call d ≡ false → is_kept d ≡ false
    → IfOk r (λ reply. IsHostCall (fronted model) d (record (calling_front old) { me = was })
    (calling_front (read_to model d old host kept taken me)) (Ok reply))
    → OnErr r (StopsTaking model d (record { old = old.host; new = host }) (record { old = was; new = me }))
    → Notes d was (record { old = old.tx.taken; new = taken }) r
    → (IsTrue model.tells → OnErr r (with_kept (model.contents host) kept ≡ told_of model old))
    → (IsTrue model.tells → IfOk r (λ reply. All (IsBacked (model.contents old.host)) (taken_by d was reply)))
    → (IsTrue model.tells → KeepsData (model.contents old.host) (model.contents host)) → me.stored ≤ 16384 → IfOk r (λ reply. is_late reply ≡ false)
    → HasTaken d was (record { old = old.kept; new = kept }) r → HasActedAsPlain model c old (read_to model d old host kept taken me) r
read_acted_at model c d old host kept taken was me r same is other at_once k stops notes err backed keeps stored now lent =
    let after = read_to model d old host kept taken me in
    subst (λ (e : Call). HasActedAsPlain model e old after r) (sym is)
    (read_acted model d old host kept taken me r other at_once
    (subst (λ (m : Private). IfOk r (λ reply. IsHostCall (fronted model) d (record (calling_front old) { me = m }) (calling_front after) (Ok reply))) same k)
    (subst (λ (m : Private). OnErr r (StopsTaking model d (record { old = old.host; new = host }) (record { old = m; new = me }))) same stops)
    (subst (λ (m : Private). Notes d m (record { old = old.tx.taken; new = taken }) r) same notes) err
    (λ t. subst (λ (m : Private). IfOk r (λ reply. All (IsBacked (model.contents old.host)) (taken_by d m reply))) same (backed t)) keeps stored now
    (subst (λ (m : Private). HasTaken d m (record { old = old.kept; new = kept }) r) same lent))
