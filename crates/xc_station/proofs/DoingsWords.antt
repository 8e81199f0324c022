-- A call on words is the plain machine's.
use Rattle.std.proofs.Common.{◌≡◌, inl, ℕ, ◌≤◌, true, false, List, [], ◌++◌, length, refl, ap, sym, ◌∙◌, subst, IsTrue, arith}
use Rattle.std.proofs.lemmas.List.Elements.{All-nil}
use Rattle.std.specs.Prelude.{All, Result, Ok, Err, IfOk, OnErr, OnOk}
use Rattle.xc_data.specs.Counts.{CountsFault}
use Rattle.xc_data.specs.Faults.{is_fault_reply}
use Rattle.xc_data.specs.declared.call.Answer.{Answer}
use Rattle.xc_data.specs.declared.call.Answer.TheVariants as answer
use Rattle.xc_data.specs.declared.call.Call.{Call}
use Rattle.xc_data.specs.declared.call.Call.TheVariants as call
use Rattle.xc_data.specs.declared.call.Reply.{Reply}
use Rattle.xc_data.specs.declared.memory.NoMemory.{NoMemory}
use Rattle.xc_host.specs.Model.{HostModel}
use Rattle.xc_host.proofs.Laws.{unused, data_keeps_itself}
use Rattle.xc_txmem.specs.Overlay.{overlaid}
use Rattle.xc_world.specs.Act.{act}
use Rattle.xc_world.specs.After.{IsMeAfter}
use Rattle.xc_world.specs.Checks.{IsChecked, refusal_of}
use Rattle.xc_world.specs.Act.Step.{step_to}
use Rattle.xc_world.specs.Effects.{takes_data}
use Rattle.xc_world.specs.Fits.{fits, answer_of}
use Rattle.xc_data.specs.Calls.{is_late, is_kept}
use Rattle.xc_model.specs.PlainSteps.{StepsAsPlainIn, tx_parts, contents_seen, stored_by}
use Rattle.xc_model.specs.WordCalls.{is_word_call, word_reply, words_after}
use Rattle.xc_station.specs.Acting.{Acting, HasActedAsPlain, HasDoneAsPlain, LeavesOff, told_between, told_of}
use Rattle.xc_station.specs.Lent.{IsBacked}
use Rattle.xc_station.proofs.WordActs.{append_nil, word-act, word-after, word-checked, word-fine, word-quiet, word-kinds, word-trail, word-uses}
use Rattle.xc_station.proofs.TakenAgain.{none_given, still_kept}
use Rattle.xc_station.proofs.Doings.{in_time_now, none_taken, framed_now}

-- ---- a call on words
-- it isn't kept for the commit
word_at_once : (c : Call) → is_word_call c ≡ true → is_kept c ≡ false
word_at_once (call.Load at) is = refl
word_at_once (call.Store at value) is = refl
word_at_once _ is = cc

-- it takes no data
pub word_untaken : (c : Call) → is_word_call c ≡ true → takes_data c ≡ false
word_untaken (call.Load at) is = refl
word_untaken (call.Store at value) is = refl
word_untaken _ is = cc

-- a transaction that stored
abbrev pub storing_writes : {H : Type 0} → Acting H → List (ℕ × ℕ) → Acting H
storing_writes a writes = record a { tx = record a.tx { writes = writes } }

module _ {H : Type 0} (model : HostModel H) (c : Call) (old : Acting H) (writes : List (ℕ × ℕ)) (is : is_word_call c ≡ true) where
  -- the plain machine does it
  does_words : (reply : Reply) → reply ≡ word_reply (overlaid old.words old.tx.writes) c
      → overlaid old.words writes ≡ words_after (overlaid old.words old.tx.writes) c
      → StepsAsPlainIn old.words (told_between model old old) (record { old = tx_parts old.tx; new = tx_parts (storing_writes old writes).tx }) c reply
  does_words reply gives after w at =
      let was = told_of model old in
      let stores = old.tx.writes in
      let me = old.tx.me in
      let number = old.tx.number in
      let v = contents_seen w was stores in
      let gives' : reply ≡ word_reply v.words c = gives ∙ ap (λ ws. word_reply (overlaid ws stores) c) (sym at) in
      let after' : words_after v.words c ≡ overlaid w.words writes =
      ap (λ ws. words_after (overlaid ws stores) c) at ∙ sym after ∙ ap (λ ws. overlaid ws writes) (sym at) in
      let fine : answer_of reply ≡ answer.Fine = ap answer_of gives' ∙ word-fine v.words c is in
      record {
        step = ap (act v me number c) fine ∙ word-act v me number c is ∙ (λ i. step_to (record v { words = after' i }) me (sym gives' i));
        fits = subst (λ (a : Answer). IsTrue (fits v me number c a)) (sym fine) refl;
        records = sym (append_nil old.tx.undo.pending) ∙ ap (λ us. old.tx.undo.pending ++ us) (sym (word-trail v me number c reply is));
      }

  word_done : (reply : Reply) → reply ≡ word_reply (overlaid old.words old.tx.writes) c → writes ≡ old.tx.writes ++ stored_by (length old.words) c
      → overlaid old.words writes ≡ words_after (overlaid old.words old.tx.writes) c → is_late reply ≡ false → old.tx.me.stored ≤ 16384
      → HasDoneAsPlain model c old (storing_writes old writes) reply
  word_done reply gives stores after now stored =
      let at_once = word_at_once c is in
      let quiet = ap is_fault_reply gives ∙ word-quiet (overlaid old.words old.tx.writes) c is in
      record {
        tx = framed_now old.tx (tx_parts (storing_writes old writes).tx) c reply (word_untaken c is) now;
        checked = subst (IsChecked (refusal_of c old.tx.me) c) (sym gives) (word-checked (overlaid old.words old.tx.writes) old.tx.me c is);
        after = subst (λ r. IsMeAfter old.tx.number c r old.tx.me old.tx.me) (sym gives)
            (word-after (overlaid old.words old.tx.writes) old.tx.me old.tx.number c is);
        stores = stores;
        stored = stored;
        made = [];
        one = omega arith;
        kinds = word-kinds c reply is;
        undo = ap (λ us. record old.tx.undo { pending = us }) (sym (append_nil old.tx.undo.pending));
        in_time = in_time_now c old.tx.me old.tx.number reply at_once now;
        uses = record { made = []; named = word-uses old.tx.me c reply is; used = unused model old.host };
        cause = subst (λ b. CountsFault b (model.fault_count old.host) (model.fault_count old.host)) (sym quiet) refl;
        lent = still_kept c old.tx.me (record { old = old.kept; new = old.kept }) (Ok reply) (word_untaken c is) refl;
        spoken = record { words = after; gives = λ _. gives };
        backed = λ tells. subst (All (IsBacked (model.contents old.host))) (sym (none_taken c old.tx.me reply (word_untaken c is)))
            (All-nil (IsBacked (model.contents old.host)));
        keeps = λ tells. data_keeps_itself (model.contents old.host);
        does = λ tells. does_words reply gives after;
      }

-- for want of memory nothing was done
pub nothing_left : {H : Type 0} (model : HostModel H) (c : Call) (old : Acting H) → LeavesOff model c old old
nothing_left model c old =
    record {
      left = [];
      one = omega arith;
      tx = ap (λ us. record old.tx { undo = record old.tx.undo { pending = us } }) (sym (append_nil old.tx.undo.pending));
      uses = record { made = []; named = inl refl; used = unused model old.host };
      faults = refl;
      lent = none_given c old.tx.me old.kept (record {});
      keeps = λ tells. data_keeps_itself (model.contents old.host);
      contents = λ tells. inl (refl, refl);
    }

-- a load has acted
pub load_acted : {H : Type 0} (model : HostModel H) (c : Call) (at : ℕ) (old : Acting H) (reply : Reply) → c ≡ call.Load at
    → reply ≡ word_reply (overlaid old.words old.tx.writes) (call.Load at) → is_late reply ≡ false → old.tx.me.stored ≤ 16384
    → HasDoneAsPlain model c old old reply
load_acted model c at old reply is gives now stored =
    subst (λ d. HasDoneAsPlain model d old old reply) (sym is)
    (word_done model (call.Load at) old old.tx.writes refl reply gives (sym (append_nil old.tx.writes)) refl now stored)

-- a store has acted
pub store_acted : {H : Type 0} (model : HostModel H) (c : Call) (at value : ℕ) (old : Acting H) (writes : List (ℕ × ℕ)) (r : Result Reply NoMemory)
    → c ≡ call.Store at value
    → IfOk r (λ reply. reply ≡ word_reply (overlaid old.words old.tx.writes) (call.Store at value))
    → OnOk r (writes ≡ old.tx.writes ++ stored_by (length old.words) (call.Store at value))
    → OnOk r (overlaid old.words writes ≡ words_after (overlaid old.words old.tx.writes) (call.Store at value))
    → OnErr r (writes ≡ old.tx.writes) → IfOk r (λ reply. is_late reply ≡ false) → old.tx.me.stored ≤ 16384
    → HasActedAsPlain model c old (storing_writes old writes) r
store_acted model c at value old writes (Ok reply) is gives stores after err now stored =
    subst (λ d. HasDoneAsPlain model d old (storing_writes old writes) reply) (sym is)
    (word_done model (call.Store at value) old writes refl reply gives stores after now stored)
store_acted model c at value old writes (Err e) is gives stores after err now stored =
    subst (λ ws. LeavesOff model c old (storing_writes old ws)) (sym err) (nothing_left model c old)
