-- What one transaction has spoken: at its begin, after a call, and rolling back, whole or by a block.
use Rattle.std.proofs.Common.{◌≡◌, ◌≢◌, ℕ, ◌<◌, ◌||◌, Bool, true, false, Option, Some, None, List, [], ◌∷◌, ◌++◌, length, refl, ap, sym, ◌∙◌, subst}
use Rattle.std.specs.Prelude.{All, slice_get, slice_index, unwrap_or}
use Rattle.std.specs.List.{list_any}
use Rattle.std.proofs.lemmas.List.Elements.{All-head}
use Rattle.std.proofs.lemmas.List.Folds.{list_any-append}
use Rattle.std.proofs.lemmas.List.Sums.{fold_push}
use mathlib.Core.Logic.{dite}
use native.Mathlib.Decide.{ℕ_discrete}
use Rattle.xc_compensate.specs.Records.{Records}
use Rattle.xc_data.specs.Claims.{claim, holding}
use Rattle.xc_data.specs.declared.call.Call.{Call}
use Rattle.xc_data.specs.declared.call.Call.TheVariants as call
use Rattle.xc_data.specs.declared.call.LateEnd.{LateEnd}
use Rattle.xc_data.specs.declared.call.Reply.{Reply}
use Rattle.xc_data.specs.declared.claim.Claim.{Claim}
use Rattle.xc_data.specs.declared.claim.Mode.{Mode}
use Rattle.xc_data.specs.declared.entry.Cause.{Cause}
use Rattle.xc_data.specs.declared.object.Object.TheVariants as object
use Rattle.xc_data.specs.declared.private.Private.{Private}
use Rattle.xc_txmem.specs.Overlay.{overlaid, AreWithin}
use Rattle.xc_world.specs.Fits.{is_back}
use Rattle.xc_world.specs.Modes.{mode_of, claims_of}
use Rattle.xc_world.specs.Own.{Sees, Owns}
use Rattle.xc_model.specs.declared.phase.Phase.{Phase}
use Rattle.xc_model.specs.declared.phase.Phase.TheVariants.{Running, Committing, Undoing, Backing}
use Rattle.xc_model.specs.WordCalls.{IsWordStep, WordState, word_reply, words_after, word_step, begin_words, word_state, words_behind}
use Rattle.xc_model.specs.Moment.{TxView, SavedView, JobView, active_of}
use Rattle.xc_model.specs.Rivals.{HasNoRival}
use Rattle.xc_model.specs.PlainSteps.{Parts, copied, noting, saved_by, stored_by}
use Rattle.xc_model.specs.BackingRows.{backed}
use Rattle.xc_model.specs.IdleRows.{new_tx}
use Rattle.xc_model.specs.Words.{speaks_of, stores_to, HoldsWords, WaitsToStore, AreSavedStores, AreStoresOf, TxWordsAgree, IsWriter, WordsAgree}
use Rattle.xc_turns.proofs.WordLists.{reply_alike, laid_more, within_more}
use Rattle.xc_turns.proofs.WordStates.{behind_alike, behind_count, replies-more}
use Rattle.xc_turns.proofs.WordClaims.{sees_still, owns_still, sees_claimed, owns_claimed, word_claims, stores_speaks, unowned}
use Rattle.xc_turns.proofs.Jobs.{active_was}

-- ---- no call more
-- a transaction that has just begun has said nothing
pub begun_spoken : (before : List ℕ) (number rank began : ℕ) (me : Private) → TxWordsAgree before (new_tx number rank began me)
begun_spoken before number rank began me =
    record {
      replies = refl;
      holds = record { reads = λ word lt any. cc any; stores = λ word lt any. cc any };
      stores = λ waits words n. (refl, tt);
      within = refl;
    }

-- it turns back, and may hold more
pub turned_spoken : (before : List ℕ) (tx : TxView) (c : Cause) (held : List Claim)
    → ((word : ℕ) → Sees tx.number tx.held (object.Word word) → Sees tx.number held (object.Word word))
    → ((word : ℕ) → Owns tx.number tx.held (object.Word word) → Owns tx.number held (object.Word word))
    → TxWordsAgree before tx → TxWordsAgree before (record tx { phase = Undoing c; held = held })
turned_spoken before tx c held sees owns sp =
    record {
      replies = sp.replies;
      holds = record { reads = λ word lt any. sees word (sp.holds.reads word lt any); stores = λ word lt any. owns word (sp.holds.stores word lt any) };
      stores = λ waits words n. absurd waits;
      within = sp.within;
    }

-- the stores of a running one wait
pub running_waits : (phase : Phase) → phase ≡ Running → WaitsToStore phase
running_waits phase runs = subst WaitsToStore (sym runs) tt

-- and those of one whose block goes back
pub backing_waits : (phase : Phase) → phase ≡ Backing → WaitsToStore phase
backing_waits phase backs = subst WaitsToStore (sym backs) tt

-- it goes over to another phase, or one of its records is tried
pub phased_spoken : (before : List ℕ) (tx : TxView) (phase : Phase) (undo : Records) → (WaitsToStore phase → WaitsToStore tx.phase)
    → TxWordsAgree before tx → TxWordsAgree before (record tx { phase = phase; undo = undo })
phased_spoken before tx phase undo still sp =
    record {
      replies = sp.replies;
      holds = record { reads = sp.holds.reads; stores = sp.holds.stores };
      stores = λ waits. sp.stores (still waits);
      within = sp.within;
    }

-- one of its late calls is done
pub ended_spoken : (before : List ℕ) (tx : TxView) (ends : List LateEnd) → TxWordsAgree before tx → TxWordsAgree before (record tx { ends = ends })
ended_spoken before tx ends sp =
    record {
      replies = sp.replies;
      holds = record { reads = sp.holds.reads; stores = sp.holds.stores };
      stores = sp.stores;
      within = sp.within;
    }

-- ---- one call more
any_last : (test : Call → Bool) (calls : List Call) (c : Call) (Q : Type 0) → list_any test (calls ++ c ∷ []) ≡ true
    → (list_any test calls ≡ true → Q) → (test c ≡ true → Q) → Q
any_last test calls c Q any before last = by_test (list_any test calls) (test c) refl refl (sym (list_any-append test calls (c ∷ [])) ∙ any)
  where
    by_test : (a b : Bool) → list_any test calls ≡ a → test c ≡ b → (a || (b || false)) ≡ true → Q
    by_test true b is also either = before is
    by_test false true is also either = last also
    by_test false false is also either = cc either

-- it holds the words that its calls speak of, the last one too
called_holds : (count : ℕ) (tx : TxView) (c : Call) (reply : Reply) (parts : Parts) → HoldsWords count tx
    → HoldsWords count (noting tx c reply (claims_of c tx.me count) parts)
called_holds count tx c reply parts holds =
    let claims = claims_of c tx.me count in
    let tx' = noting tx c reply claims parts in
    record {
      reads = λ word lt any. any_last (speaks_of word) tx.calls c (Sees tx.number tx'.held (object.Word word)) any
          (λ is. sees_still tx.number tx.held claims (object.Word word) (holds.reads word lt is))
          (λ is. subst (λ cs. Sees tx.number (holding tx.held cs) (object.Word word)) (sym (word_claims c tx.me count word lt is))
          (sees_claimed tx.number tx.held (mode_of c) (object.Word word)));
      stores = λ word lt any. any_last (stores_to word) tx.calls c (Owns tx.number tx'.held (object.Word word)) any
          (λ is. owns_still tx.number tx.held claims (object.Word word) (holds.stores word lt is))
          (λ is. subst (λ cs. Owns tx.number (holding tx.held cs) (object.Word word))
          (sym (word_claims c tx.me count word lt (stores_speaks c word is).0 ∙ ap (λ m. claim m (object.Word word) ∷ []) (stores_speaks c word is).1))
          (owns_claimed tx.number tx.held (object.Word word)));
    }

-- its stores lead to where its calls do, the last one too, which isn't a back
called_stores : (words : List ℕ) (tx : TxView) (s : WordState) (c : Call) (after : TxView) → is_back c ≡ false
    → overlaid words after.writes ≡ words_after (overlaid words tx.writes) c → AreWithin (length words) after.writes
    → after.saved ≡ saved_by c tx.saved (copied after) → AreStoresOf tx s words → AreStoresOf after (word_step s c) words
called_stores words tx s call.Save after ahead laid within is h =
    (laid ∙ h.0, subst (λ k. AreSavedStores k (Some s.words) words) (sym is) (laid ∙ h.0, within))
called_stores words tx s call.Keep after ahead laid within is h = (laid ∙ h.0, subst (λ k. AreSavedStores k None words) (sym is) tt)
called_stores words tx s call.Back after ahead laid within is h = cc ahead
called_stores words tx s c after ahead laid within is h =
    (laid ∙ ap (λ ws. words_after ws c) h.0, subst (λ k. AreSavedStores k s.saved words) (sym is) h.1)

-- ---- its block went back
-- the stores that its save kept lead to where a back does, and are in range
kept_stores : (words now : List ℕ) (kept : SavedView) (saved : Option (List ℕ)) → AreSavedStores (Some kept) saved words
    → (overlaid words kept.writes ≡ unwrap_or saved now) × AreWithin (length words) kept.writes
kept_stores words now kept None h = absurd h
kept_stores words now kept (Some at_save) h = h

-- it holds the words that its calls speak of: a back speaks of none
backed_holds : (count : ℕ) (tx : TxView) (kept : SavedView) → HoldsWords count tx → HoldsWords count (backed tx kept)
backed_holds count tx kept holds =
    record {
      reads = λ word lt any. any_last (speaks_of word) tx.calls call.Back (Sees tx.number tx.held (object.Word word)) any (holds.reads word lt) (λ is. cc is);
      stores = λ word lt any. any_last (stores_to word) tx.calls call.Back (Owns tx.number tx.held (object.Word word)) any (holds.stores word lt) (λ is. cc is);
    }

-- its stores are those of the save, and it said nothing of words
pub backed_spoken : (before : List ℕ) (tx : TxView) (kept : SavedView) → WaitsToStore tx.phase → tx.saved ≡ Some kept → TxWordsAgree before tx
    → TxWordsAgree before (backed tx kept)
backed_spoken before tx kept waits opened sp =
    let led = λ (words : List ℕ) (n : length words ≡ length before). kept_stores words (words_behind words tx.calls) kept (word_state words tx.calls).saved
    (subst (λ k. AreSavedStores k (word_state words tx.calls).saved words) opened (sp.stores waits words n).1) in
    record {
      replies = replies-more (begin_words before) tx.calls tx.replies call.Back _ sp.replies (λ is. cc is);
      holds = backed_holds (length before) tx kept sp.holds;
      stores = λ _ words n. subst (λ s. AreStoresOf (backed tx kept) s words) (sym (fold_push word_step (begin_words words) tx.calls call.Back))
          ((led words n).0, tt);
      within = (led before refl).1;
    }

module _ (before words : List ℕ) (jobs : List JobView) (at : ℕ) (job : JobView) (tx : TxView) (stands : slice_get jobs at ≡ Some job)
    (active : active_of job ≡ Some tx) (runs : tx.phase ≡ Running) (h : WordsAgree before words jobs) where
  -- a running one is no writer
  pub no_writer : (t : TxView) (word : ℕ) → IsWriter jobs at t word → ⊥
  no_writer t word w =
      let was = active_was jobs at job stands t w.active in
      let same : tx ≡ t = cc (active, was) in
      let phase : Running ≡ Committing = sym runs ∙ ap (λ (x : TxView). x.phase) same ∙ w.phase in
      cc phase

  -- a word on which its claims have no rival is as the journal left it
  pub word_same : (m : Mode) (word : ℕ) → word < length before → HasNoRival jobs at (claim m (object.Word word))
      → slice_index words word ≡ slice_index before word
  word_same m word lt free = h.others word lt (λ j t w. dite (ℕ_discrete j at) (λ (e : j ≡ at). no_writer t word (subst (λ k. IsWriter jobs k t word) e w))
      (λ (ne : j ≢ at). unowned jobs at j t m word free ne w.active w.owns))

  -- its stores with the call's are in range
  within_called : (c : Call) (parts : Parts) → parts.stores ≡ tx.writes ++ stored_by (length words) c → TxWordsAgree before tx
      → AreWithin (length before) parts.stores
  within_called c parts stores sp = subst (AreWithin (length before)) (sym (stores ∙ ap (λ n. tx.writes ++ stored_by n c) h.count))
      (within_more (length before) tx.writes c sp.within)

  -- its stores with the call's lead to where its calls with it do
  stores_more : (c : Call) (reply : Reply) (parts : Parts) → is_back c ≡ false → parts.stores ≡ tx.writes ++ stored_by (length words) c
      → TxWordsAgree before tx → (ws : List ℕ) → length ws ≡ length before
      → AreStoresOf (noting tx c reply (claims_of c tx.me (length words)) parts) (word_state ws (tx.calls ++ c ∷ [])) ws
  stores_more c reply parts ahead stores sp ws n =
      let tx' = noting tx c reply (claims_of c tx.me (length words)) parts in
      let count : length ws ≡ length words = n ∙ sym h.count in
      subst (λ s. AreStoresOf tx' s ws) (sym (fold_push word_step (begin_words ws) tx.calls c))
      (called_stores ws tx (word_state ws tx.calls) c tx' ahead (ap (overlaid ws) stores ∙ laid_more ws tx.writes (length words) c count)
      (subst (λ k. AreWithin k parts.stores) (sym n) (within_called c parts stores sp)) refl (sp.stores (running_waits tx.phase runs) ws n))

  -- a call is noted
  pub called_spoken : (c : Call) (reply : Reply) (parts : Parts) → is_back c ≡ false → All (HasNoRival jobs at) (claims_of c tx.me (length words))
      → parts.stores ≡ tx.writes ++ stored_by (length words) c → IsWordStep (overlaid words tx.writes) (overlaid words parts.stores) c reply
      → TxWordsAgree before (noting tx c reply (claims_of c tx.me (length words)) parts)
  called_spoken c reply parts ahead free stores step =
      let sp = h.each at tx (job, stands, active) in
      let laid : overlaid words tx.writes ≡ words_behind words tx.calls = (sp.stores (running_waits tx.phase runs) words h.count).0 in
      let free_word = λ (word : ℕ) (lt : word < length before) (is : speaks_of word c ≡ true).
      All-head (HasNoRival jobs at) (claim (mode_of c) (object.Word word)) [] (subst (All (HasNoRival jobs at))
      (word_claims c tx.me (length words) word (subst (λ n. word < n) (sym h.count) lt) is) free) in
      let alike = λ (word : ℕ) (lt : word < length (words_behind words tx.calls)) (is : speaks_of word c ≡ true).
      (let in' = subst (λ n. word < n) (behind_count words tx.calls ∙ h.count) lt in
      behind_alike words before tx.calls word h.count (word_same (mode_of c) word in' (free_word word in' is))) in
      record {
        replies = replies-more (begin_words before) tx.calls tx.replies c reply sp.replies (λ is. step.gives is ∙ ap (λ ws. word_reply ws c) laid
            ∙ reply_alike (words_behind words tx.calls) (words_behind before tx.calls) c
            (behind_count words tx.calls ∙ h.count ∙ sym (behind_count before tx.calls)) alike);
        holds = subst (λ n. HoldsWords (length before) (noting tx c reply (claims_of c tx.me n) parts)) (sym h.count)
            (called_holds (length before) tx c reply parts sp.holds);
        stores = λ _ ws n. stores_more c reply parts ahead stores sp ws n;
        within = within_called c parts stores sp;
      }
