-- Words after several calls, also in a block: how many there are, what is at one place, and what is replied.
use Rattle.std.proofs.Common.{◌≡◌, ℕ, ◌<◌, true, false, Option, Some, None, List, [], ◌∷◌, ◌++◌, length, refl, sym, ◌∙◌, subst}
use Rattle.std.specs.Prelude.{slice_index, unwrap_or}
use Rattle.std.specs.List.{fold, list_any}
use Rattle.std.proofs.lemmas.Bool.{or_left, or_parts, or_right}
use Rattle.xc_data.specs.declared.call.Call.{Call}
use Rattle.xc_data.specs.declared.call.Call.TheVariants as call
use Rattle.xc_data.specs.declared.call.Reply.{Reply}
use Rattle.xc_model.specs.WordCalls.{is_word_call, word_reply, words_after, WordState, word_step, begin_words, words_behind}
use Rattle.xc_model.specs.WordCalls.{AreWordRepliesFrom, AreWordReplies}
use Rattle.xc_model.specs.Words.{speaks_of, stores_to}
use Rattle.xc_turns.proofs.WordLists.{after_count, after_counts, after_other, after_alike, reply_alike}

-- ---- what each call keeps of words, all calls keep of two states
module _ (R : List ℕ → List ℕ → Type 0) where
  -- of the words at two saves
  abbrev AreSavedRelated : Option (List ℕ) → Option (List ℕ) → Type 0
  AreSavedRelated None None = Unit {0}
  AreSavedRelated (Some xs) (Some ys) = R xs ys
  AreSavedRelated _ _ = ⊥

  -- of the words, and of those at the saves
  abbrev AreRelated : WordState → WordState → Type 0
  AreRelated s t = R s.words t.words × AreSavedRelated s.saved t.saved

  -- a back goes to the words of the saves
  back_related : (xs ys : List ℕ) (a b : Option (List ℕ)) → R xs ys → AreSavedRelated a b → R (unwrap_or a xs) (unwrap_or b ys)
  back_related xs ys None None now saved = now
  back_related xs ys (Some x) (Some y) now saved = saved
  back_related xs ys None (Some y) now saved = absurd saved
  back_related xs ys (Some x) None now saved = absurd saved

  -- one call, by what it does to the block
  step_related : (s t : WordState) (c : Call) → (R s.words t.words → R (words_after s.words c) (words_after t.words c)) → AreRelated s t
      → AreRelated (word_step s c) (word_step t c)
  step_related s t call.Save after h = (h.0, h.0)
  step_related s t call.Keep after h = (h.0, tt)
  step_related s t call.Back after h = (back_related s.words t.words s.saved t.saved h.0 h.1, tt)
  step_related s t _ after h = (after h.0, h.1)

  -- several
  steps_related : ((xs ys : List ℕ) (c : Call) → R xs ys → R (words_after xs c) (words_after ys c)) → (s t : WordState) (calls : List Call)
      → AreRelated s t → AreRelated (fold word_step s calls) (fold word_step t calls)
  steps_related after s t [] h = h
  steps_related after s t (c ∷ calls) h =
      steps_related after (word_step s c) (word_step t c) calls (step_related s t c (after s.words t.words c) h)

-- ---- how many
-- both are so many
abbrev HaveLength : ℕ → List ℕ → List ℕ → Type 0
HaveLength count xs ys = (length xs ≡ count) × (length ys ≡ count)

after_counted : (count : ℕ) (xs ys : List ℕ) (c : Call) → HaveLength count xs ys → HaveLength count (words_after xs c) (words_after ys c)
after_counted count xs ys c h = (after_count xs c ∙ h.0, after_count ys c ∙ h.1)

-- calls change no count of words
pub behind_count : (xs : List ℕ) (calls : List Call) → length (words_behind xs calls) ≡ length xs
behind_count xs calls =
    (steps_related (HaveLength (length xs)) (after_counted (length xs)) (begin_words xs) (begin_words xs) calls ((refl, refl), tt)).0.0

-- ---- at one place
-- the first have this value there
abbrev HasThere : ℕ → ℕ → List ℕ → List ℕ → Type 0
HasThere at value xs ys = slice_index xs at ≡ value

steps_other : (at value : ℕ) (s : WordState) (calls : List Call) → list_any (stores_to at) calls ≡ false → AreRelated (HasThere at value) s s
    → AreRelated (HasThere at value) (fold word_step s calls) (fold word_step s calls)
steps_other at value s [] away h = h
steps_other at value s (c ∷ calls) away h =
    let parts = or_parts (stores_to at c) (list_any (stores_to at) calls) away in
    steps_other at value (word_step s c) calls parts.1
    (step_related (HasThere at value) s s c (λ (e : slice_index s.words at ≡ value). after_other s.words c at parts.0 ∙ e) h)

-- calls that don't store to a word leave it
pub behind_other : (xs : List ℕ) (calls : List Call) (at : ℕ) → list_any (stores_to at) calls ≡ false
    → slice_index (words_behind xs calls) at ≡ slice_index xs at
behind_other xs calls at away = (steps_other at (slice_index xs at) (begin_words xs) calls away (refl, tt)).0

-- they are as many, and the same there
abbrev AgreeThere : ℕ → List ℕ → List ℕ → Type 0
AgreeThere at xs ys = (length xs ≡ length ys) × (slice_index xs at ≡ slice_index ys at)

after_agree : (at : ℕ) (xs ys : List ℕ) (c : Call) → AgreeThere at xs ys → AgreeThere at (words_after xs c) (words_after ys c)
after_agree at xs ys c h = (after_counts xs ys c h.0, after_alike xs ys c at h.0 h.1)

-- after the same calls words agree at a place where they did before
pub behind_alike : (xs ys : List ℕ) (calls : List Call) (at : ℕ) → length xs ≡ length ys → slice_index xs at ≡ slice_index ys at
    → slice_index (words_behind xs calls) at ≡ slice_index (words_behind ys calls) at
behind_alike xs ys calls at n e = (steps_related (AgreeThere at) (after_agree at) (begin_words xs) (begin_words ys) calls ((n, e), tt)).0.1

-- ---- replies
-- calls reply the same from two states that agree where they speak of the words
replied_alike : (count : ℕ) (s t : WordState) (calls : List Call) (replies : List Reply) → AreRelated (HaveLength count) s t
    → ((at : ℕ) → at < count → list_any (speaks_of at) calls ≡ true → AreRelated (AgreeThere at) s t)
    → AreWordRepliesFrom s calls replies → AreWordRepliesFrom t calls replies
replied_alike count s t [] replies n agree h = h
replied_alike count s t (c ∷ calls) [] n agree h = h
replied_alike count s t (c ∷ calls) (r ∷ replies) n agree h =
    let first = λ (at : ℕ) (lt : at < length s.words) (is : speaks_of at c ≡ true).
    (agree at (subst (λ k. at < k) n.0.0 lt) (or_left (speaks_of at c) (list_any (speaks_of at) calls) is)).0.1 in
    let later = λ (at : ℕ) (lt : at < count) (is : list_any (speaks_of at) calls ≡ true).
    step_related (AgreeThere at) s t c (after_agree at s.words t.words c)
    (agree at lt (or_right (speaks_of at c) (list_any (speaks_of at) calls) is)) in (
      λ word. h.0 word ∙ reply_alike s.words t.words c (n.0.0 ∙ sym n.0.1) first,
      replied_alike count (word_step s c) (word_step t c) calls replies
          (step_related (HaveLength count) s t c (after_counted count s.words t.words c) n) later h.1,
    )

-- and on words that do
pub replies_alike : (xs ys : List ℕ) (calls : List Call) (replies : List Reply) → length xs ≡ length ys
    → ((at : ℕ) → at < length xs → list_any (speaks_of at) calls ≡ true → slice_index xs at ≡ slice_index ys at)
    → AreWordReplies xs calls replies → AreWordReplies ys calls replies
replies_alike xs ys calls replies n agree =
    replied_alike (length xs) (begin_words xs) (begin_words ys) calls replies ((refl, sym n), tt) (λ at lt is. ((n, agree at lt is), tt))

-- one call more replies on the words after the others
pub replies-more : (s : WordState) (calls : List Call) (replies : List Reply) (c : Call) (r : Reply) → AreWordRepliesFrom s calls replies
    → (is_word_call c ≡ true → r ≡ word_reply (fold word_step s calls).words c) → AreWordRepliesFrom s (calls ++ c ∷ []) (replies ++ r ∷ [])
replies-more s [] [] c r h gives = (gives, refl)
replies-more s [] (q ∷ replies) c r h gives = cc
replies-more s (d ∷ calls) [] c r h gives = absurd h
replies-more s (d ∷ calls) (q ∷ replies) c r h gives = (h.0, replies-more (word_step s d) calls replies c r h.1 gives)
