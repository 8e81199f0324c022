-- What is true between two turns of the words, over every host.
use Rattle.std.specs.Prelude.{◌≡◌, ℕ, ◌<◌, Bool, true, false, List, length, slice_index, nat_eq, Option}
use Rattle.std.specs.declared.option.Option.TheVariants.{None, Some}
use Rattle.std.specs.List.{list_any}
use Rattle.xc_data.specs.declared.call.Call.{Call}
use Rattle.xc_data.specs.declared.call.Call.TheVariants.{Load, Store}
use Rattle.xc_data.specs.declared.object.Object.TheVariants as object
use Rattle.xc_txmem.specs.Overlay.{overlaid, AreWithin}
use Rattle.xc_world.specs.Own.{Sees, Owns}
use Rattle.xc_model.specs.declared.phase.Phase.{Phase}
use Rattle.xc_model.specs.declared.phase.Phase.TheVariants.{Running, Committing, Undoing, Backing}
use Rattle.xc_model.specs.WordCalls.{AreWordReplies, WordState, word_state, words_behind}
use Rattle.xc_model.specs.Moment.{TxView, SavedView, JobView}
use Rattle.xc_model.specs.Movers.{IsActiveAt}

-- a call reads or stores this word
abbrev pub speaks_of : ℕ → Call → Bool
speaks_of word (Load at) = nat_eq at word
speaks_of word (Store at value) = nat_eq at word
-- no other call is on words (`is_word_call`)
speaks_of word _ = false

-- a call stores to this word
abbrev pub stores_to : ℕ → Call → Bool
stores_to word (Store at value) = nat_eq at word
-- no other call stores to words
stores_to word _ = false

-- it holds what its calls on words speak of, and exclusively what they store to
pub record HoldsWords (count : ℕ) (tx : TxView) : Type 0 where
  pub reads : (word : ℕ) → word < count → list_any (speaks_of word) tx.calls ≡ true → Sees tx.number tx.held (object.Word word)
  pub stores : (word : ℕ) → word < count → list_any (stores_to word) tx.calls ≡ true → Owns tx.number tx.held (object.Word word)

-- its stores wait for the commit
abbrev pub WaitsToStore : Phase → Type 0
WaitsToStore Running = Unit {0}
WaitsToStore Backing = Unit {0}
WaitsToStore Committing = ⊥
WaitsToStore (Undoing c) = ⊥

-- the stores that a save kept lead to its words, and are in range
abbrev pub AreSavedStores : Option SavedView → Option (List ℕ) → List ℕ → Type 0
AreSavedStores None None words = Unit {0}
AreSavedStores (Some kept) (Some saved) words = (overlaid words kept.writes ≡ saved) × AreWithin (length words) kept.writes
AreSavedStores _ _ words = ⊥

-- its stores lead from these words to where its calls do, and those that its save kept to the save's
abbrev pub AreStoresOf : TxView → WordState → List ℕ → Type 0
AreStoresOf tx s words = (overlaid words tx.writes ≡ s.words) × AreSavedStores tx.saved s.saved words

-- what an active transaction's calls on words replied, on the words that the journal left: `before`. Its stores lead
-- from any words to where its calls do
pub record TxWordsAgree (before : List ℕ) (tx : TxView) : Type 0 where
  pub replies : AreWordReplies before tx.calls tx.replies
  pub holds : HoldsWords (length before) tx
  pub stores : WaitsToStore tx.phase → (words : List ℕ) → length words ≡ length before → AreStoresOf tx (word_state words tx.calls) words
  pub within : AreWithin (length before) tx.writes

-- a committing transaction that owns this word
pub record IsWriter (jobs : List JobView) (j : ℕ) (tx : TxView) (word : ℕ) : Type 0 where
  pub active : IsActiveAt jobs j tx
  pub phase : tx.phase ≡ Committing
  pub owns : Owns tx.number tx.held (object.Word word)

-- the station's words: what a committing transaction owns is as its calls left it, all else as the journal did
pub record WordsAgree (before words : List ℕ) (jobs : List JobView) : Type 0 where
  pub count : length words ≡ length before
  pub each : (j : ℕ) (tx : TxView) → IsActiveAt jobs j tx → TxWordsAgree before tx
  pub written : (word j : ℕ) (tx : TxView) → word < length before → IsWriter jobs j tx word
      → slice_index words word ≡ slice_index (words_behind before tx.calls) word
  pub others : (word : ℕ) → word < length before → ((j : ℕ) (tx : TxView) → IsWriter jobs j tx word → ⊥)
      → slice_index words word ≡ slice_index before word
