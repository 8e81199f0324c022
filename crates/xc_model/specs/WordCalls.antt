-- Calls on words, by the words alone.
use Rattle.std.specs.Prelude.{◌≡◌, ℕ, Bool, true, is_some, List, [], ◌∷◌, length, nat_le, slice_index, slice_set, if◌then◌else◌, Option}
use Rattle.std.specs.Prelude.{unwrap_or}
use Rattle.std.specs.declared.option.Option.TheVariants.{None, Some}
use Rattle.std.specs.List.{fold}
use Rattle.xc_data.specs.Calls.{traits}
use Rattle.xc_data.specs.declared.call.Call.{Call}
use Rattle.xc_data.specs.declared.call.Call.TheVariants as call
use Rattle.xc_data.specs.declared.call.Reply.{Reply}
use Rattle.xc_data.specs.declared.call.Reply.TheVariants.{Number, Done, BadWord}

-- a call on words
abbrev pub is_word_call : Call → Bool
is_word_call call = is_some (traits call).word

-- what such a call replies on these words
abbrev pub word_reply : List ℕ → Call → Reply
word_reply words (call.Load at) = if nat_le (length words) at then BadWord else Number (slice_index words at)
word_reply words (call.Store at value) = if nat_le (length words) at then BadWord else Done
-- it is asked of calls on words alone
word_reply words _ = BadWord

-- and the words after it
abbrev pub words_after : List ℕ → Call → List ℕ
words_after words (call.Store at value) = if nat_le (length words) at then words else slice_set words at value
-- no other call is on words (`is_word_call`)
words_after words _ = words

-- the words, and in an open block those at its save
pub record WordState : Type 0 where
  pub words : List ℕ
  pub saved : Option (List ℕ)

-- after one call: a back goes back to those of the save
abbrev pub word_step : WordState → Call → WordState
word_step s call.Save = record { words = s.words; saved = Some s.words }
word_step s call.Keep = record { words = s.words; saved = None }
word_step s call.Back = record { words = unwrap_or s.saved s.words; saved = None }
-- any other call is made in the block that is open, also one yet to come
word_step s c = record { words = words_after s.words c; saved = s.saved }

-- no block is open
abbrev pub begin_words : List ℕ → WordState
begin_words words = record { words = words; saved = None }

-- after several calls
abbrev pub word_state : List ℕ → List Call → WordState
word_state words calls = fold word_step (begin_words words) calls

-- the words after several calls
abbrev pub words_behind : List ℕ → List Call → List ℕ
words_behind words calls = (word_state words calls).words

-- each call on words has its reply, on the words after the calls before it
abbrev pub AreWordRepliesFrom : WordState → List Call → List Reply → Type 0
AreWordRepliesFrom s [] replies = replies ≡ []
AreWordRepliesFrom s (call ∷ calls) [] = ⊥
AreWordRepliesFrom s (call ∷ calls) (reply ∷ replies) =
    (is_word_call call ≡ true → reply ≡ word_reply s.words call) × AreWordRepliesFrom (word_step s call) calls replies

-- from these words on, in no block
abbrev pub AreWordReplies : List ℕ → List Call → List Reply → Type 0
AreWordReplies words calls replies = AreWordRepliesFrom (begin_words words) calls replies

-- a call with this reply leads from one list of words to another
pub record IsWordStep (from to : List ℕ) (call : Call) (reply : Reply) : Type 0 where
  pub words : to ≡ words_after from call
  pub gives : is_word_call call ≡ true → reply ≡ word_reply from call
