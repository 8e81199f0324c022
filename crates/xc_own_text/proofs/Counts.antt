-- How many words a run ends with, and how many replies an entry has.
use Rattle.std.proofs.Common.{◌≡◌, ◌∙◌, ℕ, Bool, List, [], ◌∷◌, length, Option, None, Some, true, false, refl, ap, arith}
use Rattle.std.proofs.Common.{if◌then◌else◌, nat_le, unwrap_or}
use Rattle.std.specs.Prelude.{fold, slice_set}
use Rattle.std.specs.List.{AllByRecursion}
use Rattle.std.specs.Option.{MatchOption}
use Rattle.std.proofs.lemmas.List.{length-set}
use Rattle.xc_data.specs.declared.call.Call.{Call}
use Rattle.xc_data.specs.declared.call.Call.TheVariants as call
use Rattle.xc_data.specs.declared.call.Reply.{Reply}
use Rattle.xc_data.specs.declared.entry.Entry.{Entry}
use Rattle.xc_data.specs.declared.entry.Outcome.{Outcome}
use Rattle.xc_data.specs.declared.entry.Outcome.TheVariants.{Committed, Aborted}
use Rattle.xc_model.specs.Course.{Course, after_course}
use Rattle.xc_model.specs.Machine.{AreMachineTrue, Terms}
use Rattle.xc_model.specs.Progress.{Progress, after_entry, opening_progress, progress_of, words_left}
use Rattle.xc_model.specs.WordCalls.{AreWordRepliesFrom, WordState, begin_words, word_step}
use Rattle.xc_script.specs.declared.ask.Ask.{Ask}
use Rattle.xc_text.specs.declared.script.Script.{Script}

-- ---- words
-- so many words, and so many at the save
abbrev HaveCount : ℕ → WordState → Type 0
HaveCount n s = (length s.words ≡ n) × MatchOption s.saved (Unit {0}) (λ words. length words ≡ n)

stored : (b : Bool) (words : List ℕ) (at value : ℕ) → length (if b then words else slice_set words at value) ≡ length words
stored true words at value = refl
stored false words at value = length-set words at value

gone_back : (n : ℕ) (words : List ℕ) (saved : Option (List ℕ)) → length words ≡ n → MatchOption saved (Unit {0}) (λ words. length words ≡ n)
    → length (unwrap_or saved words) ≡ n
gone_back n words None h k = h
gone_back n words (Some before) h k = k

-- a call leaves as many
step_counts : (n : ℕ) (s : WordState) (c : Call) → HaveCount n s → HaveCount n (word_step s c)
step_counts n s (call.Store at value) h = (stored (nat_le (length s.words) at) s.words at value ∙ h.0, h.1)
step_counts n s call.Save h = (h.0, h.0)
step_counts n s call.Keep h = (h.0, tt)
step_counts n s call.Back h = (gone_back n s.words s.saved h.0 h.1, tt)
step_counts n s c h = h

steps_count : (n : ℕ) (calls : List Call) (s : WordState) → HaveCount n s → HaveCount n (fold word_step s calls)
steps_count n [] s h = h
steps_count n (c ∷ calls) s h = steps_count n calls (word_step s c) (step_counts n s c h)

left_count : (words : List ℕ) (calls : List Call) (outcome : Outcome) → length (words_left words calls outcome) ≡ length words
left_count words calls (Committed late) = (steps_count (length words) calls (begin_words words) (refl, tt)).0
left_count words calls (Aborted report) = refl

entries_count : (script : Script) (journal : List Entry) (p : Progress) → length (fold (after_entry script) p journal).words ≡ length p.words
entries_count script [] p = refl
entries_count script (e ∷ journal) p = entries_count script journal (after_entry script p e) ∙ left_count p.words e.calls e.outcome

-- a run ends with as many words as its script has
pub as_many_words : (script : Script) (journal : List Entry) → length (progress_of script journal).words ≡ length script.outline.words
as_many_words script journal = entries_count script journal (opening_progress script)

-- ---- replies
as_many_replies : (s : WordState) (calls : List Call) (replies : List Reply) → AreWordRepliesFrom s calls replies → length replies ≡ length calls
as_many_replies s [] replies h = ap length h
as_many_replies s (c ∷ calls) [] h = absurd h
as_many_replies s (c ∷ calls) (r ∷ replies) h = omega (arith, as_many_replies (word_step s c) calls replies h.1)

-- each entry of a true journal has as many as calls
pub each_answered : (t : Terms) (c : Course) (lasts : List Ask) (journal : List Entry) → AreMachineTrue t c lasts journal
    → AllByRecursion (λ (e : Entry). length e.replies ≡ length e.calls) journal
each_answered t c lasts [] h = tt
each_answered t c [] (e ∷ journal) h = absurd h
each_answered t c (last ∷ lasts) (e ∷ journal) h =
    (as_many_replies (begin_words c.words) e.calls e.replies h.0.entry.replies.words, each_answered t (after_course c e) lasts journal h.1)
