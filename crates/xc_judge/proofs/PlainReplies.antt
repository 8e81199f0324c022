-- What follows of a body that is replayed: calls on words reply by the words alone, those that are kept for the commit with no word from
-- a host, and all others at once.
use Rattle.std.proofs.Common.{◌≡◌, ℕ, Option, Some, None, List, [], ◌∷◌, refl, ap, sym, ◌∙◌, subst}
use Rattle.std.specs.List.{fold}
use Rattle.xc_data.specs.declared.call.Call.{Call}
use Rattle.xc_data.specs.declared.call.Call.TheVariants as call
use Rattle.xc_data.specs.declared.call.Reply.{Reply}
use Rattle.xc_data.specs.declared.private.Private.{Private}
use Rattle.xc_world.specs.Act.{act}
use Rattle.xc_world.specs.Fits.{answer_of}
use Rattle.xc_world.specs.Run.{BodyResult, BlockState, asked_of, block_step, body, opens, runs_on}
use Rattle.xc_world.specs.World.{World}
use Rattle.xc_machine.specs.Replay.{IsReplayed, AreReplayed, AreReplayedOn, told}
use Rattle.xc_model.specs.InTime.{AreInTime, RepliesInTime}
use Rattle.xc_model.specs.WordCalls.{WordState, AreWordReplies, AreWordRepliesFrom, word_step, words_after, words_behind}
use Rattle.xc_judge.proofs.PlainSteps.{act_words, act_word, act_kept, act_now}

-- ---- the words where a body stands
abbrev words_saved : Option BodyResult → Option (List ℕ)
words_saved None = None
words_saved (Some saved) = Some saved.world.words

-- the words, and those of the save
abbrev words_at : BlockState → WordState
words_at b = record { words = b.now.world.words; saved = words_saved b.saved }

-- a back brings those of the save
words_back : (now : BodyResult) (ws : List ℕ) (saved : Option BodyResult) → now.world.words ≡ ws
    → words_at (record { now = Rattle.xc_world.specs.Run.back_from saved now; saved = None })
    ≡ word_step (record { words = ws; saved = words_saved saved }) call.Back
words_back now ws None e = ap (λ (xs : List ℕ). record { words = xs; saved = None }) e
words_back now ws (Some saved) e = refl

-- one call more
step_words : (tx : ℕ) (b : BlockState) (c : Call) (r : Reply) → IsReplayed b.now.world b.now.me tx c r
    → words_at (block_step tx b (told c r)) ≡ word_step (words_at b) c
step_words tx b c r one = by_call c (act_words b.now.world b.now.me tx c (answer_of r) one.fits)
  where
    by_call : (d : Call) → (act b.now.world b.now.me tx d (answer_of r)).world.words ≡ words_after b.now.world.words d
        → words_at (block_step tx b (told d r)) ≡ word_step (words_at b) d
    by_call call.Save e = ap (λ (xs : List ℕ). record { words = xs; saved = Some xs }) e
    by_call call.Keep e = ap (λ (xs : List ℕ). record { words = xs; saved = None }) e
    by_call call.Back e = words_back _ b.now.world.words b.saved e
    by_call _ e = ap (λ (xs : List ℕ). record { words = xs; saved = words_saved b.saved }) e

-- replies are those of the words
words_replied : (tx : ℕ) (b : BlockState) (calls : List Call) (replies : List Reply) → AreReplayedOn tx b calls replies
    → AreWordRepliesFrom (words_at b) calls replies
words_replied tx b [] replies h = h
words_replied tx b (c ∷ calls) [] h = absurd h
words_replied tx b (c ∷ calls) (r ∷ replies) h = (
  λ word. sym h.0.gives ∙ act_word b.now.world b.now.me tx c (answer_of r) h.0.fits word,
  subst (λ s. AreWordRepliesFrom s calls replies) (step_words tx b c r h.0) (words_replied tx (block_step tx b (told c r)) calls replies h.1),
)

-- and the calls lead to these words
words_run : (tx : ℕ) (b : BlockState) (calls : List Call) (replies : List Reply) → AreReplayedOn tx b calls replies
    → words_at (runs_on tx b (asked_of calls replies)) ≡ fold word_step (words_at b) calls
words_run tx b [] replies h = refl
words_run tx b (c ∷ calls) [] h = absurd h
words_run tx b (c ∷ calls) (r ∷ replies) h =
    words_run tx (block_step tx b (told c r)) calls replies h.1 ∙ ap (λ s. fold word_step s calls) (step_words tx b c r h.0)

-- ---- a body from its begin
-- calls on words reply by the words alone
pub word_replies : (w : World) (me : Private) (tx : ℕ) (calls : List Call) (replies : List Reply) → AreReplayed w me tx calls replies
    → AreWordReplies w.words calls replies
word_replies w me tx calls replies all = words_replied tx (opens w me) calls replies all

-- and lead to these words
pub body_words : (w : World) (me : Private) (tx : ℕ) (calls : List Call) (replies : List Reply) → AreReplayed w me tx calls replies
    → (body w me tx (asked_of calls replies)).world.words ≡ words_behind w.words calls
body_words w me tx calls replies all = ap (λ (s : WordState). s.words) (words_run tx (opens w me) calls replies all)

-- calls reply in time
in_time : (tx : ℕ) (b : BlockState) (calls : List Call) (replies : List Reply) → AreReplayedOn tx b calls replies → AreInTime calls replies
in_time tx b [] replies h = h
in_time tx b (c ∷ calls) [] h = absurd h
in_time tx b (c ∷ calls) (r ∷ replies) h =
    let w = b.now.world in
    let me = b.now.me in
    let one : RepliesInTime c r = record {
      kept = λ kept. (me, tx, λ v. sym h.0.gives ∙ act_kept w v me tx c (answer_of r) h.0.fits kept);
      now = λ now. ap Rattle.xc_data.specs.Calls.is_late (sym h.0.gives) ∙ act_now w me tx c (answer_of r) h.0.fits now;
    } in
    (one, in_time tx (block_step tx b (told c r)) calls replies h.1)

-- all reply in time
pub replies_in_time : (w : World) (me : Private) (tx : ℕ) (calls : List Call) (replies : List Reply) → AreReplayed w me tx calls replies
    → AreInTime calls replies
replies_in_time w me tx calls replies all = in_time tx (opens w me) calls replies all
