-- Late calls leave the words, and decide a commit.
use Rattle.std.proofs.Common.{◌≡◌, ℕ, ◌==◌, ◌||◌, Option, Some, None, List, [], ◌∷◌, length, refl, ◌∙◌}
use Rattle.std.specs.Prelude.{nat_le, nat_lt, not}
use Rattle.std.specs.FinMap as map
use Rattle.xc_data.specs.declared.object.Num.{Num}
use Rattle.xc_data.specs.declared.object.Object.{Object}
use Rattle.xc_data.specs.declared.object.Object.TheVariants as object
use Rattle.xc_data.specs.declared.call.LateAnswer.{LateAnswer}
use Rattle.xc_data.specs.declared.call.LateAnswer.TheVariants as late_answer
use Rattle.xc_data.specs.declared.call.LateCall.{LateCall}
use Rattle.xc_data.specs.declared.call.LateCall.TheVariants.{Sync, WritePipe, Shutdown, Send, Unlink, Thread}
use Rattle.xc_world.specs.Late.{Ended, unlinked, shut_down, late_fine, stopped, late, room, is_block}
use Rattle.xc_world.specs.Run.{lates}
use Rattle.xc_world.specs.World.{World, pipe_of, pair_of, waiting, other_side}
use Rattle.xc_world.proofs.Laws.{chosen_so}

-- the words stay
abbrev LeavesWords : World → Ended → Type 0
LeavesWords w s = s.world.words ≡ w.words

-- a file that goes keeps the words
unlinked_words : (w : World) (name : List ℕ) (found : Option Num) → LeavesWords w (unlinked w name found)
unlinked_words w name None = refl
unlinked_words w name (Some num) = refl

-- and so does what is shut
shut_words : (w : World) (o : Object) → LeavesWords w (shut_down w o)
shut_words w (object.Pipe num) = refl
shut_words w (object.Pair num) = refl
shut_words w _ = refl

-- a late call that is done keeps them
fine_words : (w : World) (c : LateCall) → LeavesWords w (late_fine w c)
fine_words w (Unlink name) = unlinked_words w name (map.get w.names name)
fine_words w (Sync num) = refl
fine_words w (WritePipe num bytes) =
    chosen_so (LeavesWords w) (pipe_of w num).shut _ _ (λ _. refl)
    (λ _. chosen_so (LeavesWords w) (nat_lt (room (pipe_of w num)) (length bytes)) _ _ (λ _. refl) (λ _. refl))
fine_words w (Shutdown o) = shut_words w o
fine_words w (Send num side bytes) =
    chosen_so (LeavesWords w) (pair_of w num).shut _ _ (λ _. refl)
    (λ _. chosen_so (LeavesWords w) (nat_le 8 (length (waiting (pair_of w num) (other_side side)))) _ _ (λ _. refl) (λ _. refl))
fine_words w (Thread body) =
    chosen_so (LeavesWords w) (not (is_block w body)) _ _ (λ _. refl)
    (λ _. chosen_so (LeavesWords w) (nat_le 1000 (length w.started)) _ _ (λ _. refl) (λ _. refl))

-- one that stops keeps them
stopped_words : (w : World) (c : LateCall) (n : ℕ) → (stopped w c n).words ≡ w.words
stopped_words w (WritePipe num bytes) n =
    chosen_so (λ (v : World). v.words ≡ w.words) (n == 0 || (pipe_of w num).shut) _ _ (λ _. refl) (λ _. refl)
stopped_words w _ n = refl

-- any late call does
late_words : (w : World) (c : LateCall) (a : LateAnswer) → LeavesWords w (late w c a)
late_words w c late_answer.Fine = fine_words w c
late_words w c (late_answer.Fault n) = stopped_words w c n
late_words w c (late_answer.NoMemory n) = stopped_words w c n

-- late calls leave the words
pub lates_words : (w : World) (asked : List (LateCall × LateAnswer)) → (lates w asked).world.words ≡ w.words
lates_words w [] = refl
lates_words w ((c, a) ∷ asked) = lates_words (late w c a).world asked ∙ late_words w c a
