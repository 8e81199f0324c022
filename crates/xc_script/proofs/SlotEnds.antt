-- Calls that were kept, and their ends.
use Rattle.std.proofs.Common.{◌≡◌, ◌<◌, ◌++◌, Bool, true, false, List, [], ◌∷◌, length, Option, None, Some, refl, ap, sym, ◌∙◌, append_assoc, arith}
use Rattle.std.proofs.lemmas.List.{append-nil}
use Rattle.std.specs.Prelude.{not, ◌&&◌, if◌then◌else◌}
use Rattle.xc_data.specs.declared.call.Call.{Call}
use Rattle.xc_data.specs.declared.call.Call.TheVariants as call
use Rattle.xc_data.specs.declared.call.Reply.{Reply}
use Rattle.xc_data.specs.declared.call.LateEnd.{LateEnd}
use Rattle.xc_data.specs.Calls.{is_late}
use Rattle.xc_script.specs.Values.{Variables}
use Rattle.xc_script.specs.Blocks.{all_kept, kept_calls}
use Rattle.xc_script.specs.Slots.{goes_back, kept_behind, with_ends}

-- with no end, no slot takes one
pub no_ends : (variables : Variables) (kept : List Call) (ends : List LateEnd) → length ends < 1 → with_ends variables kept ends ≡ variables
no_ends variables [] ends none = refl
no_ends variables (c ∷ calls) [] none = refl
no_ends variables (c ∷ calls) (end ∷ ends) none = absurd (omega (arith, none))

-- where no call is left, none is kept
pub no_calls_kept : (dropped : Bool) (calls : List Call) (replies : List Reply) → length calls < 1 → kept_behind dropped calls replies ≡ []
no_calls_kept dropped [] replies none = refl
no_calls_kept dropped (c ∷ calls) replies none = absurd (omega (arith, none))

-- nor where no reply is left
pub no_replies : (dropped : Bool) (calls : List Call) (replies : List Reply) → length replies < 1 → kept_behind dropped calls replies ≡ []
no_replies dropped [] replies none = refl
no_replies dropped (c ∷ calls) [] none = refl
no_replies dropped (c ∷ calls) (reply ∷ replies) none = absurd (omega (arith, none))

-- the kept calls so far, or those at the save where the open block goes back, and then those behind
abbrev kept_in_all : List Call → Option (List Call) → List Call → List Reply → List Call
kept_in_all kept None calls replies = kept ++ kept_behind false calls replies
kept_in_all kept (Some saved) calls replies =
    if goes_back calls replies then saved ++ kept_behind true calls replies else kept ++ kept_behind false calls replies

-- a list chosen by a test is the list at the test
at_test : (b : Bool) (f : Bool → List Call) → (if b then f true else f false) ≡ f b
at_test true f = refl
at_test false f = refl

-- a late call is added behind those so far
added : (late : Bool) (c : Call) (kept behind : List Call)
    → (if late then kept ++ c ∷ [] else kept) ++ behind ≡ kept ++ (if late && not false then c ∷ behind else behind)
added true c kept behind = append_assoc kept (c ∷ []) behind
added false c kept behind = refl

-- a dropped one is not
dropped : (late : Bool) (c : Call) (behind : List Call) → behind ≡ (if late && not true then c ∷ behind else behind)
dropped true c behind = refl
dropped false c behind = refl

-- from a state on, the calls are kept by what comes next
kept_from : (kept : List Call) (saved : Option (List Call)) (calls : List Call) (replies : List Reply)
    → (all_kept (record { kept = kept; saved = saved }) calls replies).kept ≡ kept_in_all kept saved calls replies
kept_from kept None [] replies = sym (append-nil kept)
kept_from kept (Some saved) [] replies = sym (append-nil kept)
kept_from kept None (c ∷ calls) [] = sym (append-nil kept)
kept_from kept (Some saved) (c ∷ calls) [] = sym (append-nil kept)
kept_from kept None (call.Save ∷ calls) (reply ∷ replies) =
    kept_from kept (Some kept) calls replies ∙ at_test (goes_back calls replies) (λ b. kept ++ kept_behind b calls replies)
kept_from kept (Some saved) (call.Save ∷ calls) (reply ∷ replies) =
    kept_from kept (Some kept) calls replies ∙ at_test (goes_back calls replies) (λ b. kept ++ kept_behind b calls replies)
kept_from kept None (call.Keep ∷ calls) (reply ∷ replies) = kept_from kept None calls replies
kept_from kept (Some saved) (call.Keep ∷ calls) (reply ∷ replies) = kept_from kept None calls replies
kept_from kept None (call.Back ∷ calls) (reply ∷ replies) = kept_from kept None calls replies
kept_from kept (Some saved) (call.Back ∷ calls) (reply ∷ replies) = kept_from saved None calls replies
kept_from kept None (c ∷ calls) (reply ∷ replies) =
    kept_from (if is_late reply then kept ++ c ∷ [] else kept) None calls replies
    ∙ added (is_late reply) c kept (kept_behind false calls replies)
kept_from kept (Some saved) (c ∷ calls) (reply ∷ replies) =
    kept_from (if is_late reply then kept ++ c ∷ [] else kept) (Some saved) calls replies
    ∙ ap (λ ks. if goes_back calls replies then saved ++ kept_behind true calls replies else ks)
    (added (is_late reply) c kept (kept_behind false calls replies))
    ∙ ap (λ ks. if goes_back calls replies then saved ++ ks else kept ++ kept_behind false (c ∷ calls) (reply ∷ replies))
    (dropped (is_late reply) c (kept_behind true calls replies))

-- the calls that are kept for the commit, told ahead of the backs
pub kept_ahead : (calls : List Call) (replies : List Reply) → kept_calls calls replies ≡ kept_behind false calls replies
kept_ahead calls replies = kept_from [] None calls replies
