-- The started jobs, by who owns the jobs or keeps a start: what is after the live and the ended ones is of that transaction alone.
use Rattle.std.proofs.Common.{◌≡◌, ℕ, true, List, [], ◌∷◌, ◌++◌, drop, length, ap, ◌∙◌, append-nil}
use Rattle.std.specs.Prelude.{Contains}
use Rattle.std.specs.List.{list_any}
use Rattle.std.proofs.lemmas.Bool.{or_left, or_right}
use Rattle.xc_data.specs.declared.call.LateCall.{LateCall}
use Rattle.xc_data.specs.declared.call.LateCall.TheVariants.{Thread}
use Rattle.xc_data.specs.declared.call.LateEnd.{LateEnd}
use Rattle.xc_data.specs.declared.object.Object.TheVariants as object
use Rattle.xc_data.specs.Claims.{owned}
use Rattle.xc_text.specs.declared.script.Script.{Script}
use Rattle.xc_model.specs.Holding.{AreApart}
use Rattle.xc_model.specs.Movers.{IsActiveAt}
use Rattle.xc_model.specs.Moment.{TxView, Moment, late_left}
use Rattle.xc_model.specs.Started.{AreStarted, blocks, is_start, keeps_start, started_by}
use Rattle.xc_turns.proofs.StartedLists.{keeps_none, none_started_any, only_there, started_of}
use Rattle.xc_turns.proofs.StartsHeld.{others_keep_none}

-- ---- one that owns the jobs
-- what it has started is after the jobs, and nothing else
pub owner_alone : {script : Script} (now : Moment) (at : ℕ) (tx : TxView) → AreStarted script now → AreApart now.jobs → IsActiveAt now.jobs at tx
    → Contains (owned tx.held) object.Jobs → now.started ≡ blocks now.jobs ++ started_by tx
owner_alone now at tx h apart (job, there, has) owns =
    h.order
    ∙ ap (λ bs. blocks now.jobs ++ bs)
    (only_there now.jobs at job there (λ j u ne a. keeps_none u (others_keep_none now.jobs at tx apart h.holds (job, there, has) owns j u ne a))
    ∙ ap started_of has)

-- and so where it keeps a start
pub starter_alone : {script : Script} (now : Moment) (at : ℕ) (tx : TxView) → AreStarted script now → AreApart now.jobs → IsActiveAt now.jobs at tx
    → keeps_start tx ≡ true → now.started ≡ blocks now.jobs ++ started_by tx
starter_alone now at tx h apart a keeps = owner_alone now at tx h apart a (h.holds at tx a keeps)

left_start : (late : List LateCall) (ends : List LateEnd) (block : List ℕ) (rest : List LateCall) → drop (length ends) late ≡ Thread block ∷ rest
    → list_any is_start late ≡ true
left_start [] [] block rest left = cc left
left_start [] (e ∷ ends) block rest left = cc left
left_start (c ∷ late) [] block rest left =
    let here : c ≡ Thread block = cc left in or_left (is_start c) (list_any is_start late) (ap is_start here)
left_start (c ∷ late) (e ∷ ends) block rest left = or_right (is_start c) (list_any is_start late) (left_start late ends block rest left)

-- one whose next late call starts a job keeps a start
pub left_keeps_start : (tx : TxView) (block : List ℕ) (rest : List LateCall) → late_left tx ≡ Thread block ∷ rest → keeps_start tx ≡ true
left_keeps_start tx block rest left = left_start tx.late tx.ends block rest left

-- ---- nobody
-- where none has started any, all are live or have ended
pub none_waits : {script : Script} (now : Moment) → AreStarted script now → ((at : ℕ) (tx : TxView) → IsActiveAt now.jobs at tx → started_by tx ≡ [])
    → now.started ≡ blocks now.jobs
none_waits now h none = h.order ∙ ap (λ bs. blocks now.jobs ++ bs) (none_started_any now.jobs none) ∙ append-nil (blocks now.jobs)
