-- What a job is asked where it stands, by a script or by clients.
use Rattle.std.proofs.Common.{◌≡◌, Bool, true, false, List, [], ◌∷◌, None, Some, Option, refl, ap, sym, ◌∙◌}
use Rattle.std.specs.Prelude.{unwrap_or}
use Rattle.xc_data.specs.declared.call.Call.{Call}
use Rattle.xc_data.specs.declared.call.Call.TheVariants as call
use Rattle.xc_data.specs.declared.call.Reply.{Reply}
use Rattle.xc_text.specs.declared.script.Script.{Script}
use Rattle.xc_text.specs.Stated.{Statement}
use Rattle.xc_script.proofs.Laws.{live_body, live_left}
use Rattle.xc_script.specs.Answers.{answered}
use Rattle.xc_script.specs.Ask.{Job, walk_from}
use Rattle.xc_script.specs.Asking.{asks}
use Rattle.xc_script.specs.Blocks.{BlockWalk, all_replied, back_to, block_from, replied}
use Rattle.xc_script.specs.Position.{Position, walk_of}
use Rattle.xc_script.specs.Values.{Values, Variables}
use Rattle.xc_script.specs.Walks.{Walk, past_silent}
use Rattle.xc_model.specs.Live.{IsScripted, asked_by, has_clients}
use Rattle.xc_model.specs.Movers.{asked_at}
use Rattle.xc_model.specs.Progress.{Following}
use Rattle.xc_model.specs.Saves.{saved_by}
use Rattle.xc_model.specs.Setting.{Setting}
use Rattle.xc_model.specs.Moment.{TxView, JobView}
use Rattle.xc_model.specs.Stories.{StandsAfterReplies, IsKeptSo, IsOfClient}

-- of a script what its walk asks
pub asks_scripted : (s : Setting) (job : JobView) → IsScripted s.script → asked_at s job ≡ asks (walk_of s.script job.place)
asks_scripted s job own = ap (λ b. asked_by b s.script job.handed job.place) own

-- ---- where clients ask
-- nothing is left of a walk
pub live_none : (script : Script) (place : Position) → has_clients script ≡ true → (walk_of script place).left ≡ []
live_none script place live =
    ap (λ (l : List Statement). (past_silent place.variables place.stored place.refused l).left) (live_left script place live)

-- a reply leaves it
pub answered_live : (walk : Walk) (reply : Reply) → walk.left ≡ [] → answered walk reply ≡ walk
answered_live walk reply none = rw none

-- so does a block that goes back
pub back_live : (walk : Walk) (saved : Option Values) (own : Variables) → walk.left ≡ [] → walk.variables ≡ own → IsKeptSo saved own.values
    → (back_to walk saved).variables ≡ own
back_live walk None own none same kept = same
back_live walk (Some values) own none same kept =
    (rw none) ∙ (λ i. record { values = kept i; slots = (same i).slots })

-- what a call keeps at a save
pub kept_live : (c : Call) (saved : Option Values) (values own : Values) → values ≡ own → IsKeptSo saved own → IsKeptSo (saved_by c saved values) own
kept_live call.Save saved values own same was = same
kept_live call.Keep saved values own same was = tt
kept_live call.Back saved values own same was = tt
kept_live _ saved values own same was = was

replied_live : (b : BlockWalk) (reply : Reply) → b.walk.left ≡ [] → replied b reply ≡ b
replied_live b reply none = rw none

all_live : (b : BlockWalk) (replies : List Reply) → b.walk.left ≡ [] → all_replied b replies ≡ b
all_live b [] none = refl
all_live b (reply ∷ replies) none =
    let one = replied_live b reply none in
    ap (λ (c : BlockWalk). all_replied c replies) one ∙ all_live b replies none

-- at the begin of its transaction a job stands with its variables
pub begin_live : (script : Script) (job : Job) → has_clients script ≡ true → (walk_from script job).variables ≡ job.variables
begin_live script job live = ap (λ o. (past_silent job.variables 0 false (unwrap_or o [])).variables) (live_body script job live)

-- and so after any replies
pub replies_live : (script : Script) (job : Job) (replies : List Reply) → has_clients script ≡ true
    → (all_replied (block_from script job) replies).walk.variables ≡ job.variables
replies_live script job replies live =
    let none : (walk_from script job).left ≡ [] = ap (λ o. (past_silent job.variables 0 false (unwrap_or o [])).left) (live_body script job live) in
    ap (λ (b : BlockWalk). b.walk.variables) (all_live (block_from script job) replies none) ∙ begin_live script job live

-- whoever asks, the variables are those that the replies leave
pub variables_behind : (s : Setting) (f : Following) (place : Position) (tx : TxView) → (IsScripted s.script → StandsAfterReplies s f place tx)
    → (has_clients s.script ≡ true → IsOfClient s f place)
    → (walk_of s.script place).variables ≡ (all_replied (block_from s.script f.job) tx.replies).walk.variables
variables_behind s f place tx ahead client = go (has_clients s.script) refl
  where
    go : (b : Bool) → has_clients s.script ≡ b
        → (walk_of s.script place).variables ≡ (all_replied (block_from s.script f.job) tx.replies).walk.variables
    go true live = (client live).variables ∙ sym (replies_live s.script f.job tx.replies live)
    go false own = ap (λ (b : BlockWalk). b.walk.variables) (ahead own)
