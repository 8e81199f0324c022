-- What is asked where clients ask: what was handed in. Before one hands in for its running transaction nothing is asked.
use Rattle.std.proofs.Common.{◌≡◌, true, refl, ap, ◌∙◌, subst, None, Some, Option}
use Rattle.std.specs.Prelude.{is_some, unwrap_or}
use Rattle.xc_script.specs.declared.ask.Ask.{Ask}
use Rattle.xc_script.specs.declared.ask.Ask.TheVariants as ask
use Rattle.xc_script.specs.Blocks.{ask_fits}
use Rattle.xc_model.specs.declared.phase.Phase.{Phase}
use Rattle.xc_model.specs.declared.phase.Phase.TheVariants.{Running, Committing, Undoing, Backing}
use Rattle.xc_model.specs.HandedIn.{MayHand, handing}
use Rattle.xc_model.specs.Live.{asked_by, has_clients}
use Rattle.xc_model.specs.Moment.{TxView, SavedView, JobView, Doing, Idle, Active, Starved, Ended, active_in}
use Rattle.xc_model.specs.Movers.{asked_at}
use Rattle.xc_model.specs.Setting.{Setting}
use Rattle.xc_model.specs.Stories.{FitsWhereItRuns}

-- what was handed in, or else nothing
pub asked_client : (s : Setting) (job : JobView) → has_clients s.script ≡ true → asked_at s job ≡ unwrap_or job.handed ask.End
asked_client s job clients = ap (λ b. asked_by b s.script job.handed job.place) clients

-- nothing before
pub nothing_asked : (s : Setting) (job : JobView) → has_clients s.script ≡ true → job.handed ≡ None → asked_at s job ≡ ask.End
nothing_asked s job clients none = asked_client s job clients ∙ ap (λ o. unwrap_or o ask.End) none

-- and this after
pub handing_asks : (s : Setting) (job : JobView) (asked : Ask) → has_clients s.script ≡ true → asked_at s (handing job asked) ≡ asked
handing_asks s job asked clients = asked_client s (handing job asked) clients

-- where it is asked of a transaction, that one runs
may_runs : (tx : TxView) (asked : Ask) → MayHand (Active tx) asked → tx.phase ≡ Running
may_runs tx (ask.Call call) may = may.0
may_runs tx ask.Commit may = may
may_runs tx ask.Abort may = may
may_runs tx ask.End may = absurd may

-- so the job's active one does, if there is one
pub handed_runs : (d : Doing) (asked : Ask) (tx : TxView) → MayHand d asked → active_in d ≡ Some tx → tx.phase ≡ Running
handed_runs Idle asked tx may is = cc is
handed_runs (Active u) asked tx may is = let same : u ≡ tx = cc is in subst (λ (v : TxView). v.phase ≡ Running) same (may_runs u asked may)
handed_runs Starved asked tx may is = cc is
handed_runs (Ended end) asked tx may is = cc is

-- what is asked of it fits its open block
pub handed_fits : (tx : TxView) (asked : Ask) → MayHand (Active tx) asked → ask_fits (is_some tx.saved) asked ≡ true
handed_fits tx (ask.Call call) may = may.1
handed_fits tx ask.Commit may = refl
handed_fits tx ask.Abort may = refl
handed_fits tx ask.End may = absurd may

-- nothing fits every block
pub unasked_fits : (p : Phase) (saved : Option SavedView) (last : Ask) → last ≡ ask.End → FitsWhereItRuns p saved last
unasked_fits Running saved last none = ap (ask_fits (is_some saved)) none
unasked_fits Committing saved last none = tt
unasked_fits (Undoing c) saved last none = tt
unasked_fits Backing saved last none = tt
