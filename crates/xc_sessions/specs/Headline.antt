-- What the words of a command line choose for a run with sessions, and what the run promises then.
use Rattle.std.specs.Prelude.{◌≡◌, ◌≢◌, ◌≤◌, ◌⊎◌, ℕ, Bool, List, [], IfSome, IsSome, MatchOption, Option, if◌then◌else◌}
use Rattle.std.specs.declared.option.Option.TheVariants.{None, Some}
use Rattle.std.specs.Option.{option_map}
use Rattle.xc_data.specs.Counts.{counted}
use Rattle.xc_data.specs.Step.{Step}
use Rattle.xc_host.specs.Model.{HostModel}
use Rattle.xc_links.specs.Links.{LinksView}
use Rattle.xc_links.specs.Wires.{Wire}
use Rattle.xc_meet.specs.Members.{AreAll}
use Rattle.xc_outcome.specs.declared.choice.Choice.{Choice}
use Rattle.xc_outcome.specs.declared.finish.Finish.{Finish}
use Rattle.xc_outcome.specs.declared.finish.Status.{Status}
use Rattle.xc_outcome.specs.declared.finish.Status.TheVariants as status
use Rattle.xc_outcome.specs.Runs.{IsRun}
use Rattle.xc_edge.specs.View.{StreamView}
use Rattle.xc_outcome.specs.Said.{Edges, IsAnswered, IsFullRun, IsOneOf, IsUndisturbed, IsWordless}
use Rattle.xc_outcome.specs.Status.{status_number}
use Rattle.xc_sessions.specs.declared.chosen.ServeChosen.{ServeChosen}
use Rattle.xc_sessions.specs.declared.serve.Serve.{Serve}
use Rattle.xc_sessions.specs.declared.serve.ServeStatus.{ServeStatus}
use Rattle.xc_sessions.specs.declared.serve.ServeStatus.TheVariants.{Ran, AcceptFault}
use Rattle.xc_sessions.specs.Lines.{serve_usage_line}
use Rattle.xc_sessions.specs.Options.{serve_settings_of}

-- ---- what is chosen
-- what a run needs of a choice, but for who takes its turns: there is no seed
abbrev pub serve_choice_in : ServeChosen → Choice
serve_choice_in chosen = record { rules = chosen.rules; seed = None }

-- the same of the words, and nothing where they are refused
abbrev pub serve_choice_of : List (List ℕ) → Option Choice
serve_choice_of words = option_map serve_choice_in (serve_settings_of words)

-- how many links the words want accepted, and none where they are refused
abbrev pub wanted_of : Option ServeChosen → ℕ
wanted_of None = 0
wanted_of (Some chosen) = chosen.sessions

-- ---- how it ends
-- the exit status of the program
abbrev pub serve_number : ServeStatus → ℕ
serve_number (Ran ran) = status_number ran
serve_number AcceptFault = 9

-- the run was ended so, its sink did not fail, and the links' count rose
pub record IsAcceptFault {H L : Type 0} (finish : Finish H) (links : Step (LinksView L)) : Type 0 where
  pub ended : IsSome finish.end
  pub written : finish.status ≢ status.WriteFault
  pub rose : counted links.old.faults ≤ links.new.faults

-- the status of the program is that of the run; or memory was wanting for the sessions, or an accept failed
abbrev pub IsStatusOf : {H L : Type 0} → Finish H → Step (LinksView L) → ServeStatus → Type 0
IsStatusOf finish links (Ran ran) =
    (ran ≡ finish.status) ⊎ (IsSome finish.end × (finish.status ≢ status.WriteFault) × (ran ≡ status.NoMemory))
IsStatusOf finish links AcceptFault = IsAcceptFault finish links

-- memory was wanting, or the sink failed
abbrev pub IsShort : ServeStatus → Type 0
IsShort (Ran status.NoMemory) = Unit {0}
IsShort (Ran status.WriteFault) = Unit {0}
IsShort _ = ⊥

-- where a run was ended: a sink that failed comes first, then an accept that failed, then memory that was wanting for the sessions
abbrev pub status_of : Status → Bool → Bool → ServeStatus
status_of status.WriteFault has_sessions has_failed = Ran status.WriteFault
status_of ran has_sessions has_failed =
    if has_failed then AcceptFault else if has_sessions then Ran ran else Ran status.NoMemory

-- ---- all that is promised
-- no link was accepted, since memory was wanting for the sessions, or the sink failed
abbrev pub IsUnserved : {H M L : Type 0} → Step (LinksView M) → Serve H M L → Type 0
IsUnserved links serve = IsShort serve.status × (serve.sessions.items ≡ []) × (links.new ≡ links.old)

-- the sessions of a run that was started: as many as were wanted, unless an accept failed; or none
abbrev pub AreServed : {H M L : Type 0} → (M → Wire) → ℕ → Step (LinksView M) → Serve H M L → Type 0
AreServed told wanted links serve = MatchOption serve.end ((serve.sessions.items ≡ []) × (links.new ≡ links.old))
    (λ end. AreAll told end.journal.items links wanted serve.sessions.items ⊎ IsUnserved links serve)

-- a source, a sink and links, before and after
pub record Around (M : Type 0) : Type 0 where
  pub edges : Edges
  pub links : Step (LinksView M)

-- a run is finished as any run is
pub record IsServeFinished {H : Type 0} (model : HostModel H) (words : List (List ℕ)) (edges : Edges) (handed : H) (finish : Finish H)
    : Type 0 where
  pub answered : IsAnswered (serve_choice_of words) serve_usage_line model.takes_scripts edges finish
  pub run : IfSome finish.end (IsRun model (serve_choice_of words) edges.source handed)
  pub complete : IfSome finish.end (λ end. IsUndisturbed end → IsFullRun finish.status end)
  pub host : IfSome finish.host (λ back. back ≡ handed)
  pub one : IsOneOf finish.end finish.host

-- and its status is that of the run, but for an accept that failed or memory that was wanting for its sessions
pub record IsServedRun {H M L : Type 0} (model : HostModel H) (words : List (List ℕ)) (around : Around M) (handed : H)
    (serve : Serve H M L) : Type 0 where
  pub finish : Finish H
  pub finished : IsServeFinished model words around.edges handed finish
  pub end : serve.end ≡ finish.end
  pub host : serve.host ≡ finish.host
  pub ends : IsStatusOf finish around.links serve.status

-- without the words of the command line: the line of status 2 or of status 5 is written, or a front of it
abbrev pub IsWordlessRun : ServeStatus → Step StreamView → Type 0
IsWordlessRun ends sink = (ran : Status) × (ends ≡ Ran ran) × IsWordless serve_usage_line ran sink
