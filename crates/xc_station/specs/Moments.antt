-- A moment of a station, as one job sees it: what all jobs share, and the job itself in its place.
use Rattle.std.specs.Prelude.{◌≡◌, ℕ, ◌+◌, ◌≤◌, Bool, true, false, List, length, All, nat_lt, slice_get, slice_set, is_some, IsSome, IsTrue}
use Rattle.std.specs.Prelude.{Option}
use Rattle.std.specs.Prelude.{Result, Ok, Err}
use Rattle.std.specs.declared.option.Option.TheVariants.{None, Some}
use Rattle.xc_data.specs.Claims.{holding}
use Rattle.xc_data.specs.declared.call.Call.{Call}
use Rattle.xc_data.specs.declared.claim.Claim.{Claim}
use Rattle.xc_data.specs.declared.object.Object.{Object}
use Rattle.xc_data.specs.declared.entry.Cause.TheVariants as cause
use Rattle.xc_data.specs.declared.entry.Mark.{Mark}
use Rattle.xc_data.specs.declared.entry.Turn.{Turn}
use Rattle.xc_data.specs.declared.entry.Turn.TheVariants as turn
use Rattle.xc_data.specs.Step.{Step}
use Rattle.xc_host.specs.Contents.{Contents}
use Rattle.xc_host.specs.Kept.{KeepsData, with_kept}
use Rattle.xc_host.specs.Model.{HostModel}
use Rattle.xc_script.specs.Ask.{next_body}
use Rattle.xc_script.specs.Blocks.{ask_fits}
use Rattle.xc_script.specs.Position.{Position, job_of}
use Rattle.xc_text.specs.declared.script.Script.{Script}
use Rattle.xc_locks.specs.Met.{IsNotMet}
use Rattle.xc_locks.specs.Table.{Table, Holds, KeepsOthers, mode_in, held_mode}
use Rattle.xc_world.specs.Modes.{claims_of}
use Rattle.xc_sentinel.specs.declared.seat.Seat.{Seat}
use Rattle.xc_sentinel.specs.Seated.{Seats}
use Rattle.xc_sentinel.specs.declared.sentinels.Sentinels.{Sentinels}
use Rattle.xc_sentinel.specs.Seating.{SetsSeat, seat_in}
use Rattle.xc_sentinel.specs.Asking.{AreGranted, Claiming, IsBusy, IsConflict, mark_of}
use Rattle.xc_model.specs.declared.phase.Phase.{Phase}
use Rattle.xc_model.specs.declared.phase.Phase.TheVariants.{Running, Committing, Undoing, Backing}
use Rattle.xc_model.specs.declared.rules.Rules.{Rules}
use Rattle.xc_model.specs.Setting.{Setting}
use Rattle.xc_model.specs.Moment.{TxView, JobView, Active, Moment, actives, asked_to_wait}
use Rattle.xc_model.specs.Live.{asked_by, has_clients}
use Rattle.xc_model.specs.Movers.{IsActiveAt, IsSamePosition, Mover}
use Rattle.xc_model.specs.RunningRows.{MarkedTurn, RunningTurn}
use Rattle.xc_model.specs.Holding.{AreApart}
use Rattle.xc_station.specs.declared.calls.Shared.{Shared}
use Rattle.xc_station.specs.declared.tx.Tx.{Tx}
use Rattle.xc_station.specs.Acting.{AreReadyFor, HasNoteRoom, IsLentFor, MayGo}
use Rattle.xc_station.specs.Jobs.{tx_view}
use Rattle.xc_station.specs.Lent.{IsBacked, Lent, StaysBacked}

-- what is found at a number is what the active transaction of this number has, and nothing where none has it
pub record AreTracked {X : Type 0} (found : ℕ → Option X) (has : TxView → Option X) (jobs : List JobView) : Type 0 where
  pub held : (j : ℕ) (tx : TxView) → IsActiveAt jobs j tx → found tx.number ≡ has tx
  pub known : (n : ℕ) (x : X) → found n ≡ Some x → (j : ℕ) × (tx : TxView) × IsActiveAt jobs j tx × (tx.number ≡ n)

-- the table of claims is what active transactions hold
abbrev pub IsTable : Table → List JobView → Type 0
IsTable table jobs = (o : Object) → AreTracked (λ n. held_mode table n o) (λ tx. mode_in tx.held o) jobs

-- a seat without its mark
abbrev pub seated_as : Option Seat → Option (ℕ × Bool)
seated_as None = None
seated_as (Some seat) = Some (seat.rank, seat.running)

-- a transaction in this phase runs
abbrev pub runs : Phase → Bool
runs Running = true
runs Backing = true
runs Committing = false
runs (Undoing c) = false

-- the seats are those of the active transactions, with their ranks, and whether they run
abbrev pub AreSeats : Seats → List JobView → Type 0
AreSeats seats jobs = AreTracked (λ n. seated_as (seat_in seats n)) (λ tx. Some (tx.rank, runs tx.phase)) jobs

-- the marks, by the numbers of transactions
abbrev pub marks_of : Seats → ℕ → Option Mark
marks_of seats n = mark_of (seat_in seats n)

-- a job's active transaction holds in the table what it holds
abbrev pub HoldsItsClaims : Table → JobView → Type 0
HoldsItsClaims table job = (tx : TxView) → job.doing ≡ Active tx → Holds table tx.number tx.held

module _ (old new : Sentinels) where
  -- a transaction is no longer active and holds nothing, and all others are as they were
  pub record Frees (tx : ℕ) : Type 0 where
    pub released : (o : Object) → held_mode new.claims tx o ≡ None
    pub others : KeepsOthers tx old.claims new.claims
    pub seats : SetsSeat old.seats new.seats tx None

  -- so is a job's
  abbrev pub GivesUpClaims : JobView → Type 0
  GivesUpClaims job = (tx : TxView) → job.doing ≡ Active tx → Frees tx.number

-- no two active transactions have one number
abbrev pub AreSingle : List JobView → Type 0
AreSingle jobs = (i j : ℕ) (t u : TxView) → IsActiveAt jobs i t → IsActiveAt jobs j u → t.number ≡ u.number → i ≡ j

-- a host, and what was taken from it
pub record Front (H : Type 0) : Type 0 where
  pub host : H
  pub lent : Lent

-- those that all jobs share
abbrev pub front_of : {H : Type 0} → Shared H → Front H
front_of shared = record { host = shared.host; lent = shared.buffers }

-- what the host tells, with what is kept in front of it
abbrev pub told_front : {H : Type 0} → HostModel H → Front H → Contents
told_front model front = with_kept (model.contents front.host) front.lent.kept

-- the same of what all jobs share
abbrev pub told_by : {H : Type 0} → HostModel H → Shared H → Contents
told_by model shared = told_front model (front_of shared)

-- a turn of a running transaction: how much is noted goes on with what it took, which is of pipes and pairs of the host's, and so
-- is what is kept; none of these is gone
pub record Lends {H : Type 0} (model : HostModel H) (shared : Step (Front H)) (tx : Step TxView) : Type 0 where
  pub noted : shared.new.lent.noted + length tx.old.taken ≡ shared.old.lent.noted + length tx.new.taken
  pub kept : IsTrue model.tells → StaysBacked (model.contents shared.old.host) shared.old.lent.kept shared.new.lent.kept
  pub taken : IsTrue model.tells → All (IsBacked (model.contents shared.old.host)) shared.old.lent.kept
      → All (IsBacked (model.contents shared.old.host)) tx.old.taken → All (IsBacked (model.contents shared.old.host)) tx.new.taken
  pub keeps : IsTrue model.tells → KeepsData (model.contents shared.old.host) (model.contents shared.new.host)

module _ {H : Type 0} (model : HostModel H) (shared : Shared H) where
  -- at this moment the jobs share this, and this job stands in the place `at`
  pub record IsAt (now : Moment) (at : ℕ) (job : JobView) : Type 0 where
    pub words : now.words ≡ shared.words
    pub contents : now.contents ≡ told_by model shared
    pub faults : now.faults ≡ model.fault_count shared.host
    pub calls : now.calls ≡ model.calls shared.host
    pub kept : now.kept ≡ shared.buffers.kept
    pub there : slice_get now.jobs at ≡ Some job
    pub marks : now.marks ≡ marks_of shared.sentinels.seats
    pub table : IsTable shared.sentinels.claims now.jobs
    pub seats : AreSeats shared.sentinels.seats now.jobs
    pub apart : AreApart now.jobs
    pub single : AreSingle now.jobs

  -- the moment after a turn of the job in this place that made no entry
  abbrev pub moved : JobView → Moment → ℕ → Moment
  moved job now at =
      record now {
        words = shared.words;
        contents = told_by model shared;
        faults = model.fault_count shared.host;
        calls = model.calls shared.host;
        kept = shared.buffers.kept;
        jobs = slice_set now.jobs at job;
        marks = marks_of shared.sentinels.seats;
      }

-- the journal has so many entries, and so many transactions are active
pub record HasBegun (now : Moment) (entries transactions : ℕ) : Type 0 where
  pub entered : length now.journal ≡ entries
  pub active : length (actives now.jobs) ≡ transactions

-- ---- what contracts of a running transaction's turn say: of every moment that shows its job so
-- the job has this transaction, at a place from which nothing but silent statements was passed
pub record HasTx (s : Setting) (job : JobView) (place : Position) (tx : TxView) : Type 0 where
  pub doing : job.doing ≡ Active tx
  pub same : IsSamePosition s job.place place

-- ---- claims of a transaction
module _ (sentinels : Step Sentinels) (tx : Step Tx) where
  -- all is claimed
  pub record IsGranted (claims : List Claim) : Type 0 where
    pub granted : AreGranted sentinels tx.old.number claims
    pub held : tx_view tx.new ≡ record (tx_view tx.old) { held = holding tx.old.held.items claims }
    pub room : HasNoteRoom tx.new

  -- a claim met a younger holder, which is marked, and there is patience: the transaction waits
  pub record IsToldToWait (c : Claiming) (object : Object) (holder : ℕ) : Type 0 where
    pub busy : IsBusy sentinels tx.old.number c object holder
    pub still : tx_view tx.new ≡ tx_view tx.old

  -- one met a holder that isn't younger, or there is no patience: the transaction undoes
  pub record IsRefused (c : Claiming) : Type 0 where
    pub object : Object
    pub holder : ℕ
    pub conflict : IsConflict sentinels tx.old.number c object holder
    pub undoes : tx_view tx.new ≡ record (tx_view tx.old) { phase = Undoing (cause.Conflict object holder c.at) }

  -- memory ran out: the transaction undoes
  pub record IsWanting : Type 0 where
    pub same : sentinels.new ≡ sentinels.old
    pub undoes : tx_view tx.new ≡ record (tx_view tx.old) { phase = Undoing cause.NoMemory }

  -- by the answer
  abbrev pub HasClaimed : Claiming → Result (Unit {0}) Turn → Type 0
  HasClaimed c (Ok x) = IsGranted c.claims
  HasClaimed c (Err (turn.Busy object holder)) = IsToldToWait c object holder
  HasClaimed c (Err turn.Went) = IsRefused c
  HasClaimed c (Err turn.NoMemory) = IsWanting
  HasClaimed c (Err (turn.Ended end)) = ⊥

-- at this moment the job may wait exactly where its patience isn't spent, and the journal has this length
pub record AreTerms (rules : Rules) (now : Moment) (job : JobView) (patient : Bool) (at : ℕ) : Type 0 where
  pub patience : patient ≡ nat_lt job.busy rules.patience
  pub entered : length now.journal ≡ at

-- a job that was told to wait has counted it
abbrev pub busy_counted : Turn → JobView → JobView
busy_counted (turn.Busy object holder) job = asked_to_wait job
busy_counted answer job = job

-- each has its seat as before, but for a mark
abbrev pub KeepsSeated : Seats → Seats → Type 0
KeepsSeated old new = (n : ℕ) → seated_as (seat_in new n) ≡ seated_as (seat_in old n)

module _ (m : Mover) (new : Moment) where
  -- its turn is a row of the table of turns, and the table of claims is what active transactions hold then
  pub record IsRow (answer : Turn) (claims : Table) : Type 0 where
    pub tx : TxView
    pub doing : m.job.doing ≡ Active tx
    pub row : RunningTurn m tx answer new
    pub table : IsTable claims new.jobs

  -- so it is where the transaction may be marked; and the seats are those of the active transactions then
  pub record IsRunningRow (answer : Turn) (sentinels : Sentinels) : Type 0 where
    pub tx : TxView
    pub doing : m.job.doing ≡ Active tx
    pub row : MarkedTurn m tx (m.old.marks tx.number) answer new
    pub table : IsTable sentinels.claims new.jobs
    pub seats : AreSeats sentinels.seats new.jobs

-- each call has what it needs of pipes and pairs, where nobody holds against it what it claims
abbrev pub HasNeeds : {H : Type 0} → HostModel H → Shared H → TxView → Type 0
HasNeeds model shared tx =
    (call : Call) → All (IsNotMet shared.sentinels.claims tx.number) (claims_of call tx.me (length shared.words))
    → IsLentFor tx.me tx.number call (model.contents shared.host) shared.buffers.kept

-- a job whose transaction runs may take its turn
pub record CanRun {H : Type 0} (script : Script) (model : HostModel H) (shared : Shared H) (job : JobView) : Type 0 where
  pub tx : TxView
  pub doing : job.doing ≡ Active tx
  pub left : IsSome (next_body script (job_of job.place))
  -- what is asked, by its script or by its client, fits the block that is open
  pub fits : ask_fits (is_some tx.saved) (asked_by (has_clients script) script job.handed job.place) ≡ true
  pub together : is_some job.place.saved ≡ is_some tx.saved
  pub may : MayGo (length shared.words) tx
  pub ready : IsTrue model.tells → AreReadyFor tx (model.contents shared.host)
  pub needs : IsTrue model.tells → HasNeeds model shared tx
  pub noted : length tx.taken ≤ shared.buffers.noted
  pub holds : Holds shared.sentinels.claims tx.number tx.held
