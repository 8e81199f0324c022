-- A station between two turns, and what runs of turns keep.
use Rattle.std.specs.Prelude.{◌≡◌, ◌≢◌, ℕ, zero, suc, ◌==◌, ◌+◌, ◌-◌, ◌<◌, ◌≤◌, Bool, true, false, List, [], ◌∷◌, ◌++◌}
use Rattle.std.specs.Global.{Global}
use Rattle.std.specs.Prelude.{Vec, drop, length, slice_get, slice_set, vec_capacity}
use Rattle.std.specs.Prelude.{if◌then◌else◌, IsTrue, Option}
use Rattle.std.specs.declared.option.Option.TheVariants.{None, Some}
use Rattle.xc_data.specs.Step.{Step}
use Rattle.xc_data.specs.declared.entry.Entry.{Entry}
use Rattle.xc_data.specs.declared.entry.Event.{Event}
use Rattle.xc_data.specs.declared.entry.Turn.{Turn}
use Rattle.xc_data.specs.declared.entry.KeptItem.{KeptItem}
use Rattle.xc_host.specs.Kept.{with_kept}
use Rattle.xc_host.specs.Model.{HostModel}
use Rattle.xc_roomy.specs.Room.{Roomy}
use Rattle.xc_data.specs.declared.entry.JobLine.{JobLine}
use Rattle.xc_sentinel.specs.Seated.{Seats}
use Rattle.xc_text.specs.declared.script.Script.{Script}
use Rattle.xc_model.specs.declared.rules.Rules.{Rules}
use Rattle.xc_model.specs.Setting.{Setting, setting}
use Rattle.xc_model.specs.Moment.{JobView, Moment, actives}
use Rattle.xc_model.specs.Alone.{AreAlone}
use Rattle.xc_model.specs.Live.{IsScripted}
use Rattle.xc_model.specs.Consistent.{IsSet, IsConsistent}
use Rattle.xc_model.specs.Rows.{IsTurn}
use Rattle.xc_model.specs.Measure.{turns_left}
use Rattle.xc_refines.specs.InFlight.{AreInFlight}
use Rattle.xc_station.specs.declared.calls.Shared.{Shared}
use Rattle.xc_station.specs.declared.job.Job.{Job}
use Rattle.xc_station.specs.declared.run_result.Opening.{Opening}
use Rattle.xc_station.specs.Jobs.{HasChildren, is_live, job_view, job_views}
use Rattle.xc_station.specs.Lent.{notes_in_all}
use Rattle.xc_station.specs.Moments.{AreSeats, IsTable, marks_of, told_by}

-- what contracts see of a station
pub record StationView (H : Type 0) : Type 0 where
  pub opening : Opening
  pub rules : Rules
  pub host : H
  -- what stands in front of what its pipes and pairs hold
  pub kept : List KeptItem
  pub words : List ℕ
  pub journal : List Entry
  -- how many entries of its journal were handed out
  pub gone : ℕ
  pub jobs : List Job
  -- the jobs in the places below this one were taken by a worker, or have ended
  pub taken : ℕ
  pub seats : Seats
  -- the blocks of all jobs that were started, also of those that aren't live yet
  pub started : List (List ℕ)
  -- how many events there were, modulo 2^64, and the last of them
  pub events : ℕ
  pub last : Option Event

-- a moment of it
abbrev pub now_of : {H : Type 0} → HostModel H → StationView H → Moment
now_of model station =
    record {
      words = station.words;
      contents = with_kept (model.contents station.host) station.kept;
      faults = model.fault_count station.host;
      calls = model.calls station.host;
      kept = station.kept;
      journal = station.journal;
      jobs = job_views station.jobs;
      started = station.started;
      marks = marks_of station.seats;
    }

-- the entries of its journal that wait to be handed out
abbrev pub entries_held : {H : Type 0} → StationView H → List Entry
entries_held station = drop station.gone station.journal

-- how many wait, or will once the active transactions have ended
abbrev pub entries_due : {H : Type 0} → StationView H → ℕ
entries_due station = length (entries_held station) + length (actives (job_views station.jobs))

-- what its journal is judged by
abbrev pub setting_of : {H : Type 0} → HostModel H → StationView H → Setting
setting_of model station = setting station.opening.script station.rules model.tells

-- ---- between two turns
-- what is true of its moment: of stories, words, claims and counts over every host; and over one that tells, each
-- transaction flies over the plain machine's world
pub record IsSteady (s : Setting) (faults : ℕ) (now : Moment) : Type 0 where
  pub set : IsSet s
  pub kept : IsConsistent s faults now
  pub flying : IsTrue s.tells → AreInFlight s now

-- what it keeps beside: the table of claims and the seats, how much active transactions have taken, their number with room for
-- their entries, and room for a line of each job
pub record HasRooms {H : Type 0} (shared : Shared H) (active spare : ℕ) (now : Moment) (lines : Roomy JobLine) : Type 0 where
  pub claims : IsTable shared.sentinels.claims now.jobs
  pub seats : AreSeats shared.sentinels.seats now.jobs
  pub noted : notes_in_all now.jobs ≡ shared.buffers.noted
  pub few : length now.jobs ≤ 1000
  pub count : length (actives now.jobs) ≡ active
  pub room : active ≤ spare
  pub none : lines.items ≡ []

-- for how many jobs there is room, for their lines, and for their marks
pub record Room : Type 0 where
  pub jobs : ℕ
  pub lines : ℕ
  pub marks : ℕ

-- as the code has it
abbrev pub room_of : Vec Job Global → Roomy JobLine → Vec ℕ Global → Room
room_of jobs lines ahead = record { jobs = vec_capacity jobs; lines = lines.spare; marks = vec_capacity ahead }

-- what transactions have started waits with their jobs, and there is room for all jobs that were started
pub record HasStarts (script : Script) (started : List (List ℕ)) (jobs : List Job) (room : Room) : Type 0 where
  pub children : (at : ℕ) (job : Job) → slice_get jobs at ≡ Some job → HasChildren script job
  pub jobs_room : length started ≤ room.jobs
  pub lines_room : length started ≤ room.lines
  pub marks_room : length started + 1 ≤ room.marks

-- ---- what a turn never changes
pub record KeepsOpening {H : Type 0} (old new : StationView H) : Type 0 where
  pub opening : new.opening ≡ old.opening
  pub rules : new.rules ≡ old.rules
  pub taken : new.taken ≡ old.taken
  pub gone : new.gone ≡ old.gone

-- and neither does what stands after it
pub record KeepsEvents {H : Type 0} (old new : StationView H) : Type 0 where
  pub events : new.events ≡ old.events
  pub last : new.last ≡ old.last

-- ---- jobs, by their numbers from 1
-- the job of this number exists and hasn't ended
abbrev pub lives : Option Job → Bool
lives None = false
lives (Some job) = is_live (job_view job)

-- a job number is one of a job that exists and hasn't ended
abbrev pub live_at : List Job → ℕ → Bool
live_at jobs number = if number == 0 then false else lives (slice_get jobs (number - 1))

-- no job goes on
abbrev pub NobodyLives : List Job → Type 0
NobodyLives jobs = (number : ℕ) → live_at jobs number ≡ false

-- ---- runs of turns
-- what a run of turns never changes
pub record KeepsOrigin {H : Type 0} (old new : StationView H) : Type 0 where
  pub opening : new.opening ≡ old.opening
  pub rules : new.rules ≡ old.rules

-- a journal goes on with another
abbrev pub IsFrontOf : List Entry → List Entry → Type 0
IsFrontOf front whole = (more : List Entry) × (whole ≡ front ++ more)

-- a turn of the job in this place changes no other job; those that are live from then on are after the others; and the journal
-- goes on
pub record ChangesOne (at : ℕ) (old new : Moment) : Type 0 where
  pub behind : JobView
  pub started : List JobView
  pub jobs : new.jobs ≡ slice_set old.jobs at behind ++ started
  pub front : IsFrontOf old.journal new.journal

-- its jobs ran one after another
abbrev pub RanAlone : {H : Type 0} → HostModel H → StationView H → Type 0
RanAlone model station = (at : ℕ) × AreAlone (now_of model station) at

-- all that a run of turns keeps: no job goes
pub record GoesOn {H : Type 0} (old new : StationView H) : Type 0 where
  pub origin : KeepsOrigin old new
  pub front : IsFrontOf old.journal new.journal
  pub count : length old.jobs ≤ length new.jobs

-- and what one of turns of this job keeps: whether the others that were there live, and in a script that it works alone
pub record WorksOn {H : Type 0} (model : HostModel H) (job : ℕ) (old new : StationView H) : Type 0 where
  pub taken : new.taken ≡ old.taken
  pub others : (other : ℕ) → other ≢ job → other ≤ length old.jobs → live_at new.jobs other ≡ live_at old.jobs other
  pub alone : IsScripted old.opening.script → AreAlone (now_of model old) (job - 1) → AreAlone (now_of model new) (job - 1)

-- ---- a list of turns
-- the job takes its turn, a row of the table, and the opening and what is taken stays
abbrev pub HasTurned : {H : Type 0} → HostModel H → ℕ → Step (StationView H) → Turn → Type 0
HasTurned model job station answer =
    IsTurn (setting_of model station.old) (job - 1) (now_of model station.old) answer (now_of model station.new)
    × KeepsOpening station.old station.new

-- a job that goes on does; one that doesn't is passed over, and all but the events stays
abbrev pub IsStepOf : {H : Type 0} → HostModel H → ℕ → Step (StationView H) → Bool → Type 0
IsStepOf model job station true = (answer : Turn) × HasTurned model job station answer
IsStepOf model job station false = station.new ≡ record station.old { events = station.new.events; last = station.new.last }

-- the jobs of these numbers do so one after another
abbrev pub TakeTurns : {H : Type 0} → HostModel H → List ℕ → StationView H → StationView H → Type 0
TakeTurns model [] old new = new ≡ old
TakeTurns {H = H} model (job ∷ jobs) old new =
    (next : StationView H) × IsStepOf model job (record { old = old; new = next }) (live_at old.jobs job) × TakeTurns model jobs next new

-- ---- rounds
-- the numbers from 1 up to this one
abbrev pub numbers : ℕ → List ℕ
numbers zero = []
numbers (suc n) = numbers n ++ suc n ∷ []

-- one turn of each job that goes on, in ascending order; a job that is started meanwhile is among them
abbrev pub TakeRound : {H : Type 0} → HostModel H → StationView H → StationView H → Type 0
TakeRound model old new = TakeTurns model (numbers (length new.jobs)) old new

-- so many rounds, one after another
abbrev pub TakeRounds : {H : Type 0} → HostModel H → ℕ → StationView H → StationView H → Type 0
TakeRounds model zero old new = new ≡ old
TakeRounds {H = H} model (suc rounds) old new = (last : StationView H) × TakeRounds model rounds old last × TakeRound model last new

-- how many turns are left
abbrev pub turns_of : {H : Type 0} → HostModel H → StationView H → ℕ
turns_of model station = turns_left (setting_of model station) (now_of model station)

-- ---- as the code has it
-- the moment of a station with this host, these words, this journal and these jobs
abbrev pub moment : {H : Type 0} → HostModel H → Shared H → List Entry → List Job → Moment
moment model shared journal jobs =
    record {
      words = shared.words;
      contents = told_by model shared;
      faults = model.fault_count shared.host;
      calls = model.calls shared.host;
      kept = shared.buffers.kept;
      journal = journal;
      jobs = job_views jobs;
      started = shared.started.items;
      marks = marks_of shared.sentinels.seats;
    }

-- the live job with the smallest number above this one
pub record IsNextOf (jobs : List Job) (taken number : ℕ) : Type 0 where
  pub above : taken < number
  pub live : live_at jobs number ≡ true
  pub first : (other : ℕ) → taken < other → other < number → live_at jobs other ≡ false

-- between a number and this one, at most one past the last, no job lives
pub record IsAhead (jobs : List Job) (number next : ℕ) : Type 0 where
  pub above : number < next
  pub within : next ≤ length jobs + 1
  pub ended : (other : ℕ) → number < other → other < next → live_at jobs other ≡ false

-- there is such a number for 0 and for each job
pub record AreAhead (jobs : List Job) (ahead : List ℕ) : Type 0 where
  pub count : length ahead ≡ length jobs + 1
  pub each : (number next : ℕ) → slice_get ahead number ≡ Some next → IsAhead jobs number next
