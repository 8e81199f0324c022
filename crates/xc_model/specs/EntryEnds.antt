-- What an entry says of its end: its cause or its late ends, what it held, and its records; `last` is what was asked after
-- its replies.
use Rattle.std.specs.Prelude.{◌≡◌, ◌⊎◌, ℕ, ◌+◌, Bool, true, false, List, [], ◌∷◌, ◌++◌, length, map, All, IsTrue, Option}
use Rattle.std.specs.Prelude.{if◌then◌else◌}
use Rattle.std.specs.declared.option.Option.TheVariants.{None, Some}
use Rattle.xc_data.specs.Claims.{held_of}
use Rattle.xc_data.specs.declared.call.Answer.{Answer}
use Rattle.xc_data.specs.declared.call.Call.{Call}
use Rattle.xc_data.specs.declared.call.Call.TheVariants as call
use Rattle.xc_data.specs.declared.call.LateEnd.{LateEnd}
use Rattle.xc_data.specs.declared.claim.Claim.{Claim}
use Rattle.xc_data.specs.declared.entry.Cause.{Cause}
use Rattle.xc_data.specs.declared.entry.Cause.TheVariants as cause
use Rattle.xc_data.specs.declared.entry.Entry.{Entry}
use Rattle.xc_data.specs.declared.entry.Outcome.{Outcome}
use Rattle.xc_data.specs.declared.entry.Outcome.TheVariants.{Committed, Aborted}
use Rattle.xc_data.specs.declared.entry.Report.{Report}
use Rattle.xc_data.specs.declared.undo.Undo.{Undo}
use Rattle.xc_script.specs.declared.ask.Ask.{Ask}
use Rattle.xc_script.specs.declared.ask.Ask.TheVariants as ask
use Rattle.xc_script.specs.Position.{is_call_asked}
use Rattle.xc_world.specs.Act.{act}
use Rattle.xc_world.specs.Ends.{AreLegal}
use Rattle.xc_world.specs.Fits.{fits}
use Rattle.xc_world.specs.Modes.{claims_of}
use Rattle.xc_world.specs.Run.{BodyResult, lates_fit, late_asked_of}
use Rattle.xc_world.specs.Trail.{recorded}
use Rattle.xc_world.specs.World.{State}
use Rattle.xc_model.specs.Progress.{body_of, run_of}
use Rattle.xc_model.specs.Recorded.{Recorded, HasRecords, IsStuckIn, saved_records}

-- ---- its cause
-- what an aborted transaction is asked: an abort, a call where it met a holder, or whatever comes next where it was
-- revoked or memory ran out
abbrev pub IsCauseOf : Cause → Ask → Type 0
IsCauseOf cause.Asked last = last ≡ ask.Abort
IsCauseOf (cause.Conflict object holder at) last = is_call_asked last ≡ true
IsCauseOf cause.NoMemory last = Unit {0}
IsCauseOf (cause.Revoked object by at) last = Unit {0}
IsCauseOf (cause.Stuck failed) last = last ≡ ask.Call call.Back

-- why a transaction was aborted of which these calls left a record: it was asked what leads there, and a way back got stuck at a
-- record of its block
pub record HasAbortCause (k : Recorded) (last : Ask) (report : Report) : Type 0 where
  pub asked : IsCauseOf report.cause last
  pub stuck : IsStuckIn (saved_records k) 1 report.records report.cause

-- an attempt that is to be tried again
abbrev pub is_tried_again : Cause → Bool
is_tried_again (cause.Conflict object holder at) = true
is_tried_again (cause.Revoked object by at) = true
is_tried_again cause.Asked = false
is_tried_again cause.NoMemory = false
is_tried_again (cause.Stuck failed) = false

-- how many attempts of its transaction failed, this one among them, where those before it failed so
abbrev pub failures_with : List Cause → Outcome → ℕ
failures_with failed (Committed late) = length failed
failures_with failed (Aborted report) = if is_tried_again report.cause then length failed + 1 else length failed

-- why it was aborted, where it was
abbrev pub cause_in : Outcome → Option Cause
cause_in (Committed late) = None
cause_in (Aborted report) = Some report.cause

-- it has no cause, or another one than that it was revoked
abbrev pub IsUnrevoked : Option Cause → Type 0
IsUnrevoked None = Unit {0}
IsUnrevoked (Some cause.Asked) = Unit {0}
IsUnrevoked (Some (cause.Conflict object holder at)) = Unit {0}
IsUnrevoked (Some (cause.Revoked object by at)) = ⊥
IsUnrevoked (Some cause.NoMemory) = Unit {0}
IsUnrevoked (Some (cause.Stuck failed)) = Unit {0}

-- no entry was revoked
abbrev pub AreUnrevoked : List Entry → Type 0
AreUnrevoked entries = All (λ (e : Entry). IsUnrevoked (cause_in e.outcome)) entries

-- ---- its late ends
-- a commit on this state: each late call ended as the plain machine's did
pub record IsCommit (state : State) (e : Entry) (late : List LateEnd) : Type 0 where
  pub ends : (run_of state e late).late.ends ≡ late
  pub late_fits : IsTrue (lates_fit (body_of state e).world (late_asked_of (body_of state e).late late))

-- ---- what it held
-- a part of a list, in its order
abbrev pub IsPartOf : {A : Type 0} → List A → List A → Type 0
IsPartOf [] whole = Unit {0}
IsPartOf (x ∷ part) [] = ⊥
IsPartOf (x ∷ part) (y ∷ whole) = ((x ≡ y) × IsPartOf part whole) ⊎ IsPartOf (x ∷ part) whole

-- what the call claims that is asked after a body
abbrev pub next_claims : BodyResult → Ask → List Claim
next_claims ran (ask.Call call) = claims_of call ran.me (length ran.world.words)
next_claims ran _ = []

-- an aborted transaction held what its calls claimed; without memory it may have claimed for the next call too
abbrev pub IsHeldAt : BodyResult → Ask → Cause → List Claim → Type 0
IsHeldAt ran last cause.NoMemory held = (more : List Claim) × IsPartOf more (next_claims ran last) × (held ≡ held_of (ran.touched ++ more))
-- for any other cause no call was cut short
IsHeldAt ran last _ held = held ≡ held_of ran.touched

-- what an entry held: what its calls touched, each object once, where it was first touched
abbrev pub IsHeld : BodyResult → Ask → Outcome → List Claim → Type 0
IsHeld ran last (Committed late) held = held ≡ held_of ran.touched
IsHeld ran last (Aborted report) held = IsHeldAt ran last report.cause held

-- ---- its records
-- what a report says of records, where these calls left one: each has its record, and the compensations have legal ends
pub record IsReport (tries : ℕ) (k : Recorded) (report : Report) : Type 0 where
  pub count : HasRecords k report.cause (map (λ r. r.0) report.records)
  pub legal : AreLegal tries 1 report.records

-- the records that a call without memory left after: none, or that of the call whole or of a front of its bytes
abbrev pub AreLeftBy : BodyResult → ℕ → Call → List Undo → Type 0
AreLeftBy ran tx call records =
    (records ≡ []) ⊎ ((answer : Answer) × IsTrue (fits ran.world ran.me tx call answer)
    × (records ≡ recorded ran.world ran.me tx call (act ran.world ran.me tx call answer).reply))

-- the same of what is asked
abbrev pub AreLeft : BodyResult → ℕ → Ask → List Undo → Type 0
AreLeft ran tx (ask.Call call) records = AreLeftBy ran tx call records
AreLeft ran tx _ records = records ≡ []

-- an aborted transaction's records are those of its calls; without memory one of the next call may stand last
abbrev pub AreRecords : BodyResult → ℕ → Ask → Cause → List Undo → Type 0
AreRecords ran tx last cause.NoMemory records = (more : List Undo) × AreLeft ran tx last more × (records ≡ ran.trail ++ more)
-- for any other cause no call was cut short
AreRecords ran tx last _ records = records ≡ ran.trail
