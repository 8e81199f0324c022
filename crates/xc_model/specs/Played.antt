-- What an active transaction noted, on the plain machine.
use Rattle.std.specs.Prelude.{◌≡◌, ℕ, ◌+◌, List, ◌++◌, length, map, take, IsTrue}
use Rattle.xc_data.specs.Claims.{held_of}
use Rattle.xc_data.specs.declared.claim.Claim.{Claim}
use Rattle.xc_data.specs.declared.undo.Undo.{Undo}
use Rattle.xc_data.specs.declared.call.LateCall.{LateCall}
use Rattle.xc_data.specs.declared.call.LateAnswer.{LateAnswer}
use Rattle.xc_data.specs.declared.entry.Cause.TheVariants as cause
use Rattle.xc_script.specs.declared.ask.Ask.{Ask}
use Rattle.xc_world.specs.Run.{BodyResult, LateResult, asked_of, body, body_fits, lates, lates_fit, late_asked_of}
use Rattle.xc_model.specs.declared.phase.Phase.{Phase}
use Rattle.xc_model.specs.declared.phase.Phase.TheVariants.{Undoing}
use Rattle.xc_model.specs.Progress.{Progress, private_of}
use Rattle.xc_model.specs.EntryEnds.{IsHeldAt, AreRecords}
use Rattle.xc_model.specs.Moment.{TxView}

-- it holds what its calls claimed; where memory ran out perhaps also what the next call claims
abbrev pub HoldsFor : BodyResult → Ask → Phase → List Claim → Type 0
HoldsFor ran next (Undoing cause.NoMemory) held = IsHeldAt ran next cause.NoMemory held
-- in any other phase, and for any other cause, no call was cut short
HoldsFor ran next _ held = held ≡ held_of ran.touched

-- its records are those of its calls; where memory ran out perhaps also one of the next call
abbrev pub RecordsFor : BodyResult → ℕ → Ask → Phase → List Undo → Type 0
RecordsFor ran number next (Undoing cause.NoMemory) records = AreRecords ran number next cause.NoMemory records
-- in any other phase, and for any other cause, no call was cut short
RecordsFor ran number next _ records = records ≡ ran.trail

-- the body of the job in this place, which counts from 0, in the world that the journal left
abbrev pub ran_behind : Progress → ℕ → TxView → BodyResult
ran_behind p at tx = body p.state.world (private_of p.state (at + 1)) tx.number (asked_of tx.calls tx.replies)

-- its late calls that have an end, with the answers that their ends tell of
abbrev pub played_late : BodyResult → TxView → List (LateCall × LateAnswer)
played_late ran tx = late_asked_of (take (length tx.ends) ran.late) tx.ends

-- where they lead
abbrev pub played_late_result : BodyResult → TxView → LateResult
played_late_result ran tx = lates ran.world (played_late ran tx)

-- it gives what the transaction noted, which is asked `next`; `words` is the number of words
pub record IsPlayedSoFar (next : Ask) (words : ℕ) (p : Progress) (at : ℕ) (tx : TxView) : Type 0 where
  pub fits : IsTrue (body_fits p.state.world (private_of p.state (at + 1)) tx.number (asked_of tx.calls tx.replies))
  pub replies : (ran_behind p at tx).replies ≡ tx.replies
  pub me : (ran_behind p at tx).me ≡ tx.me
  pub late : (ran_behind p at tx).late ≡ tx.late
  -- the late calls that are done ended as the plain machine's do
  pub ends : (played_late_result (ran_behind p at tx) tx).ends ≡ tx.ends
  pub late_fits : IsTrue (lates_fit (ran_behind p at tx).world (played_late (ran_behind p at tx) tx))
  pub records : RecordsFor (ran_behind p at tx) tx.number next tx.phase (tx.undo.pending ++ map (λ r. r.0) tx.undo.ended)
  pub holds : HoldsFor (ran_behind p at tx) next tx.phase tx.held
  pub count : length (ran_behind p at tx).world.words ≡ words
