-- However the next late call of a committing transaction ends, at the host or by starting a job.
use Rattle.std.proofs.Common.{◌≡◌, ℕ, List, ◌∷◌, ◌++◌, [], refl, ap}
use Rattle.std.specs.Prelude.{slice_set}
use Rattle.xc_data.specs.Counts.{CountsFault}
use Rattle.xc_data.specs.Faults.{is_fault_end}
use Rattle.xc_data.specs.declared.call.LateCall.{LateCall}
use Rattle.xc_data.specs.declared.call.LateCall.TheVariants.{Thread}
use Rattle.xc_data.specs.declared.call.LateEnd.{LateEnd}
use Rattle.xc_data.specs.declared.call.LateEnd.TheVariants as end
use Rattle.xc_host.specs.Uses.{LatesFor}
use Rattle.xc_text.specs.declared.script.Script.{Script}
use Rattle.xc_model.specs.Setting.{Setting}
use Rattle.xc_model.specs.Moment.{TxView, JobView, Moment}
use Rattle.xc_model.specs.CommittingRows.{EndsLate, NextLate, Starts}
use Rattle.xc_model.specs.Starts.{IsStart}
use Rattle.xc_model.specs.Movers.{HasCalled, with_tx, mover}

-- it has one end more, and nothing else changes but what the host tells and counts, and which jobs are started
pub record Ends (at : ℕ) (old : Moment) (job : JobView) (tx : TxView) (new : Moment) : Type 0 where
  pub end : LateEnd
  pub jobs : new.jobs ≡ slice_set old.jobs at (with_tx job job.place (record tx { ends = tx.ends ++ end ∷ [] }))
  pub words : new.words ≡ old.words
  pub journal : new.journal ≡ old.journal
  pub marks : new.marks ≡ old.marks
  pub cause : CountsFault (is_fault_end end) old.faults new.faults

-- a call that starts a job has no fault
start_faults : (script : Script) (was : List (List ℕ)) (block : List ℕ) (e : LateEnd) (is : List (List ℕ)) (n m : ℕ) → m ≡ n
    → IsStart script was block e is → CountsFault (is_fault_end e) n m
start_faults script was block end.Done is n m same h = same
start_faults script was block end.NoScript is n m same h = same
start_faults script was block (end.Full k) is n m same h = same
start_faults script was block (end.NoMemory k) is n m same h = same
start_faults script was block (end.Fault k) is n m same h = absurd h
start_faults script was block end.Shut is n m same h = absurd h
start_faults script was block end.NoName is n m same h = absurd h

module _ (s : Setting) (at : ℕ) (old : Moment) (job : JobView) (tx : TxView) (new : Moment) where
  host_ends : (call : LateCall) → EndsLate (mover s at old job) tx call new → Ends at old job tx new
  host_ends call row =
      record {
        end = row.end;
        jobs = ap (λ (n : Moment). n.jobs) row.behind;
        words = ap (λ (n : Moment). n.words) row.behind;
        journal = ap (λ (n : Moment). n.journal) row.behind;
        marks = ap (λ (n : Moment). n.marks) row.behind;
        cause = row.cause;
      }

  start_ends : (block : List ℕ) → Starts (mover s at old job) tx block new → Ends at old job tx new
  start_ends block row =
      record {
        end = row.end;
        jobs = ap (λ (n : Moment). n.jobs) row.behind;
        words = ap (λ (n : Moment). n.words) row.behind;
        journal = ap (λ (n : Moment). n.journal) row.behind;
        marks = ap (λ (n : Moment). n.marks) row.behind;
        cause = start_faults s.script old.started block row.end new.started old.faults new.faults (ap (λ (n : Moment). n.faults) row.behind) row.starts;
      }

  -- by the call
  pub next_ends : (call : LateCall) → NextLate (mover s at old job) tx call new → Ends at old job tx new
  next_ends (Thread block) row = start_ends block row
  next_ends call row = host_ends call row

  -- which calls of the host it made
  pub next_uses : (call : LateCall) (row : NextLate (mover s at old job) tx call new) → HasCalled (LatesFor call (next_ends call row).end) old new
  unfolding next_ends host_ends
  next_uses (Thread block) row = ([], refl, λ kind. ap (λ (n : Moment). n.calls kind) row.behind)
  next_uses call row = row.uses
