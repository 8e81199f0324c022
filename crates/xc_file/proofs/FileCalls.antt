-- Calls on open files, as their contract has them.
use Rattle.std.proofs.Common.{◌≡◌, ℕ, None, Ok, Err}
use Rattle.std.proofs.Common.{List, [], ◌++◌, ap, sym, ◌∙◌, subst}
use Rattle.std.proofs.lemmas.List.{append_cancel_left}
use Rattle.std.specs.Prelude.{IfOk, Result}
use Rattle.xc_data.specs.declared.memory.NoMemory.{NoMemory}
use Rattle.xc_data.specs.declared.call.Call.{Call}
use Rattle.xc_data.specs.declared.call.Reply.{Reply}
use Rattle.xc_data.specs.declared.undo.Undo.{Undo}
use Rattle.xc_world.specs.Checks.{refusal_of}
use Rattle.xc_host.specs.Model.{HostModel}
use Rattle.xc_compensate.specs.Records.{Records}
use Rattle.xc_calls.specs.Calls.{CallState, call_view, IsHostCall, AreRecorded}
use Rattle.xc_file.specs.Passing.{LeavesRecord}
use Rattle.xc_calls.specs.Passing.{at_host}
use Rattle.xc_calls.proofs.Laws.{RecordsGrow, one_made}

-- what is put after the same records is the same
same_made : (old new : Records) (made more : List Undo) → new ≡ record old { pending = old.pending ++ made }
    → new ≡ record { pending = old.pending ++ more; ended = [] } → made ≡ more
same_made old new made more grown is = append_cancel_left old.pending made more (ap (λ u. u.pending) (sym grown ∙ is))

-- a call that leaves one record where it did some bytes, which the host tells
pub some_grow : {H : Type 0} (model : HostModel H) (call : Call) (made : Reply → List Undo) (old new : CallState H) (result : Result Reply NoMemory)
    → IfOk result (λ r. LeavesRecord model (at_host (record { old = old; new = new })) call r (made r))
    → ((r : Reply) → AreRecorded call (call_view model old) (made r) r)
    → IfOk result (RecordsGrow model call old new)
some_grow model call made old new (Ok r) leaves are =
    let adds = leaves.adds in
    record {
      made = adds.made;
      one = one_made call r adds.made adds.kinds;
      kinds = adds.kinds;
      undo = adds.undo;
      records = λ t w. same_made old.undo new.undo adds.made (made r) adds.undo (leaves.records t) ∙ are r w;
    }
some_grow model call made old new (Err e) leaves are = tt

-- a call at the handle of an open file
pub at_handle : {H : Type 0} (model : HostModel H) (call : ℕ → Call) (k h : ℕ) (old new : CallState H) (result : Result Reply NoMemory)
    → k ≡ h → refusal_of (call h) old.me ≡ None → (refusal_of (call k) old.me ≡ None → IsHostCall model (call k) old new result)
    → IsHostCall model (call h) old new result
at_handle model call k h old new result same free is =
    subst (λ i. IsHostCall model (call i) old new result) same (is (subst (λ i. refusal_of (call i) old.me ≡ None) (sym same) free))
