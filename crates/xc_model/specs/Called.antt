-- Which calls of the host a transaction makes after its body: those of its late calls, or of its compensations, and those of a call at
-- which memory ran out.
use Rattle.std.specs.Prelude.{◌≡◌, ◌⊎◌, List, [], ◌∷◌, ◌++◌}
use Rattle.xc_data.specs.declared.call.LateCall.{LateCall}
use Rattle.xc_data.specs.declared.call.LateEnd.{LateEnd}
use Rattle.xc_data.specs.declared.call.Reply.{Reply}
use Rattle.xc_data.specs.declared.entry.Cause.{Cause}
use Rattle.xc_data.specs.declared.entry.Cause.TheVariants as cause
use Rattle.xc_data.specs.declared.entry.Outcome.{Outcome}
use Rattle.xc_data.specs.declared.entry.Outcome.TheVariants.{Committed, Aborted}
use Rattle.xc_data.specs.declared.script.HostCallKind.{HostCallKind}
use Rattle.xc_data.specs.declared.undo.Undo.{Undo}
use Rattle.xc_data.specs.declared.undo.UndoEnd.{UndoEnd}
use Rattle.xc_host.specs.Uses.{BacksFor, CallsFor, LatesFor, StopsFor}
use Rattle.xc_script.specs.declared.ask.Ask.{Ask}
use Rattle.xc_script.specs.declared.ask.Ask.TheVariants as ask

-- which calls of the host a transaction may have made where memory ran out: none; those that the asked call makes first; or all
-- that it makes, where memory ran out after it
abbrev pub StopsAt : Ask → List HostCallKind → Type 0
StopsAt (ask.Call call) made = (made ≡ []) ⊎ StopsFor call made ⊎ ((reply : Reply) × CallsFor call reply made)
StopsAt _ made = made ≡ []

-- late calls that ended so made these, one after another; one without an end made none
abbrev pub LatesMake : List LateCall → List LateEnd → List HostCallKind → Type 0
LatesMake calls [] made = made ≡ []
LatesMake [] (end ∷ ends) made = ⊥
LatesMake (call ∷ calls) (end ∷ ends) made =
    (first rest : List HostCallKind) × LatesFor call end first × LatesMake calls ends rest × (made ≡ first ++ rest)

-- compensations that ended so made these; the list has the last one first
abbrev pub BacksMake : List (Undo × UndoEnd) → List HostCallKind → Type 0
BacksMake [] made = made ≡ []
BacksMake (last ∷ ended) made =
    (before own : List HostCallKind) × BacksMake ended before × BacksFor last.0 last.1 own × (made ≡ before ++ own)

-- a transaction that was aborted for lack of memory made these of what it was asked last, and any other one none
abbrev pub StopsBy : Cause → Ask → List HostCallKind → Type 0
StopsBy cause.NoMemory last made = StopsAt last made
StopsBy cause.Asked last made = made ≡ []
StopsBy (cause.Conflict object holder at) last made = made ≡ []
StopsBy (cause.Revoked object by at) last made = made ≡ []
StopsBy (cause.Stuck failed) last made = made ≡ []

-- after its body, of which these late calls were kept, and after which this was asked last
abbrev pub EndMakes : Ask → List LateCall → Outcome → List HostCallKind → Type 0
EndMakes last late (Committed ends) made = LatesMake late ends made
EndMakes last late (Aborted report) made =
    (stops backs : List HostCallKind) × StopsBy report.cause last stops × BacksMake report.records backs × (made ≡ stops ++ backs)
