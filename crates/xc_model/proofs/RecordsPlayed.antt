-- On the plain machine a body leaves the records of its calls, and the records of an aborted one are those of a report.
use Rattle.std.proofs.Common.{inl, inr, ℕ, ◌≤◌, List, ◌++◌, length, refl, ap, sym, subst, arith, append-nil}
use Rattle.std.specs.Prelude.{Option, unwrap_or}
use Rattle.std.specs.declared.option.Option.TheVariants.{None, Some}
use Rattle.xc_data.specs.declared.call.Answer.{Answer}
use Rattle.xc_data.specs.declared.call.Call.{Call}
use Rattle.xc_data.specs.declared.call.Call.TheVariants as call
use Rattle.xc_data.specs.declared.call.Reply.{Reply}
use Rattle.xc_data.specs.declared.entry.Cause.{Cause}
use Rattle.xc_data.specs.declared.entry.Cause.TheVariants as cause
use Rattle.xc_data.specs.declared.private.Private.{Private}
use Rattle.xc_data.specs.declared.undo.Undo.{Undo}
use Rattle.xc_script.specs.declared.ask.Ask.{Ask}
use Rattle.xc_script.specs.declared.ask.Ask.TheVariants as ask
use Rattle.xc_world.specs.Act.{act}
use Rattle.xc_world.specs.RecordOf.{AreRecordsOf, left_by}
use Rattle.xc_world.specs.Run.{BlockState, BodyResult, back_from, block_step, opens, step}
use Rattle.xc_world.specs.Trail.{recorded}
use Rattle.xc_world.specs.World.{World}
use Rattle.xc_world.proofs.Laws.{acted_of, as_many, more_records, one_left}
use Rattle.xc_model.specs.EntryEnds.{AreLeft, AreLeftBy, AreRecords}
use Rattle.xc_model.specs.Recorded.{HasRecords, Recorded, no_records, records_with}

-- ---- where a body stands
-- the records at an open block's save are those of the calls before it
abbrev pub AreSavedSo : Option (List (Call × Reply)) → Option BodyResult → Type 0
AreSavedSo None None = Unit {0}
AreSavedSo (Some calls) (Some saved) = AreRecordsOf calls saved.trail
AreSavedSo _ _ = ⊥

-- its records are those of these calls, and so were those at the save
pub record AreLeftSo (k : Recorded) (b : BlockState) : Type 0 where
  pub now : AreRecordsOf k.now b.now.trail
  pub saved : AreSavedSo k.saved b.saved

-- it has made no call
pub opens_so : (w : World) (me : Private) → AreLeftSo no_records (opens w me)
opens_so w me = record { now = refl; saved = tt }

-- a back brings those of the save
back_so : (calls : List (Call × Reply)) (saved : Option (List (Call × Reply))) (old : Option BodyResult) (now : BodyResult)
    → AreSavedSo saved old → AreRecordsOf calls now.trail
    → AreRecordsOf (unwrap_or saved calls) (back_from old now).trail
back_so calls None None now before are = are
back_so calls None (Some b) now before are = absurd before
back_so calls (Some cs) None now before are = absurd before
back_so calls (Some cs) (Some b) now before are = before

-- one call more
pub step_so : (tx : ℕ) (k : Recorded) (b : BlockState) (c : Call) (a : Answer) → AreLeftSo k b
    → AreLeftSo (records_with k c (act b.now.world b.now.me tx c a).reply) (block_step tx b (record { call = c; answer = a }))
step_so tx k b c a so =
    by_call c (more_records k.now _ b.now.trail _ so.now (acted_of b.now.world b.now.me tx c a))
  where
    by_call : (d : Call)
        → AreRecordsOf (k.now ++ left_by d (act b.now.world b.now.me tx d a).reply) (step tx b.now (record { call = d; answer = a })).trail
        → AreLeftSo (records_with k d (act b.now.world b.now.me tx d a).reply) (block_step tx b (record { call = d; answer = a }))
    by_call call.Save are =
        let now = subst (λ cs. AreRecordsOf cs (step tx b.now (record { call = call.Save; answer = a })).trail) (append-nil k.now) are in
        record { now = now; saved = now }
    by_call call.Keep are =
        let now = subst (λ cs. AreRecordsOf cs (step tx b.now (record { call = call.Keep; answer = a })).trail) (append-nil k.now) are in
        record { now = now; saved = tt }
    by_call call.Back are =
        let now = subst (λ cs. AreRecordsOf cs (step tx b.now (record { call = call.Back; answer = a })).trail) (append-nil k.now) are in
        record { now = back_so k.now k.saved b.saved (step tx b.now (record { call = call.Back; answer = a })) so.saved now; saved = tt }
    by_call _ are = record { now = are; saved = so.saved }

-- ---- what a report says of them
-- a call that memory was wanting for left one at most
left_one : (ran : BodyResult) (tx : ℕ) (c : Call) (more : List Undo) → AreLeftBy ran tx c more → length more ≤ 1
left_one ran tx c more (inl none) = let e = ap length none in omega (arith, e)
left_one ran tx c more (inr (a, fits, is)) =
    let r = (act ran.world ran.me tx c a).reply in
    let count = as_many (left_by c r) (recorded ran.world ran.me tx c r) (acted_of ran.world ran.me tx c a) in
    let one = one_left c r in
    let e = ap length is in omega (arith, e, count, one)

more_one : (ran : BodyResult) (tx : ℕ) (last : Ask) (more : List Undo) → AreLeft ran tx last more → length more ≤ 1
more_one ran tx (ask.Call c) more left = left_one ran tx c more left
more_one ran tx _ more left = let e = ap length left in omega (arith, e)

-- the records of an aborted body are those of its calls
pub reported_so : (k : Recorded) (ran : BodyResult) (tx : ℕ) (last : Ask) (c : Cause) (records : List Undo) → AreRecordsOf k.now ran.trail
    → AreRecords ran tx last c records → HasRecords k c records
reported_so k ran tx last cause.NoMemory records are (more, left, is) =
    record { own = ran.trail; more = more; are = are; one = more_one ran tx last more left; parts = is }
reported_so k ran tx last cause.Asked records are is = subst (AreRecordsOf k.now) (sym is) are
reported_so k ran tx last (cause.Conflict object holder at) records are is = subst (AreRecordsOf k.now) (sym is) are
reported_so k ran tx last (cause.Revoked object by at) records are is = subst (AreRecordsOf k.now) (sym is) are
reported_so k ran tx last (cause.Stuck failed) records are is = subst (AreRecordsOf k.now) (sym is) are
