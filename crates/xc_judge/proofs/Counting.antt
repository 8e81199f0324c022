-- The records that calls left are as many as the code counts, and those of an entry that is run again are of its calls.
use Rattle.std.proofs.Common.{◌≡◌, ℕ, ◌+◌, ◌-◌, true, false, Bool, List, [], ◌∷◌, ◌++◌, length, map, refl, ap, sym, ◌∙◌, subst, arith}
use Rattle.std.proofs.Common.{append-nil, length-append}
use Rattle.std.proofs.lemmas.List.{length-map}
use Rattle.std.specs.Option.{option_map}
use Rattle.std.specs.Prelude.{Option, unwrap_or, if◌then◌else◌}
use Rattle.std.specs.declared.option.Option.TheVariants.{None, Some}
use Rattle.xc_data.specs.declared.call.Call.{Call}
use Rattle.xc_data.specs.declared.call.Call.TheVariants as call
use Rattle.xc_data.specs.declared.call.Reply.{Reply}
use Rattle.xc_data.specs.declared.entry.Cause.{Cause}
use Rattle.xc_data.specs.declared.entry.Cause.TheVariants as cause
use Rattle.xc_data.specs.declared.entry.Report.{Report}
use Rattle.xc_data.specs.declared.undo.Undo.{Undo}
use Rattle.xc_script.specs.declared.ask.Ask.{Ask}
use Rattle.xc_world.specs.Ends.{Ending}
use Rattle.xc_world.specs.RecordOf.{AreRecordsOf, leaves_record}
use Rattle.xc_world.specs.Run.{BodyResult}
use Rattle.xc_world.proofs.Laws.{as_many}
use Rattle.xc_model.specs.EntryEnds.{AreRecords, IsReport}
use Rattle.xc_model.specs.Recorded.{AreFewFaults, HasRecords, IsFewFaults, Recorded, all_records, block_records, records_with}
use Rattle.xc_judge.specs.Counts.{IsCount, IsCountedReport, RecordCount, block_count, count_of, count_with}

-- ---- counted
-- with these calls and their replies
abbrev pub all_counts : RecordCount → List Call → List Reply → RecordCount
all_counts n [] replies = n
all_counts n (c ∷ calls) [] = n
all_counts n (c ∷ calls) (r ∷ replies) = all_counts (count_with n c r) calls replies

-- few faults, by the counts
abbrev pub AreFewBy : ℕ → RecordCount → List Call → List Reply → Type 0
AreFewBy tries n [] replies = Unit {0}
AreFewBy tries n (c ∷ calls) [] = Unit {0}
AreFewBy tries n (c ∷ calls) (r ∷ replies) = IsFewFaults tries (block_count n) r × AreFewBy tries (count_with n c r) calls replies

longer : (c : Call) (r : Reply) (now : List (Call × Reply)) (b : Bool)
    → (let left : List (Call × Reply) = if b then (c, r) ∷ [] else [] in length (now ++ left)) ≡ (if b then length now + 1 else length now)
longer c r now true = length-append now ((c, r) ∷ [])
longer c r now false = ap length (append-nil now)

unwrapped : (o : Option (List (Call × Reply))) (now : List (Call × Reply)) → length (unwrap_or o now) ≡ unwrap_or (option_map length o) (length now)
unwrapped None now = refl
unwrapped (Some calls) now = refl

-- a call more counts as the code has it
count_more : (k : Recorded) (c : Call) (r : Reply) → count_of (records_with k c r) ≡ count_with (count_of k) c r
count_more k call.Save r = refl
count_more k call.Keep r = refl
count_more k call.Back r = ap (λ n. let m : RecordCount = record { now = n; saved = None } in m) (unwrapped k.saved k.now)
count_more k c r = ap (λ n. let m : RecordCount = record { now = n; saved = option_map length k.saved } in m) (longer c r k.now (leaves_record c r))

-- and so do all
pub all_counted : (k : Recorded) (calls : List Call) (replies : List Reply) → count_of (all_records k calls replies) ≡ all_counts (count_of k) calls replies
all_counted k [] replies = refl
all_counted k (c ∷ calls) [] = refl
all_counted k (c ∷ calls) (r ∷ replies) =
    all_counted (records_with k c r) calls replies ∙ ap (λ n. all_counts n calls replies) (count_more k c r)

block_same : (k : Recorded) → block_records k ≡ block_count (count_of k)
block_same k = ap (λ n. length k.now - n) (unwrapped k.saved k.now)

-- few faults are few by the counts
pub few_counted : (tries : ℕ) (k : Recorded) (calls : List Call) (replies : List Reply) → AreFewFaults tries k calls replies
    → AreFewBy tries (count_of k) calls replies
few_counted tries k [] replies few = tt
few_counted tries k (c ∷ calls) [] few = tt
few_counted tries k (c ∷ calls) (r ∷ replies) few = (
  subst (λ n. IsFewFaults tries n r) (block_same k) few.0,
  subst (λ n. AreFewBy tries n calls replies) (count_more k c r) (few_counted tries (records_with k c r) calls replies few.1),
)

-- and the other way round
pub few_by_count : (tries : ℕ) (k : Recorded) (calls : List Call) (replies : List Reply) → AreFewBy tries (count_of k) calls replies
    → AreFewFaults tries k calls replies
few_by_count tries k [] replies few = tt
few_by_count tries k (c ∷ calls) [] few = tt
few_by_count tries k (c ∷ calls) (r ∷ replies) few = (
  subst (λ n. IsFewFaults tries n r) (sym (block_same k)) few.0,
  few_by_count tries (records_with k c r) calls replies (subst (λ n. AreFewBy tries n calls replies) (sym (count_more k c r)) few.1),
)

-- ---- the records of a report
count_so : (k : Recorded) (c : Cause) (us : List Undo) → HasRecords k c us → IsCount (length k.now) c (length us)
count_so k cause.NoMemory us has =
    let size = ap length has.parts ∙ length-append has.own has.more in
    let own = as_many k.now has.own has.are in
    (omega (arith, size, own), omega (arith, size, own, has.one))
count_so k cause.Asked us has = as_many k.now us has
count_so k (cause.Conflict object holder at) us has = as_many k.now us has
count_so k (cause.Revoked object by at) us has = as_many k.now us has
count_so k (cause.Stuck failed) us has = as_many k.now us has

-- are as many as the calls that left one
pub report_counted : (tries : ℕ) (k : Recorded) (report : Report) → IsReport tries k report → IsCountedReport tries (length k.now) report
report_counted tries k report is =
    let undos : List Undo = map (λ (r : Ending). r.0) report.records in
    record {
      many = subst (IsCount (length k.now) report.cause) (length-map report.records (λ (r : Ending). r.0)) (count_so k report.cause undos is.count);
      legal = is.legal;
    }

kinds_so : (k : Recorded) (ran : BodyResult) (tx : ℕ) (last : Ask) (c : Cause) (us : List Undo) → AreRecordsOf k.now ran.trail → AreRecords ran tx last c us
    → IsCount (length k.now) c (length us) → HasRecords k c us
kinds_so k ran tx last cause.NoMemory us are (more, left, is) many =
    let size = ap length is ∙ length-append ran.trail more in
    let own = as_many k.now ran.trail are in
    record { own = ran.trail; more = more; are = are; one = (let most = many.1 in omega (arith, size, own, most)); parts = is }
kinds_so k ran tx last cause.Asked us are is many = subst (AreRecordsOf k.now) (sym is) are
kinds_so k ran tx last (cause.Conflict object holder at) us are is many = subst (AreRecordsOf k.now) (sym is) are
kinds_so k ran tx last (cause.Revoked object by at) us are is many = subst (AreRecordsOf k.now) (sym is) are
kinds_so k ran tx last (cause.Stuck failed) us are is many = subst (AreRecordsOf k.now) (sym is) are

-- where they are the plain machine's, each is of its call
pub report_so : (tries : ℕ) (k : Recorded) (ran : BodyResult) (tx : ℕ) (last : Ask) (report : Report) → AreRecordsOf k.now ran.trail
    → AreRecords ran tx last report.cause (map (λ (r : Ending). r.0) report.records) → IsCountedReport tries (length k.now) report → IsReport tries k report
report_so tries k ran tx last report are true_so is =
    let undos : List Undo = map (λ (r : Ending). r.0) report.records in
    record {
      count = kinds_so k ran tx last report.cause undos are true_so
          (subst (IsCount (length k.now) report.cause) (sym (length-map report.records (λ (r : Ending). r.0))) is.many);
      legal = is.legal;
    }
