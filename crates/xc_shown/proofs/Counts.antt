-- How many lines show an entry.
use Rattle.std.proofs.Common.{◌≡◌, ℕ, ◌+◌, Bool, true, false, List, [], ◌∷◌, ◌++◌, length, min, suc, refl, sym, ap, ◌∙◌, arith}
use Rattle.std.proofs.lemmas.Bool.{false≢true}
use Rattle.std.proofs.lemmas.Bool.Decides.{nat_tests}
use Rattle.std.proofs.lemmas.List.{length-append}
use Rattle.std.specs.Prelude.{◌==◌}
use Rattle.xc_data.specs.declared.call.Call.{Call}
use Rattle.xc_data.specs.declared.call.LateEnd.{LateEnd}
use Rattle.xc_data.specs.declared.call.Reply.{Reply}
use Rattle.xc_data.specs.declared.claim.Claim.{Claim}
use Rattle.xc_data.specs.declared.entry.Outcome.{Outcome}
use Rattle.xc_data.specs.declared.entry.Outcome.TheVariants.{Committed, Aborted}
use Rattle.xc_data.specs.declared.entry.Report.{Report}
use Rattle.xc_data.specs.declared.undo.UndoEnd.{UndoEnd}
use Rattle.xc_lines.specs.declared.shown.EffectShown.{EffectShown}
use Rattle.xc_lines.specs.declared.shown.UndoKind.{UndoKind}
use Rattle.xc_sheet.specs.Ends.{lines_of_calls, lines_of_lates, line_of_held}
use Rattle.xc_sheet.specs.declared.lines.Line.TheVariants as line
use Rattle.xc_shown.specs.Shown.{lines_of_records, lines_of_standing, lines_of_outcome_shown}
use Rattle.xc_shown.specs.declared.shown.Shown.{Shown}

-- a call has a line where it has a reply
calls_count : (calls : List Call) (replies : List Reply) → length (lines_of_calls calls replies) ≡ min (length calls) (length replies)
calls_count [] replies = omega arith
calls_count (call ∷ calls) [] = omega arith
calls_count (call ∷ calls) (reply ∷ replies) = omega (arith, calls_count calls replies)

-- a late call has one
lates_count : (n : ℕ) (ends : List LateEnd) → length (lines_of_lates n ends) ≡ length ends
lates_count n [] = refl
lates_count n (end ∷ ends) = ap (λ k. suc k) (lates_count (n + 1) ends)

-- so has a record
records_count : (n : ℕ) (records : List (UndoKind × UndoEnd)) → length (lines_of_records n records) ≡ length records
records_count n [] = refl
records_count n ((kind, end) ∷ records) =
    let both : length (lines_of_records (n + 1) records ++ line.Undo n kind end ∷ []) ≡ length (lines_of_records (n + 1) records) + 1 =
    length-append (lines_of_records (n + 1) records) (line.Undo n kind end ∷ []) in
    omega (arith, both, records_count (n + 1) records)

-- and an effect
standing_count : (effects : List EffectShown) → length (lines_of_standing effects) ≡ length effects
standing_count [] = refl
standing_count (effect ∷ effects) = ap (λ k. suc k) (standing_count effects)

-- a commit has those of its late calls
pub commit_count : (o : Outcome) (late : List LateEnd) (shown : Shown) → o ≡ Committed late → length late ≡ length (lines_of_outcome_shown o shown)
commit_count o late shown is = sym (ap (λ o. length (lines_of_outcome_shown o shown)) is ∙ lates_count 1 late)

-- an abort those of its records and of the effects that stand
pub abort_count : (o : Outcome) (report : Report) (shown : Shown) → o ≡ Aborted report
    → length shown.records + length shown.effects ≡ length (lines_of_outcome_shown o shown)
abort_count o report shown is =
    let whole : length (lines_of_outcome_shown o shown) ≡ length (lines_of_records 1 shown.records) + length (lines_of_standing shown.effects) =
    ap (λ o. length (lines_of_outcome_shown o shown)) is ∙ length-append (lines_of_records 1 shown.records) (lines_of_standing shown.effects) in
    omega (arith, whole, records_count 1 shown.records, standing_count shown.effects)

-- that of held objects has none where no object is held
pub none_held : (claims : List Claim) (b : Bool) (n : ℕ) → b ≡ (length claims == 0) → b ≡ true → n ≡ 0 → n ≡ length (line_of_held claims)
none_held [] b n is empty none = none
none_held (claim ∷ claims) b n is empty none =
    let nothing : length (claim ∷ claims) ≡ 0 = grind (arith, nat_tests) in
    absurd (omega (arith, nothing))

-- else one
pub some_held : (claims : List Claim) (b : Bool) (n : ℕ) → b ≡ (length claims == 0) → b ≡ false → n ≡ 1 → n ≡ length (line_of_held claims)
some_held [] b n is other one = absurd (false≢true (sym other ∙ is))
some_held (claim ∷ claims) b n is other one = one

-- an entry has its first one, and those of its parts
pub entry_count : (calls : List Call) (replies : List Reply) (o : Outcome) (shown : Shown) (claims : List Claim) (c k h : ℕ)
    → c ≡ min (length calls) (length replies) → k ≡ length (lines_of_outcome_shown o shown) → h ≡ length (line_of_held claims)
    → 1 + c + k + h ≡ suc (length (lines_of_calls calls replies ++ (lines_of_outcome_shown o shown ++ line_of_held claims)))
entry_count calls replies o shown claims c k h e f g =
    let behind : length (lines_of_outcome_shown o shown ++ line_of_held claims) ≡ length (lines_of_outcome_shown o shown) + length (line_of_held claims) =
    length-append (lines_of_outcome_shown o shown) (line_of_held claims) in
    let whole : length (lines_of_calls calls replies ++ (lines_of_outcome_shown o shown ++ line_of_held claims))
    ≡ length (lines_of_calls calls replies) + length (lines_of_outcome_shown o shown ++ line_of_held claims) =
    length-append (lines_of_calls calls replies) (lines_of_outcome_shown o shown ++ line_of_held claims) in
    omega (arith, behind, whole, calls_count calls replies, e, f, g)
