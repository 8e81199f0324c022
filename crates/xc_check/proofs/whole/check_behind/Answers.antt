use Rattle.std.proofs.Common.{◌≡◌, ◌∙◌, ◌+◌, [], true, length, take, slice_index_or, ap, sym, subst, arith}
use Rattle.std.proofs.lemmas.List.{take_all}
use Rattle.std.proofs.lemmas.Option.{get_or_from_slice_get, slice_get_within}
use Rattle.xc_grounds.specs.Groundless.{IsFirstGroundless}
use Rattle.xc_grounds.specs.Numbered.{AreNumbered, part_begins}
use Rattle.xc_model.specs.Grounds.{AreGrounded, scene_of}
use Rattle.xc_check.specs.Fronts.{are_calls_known}
use Rattle.xc_check.specs.Refusals.{line_behind}
use Rattle.xc_check.specs.TrueTexts.{telling}
use Rattle.xc_check.proofs.Verdicts.{false_ground, none_is_so, judged_count, parts_numbered}
use Rattle.xc_judge.proofs.Laws.{found_some}
use Rattle.xc_check.proofs.whole.check_behind.Goals as goal

pub first_groundless-requires-clause-numbered : goal.first_groundless-requires-clause-numbered
first_groundless-requires-clause-numbered c =
    let j = c.requires.judged in
    let s = telling c.args.script.now c.args.rules.now in
    subst (λ parts. AreNumbered (length parts) (part_begins parts)) (sym c.as_slice.ensures.value) (parts_numbered s j.0 c.args.judging j.1)

pub first_groundless-requires-clause-few : goal.first_groundless-requires-clause-few
first_groundless-requires-clause-few c =
    let j = c.requires.judged in
    let s = telling c.args.script.now c.args.rules.now in
    let count : length c.as_slice.result.now ≡ length j.0 = ap length c.as_slice.ensures.value ∙ judged_count s j.0 c.args.judging j.1 in
    let few = j.3 in
    omega (arith, count, few)

pub bounds-lines-place : goal.bounds-lines-place
bounds-lines-place c =
    let j = c.requires.judged in
    let s = telling c.args.script.now c.args.rules.now in
    let h : IsFirstGroundless (are_calls_known s) c.as_slice.result.now c.in-Some.place =
    found_some c.in_ok-place.field-0 c.in-Some.place (AreGrounded (scene_of (are_calls_known s) c.as_slice.result.now []))
    (IsFirstGroundless (are_calls_known s) c.as_slice.result.now) c.in-Some.is c.in_ok-place.ensures in
    let within = slice_get_within c.as_slice.result.now c.in-Some.place h.part h.at in
    let count : length c.as_slice.result.now ≡ length j.0 = ap length c.as_slice.ensures.value ∙ judged_count s j.0 c.args.judging j.1 in
    let lines : length c.args.lines.now ≡ length j.0 + 1 = j.2.0 in
    omega (arith, within, count, lines)

pub bounds-lines-as_slice : goal.bounds-lines-as_slice
bounds-lines-as_slice c =
    let j = c.requires.judged in
    let s = telling c.args.script.now c.args.rules.now in
    let count : (length c.as_slice-in-None.result.now) ≡ length j.0 = ap length c.as_slice-in-None.ensures.value ∙ judged_count s j.0 c.args.judging j.1 in
    let lines : length c.args.lines.now ≡ length j.0 + 1 = j.2.0 in
    omega (arith, count, lines)

pub returns-in-Some : goal.returns-in-Some
returns-in-Some c entries judged lines are =
    let s = telling c.args.script.now c.args.rules.now in
    let place = c.in-Some.place in
    let h : IsFirstGroundless (are_calls_known s) c.as_slice.result.now place =
    found_some c.in_ok-place.field-0 place (AreGrounded (scene_of (are_calls_known s) c.as_slice.result.now []))
    (IsFirstGroundless (are_calls_known s) c.as_slice.result.now) c.in-Some.is c.in_ok-place.ensures in
    let there : IsFirstGroundless (are_calls_known s) c.args.judging.parts.items place =
    subst (λ parts. IsFirstGroundless (are_calls_known s) parts place) c.as_slice.ensures.value h in
    let within = slice_get_within c.args.judging.parts.items place there.part there.at in
    let count = judged_count s entries c.args.judging judged in
    false_ground s entries c.args.judging judged (slice_index_or c.args.lines.now place 0) place there
    (get_or_from_slice_get c.args.lines.now place (line_behind (take place entries)) 0 (lines.1 place (omega (arith, within, count))))

pub returns-in-None : goal.returns-in-None
returns-in-None c entries judged lines are =
    let s = telling c.args.script.now c.args.rules.now in
    let grounded : AreGrounded (scene_of (are_calls_known s) c.args.judging.parts.items []) =
    subst (λ parts. AreGrounded (scene_of (are_calls_known s) parts [])) c.as_slice.ensures.value
    (none_is_so c.in_ok-place.field-0 (AreGrounded (scene_of (are_calls_known s) c.as_slice.result.now []))
    (IsFirstGroundless (are_calls_known s) c.as_slice.result.now) c.in-None.is c.in_ok-place.ensures) in
    let at = length c.as_slice-in-None.result.now in
    let count : at ≡ length entries = ap length c.as_slice-in-None.ensures.value ∙ judged_count s entries c.args.judging judged in
    let line : slice_index_or c.args.lines.now at 0 ≡ line_behind entries =
    get_or_from_slice_get c.args.lines.now at (line_behind (take at entries)) 0 (lines.1 at (omega (arith, count)))
    ∙ ap line_behind (take_all at entries (omega (arith, count))) in
    c.check_tail.ensures entries (record { judged = judged; grounded = grounded }) line are
