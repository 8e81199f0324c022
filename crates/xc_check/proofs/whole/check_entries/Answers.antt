use Rattle.std.proofs.Common.{◌≡◌, ◌∙◌, IfOk, length, ap, sym, subst, arith}
use Rattle.xc_grounds.specs.Numbered.{AreNumbered, IsFirstMisnumbered}
use Rattle.xc_check.specs.Fronts.{begins_shown}
use Rattle.xc_check.specs.Refusals.{AreFirstLines}
use Rattle.xc_check.specs.TrueTexts.{telling}
use Rattle.xc_check.specs.Verdicts.{IsVerdictIn}
use Rattle.xc_check.proofs.Texts.{entries_within}
use Rattle.xc_check.proofs.Verdicts.{begins_shown_count, none_is_so, judged_all, refused_of_all, refused_within}
use Rattle.xc_check.proofs.whole.check_entries.Goals as goal

-- src/whole.rt
pub totals_of_shown-totals-requires : goal.totals_of_shown-totals-requires
totals_of_shown-totals-requires c =
    let size = ap length c.as_slice-2.ensures in
    let within = entries_within c.args.entries in
    let few = c.requires.few in
    record { few = omega (arith, size, within, few) }

pub first_misnumbered-requires : goal.first_misnumbered-requires
first_misnumbered-requires c =
    let size = ap length (c.as_slice-4.ensures.value ∙ c.in_ok-begins.ensures ∙ ap begins_shown c.as_slice-3.ensures) ∙ begins_shown_count c.args.entries in
    let within = entries_within c.args.entries in
    let few = c.requires.few in
    omega (arith, size, within, few)

pub refuse-requires-clause-few : goal.refuse-requires-clause-few
refuse-requires-clause-few c =
    let size = ap length c.into_vec-entries.ensures in
    let within = entries_within c.args.entries in
    let few = c.requires.few in
    omega (arith, size, within, few)

pub returns-in-Some : goal.returns-in-Some
returns-in-Some c =
    let s = telling c.args.script.now c.args.rules.now in
    subst (λ xs. IfOk c.refuse.result (IsVerdictIn s xs c.args.tail.now)) c.into_vec-entries.ensures (c.refuse.ensures c.args.tail.now)

pub judge_entries-requires-clause-few : goal.judge_entries-requires-clause-few
judge_entries-requires-clause-few c =
    let size = ap length c.into_vec-entries.ensures in
    let within = entries_within c.args.entries in
    let few = c.requires.few in
    omega (arith, size, within, few)

pub check_behind-requires-clause-judged : goal.check_behind-requires-clause-judged
check_behind-requires-clause-judged c =
    let s = telling c.args.script.now c.args.rules.now in
    let entries = c.args.entries in
    let begins = c.as_slice-4.result.now in
    let are : begins ≡ begins_shown entries = c.as_slice-4.ensures.value ∙ c.in_ok-begins.ensures ∙ ap begins_shown c.as_slice-3.ensures in
    let numbered = none_is_so c.in_ok-misnumbered.misnumbered (AreNumbered (length begins) begins) (IsFirstMisnumbered (length begins) begins)
    c.in_default.is c.in_ok-misnumbered.ensures in
    let lines : AreFirstLines entries c.as_slice-lines.result.now =
    subst (λ ls. AreFirstLines entries ls) (sym c.as_slice-lines.ensures.value)
    (subst (λ xs. AreFirstLines xs c.in_ok-lines.lines.items) c.as_slice.ensures c.in_ok-lines.ensures) in
    let judged = judged_all s entries begins are numbered c.into_vec-entries.result.items c.into_vec-entries.ensures c.in_ok-judging.field-0
    c.in_ok-judging.ensures c.in-Ok.judging c.in-Ok.is in
    let within = entries_within entries in
    let few = c.requires.few in
    (entries, judged, lines, omega (arith, within, few))

pub returns-in-Ok : goal.returns-in-Ok
returns-in-Ok c =
    let s = telling c.args.script.now c.args.rules.now in
    let entries = c.args.entries in
    let begins = c.as_slice-4.result.now in
    let are : begins ≡ begins_shown entries = c.as_slice-4.ensures.value ∙ c.in_ok-begins.ensures ∙ ap begins_shown c.as_slice-3.ensures in
    let numbered = none_is_so c.in_ok-misnumbered.misnumbered (AreNumbered (length begins) begins) (IsFirstMisnumbered (length begins) begins)
    c.in_default.is c.in_ok-misnumbered.ensures in
    let lines : AreFirstLines entries c.as_slice-lines.result.now =
    subst (λ ls. AreFirstLines entries ls) (sym c.as_slice-lines.ensures.value)
    (subst (λ xs. AreFirstLines xs c.in_ok-lines.lines.items) c.as_slice.ensures c.in_ok-lines.ensures) in
    let judged = judged_all s entries begins are numbered c.into_vec-entries.result.items c.into_vec-entries.ensures c.in_ok-judging.field-0
    c.in_ok-judging.ensures c.in-Ok.judging c.in-Ok.is in
    c.check_behind.ensures entries judged lines (λ journal shows. c.totals_of_shown-totals.ensures journal (shows ∙ sym c.as_slice-2.ensures))

pub refused_at-requires : goal.refused_at-requires
refused_at-requires c =
    let s = telling c.args.script.now c.args.rules.now in
    let entries = c.args.entries in
    let begins = c.as_slice-4.result.now in
    let are : begins ≡ begins_shown entries = c.as_slice-4.ensures.value ∙ c.in_ok-begins.ensures ∙ ap begins_shown c.as_slice-3.ensures in
    let numbered = none_is_so c.in_ok-misnumbered.misnumbered (AreNumbered (length begins) begins) (IsFirstMisnumbered (length begins) begins)
    c.in_default.is c.in_ok-misnumbered.ensures in
    let lines : AreFirstLines entries c.as_slice-lines.result.now =
    subst (λ ls. AreFirstLines entries ls) (sym c.as_slice-lines.ensures.value)
    (subst (λ xs. AreFirstLines xs c.in_ok-lines.lines.items) c.as_slice.ensures c.in_ok-lines.ensures) in
    let refused = refused_of_all s entries begins are numbered c.into_vec-entries.result.items c.into_vec-entries.ensures c.in_ok-judging.field-0
    c.in_ok-judging.ensures c.in-Err.refused c.in-Err.is in
    let within = refused_within s (length entries) entries c.in-Err.refused.place c.in-Err.refused.reason refused.refused in
    let size = lines.0 in
    omega (arith, within, size)

pub returns : goal.returns
returns c =
    let s = telling c.args.script.now c.args.rules.now in
    let entries = c.args.entries in
    let begins = c.as_slice-4.result.now in
    let are : begins ≡ begins_shown entries = c.as_slice-4.ensures.value ∙ c.in_ok-begins.ensures ∙ ap begins_shown c.as_slice-3.ensures in
    let numbered = none_is_so c.in_ok-misnumbered.misnumbered (AreNumbered (length begins) begins) (IsFirstMisnumbered (length begins) begins)
    c.in_default.is c.in_ok-misnumbered.ensures in
    let lines : AreFirstLines entries c.as_slice-lines.result.now =
    subst (λ ls. AreFirstLines entries ls) (sym c.as_slice-lines.ensures.value)
    (subst (λ xs. AreFirstLines xs c.in_ok-lines.lines.items) c.as_slice.ensures c.in_ok-lines.ensures) in
    let refused = refused_of_all s entries begins are numbered c.into_vec-entries.result.items c.into_vec-entries.ensures c.in_ok-judging.field-0
    c.in_ok-judging.ensures c.in-Err.refused c.in-Err.is in
    c.refused_at.ensures s entries c.args.tail.now lines refused
