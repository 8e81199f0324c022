use Rattle.std.proofs.Common.{◌≡◌, length, ap, subst, refl, arith}
use Rattle.std.specs.Prelude.{IfOk}
use Rattle.std.proofs.lemmas.Result.{IfOk-weaker}
use Rattle.xc_check.specs.TrueTexts.{telling}
use Rattle.xc_model.specs.Live.{has_clients}
use Rattle.xc_check.specs.Verdicts.{IsAccepting, IsVerdictIn, IsVerdictOn}
use Rattle.xc_check.proofs.Texts.{all_plainly, front_within, lines_within, shown_by, verdict_on}
use Rattle.xc_check.proofs.TrueEnds.{each_replied, says_so_of}
use Rattle.xc_check.proofs.text.check_lines.Goals as goal

-- src/text.rt
pub check_entries-requires-clause-few : goal.check_entries-requires-clause-few
check_entries-requires-clause-few c =
    let p = c.in_ok-entries.field-0 in
    let front = front_within c.args.lines p.entries p.tail c.in_ok-entries.ensures.parts in
    let within = lines_within c.args.lines c.requires.some in
    let size = ap length c.requires.text.1.written in
    let short = c.requires.text.2 in
    omega (arith, front, within, size, short)

pub returns-clause-verdict : goal.returns-clause-verdict
returns-clause-verdict c text whole =
    let s = telling c.args.script.now c.args.rules.now in
    let p = c.in_ok-entries.field-0 in
    let e = c.in_ok-entries.ensures in
    let shown = shown_by p.entries p.tail c.args.lines text e.parts whole (all_plainly p.entries e.bare e.replied e.plain) e.tail in
    let says = subst (λ (tail : _). IfOk c.check_entries.result (IsVerdictIn s p.entries tail)) c.as_slice.ensures c.check_entries.ensures in
    IfOk-weaker c.check_entries.result (IsVerdictIn s p.entries p.tail) (IsVerdictOn s text)
    (verdict_on s p.entries p.tail c.args.lines text e.parts whole shown refl) says

pub returns-clause-only : goal.returns-clause-only
returns-clause-only c journal jobs words kept h are =
    let s = telling c.args.script.now c.args.rules.now in
    let p = c.in_ok-entries.field-0 in
    let parts = c.in_ok-entries.ensures.only journal jobs words kept are (each_replied s journal refl h.is_true) in
    let says = subst (λ (tail : _). IfOk c.check_entries.result (IsVerdictIn s p.entries tail)) c.as_slice.ensures c.check_entries.ensures in
    IfOk-weaker c.check_entries.result (IsVerdictIn s p.entries p.tail) (IsAccepting (has_clients s.script))
    (λ verdict. says_so_of s journal jobs words kept refl h p.entries p.tail verdict parts.0 parts.1) says
