use Rattle.std.proofs.Common.{◌∙◌, ap, subst, sym}
use Rattle.std.specs.Prelude.{IfOk}
use Rattle.std.proofs.lemmas.Result.{IfOk-weaker}
use Rattle.xc_data.specs.Limits.{KeepsLimits}
use Rattle.xc_model.specs.Live.{has_clients}
use Rattle.xc_sheet.specs.Sheets.{AreWholeFrom, IsReadSheet}
use Rattle.xc_sheet.specs.declared.places.LinePlace.TheVariants.{Between}
use Rattle.xc_text.proofs.Laws.{parsed_blocks}
use Rattle.xc_text.specs.Scripts.{IsScript}
use Rattle.xc_text.specs.declared.script.Script.{Script}
use Rattle.xc_check.specs.TrueTexts.{IsTrueAsPrinted, script_by, telling, telling_by}
use Rattle.xc_check.specs.Verdicts.{IsAccepting, IsVerdict, IsVerdictOn}
use Rattle.xc_check.proofs.Texts.{clients_by, is_script_by, not_long, one_script, outline_by, verdict_with, where_accepted}
use Rattle.xc_check.proofs.text.check.Goals as goal

-- src/text.rt
pub check_lines-requires-clause-script : goal.check_lines-requires-clause-script
check_lines-requires-clause-script c =
    subst IsScript (sym c.script_by-script.ensures) (is_script_by c.args.basis.now.clients c.in-Ok-parse.script c.in-Ok-parse.ensures.script)

pub check_lines-requires-clause-limits : goal.check_lines-requires-clause-limits
check_lines-requires-clause-limits c =
    let read = c.in-Ok-parse.script in
    let same = ap (λ (script : Script). script.outline) c.script_by-script.ensures ∙ outline_by c.args.basis.now.clients read in
    subst KeepsLimits (sym same) c.in-Ok-parse.ensures.limits

pub returns-in-Whole-clause-verdict : goal.returns-in-Whole-clause-verdict
returns-in-Whole-clause-verdict c =
    let text = c.args.text.now in
    let basis = c.args.basis.now in
    let read = c.in-Ok-parse.script in
    let whole : AreWholeFrom Between c.in-Ok.sheet.lines text =
    subst (λ (ending : _). IsReadSheet text c.in-Ok.sheet.lines ending) c.in-Whole.is c.in-Ok.ensures.read in
    let short = not_long text c.read_sheet.result c.in-Ok.sheet c.in-Ok.is (c.read_sheet.ensures.long.1) in
    IfOk-weaker c.check_lines.result (IsVerdictOn (telling_by basis read) text) (IsVerdict c.args.script.now basis text)
    (verdict_with c.args.script.now basis text read short c.in-Ok-parse.ensures.ok)
    (subst (λ (script : Script). IfOk c.check_lines.result (IsVerdictOn (telling script basis.rules) text)) c.script_by-script.ensures
    (c.check_lines.ensures.verdict text whole))

pub returns-in-Whole-clause-only : goal.returns-in-Whole-clause-only
returns-in-Whole-clause-only c =
    let basis = c.args.basis.now in
    let read = c.in-Ok-parse.script in
    where_accepted c.args.script.now basis c.args.text.now c.check_lines.result
    (λ journal jobs words kept range so printed.
    let lines = c.in-Ok.ensures.printed journal jobs words kept range printed in
    let same = one_script c.args.script.now so.1 read so.2 c.in-Ok-parse.ensures.ok in
    subst (λ b. IfOk c.check_lines.result (IsAccepting b))
    (ap has_clients c.script_by-script.ensures ∙ clients_by basis.clients read (parsed_blocks c.args.script.now read c.in-Ok-parse.ensures.ok))
    (c.check_lines.ensures.only journal jobs words kept
    (subst (λ (script : Script). IsTrueAsPrinted (telling script basis.rules) journal jobs words kept)
    (ap (script_by basis.clients) same ∙ sym c.script_by-script.ensures) so.3) lines.0))
