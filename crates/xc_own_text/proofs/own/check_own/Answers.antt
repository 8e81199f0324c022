use Rattle.std.proofs.Common.{◌≡◌, false, ap, arith, length, subst, sym}
use Rattle.std.specs.List.{AllByRecursion}
use Rattle.std.proofs.lemmas.Result.{IfOk-weaker}
use Rattle.xc_check.specs.Verdicts.{AcceptsTrueTexts}
use Rattle.xc_check.specs.declared.verdict.Verdict.TheVariants.{Yes}
use Rattle.xc_data.specs.declared.entry.Entry.{Entry}
use Rattle.xc_sheet.specs.EndRanges.{IsEndInRange}
use Rattle.xc_own_text.proofs.OwnTexts.{own_end, own_replies, own_words}
use Rattle.xc_own_text.proofs.own.check_own.Goals as goal

pub end_in_range-requires-clause-replies : goal.end_in_range-requires-clause-replies
end_in_range-requires-clause-replies g c =
    let run = c.requires.run in
    subst (AllByRecursion (λ (e : Entry). length e.replies ≡ length e.calls)) (sym (c.as_slice.ensures.all run.1.1.unparted))
    (own_replies g.H.Host.model c.args.rules.now run.0 c.args.end.now c.requires.tells run.1.1)

pub end_in_range-requires-clause-words : goal.end_in_range-requires-clause-words
end_in_range-requires-clause-words g c =
    let run = c.requires.run in
    omega (
      arith,
      ap length c.as_slice-3.ensures,
      own_words g.H.Host.model c.args.rules.now run.0 c.args.end.now c.requires.tells run.1.1 c.args.script.now run.1.0,
    )

pub returns : goal.returns
returns g c =
    let run = c.requires.run in
    let end = c.args.end.now in
    let one = subst (λ journal. IsEndInRange journal c.as_slice-2.result.now c.as_slice-3.result.now c.as_slice-4.result.now)
    (c.as_slice.ensures.all run.1.1.unparted) c.end_in_range.ensures in
    let two = subst (λ jobs. IsEndInRange end.journal.items jobs c.as_slice-3.result.now c.as_slice-4.result.now) c.as_slice-2.ensures one in
    let three = subst (λ words. IsEndInRange end.journal.items end.jobs words c.as_slice-4.result.now) c.as_slice-3.ensures two in
    let range : IsEndInRange end.journal.items end.jobs end.words end.kept =
    subst (λ kept. IsEndInRange end.journal.items end.jobs end.words kept) c.as_slice-4.ensures three in
    IfOk-weaker c.check.result (AcceptsTrueTexts c.args.script.now (record { rules = c.args.rules.now; clients = false }) c.args.text.now)
    (λ verdict. verdict ≡ Yes)
    (λ verdict accepts. accepts end.journal.items end.jobs end.words end.kept range (
      c.requires.short,
      end.opening.script,
      run.1.0,
      own_end g.H.Host.model c.args.rules.now run.0 end c.requires.tells run.1.1 c.args.script.now end.opening.script run.1.0 run.1.0,
    ) c.requires.text)
    c.check.ensures.only
