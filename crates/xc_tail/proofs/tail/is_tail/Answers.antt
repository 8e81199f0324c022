use Rattle.std.proofs.Common.{◌≡◌, ◌++◌, List, ap, sym, subst, ◌∙◌}
use Rattle.std.specs.Option.{option_copied}
use Rattle.xc_sheet.specs.Ends.{lines_of_words}
use Rattle.xc_sheet.specs.declared.lines.Line.{Line}
use Rattle.xc_tail.specs.Tails.{IsTail}
use Rattle.xc_tail.proofs.JobEnds.{jobs_at}
use Rattle.xc_tail.proofs.Parts.{refused, decides_more, parted_last, no_jobs, no_words, no_total, other_totals, kept_decides}
use Rattle.xc_tail.proofs.tail.is_tail.Goals as goal

pub returns-in_default : goal.returns-in_default
returns-in_default c = λ s told same zip.
    let a = c.args in
    refused _ (no_jobs s _ a.lines.now
    (jobs_at s a.rules.now a.entries same c.requires told a.jobs.now a.lines.now zip _ (ap option_copied (sym c.in_default.is) ∙ c.behind_jobs.ensures)))

pub returns-in_default-behind_words : goal.returns-in_default-behind_words
returns-in_default-behind_words c = λ s told same zip.
    let a = c.args in
    let has = jobs_at s a.rules.now a.entries same c.requires told a.jobs.now a.lines.now zip _
    (ap option_copied (sym c.in-Some.is) ∙ c.behind_jobs.ensures) in
    refused _ (no_words s _ a.lines.now c.in-Some.lines.now has
    (subst (λ words. (rest : List Line) → c.in-Some.lines.now ≡ lines_of_words 0 words ++ rest → ⊥) c.words.ensures c.in_default-behind_words.ensures))

pub returns-in_default-lines : goal.returns-in_default-lines
returns-in_default-lines c = λ s told same zip.
    let a = c.args in
    let has = jobs_at s a.rules.now a.entries same c.requires told a.jobs.now a.lines.now zip _
    (ap option_copied (sym c.in-Some.is) ∙ c.behind_jobs.ensures) in
    let left = c.in-Some-behind_words.lines.now in
    let words = subst (λ ws. c.in-Some.lines.now ≡ lines_of_words 0 ws ++ left) c.words.ensures c.in-Some-behind_words.ensures in
    refused _ (no_total s _ a.lines.now c.in-Some.lines.now left has words c.in_default-lines.len_below)

pub returns-then-not-is_total : goal.returns-then-not-is_total
returns-then-not-is_total c = λ s told same zip.
    let a = c.args in
    let has = jobs_at s a.rules.now a.entries same c.requires told a.jobs.now a.lines.now zip _
    (ap option_copied (sym c.in-Some.is) ∙ c.behind_jobs.ensures) in
    let left = c.in-Some-behind_words.lines.now in
    let words = subst (λ ws. c.in-Some.lines.now ≡ lines_of_words 0 ws ++ left) c.words.ensures c.in-Some-behind_words.ensures in
    let un = c.if-not-is_total.true in
    refused _ (other_totals s _ a.lines.now c.in-Some.lines.now left has words _ c.last-item.result
    (parted_last left c.last-item.result c.in-len1-up.len_at_least c.last-item.is)
    (λ e. let yes = c.is_total.ensures.1 e in absurd (cc (yes, un))))

pub returns : goal.returns
returns c = λ s told same zip.
    let a = c.args in
    let has = jobs_at s a.rules.now a.entries same c.requires told a.jobs.now a.lines.now zip _
    (ap option_copied (sym c.in-Some.is) ∙ c.behind_jobs.ensures) in
    let left = c.in-Some-behind_words.lines.now in
    let words = subst (λ ws. c.in-Some.lines.now ≡ lines_of_words 0 ws ++ left) c.words.ensures c.in-Some-behind_words.ensures in
    let decides = kept_decides s _ a.lines.now c.in-Some.lines.now left has words _ c.last-item.result
    (parted_last left c.last-item.result c.in-len1-up.len_at_least c.last-item.is) (c.is_total.ensures.0 c.if-not-is_total.false) in
    decides_more _ (IsTail s _ a.lines.now) c.are_kept.result decides c.are_kept.ensures
