use Rattle.std.proofs.Common.{rules, ◌≡◌, ◌≤◌, true, length, subst}
use Rattle.xc_judge.specs.Ran.{has_failed}
use Rattle.std.specs.Bool.{Decides}
use Rattle.xc_judge.proofs.Behind.{behind_all}
use Rattle.xc_judge.proofs.Newest.{AreUndone, newest_decides}
use Rattle.xc_judge.proofs.records.is_newest_failed.Goals as goal

pub returns : goal.returns
returns c =
    let failed = c.args.failed in
    let records = c.args.records.now in
    let r = c.index-records-number.result in
    let low : 1 ≤ failed = search rules in
    let high : failed ≤ length records = search rules in
    let stuck : has_failed r.1 ≡ true = search rules in
    newest_decides failed records r c.are_undone.result low high c.index-records-number.is stuck
    (subst (λ rs. Decides c.are_undone.result (AreUndone rs)) (behind_all failed records) c.are_undone.ensures)
