use Rattle.std.proofs.Common.{ℕ, Option, Some, ap, get_or, sym, subst, ◌∙◌}
use Rattle.xc_poll.specs.Askings.{IsMost}
use Rattle.xc_poll.specs.Tasks.{Task}
use Rattle.xc_poll.proofs.Parts.{parts_task}
use Rattle.xc_poll.proofs.parting.part_most.Goals as goal

pub returns-in-Some : goal.returns-in-Some
returns-in-Some g c =
    let tasks = c.args.tasks.now in
    let most = c.find_most-place.result.1 in
    let from : IsMost c.args.asking.now.view.shares tasks c.find_most-place.result.0 most =
    subst (λ (n : ℕ). IsMost n tasks c.find_most-place.result.0 most) c.shares.ensures c.find_most-place.ensures in
    let so : IsMost c.args.asking.now.view.shares tasks (Some c.in-Some.at) most =
    subst (λ (p : Option ℕ). IsMost c.args.asking.now.view.shares tasks p most) c.in-Some.is from in
    let task : Task = get_or tasks c.in-Some.at c.index-tasks-at.result in (
      c.part.ensures.home ∙ (c.requires.homes c.in-Some.at c.index-tasks-at.result so.at.0 ∙ sym c.requires.table),
      parts_task c.args.asking.now tasks c.in-Some.at most task c.part.new.self c.part.result so c.if-most-lt2.false
          (ap (λ (t : Task). get_or tasks c.in-Some.at t) c.index-tasks-at.is)
          c.part.ensures.kept c.part.ensures.given,
    )
