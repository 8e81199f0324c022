use Rattle.std.proofs.Common.{◌≡◌, All, [], ◌∷◌, List, arith, ap, subst, sym, ◌∙◌}
use Rattle.std.proofs.lemmas.List.Sums.{sum_by-append}
use Rattle.std.proofs.lemmas.List.Elements.{All-take}
use Rattle.xc_data.specs.declared.entry.Entry.{Entry}
use Rattle.xc_station.specs.Passes.{PassView, StationPass}
use Rattle.xc_turnstile.specs.Views.{BeginsWith}
use Rattle.xc_turnstile.proofs.Laws.{starts_trans}
use Rattle.xc_poll.specs.Crews.{shares_of}
use Rattle.xc_poll.specs.Tasks.{Task}
use Rattle.xc_poll.proofs.Gathers.{events_further, longer_begins}
use Rattle.xc_poll.proofs.parting.gather.Goals as goal

pub loop-task-preserved : goal.loop-task-preserved
loop-task-preserved g c =
    let i = c.loop-task.invariant in
    let view = c.meet-mine.ensures.view in
    let items = c.in-Some.ensures.items in
    let at_home = λ (tasks : List Task). All (λ (task : Task). task.home ≡ c.args.asking.table) tasks in
    let sum = ap shares_of items ∙ sum_by-append (λ (task : Task). task.pass.view.shares) c.pop.new.self.items (c.in-Some.task ∷ []) in
    let seen : BeginsWith c.meet-mine.result.view.seen c.loop-task.mine.view.seen =
    subst (λ (es : List Entry). BeginsWith es c.loop-task.mine.view.seen) (sym (ap (λ (v : PassView). v.seen) view))
    (longer_begins c.loop-task.mine.view.seen c.done.result.view.seen c.meet-mine.ensures.seen) in
    record {
      table = c.meet-mine.ensures.table ∙ i.table;
      homes = subst at_home (sym c.in-Some.ensures.rest) (All-take (λ (task : Task). task.home ≡ c.args.asking.table) _ c.loop-task.left.items i.homes);
      shares = omega (arith, ap (λ (v : PassView). v.shares) view, ap (λ (k : StationPass). k.view.shares) c.done.ensures.pass, sum, i.shares);
      origin = ap (λ (v : PassView). v.origin) view ∙ i.origin;
      own_events = events_further c.args.asking.view.events c.loop-task.mine.view.events c.meet-mine.result.view.events i.own_events
          (c.done.result.view.events, ap (λ (v : PassView). v.events) view);
      seen = starts_trans c.meet-mine.result.view.seen c.loop-task.mine.view.seen c.args.asking.view.seen seen i.seen;
    }
