use Rattle.xc_live_c.proofs.Ends.{text_of_end}
use Rattle.xc_live_c.proofs.clients.Clients.finish.Goals as goal

pub returns : goal.returns
returns c =
    let e = c.close-end.ensures in
    text_of_end c.args.self c.close-end.result c.of.result
    (record {
      opening = e.opening;
      journal = e.same.0;
      held = e.held;
      words = e.same.1;
      whole = e.whole;
      kept = e.kept;
      faults = e.faults;
      plan = e.plan;
    }) c.of.ensures
