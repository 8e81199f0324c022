use Rattle.std.proofs.Common.{None, ap, ◌∙◌}
use Rattle.xc_data.specs.declared.private.Private.{Private}
use Rattle.xc_script.specs.Position.{at_begin}
use Rattle.xc_script.specs.Blocks.{kept_calls}
use Rattle.xc_model.specs.Moment.{TxView, Idle}
use Rattle.xc_world.specs.World.{beginning}
use Rattle.xc_station.proofs.Children.{handed_same}
use Rattle.xc_station.proofs.Closed.{its_active}
use Rattle.xc_station.proofs.child_jobs.child_of.Goals as goal

pub returns : goal.returns
returns c tx does =
    let job = c.args.job.now in
    let one = its_active job tx does in
    let same = handed_same c.args.script.now job.place.variables (kept_calls tx.calls tx.replies) tx.ends in
    let me = c.in_ok-new.ensures ∙ ap (λ (m : Private). beginning m.places) c.deref.ensures ∙ ap (λ (t : TxView). beginning t.me.places) one in
    let place = c.in_ok-child.ensures ∙ (λ i. at_begin (record { block = c.requires i; next = 0; variables = same i })) in
    λ i. record { block = c.args.block; me = me i; place = place i; attempts = None; busy = 0; handed = None; doing = Idle }
