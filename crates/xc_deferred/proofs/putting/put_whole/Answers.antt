use Rattle.std.proofs.Common.{rules, ◌∙◌, ◌+◌, ◌-◌, ◌≤◌, length, take, drop, arith, length-take, length-drop}
use Rattle.xc_data.specs.declared.script.HostCallKind.TheVariants.{Put}
use Rattle.xc_host.proofs.Laws.{moves_more, moves_none}
use Rattle.xc_deferred.proofs.PipePuts.{put_more, put_keeps}
use Rattle.xc_deferred.proofs.putting.put_whole.Goals as goal

pub loop-done-preserved : goal.loop-done-preserved
loop-done-preserved g c =
    let was = c.loop-done.invariant in
    let did = c.in-Ok.ensures in
    let bytes = c.args.bytes.now in
    let done = c.loop-done.done in
    let left = take (length bytes - done) (drop done bytes) in
    let within : done + c.in-Ok.count ≤ length bytes =
    omega (arith, length-take (length bytes - done) (drop done bytes), length-drop done bytes, did.bound.1) in
    record {
      room = within;
      there = λ t. (put_keeps _ _ c.args.pipe (take c.in-Ok.count left) (did.answered.done t)).there;
      unshut = λ t. (put_keeps _ _ c.args.pipe (take c.in-Ok.count left) (did.answered.done t)).mark ∙ was.unshut t;
      behind = λ t some. omega (
        arith,
        (put_keeps _ _ c.args.pipe (take c.in-Ok.count left) (did.answered.done t)).size,
        was.behind t some,
        length-take c.in-Ok.count left,
      );
      told = λ t. put_more _ _ _ c.args.pipe done c.in-Ok.count bytes within did.bound.0 (was.told t) (did.answered.done t);
      uses = moves_more g.H.Host.model Put done 0 (done + c.in-Ok.count) _ _ _ (omega (arith, did.bound.0)) was.uses did.answered.used;
      faults = did.answered.cause ∙ was.faults;
    }

pub returns-in-Err : goal.returns-in-Err
returns-in-Err g c =
    let model = g.H.Host.model in
    let was = c.loop-done.invariant in
    let did = c.in-Err.ensures.answered in
    record {
      whole = tt;
      short = c.loop-done-test.true;
      uses = moves_none model Put c.loop-done.done 0 c.args.host.now c.loop-done.host c.put.new.self was.uses did.used;
      contents = λ t. did.refused t ∙ was.told t;
      cause = search rules;
    }

pub returns : goal.returns
returns g c =
    let was = c.loop-done.invariant in
    record { whole = omega (arith, was.room, c.loop-done-test.false); short = tt; uses = was.uses; contents = was.told; cause = was.faults }
