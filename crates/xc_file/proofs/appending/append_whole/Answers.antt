use Rattle.std.proofs.Common.{rules, ◌∙◌, ◌+◌, ◌-◌, ◌≤◌, length, take, drop, arith, length-take, length-drop}
use Rattle.xc_data.specs.declared.script.HostCallKind.TheVariants.{Append}
use Rattle.xc_host.proofs.Laws.{moves_more}
use Rattle.xc_file.proofs.Appends.{append_more, append_grows}
use Rattle.xc_file.proofs.FileUses.{append_stops}
use Rattle.xc_file.proofs.appending.append_whole.Goals as goal

pub loop-done-preserved : goal.loop-done-preserved
loop-done-preserved g c =
    let was = c.loop-done.invariant in
    let did = c.in-Ok.ensures in
    let bytes = c.args.bytes.now in
    let done = c.loop-done.done in
    let left = take (length bytes - done) (drop done bytes) in
    let within : done + c.in-Ok.count ≤ length bytes =
    omega (arith, length-take (length bytes - done) (drop done bytes), length-drop done bytes, did.bound.1) in
    record {
      room = within;
      there = λ t. (append_grows _ _ c.args.file (take c.in-Ok.count left) (did.answered.done t)).0;
      behind = λ t. omega (
        arith,
        (append_grows _ _ c.args.file (take c.in-Ok.count left) (did.answered.done t)).1,
        was.behind t,
        length-take c.in-Ok.count left,
      );
      told = λ t. append_more _ _ _ c.args.file done c.in-Ok.count bytes within did.bound.0 (was.told t) (did.answered.done t);
      uses = moves_more g.H.Host.model Append done 0 (done + c.in-Ok.count) _ _ _ (omega (arith, did.bound.0)) was.uses did.answered.used;
      faults = did.answered.cause ∙ was.faults;
    }

pub returns-in-Err : goal.returns-in-Err
returns-in-Err g c =
    let model = g.H.Host.model in
    let was = c.loop-done.invariant in
    let did = c.in-Err.ensures.answered in
    record {
      whole = tt;
      short = c.loop-done-test.true;
      uses = append_stops model (length c.args.bytes.now) c.loop-done.done c.in-Err.error c.args.host.now c.loop-done.host c.append.new.self
          c.loop-done-test.true was.uses did.used;
      contents = λ t. did.refused t ∙ was.told t;
      cause = search rules;
    }

pub returns : goal.returns
returns g c =
    let was = c.loop-done.invariant in
    record { whole = omega (arith, was.room, c.loop-done-test.false); short = tt; uses = was.uses; contents = was.told; cause = was.faults }
