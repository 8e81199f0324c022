use Rattle.std.proofs.Common.{IsTrue, ◌∙◌, ◌+◌, ◌-◌, ◌≤◌, length, take, drop, arith, length-take, length-drop}
use Rattle.xc_data.specs.declared.script.HostCallKind.TheVariants.{WriteAt}
use Rattle.xc_host.proofs.Laws.{moves_more, moves_none}
use Rattle.xc_file.proofs.WriteFronts.{write_more, write_keeps}
use Rattle.xc_file.proofs.writing.write_whole.Goals as goal

pub returns-in-Err-clause-uses : goal.returns-in-Err-clause-uses
returns-in-Err-clause-uses g c =
    moves_none g.H.Host.model WriteAt c.loop-done.done 0 c.args.host.now c.loop-done.host c.write_at.new.self c.loop-done.invariant.uses
    c.write_at.ensures.answered.used

pub loop-done-preserved : goal.loop-done-preserved
loop-done-preserved g c =
    let was = c.loop-done.invariant in
    let did = c.in-Ok.ensures in
    let bytes = c.args.bytes.now in
    let done = c.loop-done.done in
    let count = c.in-Ok.count in
    let left = take (length bytes - done) (drop done bytes) in
    let within : done + count ≤ length bytes = omega (arith, length-take (length bytes - done) (drop done bytes), length-drop done bytes, did.bound.1) in
    let keeps = λ (t : IsTrue g.H.Host.model.tells).
    write_keeps _ _ c.args.file c.args.at done count bytes within (was.there t) (was.inside t) (did.answered.done t) in
    record {
      room = within;
      there = λ t. (keeps t).0;
      inside = λ t. omega (arith, (keeps t).1, was.inside t);
      told = λ t. write_more _ _ _ c.args.file c.args.at done count bytes within did.bound.0 (c.requires.inside t) (was.told t) (did.answered.done t);
      uses = moves_more g.H.Host.model WriteAt done 0 (done + count) c.args.host.now c.loop-done.host c.write_at.new.self (omega (arith, did.bound.0)) was.uses
          did.answered.used;
      faults = did.answered.cause ∙ was.faults;
    }
