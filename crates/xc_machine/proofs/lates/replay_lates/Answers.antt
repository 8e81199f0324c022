use Rattle.std.proofs.Common.{rules, get_or, add-one, drop-cons, ◌∷◌, ◌≡◌, ◌+◌, ◌<◌, ◌∙◌, true, length, drop}
use Rattle.std.proofs.lemmas.Bool.{OnTrue_at}
use Rattle.xc_data.specs.declared.call.LateEnd.TheVariants.{Done}
use Rattle.xc_machine.proofs.MachineRun.{left-cons}
use Rattle.xc_machine.proofs.MachineReplay.{as_many_ends, first_ready, late_step}
use Rattle.xc_machine.proofs.lates.replay_lates.Goals as goal

pub loop-at-preserved : goal.loop-at-preserved
loop-at-preserved c =
    let calls = c.args.calls.now in
    let ends = c.args.ends.now in
    let i = c.loop-at.at in
    let call = c.index-calls-at.result in
    let end = get_or ends i Done in
    let before = c.loop-at.invariant in
    let yes : c.in_ok-replay_late.field-0 ≡ true = search rules in
    let gave = c.in_ok-replay_late.ensures in
    let inside : i < length calls = search rules in
    let behind : i < length ends = search rules in
    let left_ends : drop i ends ≡ end ∷ drop (i + 1) ends = rw add-one (drop-cons ends i Done behind) in
    let step = late_step c.loop-at.world c.replay_late.new.world call end (drop i calls) (drop (i + 1) calls) (drop i ends) (drop (i + 1) ends)
    (left-cons calls i call inside c.index-calls-at.is) left_ends (OnTrue_at yes gave.world) before.fit before.ready in
    record {
      fit = step.fit;
      ready = step.ready;
      sound = λ me tx sound. step.sound me tx (before.sound me tx sound);
      words = step.words ∙ before.words;
      to = λ all. step.next (before.to all);
      from = λ rest. before.from (step.back (gave.decides.0 yes) rest);
      leads = step.leads ∙ before.leads;
    }

pub returns-then-calls-ends-clause-decides : goal.returns-then-calls-ends-clause-decides
returns-then-calls-ends-clause-decides c = search (rules, as_many_ends c.args.world.now c.args.calls.now c.args.ends.now)

pub replay_late-requires : goal.replay_late-requires
replay_late-requires c =
    let calls = c.args.calls.now in
    let i = c.loop-at.at in
    let inside : i < length calls = search rules in
    record {
      ready = first_ready c.loop-at.world c.index-calls-at.result (drop i calls) (drop (i + 1) calls)
          (left-cons calls i c.index-calls-at.result inside c.index-calls-at.is) c.loop-at.invariant.ready;
    }
