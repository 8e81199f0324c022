use Rattle.std.proofs.Common.{rules, ◌∙◌, ◌≡◌, ◌+◌, ◌≤◌, ◌<◌, ◌^◌, true, length, drop, sym, subst}
use Rattle.std.proofs.lemmas.Bool.{OnTrue_at}
use Rattle.xc_world.specs.World.{World}
use Rattle.xc_data.specs.declared.private.Private.{Private}
use Rattle.xc_world.specs.Run.{BlockState, asked_of, opens}
use Rattle.xc_machine.specs.Replay.{IsReplayed, AreReplayedOn, told}
use Rattle.xc_machine.proofs.MachineRun.{left-cons}
use Rattle.xc_machine.proofs.MachineReplay.{asked_stands, asked_length, replies_as_many, replayed_next, replayed_back}
use Rattle.xc_machine.proofs.MachineBlocks.{made_none, body_made_more, made_whole, so_far, state_more}
use Rattle.xc_machine.specs.Traced.{TracesAt}
use Rattle.xc_machine.proofs.MachineTraces.{traces_whole}
use Rattle.xc_machine.proofs.traced.replay_traced.Goals as goal

pub returns-then-calls-replies-clause-decides : goal.returns-then-calls-replies-clause-decides
returns-then-calls-replies-clause-decides c = λ all.
    search (rules, replies_as_many c.args.tx (opens c.args.world.now c.args.me.now) c.args.calls.now c.args.replies.now all)

pub loop-at-init : goal.loop-at-init
loop-at-init c =
    let stands = c.new-body.ensures c.args.world.now c.args.me.now in
    record {
      made = made_none c.args.world.now c.args.me.now c.args.tx (asked_of c.args.calls.now c.args.replies.now) c.new-body.result c.requires.sound stands;
      traces = c.new-trail.ensures c.args.world.now c.args.me.now;
      sound = c.requires.sound;
      words = c.requires.words;
      to = λ all. all;
      from = λ all. all;
    }

pub loop-at-preserved : goal.loop-at-preserved
loop-at-preserved c =
    let calls = c.args.calls.now in
    let replies = c.args.replies.now in
    let w = c.args.world.now in
    let me = c.args.me.now in
    let tx = c.args.tx in
    let asked = asked_of calls replies in
    let i = c.loop-at.at in
    let call = c.index-calls-at.result in
    let reply = c.index-replies-at.result in
    let before = c.loop-at.invariant in
    let b = so_far w me tx asked i in
    let yes : c.in_ok-trace_call.field-0 ≡ true = search rules in
    let gave = c.in_ok-trace_call.ensures in
    let inside : i < length calls = search rules in
    let behind : i < length replies = search rules in
    let within : i < length asked = subst (λ n. i < n) (sym (asked_length calls replies)) inside in
    let at = asked_stands calls replies i call reply inside behind c.index-calls-at.is c.index-replies-at.is in
    let left = left-cons calls i call inside c.index-calls-at.is in
    let left_replies = left-cons replies i reply behind c.index-replies-at.is in
    let stood = before.made.stands in
    let here : IsReplayed b.now.world b.now.me tx call reply =
    subst (λ (v : World). IsReplayed v b.now.me tx call reply) stood.world_is
    (subst (λ (m : Private). IsReplayed c.loop-at.world m tx call reply) stood.me_is (gave.decides.0 yes)) in
    let made =
    body_made_more w me tx asked i (told call reply) c.trace_call.new.world c.trace_call.new.me c.trace_call.new.self c.requires.sound within at
    before.made.fits here.fits (OnTrue_at yes (gave.stands b stood)) in
    let same = state_more w me tx asked i (told call reply) within at in
    record {
      made = made;
      traces = subst (λ (s : BlockState). TracesAt c.trace_call.new.trail s) (sym same) (OnTrue_at yes (gave.traces b stood before.traces));
      sound = made.sound;
      words = subst (λ n. n < 2 ^ 32) (sym made.words) c.requires.words;
      to = λ all. subst (λ (s : BlockState). AreReplayedOn tx s (drop (i + 1) calls) (drop (i + 1) replies)) (sym same)
          (replayed_next tx b call reply (drop i calls) (drop (i + 1) calls) (drop i replies) (drop (i + 1) replies) left left_replies (before.to all)).1;
      from =
          λ rest. before.from (replayed_back tx b call reply (drop i calls) (drop (i + 1) calls) (drop i replies) (drop (i + 1) replies) left left_replies here
          (subst (λ (s : BlockState). AreReplayedOn tx s (drop (i + 1) calls) (drop (i + 1) replies)) same rest));
    }

pub returns-clause-world : goal.returns-clause-world
returns-clause-world c =
    let a = c.args in
    let asked = asked_of a.calls.now a.replies.now in
    let all = subst (λ n. n ≤ c.loop-at.at) (sym (asked_length a.calls.now a.replies.now)) c.loop-at-test.false in
    (made_whole a.world.now a.me.now a.tx asked c.loop-at.at c.loop-at.world c.loop-at.me c.loop-at.body c.requires.sound all
    c.loop-at.invariant.made).stands.world_is

pub returns-clause-me : goal.returns-clause-me
returns-clause-me c =
    let a = c.args in
    let asked = asked_of a.calls.now a.replies.now in
    let all = subst (λ n. n ≤ c.loop-at.at) (sym (asked_length a.calls.now a.replies.now)) c.loop-at-test.false in
    (made_whole a.world.now a.me.now a.tx asked c.loop-at.at c.loop-at.world c.loop-at.me c.loop-at.body c.requires.sound all
    c.loop-at.invariant.made).stands.me_is

pub returns-clause-late : goal.returns-clause-late
returns-clause-late c =
    let a = c.args in
    let asked = asked_of a.calls.now a.replies.now in
    let all = subst (λ n. n ≤ c.loop-at.at) (sym (asked_length a.calls.now a.replies.now)) c.loop-at-test.false in
    (made_whole a.world.now a.me.now a.tx asked c.loop-at.at c.loop-at.world c.loop-at.me c.loop-at.body c.requires.sound all
    c.loop-at.invariant.made).stands.gave.late

pub returns-clause-held : goal.returns-clause-held
returns-clause-held c =
    let a = c.args in
    let asked = asked_of a.calls.now a.replies.now in
    let all = subst (λ n. n ≤ c.loop-at.at) (sym (asked_length a.calls.now a.replies.now)) c.loop-at-test.false in
    (made_whole a.world.now a.me.now a.tx asked c.loop-at.at c.loop-at.world c.loop-at.me c.loop-at.body c.requires.sound all
    c.loop-at.invariant.made).stands.gave.held

pub returns-clause-trail : goal.returns-clause-trail
returns-clause-trail c =
    let a = c.args in
    let asked = asked_of a.calls.now a.replies.now in
    let all = subst (λ n. n ≤ c.loop-at.at) (sym (asked_length a.calls.now a.replies.now)) c.loop-at-test.false in
    c.from_vec.ensures ∙ (traces_whole a.world.now a.me.now a.tx asked c.loop-at.at c.loop-at.trail all c.loop-at.invariant.traces).records

pub returns-clause-ready : goal.returns-clause-ready
returns-clause-ready c =
    let a = c.args in
    let asked = asked_of a.calls.now a.replies.now in
    let all = subst (λ n. n ≤ c.loop-at.at) (sym (asked_length a.calls.now a.replies.now)) c.loop-at-test.false in
    (made_whole a.world.now a.me.now a.tx asked c.loop-at.at c.loop-at.world c.loop-at.me c.loop-at.body c.requires.sound all c.loop-at.invariant.made).ready
