use Rattle.std.proofs.Common.{rules, ◌≡◌, ◌≤◌, true, length, ap, sym, ◌∙◌, subst}
use Rattle.xc_data.specs.Claims.{held_of}
use Rattle.xc_data.specs.declared.private.Private.{Private}
use Rattle.xc_world.specs.Run.{asked_of, body}
use Rattle.xc_world.specs.Sound.{IsReady, IsSound}
use Rattle.xc_world.specs.World.{State, World}
use Rattle.xc_machine.specs.Replay.{AreReplayed}
use Rattle.xc_machine.specs.declared.traced.Traced.{Traced}
use Rattle.xc_machine.proofs.Laws.{if_some}
use Rattle.xc_model.specs.Course.{Course}
use Rattle.xc_model.specs.Machine.{HasReplies}
use Rattle.xc_model.specs.Progress.{body_of, private_of}
use Rattle.std.specs.Prelude.{All}
use Rattle.xc_judge.specs.Judged.{telling_terms}
use Rattle.xc_judge.specs.Ran.{IsRan}
use Rattle.xc_judge.specs.declared.ran.Ran.{Ran}
use Rattle.xc_judge.proofs.Cases.{found_none, found_some}
use Rattle.xc_judge.proofs.Replying.{Same, few_there, has_replies, is_ran, replayed_here, replayed_so, replayed_there}
use Rattle.xc_judge.proofs.progress.Progress.run_again.Goals as goal

pub replay_traced-requires-clause-sound : goal.replay_traced-requires-clause-sound
replay_traced-requires-clause-sound c =
    let tx = c.args.entry.now.tx in
    let world = c.in_ok-world.ensures ∙ ap (λ (z : Course). z.state.world) c.self.view_is in
    let begun = c.deref_mut.ensures.value ∙ c.in_ok-me.ensures.ok ∙ c.begin.ensures in
    subst (λ (w : World). IsSound w c.deref_mut.result.now tx) (sym world)
    (subst (λ (me : Private). IsSound c.args.self.now.state.world me tx) (sym begun) (c.requires.open c.args.entry.now.job))

pub returns-in_default : goal.returns-in_default
returns-in_default c = λ has.
    let e = c.args.entry.now in
    let calls = c.as_slice-calls.result.now in
    let replies = c.as_slice-replies.result.now in
    let w = c.in_ok-world.world in
    let me = c.deref_mut.result.now in
    let s : State = record { world = c.self.inside.world; handles = c.self.inside.handles.items } in
    let so : Same s e w me calls replies = record {
      world = c.in_ok-world.ensures;
      begins = c.deref_mut.ensures.value ∙ c.in_ok-me.ensures.ok ∙ c.begin.ensures ∙ ap (λ (z : Course). private_of z.state e.job) (sym c.self.view_is);
      calls_are = c.as_slice-calls.ensures;
      replies_are = c.as_slice-replies.ensures;
    } in
    let mine = subst (λ (z : Course). HasReplies (telling_terms c.args.basis.now) z e) (sym c.self.view_is) has in
    let all = replayed_so c.args.basis.now c.self.inside.world c.self.inside.handles.items c.self.inside.jobs.items c.self.inside.entered e mine in
    found_none c.in_ok-traced.field-0 (AreReplayed w me e.tx calls replies → ⊥) (λ _. AreReplayed w me e.tx calls replies) c.in_default.not-Some
    c.in_ok-traced.ensures.decides
    (replayed_here s e w me calls replies so all)

pub returns : goal.returns
returns c =
    let e = c.args.entry.now in
    let basis_now = c.args.basis.now in
    let calls = c.as_slice-calls.result.now in
    let replies = c.as_slice-replies.result.now in
    let w = c.in_ok-world.world in
    let v = c.replay_traced.new.world in
    let me = c.deref_mut.result.now in
    let m = c.replay_traced.new.me in
    let traced = c.in-Some.traced in
    let is = c.in-Some.is in
    let gave = c.in_ok-traced.ensures in
    let s : State = record { world = c.self.inside.world; handles = c.self.inside.handles.items } in
    let so : Same s e w me calls replies = record {
      world = c.in_ok-world.ensures;
      begins = c.deref_mut.ensures.value ∙ c.in_ok-me.ensures.ok ∙ c.begin.ensures ∙ ap (λ (z : Course). private_of z.state e.job) (sym c.self.view_is);
      calls_are = c.as_slice-calls.ensures;
      replies_are = c.as_slice-replies.ensures;
    } in
    let ran : Ran = record { world = v; me = record c.in_ok-me.me { value = m }; traced = traced } in
    let all : AreReplayed w me e.tx calls replies =
    found_some c.in_ok-traced.field-0 traced (AreReplayed w me e.tx calls replies → ⊥) (λ _. AreReplayed w me e.tx calls replies) is gave.decides in
    let yes : c.are_few_faults.result ≡ true = search rules in
    let few = few_there basis_now.rules.undo_tries calls e.calls replies e.replies c.as_slice-calls.ensures c.as_slice-replies.ensures
    (c.are_few_faults.ensures.0 yes) in
    let there = has_replies basis_now c.self.inside.world c.self.inside.handles.items c.self.inside.jobs.items c.self.inside.entered e
    (replayed_there s e w me calls replies so all) few in
    let count = if_some (λ (_ : Traced). length v.words ≡ length w.words) traced is gave.words ∙ ap (λ (z : World). length z.words) c.in_ok-world.ensures in
    let ran_so = is_ran s e w me calls replies so ran
    (if_some (λ (_ : Traced). v ≡ (body w me e.tx (asked_of calls replies)).world) traced is gave.world)
    (if_some (λ (_ : Traced). m ≡ (body w me e.tx (asked_of calls replies)).me) traced is gave.me)
    (if_some (λ (r : Traced). r.replied.late ≡ (body w me e.tx (asked_of calls replies)).late) traced is gave.late)
    (if_some (λ (r : Traced). r.replied.held.items ≡ held_of (body w me e.tx (asked_of calls replies)).touched) traced is gave.held)
    (if_some (λ (r : Traced). r.trail ≡ (body w me e.tx (asked_of calls replies)).trail) traced is gave.trail)
    (if_some (λ (_ : Traced). IsSound v m e.tx) traced is gave.sound)
    (if_some (λ (r : Traced). All (IsReady v) r.replied.late) traced is gave.ready)
    (subst (λ k. k ≤ 4096) (sym count) c.self.invariant.1) in (
      subst (λ (z : Course). HasReplies (telling_terms basis_now) z e) c.self.view_is there,
      subst (λ (z : Course). IsRan ran (body_of z.state e) e.tx) c.self.view_is ran_so,
    )
