use Rattle.std.proofs.Common.{◌≡◌, ◌+◌, ◌-◌, ◌++◌, List, Some, length, replicate, refl, ap, sym, ◌∙◌, subst}
use Rattle.std.specs.Prelude.{slice_get, slice_set, unwrap_or}
use Rattle.xc_data.specs.declared.private.Place.{Place}
use Rattle.xc_data.specs.declared.private.Private.{Private}
use Rattle.xc_world.specs.Sound.{IsSound}
use Rattle.xc_world.specs.World.{State, beginning, no_handles}
use Rattle.xc_model.specs.Course.{Course, after_course, standing_anew}
use Rattle.xc_model.specs.EntryEnds.{IsCommit}
use Rattle.xc_model.specs.Machine.{IsPlayedBody}
use Rattle.xc_model.specs.Progress.{body_of}
use Rattle.xc_judge.specs.Judged.{IsInSomeTurn}
use Rattle.xc_judge.specs.Ran.{IsLedOn}
use Rattle.xc_judge.proofs.Committing.{as_many_jobs, commit_led, has_committed, course_of, led_others, led_own}
use Rattle.xc_judge.proofs.Handed.{open_handed}
use Rattle.xc_judge.proofs.progress.Progress.commit.Goals as goal

pub invariant_of-result : goal.invariant_of-result
invariant_of-result c =
    let e = c.args.entry.now in
    let hs = c.self.inside.handles.items in
    let js = c.self.inside.jobs.items in
    let n = c.self.inside.entered in
    let at = c.place_of-at.result in
    let blocks = c.as_slice-3.result.now in
    let numbered = subst (λ (s : Course). IsInSomeTurn s e) (sym c.self.view_is) c.requires.numbered in
    let anew = standing_anew numbered.standing.block (n + 1) in
    let there : slice_get js at ≡ Some numbered.standing = ap (slice_get js) c.place_of-at.ensures.value ∙ numbered.in_turn.started in
    let gave = c.in_ok-hand_over.ensures in
    let many = as_many_jobs hs c.hand_over.new.handles.items js (slice_set js at anew) c.hand_over.new.jobs.items c.deref.result.now.places at (length blocks)
    (n + 1) anew blocks c.self.invariant.0 gave.handles refl (gave.jobs numbered.standing there) refl in
    (many, c.requires.led.few)

pub returns-clause-value : goal.returns-clause-value
returns-clause-value c =
    let e = c.args.entry.now in
    let late = c.args.late.now in
    let x = c.args.ran.world in
    let m = c.deref.result.now in
    let w = c.self.inside.world in
    let hs = c.self.inside.handles.items in
    let js = c.self.inside.jobs.items in
    let n = c.self.inside.entered in
    let handles = c.hand_over.new.handles.items in
    let jobs = c.hand_over.new.jobs.items in
    let blocks = c.as_slice-3.result.now in
    let gave = c.in_ok-hand_over.ensures in
    let view = c.self.view_is in
    let state = ap (λ (s : Course). s.state) view in
    let mine = subst (λ (s : State). IsLedOn x m (body_of s e) late) (sym state)
    (subst (λ (q : Private). IsLedOn x q (body_of c.args.self.state e) late) (sym c.deref.ensures) c.requires.led) in
    let has = has_committed w hs js n e late c.as_slice.result.now c.as_slice-2.result.now m x handles jobs blocks c.place_of-at.result (length blocks) mine
    c.as_slice.ensures c.as_slice-2.ensures c.place_of-at.ensures.value (c.as_slice-3.ensures ∙ c.in_ok-blocks.ensures) refl gave.handles gave.jobs in
    subst (λ (s : Course). course_of x handles jobs (n + 1) ≡ after_course s e) view
    (commit_led w hs js n e late m x handles jobs has
    (subst (λ (s : Course). IsInSomeTurn s e) (sym view) c.requires.numbered) c.requires.outcome
    (subst (λ (s : State). IsPlayedBody s e) (sym state) c.requires.played)
    (subst (λ (s : State). IsCommit s e late) (sym state) c.requires.ended))

pub returns-clause-open : goal.returns-clause-open
returns-clause-open c = λ ty apart opens job.
    let e = c.args.entry.now in
    let late = c.args.late.now in
    let x = c.args.ran.world in
    let m = c.deref.result.now in
    let s = c.args.self.state in
    let at = c.place_of-at.result in
    let count = length c.as_slice-3.result.now in
    let handles = ap (λ (z : Course). z.state.handles) c.self.view_is in
    let sound = c.requires.open e.job in
    let so = subst (λ (q : Private). IsLedOn x q (body_of s e) late) (sym c.deref.ensures) c.requires.led in
    let others = λ (you : Private) (before : IsSound s.world you ty). led_others s e late x m you ty sound c.requires.played so apart before in
    let mine = led_own s e late x m sound c.requires.played so in
    let there = open_handed s.world x m e.tx ty at count s.handles others mine opens job in
    subst (λ (q : List (List Place)). IsSound x (beginning (unwrap_or (slice_get q (job - 1)) no_handles)) ty)
    (sym (c.in_ok-hand_over.ensures.handles ∙ ap (λ (hs : List (List Place)). slice_set hs at m.places ++ replicate count m.places) handles)) there
