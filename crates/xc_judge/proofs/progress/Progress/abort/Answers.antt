use Rattle.std.proofs.Common.{◌≡◌, ◌≤◌, ℕ, ◌+◌, ◌-◌, List, Some, length, ap, sym, ◌∙◌, subst}
use Rattle.std.specs.Prelude.{map, slice_get, slice_set, unwrap_or}
use Rattle.std.proofs.lemmas.List.{length-set}
use Rattle.xc_data.specs.declared.private.Place.{Place}
use Rattle.xc_data.specs.declared.private.Private.{Private}
use Rattle.xc_world.specs.Ends.{Ending, remains, with_remains}
use Rattle.xc_world.specs.Run.{asked_of}
use Rattle.xc_world.specs.Sound.{IsSound}
use Rattle.xc_world.specs.World.{World, beginning, no_handles}
use Rattle.xc_machine.proofs.Laws.{remains_words}
use Rattle.xc_model.specs.Course.{Course, Standing, after_course, standing_abort}
use Rattle.xc_model.specs.Progress.{private_of}
use Rattle.xc_judge.specs.Judged.{IsInSomeTurn}
use Rattle.xc_judge.proofs.Aborting.{abort_led, open_remains, own_records}
use Rattle.xc_judge.proofs.Committing.{course_of}
use Rattle.xc_judge.proofs.progress.Progress.abort.Goals as goal

pub invariant_of-result : goal.invariant_of-result
invariant_of-result c =
    let e = c.args.entry.now in
    let w = c.self.inside.world in
    let js = c.self.inside.jobs.items in
    let n = c.self.inside.entered in
    let x = c.put_remains.new.world in
    let numbered = subst (λ (s : Course). IsInSomeTurn s e) (sym c.self.view_is) c.requires.numbered in
    let f = numbered.standing in
    let there : slice_get js c.place_of-at.result ≡ Some f = ap (slice_get js) c.place_of-at.ensures.value ∙ numbered.in_turn.started in
    let changed = c.in_ok-abort_job.ensures f there in
    let many = ap length changed ∙ length-set js c.place_of-at.result (standing_abort n f e c.args.report.now.cause) in
    let words = ap (λ (z : World). z.words) c.in_ok-put_remains.ensures ∙ remains_words w (remains c.as_slice.result.now) in
    (c.self.invariant.0 ∙ sym many, subst (λ (ws : List ℕ). length ws ≤ 4096) (sym words) c.self.invariant.1)

pub returns-clause-value : goal.returns-clause-value
returns-clause-value c =
    let e = c.args.entry.now in
    let report = c.args.report.now in
    let w = c.self.inside.world in
    let hs = c.self.inside.handles.items in
    let js = c.self.inside.jobs.items in
    let n = c.self.inside.entered in
    let x = c.put_remains.new.world in
    let view = c.self.view_is in
    let jobs = c.abort_job.new.jobs.items in
    let place = c.place_of-at.ensures.value in
    let changed = λ (f : Standing) (there : slice_get js (e.job - 1) ≡ Some f).
    c.in_ok-abort_job.ensures f (ap (slice_get js) place ∙ there) ∙ ap (λ at. slice_set js at (standing_abort n f e report.cause)) place in
    let led_to = c.in_ok-put_remains.ensures ∙ ap (λ rs. with_remains w (remains rs)) c.as_slice.ensures in
    let numbered = subst (λ (s : Course). IsInSomeTurn s e) (sym view) c.requires.numbered in
    subst (λ (s : Course). course_of x hs jobs (n + 1) ≡ after_course s e) view
    (abort_led w x hs js jobs n e report led_to changed numbered c.requires.outcome)

pub returns-clause-open : goal.returns-clause-open
returns-clause-open c = λ ty apart opens job.
    let e = c.args.entry.now in
    let report = c.args.report.now in
    let s = c.args.self.state in
    let w = c.self.inside.world in
    let hs = c.self.inside.handles.items in
    let x = c.put_remains.new.world in
    let records = report.records in
    let world = ap (λ (z : Course). z.state.world) c.self.view_is in
    let handles = ap (λ (z : Course). z.state.handles) c.self.view_is in
    let own = λ (you : Private).
    own_records s.world (private_of s e.job) e.tx (asked_of e.calls e.replies) (c.requires.open e.job) c.requires.played.fits you ty apart
    c.requires.records.0 report.cause (map (λ (r : Ending). r.0) records) c.requires.records.1 in
    let there = open_remains s.world e.tx ty s.handles records own opens job in
    let led_to : x ≡ with_remains s.world (remains records) =
    c.in_ok-put_remains.ensures ∙ (λ i. with_remains (world i) (remains (c.as_slice.ensures i))) in
    subst (λ (z : World). IsSound z (beginning (unwrap_or (slice_get hs (job - 1)) no_handles)) ty) (sym led_to)
    (subst (λ (q : List (List Place)). IsSound (with_remains s.world (remains records)) (beginning (unwrap_or (slice_get q (job - 1)) no_handles)) ty)
    (sym handles) there)
