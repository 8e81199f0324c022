use Rattle.std.proofs.Common.{◌≡◌, ◌-◌, ◌++◌, List, ap, sym, ◌∙◌, subst, replicate, length}
use Rattle.std.specs.Prelude.{map, slice_get, unwrap_or}
use Rattle.xc_data.specs.declared.private.Place.{Place}
use Rattle.xc_data.specs.declared.private.Private.{Private}
use Rattle.xc_world.specs.Opening.{opening_handles}
use Rattle.xc_world.specs.Sound.{IsSound}
use Rattle.xc_world.specs.World.{beginning, no_handles}
use Rattle.xc_model.specs.Course.{standing_anew}
use Rattle.xc_judge.proofs.Committing.{opened_course}
use Rattle.xc_judge.proofs.Handed.{open_copies, without_handles}
use Rattle.xc_judge.proofs.progress.Progress.new.Goals as goal

pub returns-clause-value : goal.returns-clause-value
returns-clause-value c =
    let outline = c.args.outline.now in
    let handles : c.push_copies.new.handles.items ≡ replicate (length outline.jobs) (opening_handles outline) =
    c.in_ok-push_copies.ensures
    ∙ ap (λ hs. hs ++ replicate c.len.result c.in_ok-me.me.places) c.new-handles.ensures.items
    ∙ (λ i. replicate (c.len.ensures i) (ap (λ (q : Private). q.places) c.in_ok-me.ensures i)) in
    let jobs : c.push_jobs.new.jobs.items ≡ map (λ name. standing_anew name 0) outline.jobs =
    c.in_ok-push_jobs.ensures
    ∙ ap (λ js. js ++ map (λ name. standing_anew name 0) c.as_slice.result.now) c.new-jobs.ensures.items
    ∙ ap (map (λ name. standing_anew name 0)) c.as_slice.ensures in
    opened_course outline c.in_ok-world.world c.push_copies.new.handles.items c.push_jobs.new.jobs.items c.in_ok-world.ensures.value handles jobs

pub returns-clause-open : goal.returns-clause-open
returns-clause-open c = λ tx lt job.
    let outline = c.args.outline.now in
    let w = c.in_ok-world.world in
    let handles : c.push_copies.new.handles.items ≡ replicate (length outline.jobs) (opening_handles outline) =
    c.in_ok-push_copies.ensures
    ∙ ap (λ hs. hs ++ replicate c.len.result c.in_ok-me.me.places) c.new-handles.ensures.items
    ∙ (λ i. replicate (c.len.ensures i) (ap (λ (q : Private). q.places) c.in_ok-me.ensures i)) in
    let one = c.in_ok-world.ensures.sound tx lt in
    subst (λ (hs : List (List Place)). IsSound w (beginning (unwrap_or (slice_get hs (job - 1)) no_handles)) tx) (sym handles)
    (open_copies w tx (length outline.jobs) (opening_handles outline) one (without_handles w (opening_handles outline) tx one) job)
