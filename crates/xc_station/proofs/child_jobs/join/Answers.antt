use Rattle.std.proofs.Common.{◌≡◌, ◌+◌, ◌∷◌, ◌++◌, [], length, ap, sym, subst, ◌∙◌, arith, append_assoc, length-append}
use Rattle.std.proofs.lemmas.List.{map-append}
use Rattle.std.proofs.lemmas.List.Elements.{All-push}
use Rattle.xc_station.specs.declared.job.Job.{Job}
use Rattle.xc_station.specs.Jobs.{child_view, job_view}
use Rattle.xc_station.specs.Stations.{AreAhead}
use Rattle.xc_station.proofs.Ahead.{ahead_joined}
use Rattle.xc_station.proofs.child_jobs.join.Goals as goal

pub loop-child-preserved : goal.loop-child-preserved
loop-child-preserved c =
    let was = c.loop-child.invariant in
    let job = c.live.result in
    let pushed = c.push_reserved.ensures in
    let more = was.live.0 in
    let count = ap length pushed.items ∙ length-append c.loop-child.jobs.items (job ∷ []) in
    let left = ap length c.in-Some.ensures.steps.0 in
    record {
      live = (
        more ++ job ∷ [],
        pushed.items ∙ ap (λ js. js ++ job ∷ []) was.live.1 ∙ append_assoc c.args.jobs.now.items more (job ∷ []),
        map-append job_view more (job ∷ []) ∙ (λ i. was.live.2 i ++ c.live.ensures.seen i ∷ [])
            ∙ sym (map-append child_view c.loop-child.yielded (c.in-Some.child ∷ [])),
        All-push (λ (j : Job). j.children.items ≡ []) more job was.live.3 c.live.ensures.alone,
      );
      came = append_assoc c.loop-child.yielded (c.in-Some.child ∷ []) c.next.new.self.rest.items
          ∙ ap (λ children. c.loop-child.yielded ++ children) (sym c.in-Some.ensures.steps.0) ∙ was.came;
      marks =
          let room = c.push_reserved-in-loop-child.ensures.items in
          let end : c.len.result + 1 ≡ length c.loop-child.jobs.items + 2 =
          let len = c.len.ensures in let one = pushed.len in omega (arith, len, one) in
          subst (λ js. AreAhead js c.push_reserved-in-loop-child.new.self.items) (sym pushed.items)
          (subst (AreAhead (c.loop-child.jobs.items ++ job ∷ [])) (sym room)
          (ahead_joined c.loop-child.jobs.items job c.loop-child.ahead.items (c.len.result + 1) end was.marks));
      jobs_room = let had = was.jobs_room in let room = pushed.capacity in omega (arith, count, had, left, room);
      ahead_room =
          let had = was.ahead_room in let room = c.push_reserved-in-loop-child.ensures.capacity in
          let more' = ap length c.push_reserved-in-loop-child.ensures.items ∙ length-append c.loop-child.ahead.items ((c.len.result + 1) ∷ []) in
          omega (arith, more', had, left, room);
      few = let had = was.few in omega (arith, count, had, left);
      rooms = (pushed.capacity ∙ was.rooms.0, c.push_reserved-in-loop-child.ensures.capacity ∙ was.rooms.1);
    }
