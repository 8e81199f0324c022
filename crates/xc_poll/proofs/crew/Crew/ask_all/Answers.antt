use Rattle.std.proofs.Common.{[], ◌∷◌, ◌++◌, ◌+◌, ap, arith, subst, ◌∙◌}
use Rattle.std.proofs.lemmas.List.{length-append}
use Rattle.xc_poll.specs.Askings.{HandsOut, TakesInOrLeaves}
use Rattle.xc_poll.specs.Crews.{Crew}
use Rattle.xc_poll.proofs.Sound.{hand_more}
use Rattle.xc_poll.proofs.crew.Crew.ask_all.Goals as goal

pub loop-count-preserved : goal.loop-count-preserved
loop-count-preserved g c =
    let h = c.loop-count.invariant.handed in
    let job = c.in-Job.job in
    let out : HandsOut c.loop-count.self c.take_in.new.self job =
    record {
      left = c.ask_once-asked.new.self.asking;
      gains = c.in-Job.ensures.asked;
      taken = subst (λ (crew : Crew). TakesInOrLeaves crew c.take_in.new.self job) c.ask_once-asked.ensures.same c.take_in.ensures;
    } in
    record {
      few = omega (arith, c.loop-count-test.true);
      handed = (
        h.0 ++ job ∷ [],
        length-append h.0 (job ∷ []) ∙ ap (λ n. n + 1) h.1,
        hand_more c.args.self.now c.loop-count.self c.take_in.new.self h.0 job h.2 out,
      );
    }
