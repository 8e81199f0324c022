use Rattle.std.proofs.Common.{drop, ◌∙◌, subst}
use Rattle.xc_script.proofs.Laws.{drop_there}
use Rattle.xc_asked.specs.Walking.{walk_there}
use Rattle.xc_asked.proofs.Following.{IsFollowing, ended_by, step_on}
use Rattle.xc_asked.proofs.walk.follow.Goals as goal

pub loop-at-preserved : goal.loop-at-preserved
loop-at-preserved c =
    let l = c.loop-at in
    let now = walk_there c.args.script.now l.place in
    let went = c.in_ok-are_asked.ensures.begin in
    record {
      following = step_on (walk_there c.args.script.now c.args.place.now) c.args.calls.now c.args.replies.now now
          (walk_there c.args.script.now c.follow_one.new.place) l.at c.index-replies-at.result l.are_asked c.in_ok-are_asked.field-0 l.invariant.following
          (drop_there c.args.replies.now l.at c.index-replies-at.result c.loop-at-test.true c.index-replies-at.is)
          c.in_ok-are_asked.ensures.asked c.in_ok-are_asked.ensures.walk;
      begin = record {
        block = went.block ∙ l.invariant.begin.block;
        next = went.next ∙ l.invariant.begin.next;
        begun = went.begun ∙ l.invariant.begin.begun;
      };
    }

pub returns-then-are_asked-clause-asked : goal.returns-then-are_asked-clause-asked
returns-then-are_asked-clause-asked c =
    let l = c.loop-at in
    ended_by (walk_there c.args.script.now c.args.place.now) c.args.calls.now c.args.replies.now (walk_there c.args.script.now l.place) l.at
    (subst (λ met. IsFollowing (walk_there c.args.script.now c.args.place.now) c.args.calls.now c.args.replies.now
    (walk_there c.args.script.now l.place) (drop l.at c.args.calls.now) (drop l.at c.args.replies.now) met) c.if-are_asked.true l.invariant.following)
    c.loop-at-test.false l.auto.at-end
