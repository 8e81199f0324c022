use Rattle.std.proofs.Common.{drop}
use Rattle.xc_model.specs.Movers.{IsSameBegin}
use Rattle.xc_asked.specs.Walking.{walk_there}
use Rattle.xc_asked.proofs.Following.{IsFollowing}
use Rattle.xc_asked.proofs.walk.follow.Given as goal

-- what is left decides
abbrev pub invariant-loop-at : goal.invariant-loop-at
invariant-loop-at l =
    record {
      following : IsFollowing (walk_there l.script l.fn.place) l.calls l.replies (walk_there l.script l.place) (drop l.at l.calls)
          (drop l.at l.replies) l.are_asked;
      begin : IsSameBegin l.fn.place l.place;
    }
