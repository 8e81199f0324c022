-- What a call does that is kept for the commit.
use Rattle.std.specs.Prelude.{◌≡◌, ◌++◌}
use Rattle.xc_data.specs.declared.call.Call.{Call}
use Rattle.xc_data.specs.declared.call.Reply.{Reply}
use Rattle.xc_data.specs.declared.private.Private.{Private}
use Rattle.xc_world.specs.Late.{kept_call}
use Rattle.xc_deferred.specs.Queue.{Queue}
use Rattle.xc_calls.specs.Calls.{StepsAlone}
use Rattle.xc_data.specs.Step.{Step}

-- a call that is kept for the commit reaches no host and leaves the private state: it replies as the plain machine does in
-- every world, and what it leaves stands after the older late calls
pub record IsDeferred (call : Call) (me : Private) (old new : Queue) (reply : Reply) : Type 0 where
  pub alone : StepsAlone call me me reply
  pub left : new ≡ record old { calls = old.calls ++ kept_call call me reply }

-- a call that is kept for the commit reaches no host: it replies as the plain machine does in every world, with this private
-- state, and what it leaves stands after the older late calls
pub record IsKeptWith (call : Call) (me : Step Private) (late : Step Queue) (reply : Reply) : Type 0 where
  pub alone : StepsAlone call me.old me.new reply
  pub left : late.new ≡ record late.old { calls = late.old.calls ++ kept_call call me.old reply }
