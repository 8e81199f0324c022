use Rattle.std.proofs.Common.{◌<◌, ◌^◌, length, drop}
use Rattle.xc_world.specs.Sound.{IsSound}
use Rattle.xc_world.specs.Run.{asked_of}
use Rattle.xc_machine.specs.Replay.{AreReplayed, AreReplayedOn}
use Rattle.xc_machine.specs.Traced.{TracesAt}
use Rattle.xc_machine.proofs.MachineBlocks.{IsMadeSoFar, so_far}
use Rattle.xc_machine.proofs.traced.replay_traced.Given as goal

-- the body of the calls so far; all are replayed exactly where those that are left are
abbrev pub invariant-loop-at : goal.invariant-loop-at
invariant-loop-at l =
    record {
      made : IsMadeSoFar l.fn.world l.fn.me l.tx (asked_of l.calls l.replies) l.at l.world l.me l.body;
      traces : TracesAt l.trail (so_far l.fn.world l.fn.me l.tx (asked_of l.calls l.replies) l.at);
      sound : IsSound l.world l.me l.tx;
      words : length l.world.words < 2 ^ 32;
      to : AreReplayed l.fn.world l.fn.me l.tx l.calls l.replies
          → AreReplayedOn l.tx (so_far l.fn.world l.fn.me l.tx (asked_of l.calls l.replies) l.at) (drop l.at l.calls) (drop l.at l.replies);
      from : AreReplayedOn l.tx (so_far l.fn.world l.fn.me l.tx (asked_of l.calls l.replies) l.at) (drop l.at l.calls) (drop l.at l.replies)
          → AreReplayed l.fn.world l.fn.me l.tx l.calls l.replies;
    }
