use Rattle.std.proofs.Common.{ℕ, ◌≡◌, length, drop}
use Rattle.std.specs.Prelude.{All}
use Rattle.xc_data.specs.declared.private.Private.{Private}
use Rattle.xc_world.specs.Sound.{IsFit, IsReady, IsSound}
use Rattle.xc_machine.specs.Replay.{AreEnded, led_by}
use Rattle.xc_machine.proofs.lates.replay_lates.Given as goal

-- all end so exactly where those that are left do, and they lead to the same world
abbrev pub invariant-loop-at : goal.invariant-loop-at
invariant-loop-at l =
    record {
      fit : IsFit l.world;
      ready : All (IsReady l.world) (drop l.at l.calls);
      sound : (me : Private) (tx : ℕ) → IsSound l.fn.world me tx → IsSound l.world me tx;
      words : length l.world.words ≡ length l.fn.world.words;
      to : AreEnded l.fn.world l.calls l.ends → AreEnded l.world (drop l.at l.calls) (drop l.at l.ends);
      from : AreEnded l.world (drop l.at l.calls) (drop l.at l.ends) → AreEnded l.fn.world l.calls l.ends;
      leads : led_by l.world (drop l.at l.calls) (drop l.at l.ends) ≡ led_by l.fn.world l.calls l.ends;
    }
