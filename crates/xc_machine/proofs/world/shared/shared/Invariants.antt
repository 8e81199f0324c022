use Rattle.std.proofs.Common.{◌≡◌, take}
use Rattle.xc_machine.proofs.world.shared.shared.Given as goal

-- the messages so far
abbrev pub invariant-loop-message : goal.invariant-loop-message
invariant-loop-message l = l.list ≡ take l.message-index l.messages
