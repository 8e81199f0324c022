use Rattle.std.proofs.Common.{◌≡◌, ◌++◌}
use Rattle.xc_live_c.specs.Opened.{client_lines}
use Rattle.xc_live_c.proofs.clients.push_clients.Given as goal

-- the lines of so many clients are printed
abbrev pub invariant-loop-client : goal.invariant-loop-client
invariant-loop-client l = l.out ≡ l.fn.out ++ client_lines l.client
