use Rattle.std.proofs.Common.{◌≡◌, ◌++◌, ◌-◌, ◌*◌, string_bytes}
use Rattle.xc_generator.specs.Draws.{state}
use Rattle.xc_generator.specs.Generated.{texts, transaction}
use Rattle.xc_generator.proofs.script.push_transactions.Given as goal

-- what is printed and what is left are all, by three draws each
abbrev pub invariant-loop : goal.invariant-loop
invariant-loop l =
    (string_bytes l.out ++ texts (transaction l.fn.draws.state) l.counter (l.count - l.counter)
    ≡ string_bytes l.fn.out ++ texts (transaction l.fn.draws.state) 0 l.count)
    × (l.draws.state ≡ state l.fn.draws.state (3 * l.counter))
