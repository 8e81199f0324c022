use Rattle.std.proofs.Common.{◌≡◌, ◌+◌, ℕ, length}
use Rattle.std.specs.Prelude.{Some, slice_get}
use Rattle.xc_station.proofs.station.start.ahead_of.Given as goal

-- each so far is one more than its number
abbrev pub invariant-loop-number : goal.invariant-loop-number
invariant-loop-number l =
    record {
      count : length l.ahead.items ≡ l.number;
      each : (number next : ℕ) → slice_get l.ahead.items number ≡ Some next → next ≡ number + 1;
    }
