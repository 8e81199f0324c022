use Rattle.std.proofs.Common.{◌≡◌, ◌<◌, ℕ, length, take}
use Rattle.std.specs.Prelude.{slice_get}
use Rattle.std.specs.declared.option.Option.TheVariants.{Some}
use Rattle.xc_check.specs.Refusals.{line_behind}
use Rattle.xc_check.proofs.lists.first_lines.Given as goal

-- those of the entries so far, and the line behind them
abbrev pub invariant-loop-shown : goal.invariant-loop-shown
invariant-loop-shown l =
    record {
      count : length l.lines.items ≡ l.shown-index;
      line : l.line ≡ line_behind (take l.shown-index l.entries);
      each : (k : ℕ) → k < l.shown-index → slice_get l.lines.items k ≡ Some (line_behind (take k l.entries));
    }
