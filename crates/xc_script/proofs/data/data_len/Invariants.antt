use Rattle.std.proofs.Common.{◌≡◌, ◌≤◌, ◌+◌, length, drop}
use Rattle.xc_script.specs.Values.{joined_data}
use Rattle.xc_script.proofs.data.data_len.Given as goal

-- what is counted and what is left is the whole length
abbrev pub invariant-loop-item : goal.invariant-loop-item
invariant-loop-item l =
    record {
      whole : l.len + length (joined_data l.variables (drop l.item-index l.items)) ≡ length (joined_data l.variables l.items);
      short : l.len ≤ 1024;
    }
