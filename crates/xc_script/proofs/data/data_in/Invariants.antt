use Rattle.std.proofs.Common.{◌≡◌, ◌++◌, drop}
use Rattle.xc_script.specs.Values.{joined_data}
use Rattle.xc_script.proofs.data.data_in.Given as goal

-- what is joined and what is left are all bytes
abbrev pub invariant-loop-item : goal.invariant-loop-item
invariant-loop-item l = l.bytes.items ++ joined_data l.variables (drop l.item-index l.items) ≡ joined_data l.variables l.items
