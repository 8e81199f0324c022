-- Which calls fail, and how many bytes one call does.
use Rattle.std.specs.Prelude.{ℕ, ◌||◌, ◌&&◌, Bool, List, Option, nat_le, min, if◌then◌else◌}
use Rattle.std.specs.List.{list_any}
use Rattle.std.specs.declared.option.Option.TheVariants.{None, Some}
use Rattle.xc_data.specs.declared.script.FaultLine.{FaultLine}
use Rattle.xc_data.specs.declared.script.HostCallKind.{HostCallKind}
use Rattle.xc_data.specs.declared.script.HostCallKind.TheVariants.{Any}
use Rattle.xc_data.specs.Counts.{counted}
use Rattle.xc_data.specs.Kinds.{is_kind}
use Rattle.xc_host.specs.Counting.{next_call_number, with_call}
use Rattle.xc_memhost.specs.State.{MemState}

-- the state with a call of this kind counted
abbrev pub with_call_counted : HostCallKind → MemState → MemState
with_call_counted kind s = record s { calls = with_call kind s.calls }

-- ---- a fault
-- the number is one of a line's
abbrev pub is_fault_within : FaultLine → ℕ → Bool
is_fault_within line n = nat_le line.first n && nat_le n line.last

-- one of the lines, whatever its kind, has the number
abbrev pub any_within : ℕ → List FaultLine → Bool
any_within n = list_any (λ line. is_fault_within line n)

-- a line of this kind has the number
abbrev pub is_line_of : HostCallKind → ℕ → FaultLine → Bool
is_line_of kind n line = is_kind line.kind kind && is_fault_within line n

-- a line lists call number n of this kind, which is number a of all
abbrev pub lists : HostCallKind → ℕ → ℕ → FaultLine → Bool
lists kind n a line = is_line_of kind n line || is_line_of Any a line

-- a line lists the next call, if it is of this kind
abbrev pub is_listed : HostCallKind → MemState → Bool
is_listed kind s = list_any (lists kind (next_call_number kind s.calls) (next_call_number Any s.calls)) s.lines

-- the state with a call of this kind counted, and its fault
abbrev pub call_begun : HostCallKind → MemState → MemState
call_begun kind s = record (with_call_counted kind s) { fault_count = if is_listed kind s then counted s.fault_count else s.fault_count }

-- ---- the grain
-- the smaller of the grain and n
abbrev pub grained : Option ℕ → ℕ → ℕ
grained None n = n
grained (Some grain) n = min n grain
