-- The calls of a host, counted by kind.
use Rattle.std.specs.Prelude.{ℕ, List, replicate, slice_index, slice_set}
use Rattle.xc_data.specs.Counts.{counted}
use Rattle.xc_data.specs.Kinds.{kind_place}
use Rattle.xc_data.specs.declared.script.HostCallKind.{HostCallKind}
use Rattle.xc_data.specs.declared.script.HostCallKind.TheVariants.{Any}

-- none of any kind
abbrev pub no_calls : List ℕ
no_calls = replicate 25 0

-- how many there were of a kind
abbrev pub calls_of : List ℕ → HostCallKind → ℕ
calls_of counts kind = slice_index counts (kind_place kind)

-- the number of the next one of a kind, from 1
abbrev pub next_call_number : HostCallKind → List ℕ → ℕ
next_call_number kind counts = counted (calls_of counts kind)

-- one of a kind more, which counts for `Any` too
abbrev pub with_call : HostCallKind → List ℕ → List ℕ
with_call kind counts =
    slice_set (slice_set counts (kind_place kind) (next_call_number kind counts)) (kind_place Any) (next_call_number Any counts)
