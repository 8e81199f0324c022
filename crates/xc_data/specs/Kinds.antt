-- The kinds of host calls.
use Rattle.std.specs.Prelude.{ℕ, Bool}
use Rattle.xc_data.specs.declared.script.HostCallKind.{HostCallKind}
use Rattle.xc_data.specs.declared.script.HostCallKind.TheVariants as kind
use Rattle.xc_data.specs.contracts.script.HostCallKindPartialEq.TheImpl as same_kind

-- whether two kinds are one
abbrev pub is_kind : HostCallKind → HostCallKind → Bool
is_kind = same_kind.ghosts.eq

-- a kind's place in the list of kinds, from 0
abbrev pub kind_place : HostCallKind → ℕ
kind_place kind.Lookup = 0
kind_place kind.Create = 1
kind_place kind.Len = 2
kind_place kind.ReadAt = 3
kind_place kind.WriteAt = 4
kind_place kind.Append = 5
kind_place kind.Rename = 6
kind_place kind.Unlink = 7
kind_place kind.Sync = 8
kind_place kind.NewPipe = 9
kind_place kind.PipeState = 10
kind_place kind.Take = 11
kind_place kind.Put = 12
kind_place kind.NewPair = 13
kind_place kind.PairState = 14
kind_place kind.Recv = 15
kind_place kind.Send = 16
kind_place kind.Shut = 17
kind_place kind.Restore = 18
kind_place kind.Cut = 19
kind_place kind.Uncreate = 20
kind_place kind.NameBack = 21
kind_place kind.DropPipe = 22
kind_place kind.DropPair = 23
kind_place kind.Any = 24
