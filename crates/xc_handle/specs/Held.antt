-- What a handle owns.
use base.Fml.{Fml, ftrue, ffalse}
use denote.RattleType.{RattleType}
use denote.RawPtr.{Ptr, block_ptr, null_ptr}
use Rattle.std.specs.declared.option.Option.{Option}
use Rattle.std.specs.declared.option.Option.TheVariants.{None, Some}
use Rattle.libc.specs.Heap.{chunk}
use Rattle.std.specs.Box.Ownership.{box_owns}

-- nothing at null; elsewhere the value there, and the right to free its block
abbrev pub held : (R : RattleType) → Ptr → Option R.Denot → Fml
held R null_ptr None = ftrue
held R null_ptr (Some x) = ffalse
held R (block_ptr b o) None = ffalse
held R (block_ptr b o) (Some x) = box_owns chunk R (block_ptr b o) x
