-- What a handle holds says the same to every thread, where its value does.
use base.Shift.{Keyless}
use mir.Raw.{raw}
use denote.Memory.{lone}
use denote.Param.Send.{IsSend}
use denote.RattleType.{RattleType}
use denote.RawPtr.{Ptr, block_ptr, null_ptr}
pub use Rattle.std_alloc.proofs.SendSync.{quiet}
use Rattle.std_alloc.proofs.SendSync.{lies}
use Rattle.libc.specs.Heap.{chunk-Keyless}
use Rattle.std.specs.declared.option.Option.{Option}
use Rattle.std.specs.declared.option.Option.TheVariants.{None, Some}
use Rattle.xc_handle.specs.Held.{held}

-- nothing that is held names a thread
pub held_keyless : (R : RattleType) → IsSend R → (p : Ptr) (v : Option R.Denot) → Keyless (held R p v)
held_keyless R s null_ptr None = tt
held_keyless R s null_ptr (Some x) = tt
held_keyless R s (block_ptr b o) None = tt
held_keyless R s (block_ptr b o) (Some x) = (lies R s (block_ptr b o) x, chunk-Keyless (raw (lone R.mir)) (block_ptr b o))
