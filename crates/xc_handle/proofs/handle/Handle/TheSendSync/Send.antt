use denote.Param.Send.{IsSend, AllSend, owning_send, struct_send, sendable}
use denote.RattleType.{RattleType}
use denote.Struct.Owning.{shape, fields, to}
use denote.Struct.Struct.{exits_of}
use Rattle.xc_handle.proofs.Crosses.{quiet, held_keyless}
use Rattle.xc_handle.specs.contracts.handle.Handle.{the_row, the_type}

-- a handle may go to another thread, as its value may
pub send : (T : RattleType) → IsSend T → IsSend (the_row T)
send T s =
    let O = the_type T in let all : AllSend (fields O) = (search sendable, tt) in
    owning_send O all (λ d. held_keyless T s d.at d.value) (λ k. quiet (to O) (exits_of k (fields O)) ((struct_send (shape O) all).leaving k))
