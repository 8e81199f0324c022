use denote.Param.Send.{IsSend, AllSend, owning_send, struct_send, sendable}
use denote.Struct.Owning.{shape, fields, to}
use denote.Struct.Struct.{exits_of}
use Rattle.xc_handle.proofs.Laws.{quiet, held_keyless}
use Rattle.xc_live_c.proofs.clients.Clients.TheSendSync.{the_send as clients_send}
use Rattle.xc_live_c.specs.contracts.clients.Clients as clients
use Rattle.xc_live_c.specs.contracts.handle.DeskHandle.{the_row, the_type}

-- a handle may go to another thread, as its value may
pub send : IsSend the_row
send =
    let all : AllSend (fields the_type) = (search sendable, tt) in
    owning_send the_type all (λ d. held_keyless clients.the_row clients_send d.at d.value)
    (λ k. quiet (to the_type) (exits_of k (fields the_type)) ((struct_send (shape the_type) all).leaving k))
