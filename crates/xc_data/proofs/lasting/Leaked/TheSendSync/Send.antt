use denote.RattleType.{RattleType}
use denote.Param.Send.{IsSend, IsSync}
use Rattle.xc_data.proofs.Forever.{lasting_send}
use Rattle.xc_data.specs.contracts.lasting.Leaked.{the_row}

-- a `Leaked` may go to another thread where its value may be read in any
pub send : (T : RattleType) → IsSync T → IsSend (the_row T)
send = lasting_send
