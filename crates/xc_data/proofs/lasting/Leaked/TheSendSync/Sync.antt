use denote.RattleType.{RattleType}
use denote.Param.Send.{IsSync}
use Rattle.xc_data.proofs.Forever.{lasting_sync}
use Rattle.xc_data.specs.contracts.lasting.Leaked.{the_row}

-- and so may a `&` to it
pub sync : (T : RattleType) → IsSync T → IsSync (the_row T)
sync = lasting_sync
