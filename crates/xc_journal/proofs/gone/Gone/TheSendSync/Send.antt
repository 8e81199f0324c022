use denote.Param.Send.{IsSend, owning_send}
use Rattle.xc_journal.specs.contracts.gone.Gone.{the_row, the_type}

-- entries that were handed out own nothing, so they may go to another thread
pub send : IsSend the_row
send = owning_send the_type tt (λ d. tt) (λ k x w. tt)
