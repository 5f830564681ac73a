use denote.Param.Send.{IsSend}
use Rattle.spill_store.proofs.Sent.{was_send}
use Rattle.spill_store.specs.contracts.was.Was.{the_row}

pub send : IsSend the_row
send = was_send
