use denote.Param.Send.{IsSync}
use Rattle.spill_store.proofs.Sent.{was_sync}
use Rattle.spill_store.specs.contracts.was.Was.{the_row}

pub sync : IsSync the_row
sync = was_sync
