-- It owns nothing, so it may go to any thread, and any thread may share it.
use denote.Param.Send.{IsSend, IsSync, part_keyless}
use Rattle.spill_store.specs.contracts.was.Was.{the_row}

pub was_send : IsSend the_row
was_send = record { owned = λ d vs. ((λ vss. (tt, tt)), tt); leaving = λ k f vs. tt }

pub was_sync : IsSync the_row
was_sync = record { shared = λ d b o κ q. part_keyless the_row was_send q d b o }
