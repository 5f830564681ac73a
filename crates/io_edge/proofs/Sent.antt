-- A transcript owns nothing, so it may go to any thread, and any thread may share it.
use denote.Param.Send.{IsSend, IsSync, part_keyless}
use Rattle.io_edge.specs.contracts.transcript.Transcript.{the_row}

pub transcript_send : IsSend the_row
transcript_send = record { owned = λ d vs. ((λ vss. (tt, tt)), tt); leaving = λ k f vs. tt }

pub transcript_sync : IsSync the_row
transcript_sync = record { shared = λ d b o κ q. part_keyless the_row transcript_send q d b o }
