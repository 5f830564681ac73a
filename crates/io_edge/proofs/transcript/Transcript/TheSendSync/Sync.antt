use denote.Param.Send.{IsSync}
use Rattle.io_edge.proofs.Sent.{transcript_sync}
use Rattle.io_edge.specs.contracts.transcript.Transcript.{the_row}

pub sync : IsSync the_row
sync = transcript_sync
