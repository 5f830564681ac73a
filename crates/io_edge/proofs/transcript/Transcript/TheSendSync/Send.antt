use denote.Param.Send.{IsSend}
use Rattle.io_edge.proofs.Sent.{transcript_send}
use Rattle.io_edge.specs.contracts.transcript.Transcript.{the_row}

pub send : IsSend the_row
send = transcript_send
