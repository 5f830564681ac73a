use Rattle.msgpack_frames.proofs.Streams.{one_reading}
use Rattle.msgpack_frames.proofs.laws.any_cut.Goals as goal

pub returns : goal.returns
returns c = one_reading
