use Rattle.msgpack_frames.proofs.Outcome.{one_value}
use Rattle.msgpack_frames.proofs.laws.one_value.Goals as goal

pub returns : goal.returns
returns c = one_value
