use Rattle.std.proofs.Common.{refl}
use Rattle.msgpack_frames.proofs.Streams.{begins}
use Rattle.msgpack_frames.proofs.stream.FrameReader.new.Goals as goal

pub returns : goal.returns
returns c = begins _ c.new.ensures.items c.new-2.ensures.items refl
