use Rattle.msgpack_frames.proofs.Depths.{array_beyond, map_beyond}
use Rattle.msgpack_frames.proofs.decoder.is_beyond.Goals as goal

pub returns-in-Array : goal.returns-in-Array
returns-in-Array c = λ total. rw c.in-Array.is (array_beyond total c.args.depth)

pub returns-in-Map : goal.returns-in-Map
returns-in-Map c = λ total. rw c.in-Map.is (map_beyond total c.args.depth)
