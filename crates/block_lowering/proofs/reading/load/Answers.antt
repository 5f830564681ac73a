use Rattle.io_edge.specs.Content.{file_at, size_of}
use Rattle.block_lowering.proofs.Untruncated.{untruncated}
use Rattle.block_lowering.proofs.reading.load.Goals as goal

pub read_fail-requires : goal.read_fail-requires
read_fail-requires g c =
    untruncated (size_of (file_at (g.S.Store.files c.args.feed.now) c.args.input)) c.args.head.now c.args.region.now c.in-Err.error c.requires.part c.requires.whole c.in-Err.ensures.refused
