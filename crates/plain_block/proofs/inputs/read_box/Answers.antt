use Rattle.std.proofs.Common.{Some, refl}
use Rattle.io_edge.specs.Content.{file_at}
use Rattle.plain_block.proofs.Parts.{read-placed}
use Rattle.plain_block.proofs.inputs.read_box.Goals as goal

pub returns-clause-block : goal.returns-clause-block
returns-clause-block g c =
    read-placed (file_at (g.S.Store.files c.args.store.now) c.args.file) c.args.head.now (Some c.args.region.now) c.args.region.now c.in_ok-part.part c.in_ok-block.block refl c.requires.part
    c.in_ok-block.ensures.shape c.in_ok-block.ensures.cells c.in_ok-part.ensures.cells c.in_ok-part.ensures.room
