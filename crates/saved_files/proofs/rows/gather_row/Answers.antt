use Rattle.std.proofs.Common.{◌<◌, length, arith}
use Rattle.saved_files.proofs.RowLemmas.{full_next, part_is, row_next}
use Rattle.saved_files.proofs.rows.gather_row.Goals as goal

pub loop-k-preserved : goal.loop-k-preserved
loop-k-preserved c =
    let k_in : c.loop-k.k < length c.args.all.now = c.loop-k-test.true in
    let k_block : c.loop-k.k < length c.args.blocks.now = omega (arith, c.loop-k-test.true, c.requires.count) in
    let part = part_is c.args.all.now c.args.blocks.now c.args.row c.loop-k.k c.index-all-k.result c.as_slice.result.now c.index-blocks-k.result c.deref-block.result.now c.cells.result.now c.cells_of-part.result.now
    k_in c.requires.count c.index-all-k.is c.as_slice.ensures c.index-blocks-k.is c.deref-block.ensures c.cells.ensures.value c.cells_of-part.ensures in
    record {
      bytes = row_next c.args.all.now c.args.blocks.now c.args.row c.loop-k.k c.loop-k.buffer.items c.append_bytes.new.buffer.items c.cells_of-part.result.now c.in_ok-append_bytes.ensures c.loop-k.invariant.bytes part;
      full = λ k h. full_next c.args.blocks.now c.loop-k.k k c.index-blocks-k.result c.deref-block.result.now k_block c.index-blocks-k.is c.deref-block.ensures c.cells.ensures.cells c.loop-k.invariant.full h;
    }
