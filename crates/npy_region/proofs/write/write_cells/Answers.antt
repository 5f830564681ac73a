use Rattle.std.proofs.Common.{◌≤◌, ◌+◌, ◌∙◌, length, arith}
use Rattle.small_facts.proofs.Results.{on_err_from}
use Rattle.npy_region.proofs.WriteLemmas.{ahead, piece_more, piece_part, pieces_whole}
use Rattle.npy_region.proofs.write.write_cells.Goals as goal

pub returns-in_err-write_full-clause-part : goal.returns-in_err-write_full-clause-part
returns-in_err-write_full-clause-part g c =
    let w : c.loop-done.done + c.min-step.result ≤ length c.args.cells.now = omega (arith, c.loop-done-test.true, c.min-step.ensures) in
    let a = ahead (g.F.OutFile.content c.args.file.now) (g.F.OutFile.content c.loop-done.file) c.args.at c.loop-done.done c.min-step.result c.args.cells.now c.as_flattened.result.now c.as_slice.result.now c.fill_bytes.new.buffer.items
    c.requires.room w c.loop-done.invariant.written c.as_flattened.ensures.value c.as_slice.ensures.value c.in_ok-fill_bytes.ensures in
    on_err_from c.from_residual-in_err-write_full.result (piece_part (g.F.OutFile.content c.args.file.now) (g.F.OutFile.content c.loop-done.file) (g.F.OutFile.content c.write_full.new.file) c.args.at c.loop-done.done c.min-step.result c.args.cells.now c.as_flattened.result.now a c.in_err-write_full.ensures.part)

pub loop-done-preserved : goal.loop-done-preserved
loop-done-preserved g c =
    let w : c.loop-done.done + c.min-step.result ≤ length c.args.cells.now = omega (arith, c.loop-done-test.true, c.min-step.ensures) in
    let a = ahead (g.F.OutFile.content c.args.file.now) (g.F.OutFile.content c.loop-done.file) c.args.at c.loop-done.done c.min-step.result c.args.cells.now c.as_flattened.result.now c.as_slice.result.now c.fill_bytes.new.buffer.items
    c.requires.room w c.loop-done.invariant.written c.as_flattened.ensures.value c.as_slice.ensures.value c.in_ok-fill_bytes.ensures in
    record {
      within = w;
      named = c.write_full.ensures.named ∙ c.loop-done.invariant.named;
      size = c.write_full.ensures.size ∙ c.loop-done.invariant.size;
      written = piece_more (g.F.OutFile.content c.args.file.now) (g.F.OutFile.content c.loop-done.file) (g.F.OutFile.content c.write_full.new.file) c.args.at c.loop-done.done c.min-step.result c.args.cells.now c.as_flattened.result.now a c.in_ok-write_full.ensures.written;
      kept = c.in_ok-write_full.ensures.kept ∙ c.loop-done.invariant.kept;
    }

pub returns-clause-written : goal.returns-clause-written
returns-clause-written g c =
    let h : length c.args.cells.now ≤ c.loop-done.done = omega (arith, c.loop-done-test.false) in
    pieces_whole (g.F.OutFile.content c.args.file.now) (g.F.OutFile.content c.loop-done.file) c.args.at c.loop-done.done c.args.cells.now h c.loop-done.invariant.written
