use Rattle.std.proofs.Common.{refl, ap, length, ◌∙◌, arith}
use Rattle.small_facts.proofs.Results.{on_err_from}
use Rattle.npy_region.proofs.WriteLemmas.{eights, first_all, first_more, first_none, first_stopped, next_run, run_fits}
use Rattle.npy_region.proofs.write.write_runs.Goals as goal

pub loop-run-init : goal.loop-run-init
loop-run-init g c = record {
  named = refl;
  size = refl;
  written = first_none c.args.head.now c.args.region.now c.args.block.now c.args.runs.now (g.F.OutFile.content c.args.file.now);
  kept = refl;
}

pub cells_of-part-requires : goal.cells_of-part-requires
cells_of-part-requires g c =
    let fits = run_fits c.args.head.now c.args.region.now c.args.block.now c.args.runs.now c.loop-run.run-index (eights c.args.head.now c.args.region.now c.args.runs.now c.requires.width c.requires.runs) c.requires.part c.cells-cells.ensures.cells c.requires.shape c.loop-run-test.true in
    omega (arith, fits.cells, ap length c.cells-cells.ensures.value)

pub write_cells-requires-clause-room : goal.write_cells-requires-clause-room
write_cells-requires-clause-room g c =
    let next = next_run c.args.head.now c.args.region.now c.args.block.now c.args.runs.now c.loop-run.run-index c.cells-cells.result.now c.cells_of-part.result.now (g.F.OutFile.content c.args.file.now) (g.F.OutFile.content c.loop-run.file)
    (eights c.args.head.now c.args.region.now c.args.runs.now c.requires.width c.requires.runs) c.requires.part c.cells-cells.ensures.cells c.requires.shape c.requires.room c.loop-run-test.true c.cells-cells.ensures.value c.cells_of-part.ensures c.loop-run.invariant.size c.loop-run.invariant.written in
    next.room

pub write_cells-requires-clause-fits : goal.write_cells-requires-clause-fits
write_cells-requires-clause-fits g c =
    let next = next_run c.args.head.now c.args.region.now c.args.block.now c.args.runs.now c.loop-run.run-index c.cells-cells.result.now c.cells_of-part.result.now (g.F.OutFile.content c.args.file.now) (g.F.OutFile.content c.loop-run.file)
    (eights c.args.head.now c.args.region.now c.args.runs.now c.requires.width c.requires.runs) c.requires.part c.cells-cells.ensures.cells c.requires.shape c.requires.room c.loop-run-test.true c.cells-cells.ensures.value c.cells_of-part.ensures c.loop-run.invariant.size c.loop-run.invariant.written in
    omega (arith, next.limit, c.requires.near, c.dims.ensures.limits.product)

pub returns-in_err-write_cells-clause-part : goal.returns-in_err-write_cells-clause-part
returns-in_err-write_cells-clause-part g c =
    let next = next_run c.args.head.now c.args.region.now c.args.block.now c.args.runs.now c.loop-run.run-index c.cells-cells.result.now c.cells_of-part.result.now (g.F.OutFile.content c.args.file.now) (g.F.OutFile.content c.loop-run.file)
    (eights c.args.head.now c.args.region.now c.args.runs.now c.requires.width c.requires.runs) c.requires.part c.cells-cells.ensures.cells c.requires.shape c.requires.room c.loop-run-test.true c.cells-cells.ensures.value c.cells_of-part.ensures c.loop-run.invariant.size c.loop-run.invariant.written in
    on_err_from c.from_residual.result
    (first_stopped c.args.head.now c.args.region.now c.args.block.now c.args.runs.now c.loop-run.run-index c.cells_of-part.result.now (g.F.OutFile.content c.args.file.now) (g.F.OutFile.content c.loop-run.file) (g.F.OutFile.content c.write_cells.new.file) next c.in_err-write_cells.ensures.part)

pub loop-run-preserved : goal.loop-run-preserved
loop-run-preserved g c =
    let next = next_run c.args.head.now c.args.region.now c.args.block.now c.args.runs.now c.loop-run.run-index c.cells-cells.result.now c.cells_of-part.result.now (g.F.OutFile.content c.args.file.now) (g.F.OutFile.content c.loop-run.file)
    (eights c.args.head.now c.args.region.now c.args.runs.now c.requires.width c.requires.runs) c.requires.part c.cells-cells.ensures.cells c.requires.shape c.requires.room c.loop-run-test.true c.cells-cells.ensures.value c.cells_of-part.ensures c.loop-run.invariant.size c.loop-run.invariant.written in
    record {
      named = c.write_cells.ensures.named ∙ c.loop-run.invariant.named;
      size = c.write_cells.ensures.size ∙ c.loop-run.invariant.size;
      written = first_more c.args.head.now c.args.region.now c.args.block.now c.args.runs.now c.loop-run.run-index c.cells_of-part.result.now (g.F.OutFile.content c.args.file.now) (g.F.OutFile.content c.loop-run.file) (g.F.OutFile.content c.write_cells.new.file)
          next c.in_ok-write_cells.ensures.written;
      kept = c.in_ok-write_cells.ensures.kept ∙ c.loop-run.invariant.kept;
    }

pub returns-clause-written : goal.returns-clause-written
returns-clause-written g c = first_all c.args.head.now c.args.region.now c.args.block.now c.args.runs.now c.loop-run.run-index (g.F.OutFile.content c.args.file.now) (g.F.OutFile.content c.loop-run.file) (eights c.args.head.now c.args.region.now c.args.runs.now c.requires.width c.requires.runs) c.loop-run-test.false c.loop-run.invariant.written
