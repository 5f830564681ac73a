use Rattle.std.proofs.Common.{arith, refl}
use Rattle.block_kernels.proofs.Totals.{parts-none, parts-more, view-end, part-room, part-cells}
use Rattle.block_kernels.proofs.reduce.fold_view.Goals as goal

pub loop-part-init : goal.loop-part-init
loop-part-init g c = record { room = refl; parts = parts-none _ _ _ _ _ }

pub overflow_mul-size : goal.overflow_mul-size
overflow_mul-size g c = let b = part-cells c.loop-part.part c.args.view.outer c.args.view.rows c.args.view.inner _ c.loop-part-test.true c.requires.small in omega (arith, b)

pub overflow_mul-part : goal.overflow_mul-part
overflow_mul-part g c = let b = part-room c.loop-part.part c.args.view.outer c.args.view.inner _ c.loop-part-test.true c.requires.few in omega (arith, b)

pub overflow_mul-part-in-loop-part : goal.overflow_mul-part-in-loop-part
overflow_mul-part-in-loop-part g c = let b = part-cells c.loop-part.part c.args.view.outer c.args.view.rows c.args.view.inner _ c.loop-part-test.true c.requires.small in omega (arith, b)

pub fold_rows-requires-clause-room : goal.fold_rows-requires-clause-room
fold_rows-requires-clause-room g c = let b = part-room c.loop-part.part c.args.view.outer c.args.view.inner _ c.loop-part-test.true c.requires.room in omega (arith, b, c.loop-part.invariant.room)

pub fold_rows-requires-clause-cells : goal.fold_rows-requires-clause-cells
fold_rows-requires-clause-cells g c = part-cells c.loop-part.part c.args.view.outer c.args.view.rows c.args.view.inner _ c.loop-part-test.true c.requires.cells

pub fold_rows-requires-clause-small : goal.fold_rows-requires-clause-small
fold_rows-requires-clause-small g c = part-cells c.loop-part.part c.args.view.outer c.args.view.rows c.args.view.inner _ c.loop-part-test.true c.requires.small

pub loop-part-preserved : goal.loop-part-preserved
loop-part-preserved g c = record {
  room = omega (arith, c.fold_rows.auto.totals, c.loop-part.invariant.room);
  parts = parts-more _ c.args.cells.now c.loop-part.part c.args.view.rows c.args.view.inner c.args.totals.now c.loop-part.totals c.fold_rows.new.totals c.loop-part.invariant.parts.taken c.loop-part.invariant.parts.later c.fold_rows.ensures;
}

pub returns : goal.returns
returns g c = view-end _ c.args.cells.now c.loop-part.part c.args.view.outer c.args.view.rows c.args.view.inner c.args.totals.now c.loop-part.totals c.loop-part-test.false c.loop-part.invariant.parts
