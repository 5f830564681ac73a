use Rattle.std.proofs.Common.{arith, refl, subst, ◌≡◌}
use Rattle.block_kernels.specs.Reducing.{TakesRows}
use Rattle.block_kernels.proofs.Totals.{rows-none, rows-more, row-room}
use Rattle.block_kernels.proofs.reduce.fold_rows.Goals as goal

pub loop-row-init : goal.loop-row-init
loop-row-init g c = record { room = refl; taken = rows-none _ _ _ _ _ _ }

pub fold_row-requires-clause-cells : goal.fold_row-requires-clause-cells
fold_row-requires-clause-cells g c = row-room c.args.from c.loop-row.row c.args.rows c.args.count _ c.loop-row-test.true c.requires.cells

pub loop-row-preserved : goal.loop-row-preserved
loop-row-preserved g c = record {
  room = omega (arith, c.fold_row.auto.totals, c.loop-row.invariant.room);
  taken = rows-more _ c.args.place c.args.cells.now c.args.from c.loop-row.row c.args.count c.args.totals.now c.loop-row.totals c.fold_row.new.totals c.loop-row.invariant.taken c.fold_row.ensures;
}

pub returns : goal.returns
returns g c =
    let all : c.loop-row.row ≡ c.args.rows = omega arith in
    subst (λ n. TakesRows (g.F.Folding.fold c.args.folding.now) c.args.place c.args.cells.now c.args.from n c.args.count c.args.totals.now c.loop-row.totals) all c.loop-row.invariant.taken
