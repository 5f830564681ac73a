use Rattle.std.proofs.lemmas.Result.{err_from_is_err_and}
use Rattle.nd_grid.proofs.Cells.{block_of-cells, FailsAs-array, length-cells}
use Rattle.nd_grid.proofs.formula.tabulate.Goals as goal

pub returns-in_err-cells-clause-err : goal.returns-in_err-cells-clause-err
returns-in_err-cells-clause-err g c =
    let p = err_from_is_err_and c.from_residual.result c.from_residual.ensures.1 in
    rw (p.1, p.2, block_of-cells (g.F.Formula.grid c.args.formula.now) c.args.shape c.requires.same) (FailsAs-array _ _ _ c.in_err-cells.ensures.err)

pub new-requires : goal.new-requires
new-requires g c = length-cells _ _ _ c.in_ok-cells.ensures.ok
