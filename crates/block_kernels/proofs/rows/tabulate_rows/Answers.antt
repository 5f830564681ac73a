use Rattle.std.proofs.Common.{ap, sym, ◌∙◌, Ok}
use Rattle.std.proofs.lemmas.Result.{err_from_is_err_and}
use Rattle.block_kernels.proofs.RowLemmas.{filled-block, failed-block}
use Rattle.block_kernels.proofs.rows.tabulate_rows.Goals as goal

pub returns-in_err-cells-clause-err : goal.returns-in_err-cells-clause-err
returns-in_err-cells-clause-err g c =
    let p = err_from_is_err_and c.from_residual.result c.from_residual.ensures.1 in
    rw (p.1, p.2) (failed-block (g.F.Rows.grid c.args.formula.now) _ c.in_err-cells.ensures.err)

pub returns-clause-ok : goal.returns-clause-ok
returns-clause-ok g c =
    filled-block (g.F.Rows.grid c.args.formula.now) c.args.shape c.in_ok-cells.cells.items c.requires.same c.in_ok-cells.ensures.len c.in_ok-cells.ensures.ok ∙ ap Ok (sym c.new.ensures)
