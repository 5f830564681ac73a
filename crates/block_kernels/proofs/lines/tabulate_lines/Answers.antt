use Rattle.std.proofs.Common.{ap, sym, ◌∙◌, Ok}
use Rattle.block_kernels.proofs.RowLemmas.{filled-block}
use Rattle.block_kernels.proofs.lines.tabulate_lines.Goals as goal

pub returns-clause-ok : goal.returns-clause-ok
returns-clause-ok g c =
    filled-block (g.F.Lines.grid c.args.formula.now) c.args.shape c.in_ok-cells.cells.items c.requires.same c.in_ok-cells.ensures.len c.in_ok-cells.ensures.ok ∙ ap Ok (sym c.new.ensures)
