use Rattle.std.proofs.Common.{ℕ, ap, sym, subst, ◌∙◌}
use Rattle.nd_shape.specs.Shape.{elements}
use Rattle.block_kernels.specs.Rows.{row_count, row_length, FillsAll, FailsWithin}
use Rattle.std.proofs.lemmas.Result.{err_from_is_err_and}
use Rattle.block_kernels.proofs.rows.cells_of.Goals as goal

pub append_rows-requires-clause-rows : goal.append_rows-requires-clause-rows
append_rows-requires-clause-rows g c = c.row_sizes-rows.ensures.rows_is ∙ ap (λ ms. row_count ms c.args.outer) (sym c.requires.same) ∙ ap (row_count (g.F.Rows.grid c.args.formula.now).shape) (sym c.requires.outer)

pub append_rows-requires-clause-run : goal.append_rows-requires-clause-run
append_rows-requires-clause-run g c = c.row_sizes-rows.ensures.run_is ∙ ap (λ ms. row_length ms c.args.outer) (sym c.requires.same) ∙ ap (row_length (g.F.Rows.grid c.args.formula.now).shape) (sym c.requires.outer)

pub append_rows-requires-clause-some : goal.append_rows-requires-clause-some
append_rows-requires-clause-some g c = c.row_sizes-rows.ensures.some

pub append_rows-requires-clause-small : goal.append_rows-requires-clause-small
append_rows-requires-clause-small g c = c.row_sizes-rows.ensures.small

pub returns-clause-len : goal.returns-clause-len
returns-clause-len g c = c.in_ok-append_rows.ensures.len ∙ c.row_sizes-rows.ensures.all

pub returns-clause-ok : goal.returns-clause-ok
returns-clause-ok g c = subst (λ (n : ℕ). FillsAll (g.F.Rows.grid c.args.formula.now) n c.append_rows.new.cells.items) c.row_sizes-rows.ensures.all c.in_ok-append_rows.ensures.filled

pub returns-in_err-append_rows-clause-err : goal.returns-in_err-append_rows-clause-err
returns-in_err-append_rows-clause-err g c =
    let p = err_from_is_err_and c.from_residual-in_err-append_rows.result c.from_residual-in_err-append_rows.ensures.1 in
    let why : FailsWithin (g.F.Rows.grid c.args.formula.now) (elements (g.F.Rows.grid c.args.formula.now).shape) c.in_err-append_rows.field-0.0 =
    subst (λ (n : ℕ). FailsWithin (g.F.Rows.grid c.args.formula.now) n c.in_err-append_rows.field-0.0) (c.row_sizes-rows.ensures.all ∙ ap elements (sym c.requires.same)) c.in_err-append_rows.ensures.missing in
    rw (p.1, p.2) why
