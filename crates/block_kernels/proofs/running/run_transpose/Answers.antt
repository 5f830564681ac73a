use Rattle.std.proofs.Common.{◌≡◌, List, ℕ, [], Ok, length, map, get_or, ◌∙◌, ap, sym, subst}
use Rattle.nd_shape.specs.Shape.{IsShape}
use Rattle.std.specs.Prelude.{IfOk, IfErr}
use Rattle.nd_grid.specs.Computed.{FailsAs}
use Rattle.nd_grid.specs.Grid.{Grid, grid_of, block_of, transposed, IsTranspose}
use Rattle.block_kernels.proofs.Shared.{one-block}
use Rattle.block_kernels.proofs.running.run_transpose.Goals as goal

pub input_at-of-requires : goal.input_at-of-requires
input_at-of-requires c = one-block c.args.inputs.now c.args.input.now c.requires.shapes

pub transpose-requires-clause-axes : goal.transpose-requires-clause-axes
transpose-requires-clause-axes c =
    rw c.as_slice-order.ensures
    (subst (λ (ns : List ℕ). IsTranspose c.args.axes.now (length ns)) (sym (c.input_at-of.ensures.shape ∙ ap (λ (ys : List (List ℕ)). get_or ys 0 []) c.requires.shapes)) c.requires.rules)

pub transpose-requires-clause-shape : goal.transpose-requires-clause-shape
transpose-requires-clause-shape c =
    rw c.as_slice-order.ensures
    (subst (λ (ns : List ℕ). IsShape (map (λ a. get_or ns a 0) c.args.axes.now)) (sym (c.input_at-of.ensures.shape ∙ ap (λ (ys : List (List ℕ)). get_or ys 0 []) c.requires.shapes)) c.requires.limits)

pub returns-clause-ok : goal.returns-clause-ok
returns-clause-ok c = subst (λ (g : Grid). IfOk c.transpose.result (λ block. block_of (transposed c.args.axes.now g) ≡ Ok block)) c.input_at-of.ensures.grid (subst (λ (zs : List ℕ). IfOk c.transpose.result (λ block. block_of (transposed zs (grid_of c.input_at-of.result.now)) ≡ Ok block)) c.as_slice-order.ensures (c.transpose.ensures.ok))

pub returns-clause-dims : goal.returns-clause-dims
returns-clause-dims c = rw (c.as_slice-order.ensures, c.input_at-of.ensures.shape, c.requires.shapes) at c.transpose.ensures.dims

pub returns-clause-err : goal.returns-clause-err
returns-clause-err c = subst (λ (g : Grid). IfErr c.transpose.result (λ e. FailsAs e (block_of (transposed c.args.axes.now g)))) c.input_at-of.ensures.grid (subst (λ (zs : List ℕ). IfErr c.transpose.result (λ e. FailsAs e (block_of (transposed zs (grid_of c.input_at-of.result.now))))) c.as_slice-order.ensures (c.transpose.ensures.err))
