use Rattle.std.proofs.Common.{◌≡◌, List, ℕ, [], Ok, get_or, ◌∙◌, ap, sym, subst}
use Rattle.std.specs.Prelude.{IfOk, IfErr}
use Rattle.nd_grid.specs.Computed.{FailsAs}
use Rattle.nd_shape.specs.declared.slice.Steps.{Steps}
use Rattle.nd_grid.specs.Grid.{Grid, grid_of, block_of, sliced, SlicesFit}
use Rattle.block_kernels.proofs.Shared.{one-block}
use Rattle.block_kernels.proofs.running.run_slice.Goals as goal

pub input_at-of-requires : goal.input_at-of-requires
input_at-of-requires c = one-block c.args.inputs.now c.args.input.now c.requires.shapes

pub slice-requires-clause-fits : goal.slice-requires-clause-fits
slice-requires-clause-fits c =
    rw (c.as_slice-taken.ensures, c.as_slice-gone.ensures)
    (subst (λ (ns : List ℕ). SlicesFit 0 c.args.steps.now ns c.args.dropped.now) (sym (c.input_at-of.ensures.shape ∙ ap (λ (ys : List (List ℕ)). get_or ys 0 []) c.requires.shapes)) c.requires.rules.fits)

pub returns-clause-ok : goal.returns-clause-ok
returns-clause-ok c = subst (λ (g : Grid). IfOk c.slice.result (λ block. block_of (sliced c.args.steps.now c.args.dropped.now g) ≡ Ok block)) c.input_at-of.ensures.grid (subst (λ (zs : List ℕ). IfOk c.slice.result (λ block. block_of (sliced c.args.steps.now zs (grid_of c.input_at-of.result.now)) ≡ Ok block)) c.as_slice-gone.ensures (subst (λ (zs : List Steps). IfOk c.slice.result (λ block. block_of (sliced zs c.as_slice-gone.result.now (grid_of c.input_at-of.result.now)) ≡ Ok block)) c.as_slice-taken.ensures (c.slice.ensures.ok)))

pub returns-clause-err : goal.returns-clause-err
returns-clause-err c = subst (λ (g : Grid). IfErr c.slice.result (λ e. FailsAs e (block_of (sliced c.args.steps.now c.args.dropped.now g)))) c.input_at-of.ensures.grid (subst (λ (zs : List ℕ). IfErr c.slice.result (λ e. FailsAs e (block_of (sliced c.args.steps.now zs (grid_of c.input_at-of.result.now))))) c.as_slice-gone.ensures (subst (λ (zs : List Steps). IfErr c.slice.result (λ e. FailsAs e (block_of (sliced zs c.as_slice-gone.result.now (grid_of c.input_at-of.result.now))))) c.as_slice-taken.ensures (c.slice.ensures.err)))
