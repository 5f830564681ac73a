use Rattle.std.proofs.Common.{arith, ◌≡◌, ◌∙◌, sym, ap, length, Ok}
use Rattle.nd_shape.specs.Shape.{elements}
use Rattle.nd_grid.specs.Grid.{grid_of, contracted}
use Rattle.block_kernels.proofs.Contracting.{empty-block}
use Rattle.block_kernels.proofs.contract.contract_two.Goals as goal

pub returns-then-elements-eq0 : goal.returns-then-elements-eq0
returns-then-elements-eq0 c =
    let none : elements c.args.shape ≡ 0 = omega (arith, c.elements.ensures) in
    empty-block (contracted c.args.left_axes.now c.args.right_axes.now (grid_of c.args.left.now) (grid_of c.args.right.now)) c.args.shape c.new.result.items c.requires.shape none (ap length c.new.ensures.items ∙ sym none)
    ∙ ap Ok (sym c.new-then-elements-eq0.ensures)
