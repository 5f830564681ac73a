use Rattle.std.proofs.Common.{arith, ap, sym, subst, ◌∙◌, length, get_or, w64, Some}
use Rattle.std.proofs.lemmas.Int.{to_z-of_z}
use mir.Val.{SFits}
use Rattle.std.proofs.lemmas.List.{length-map}
use Rattle.nd_shape.specs.Index.{IsIn, index_at}
use Rattle.nd_shape.proofs.Places.{IsIn-length}
use Rattle.nd_grid.specs.Grid.{grid_of, kept_shape, woven}
use Rattle.block_kernels.proofs.Contracting.{woven-inside}
use Rattle.block_kernels.proofs.contract.woven_cell.Goals as goal

pub index_woven-requires-clause-kept : goal.index_woven-requires-clause-kept
index_woven-requires-clause-kept c =
    omega (arith, IsIn-length c.args.kept.now c.unravel.new.index c.unravel.ensures.inside, ap length (c.requires.kept ∙ ap (λ ns. kept_shape 0 ns c.args.axes.now) (sym (c.dims-dims.ensures.dims ∙ c.shape.ensures.value))))

pub index_woven-requires-clause-rest : goal.index_woven-requires-clause-rest
index_woven-requires-clause-rest c =
    IsIn-length c.args.paired.now c.unravel-2.new.index c.unravel-2.ensures.inside ∙ ap length c.requires.paired ∙ length-map c.args.axes.now (λ a. get_or c.args.block.now.shape a 0)

pub element_at-requires : goal.element_at-requires
element_at-requires c =
    subst (IsIn c.args.block.now.shape) (sym (c.index_woven.ensures ∙ ap (λ ns. woven 0 ns c.args.axes.now c.unravel.new.index c.unravel-2.new.index) (c.dims-dims.ensures.dims ∙ c.shape.ensures.value)))
    (woven-inside c.args.block.now.shape c.args.axes.now c.unravel.new.index c.unravel-2.new.index (subst (λ ns. IsIn ns c.unravel.new.index) c.requires.kept c.unravel.ensures.inside) (subst (λ ns. IsIn ns c.unravel-2.new.index) c.requires.paired c.unravel-2.ensures.inside))

pub returns : goal.returns
returns c =
    let fits : SFits w64 c.element_at.result = record { sfits = c.element_at.type_inv } in
    ap Some (to_z-of_z w64 c.element_at.result fits)
    ∙ c.element_at.ensures
    ∙ ap (grid_of c.args.block.now).at (
    c.index_woven.ensures ∙ ap (λ ns. woven 0 ns c.args.axes.now c.unravel.new.index c.unravel-2.new.index) (c.dims-dims.ensures.dims ∙ c.shape.ensures.value)
    ∙ ap (λ xs. woven 0 c.args.block.now.shape c.args.axes.now xs c.unravel-2.new.index) c.unravel.ensures.index
    ∙ ap (woven 0 c.args.block.now.shape c.args.axes.now (index_at c.args.kept.now c.args.i)) c.unravel-2.ensures.index)
