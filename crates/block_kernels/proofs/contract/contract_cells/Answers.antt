use Rattle.std.proofs.Common.{◌∙◌, ◌*◌, ap, subst}
use Rattle.nd_shape.specs.Shape.{elements}
use Rattle.block_kernels.specs.Contracting.{IsProduct}
use Rattle.block_kernels.proofs.Contracting.{IsKeptRows, IsPairedRows, contracted-filled}
use Rattle.block_kernels.proofs.contract.contract_cells.Goals as goal

pub returns-clause-block : goal.returns-clause-block
returns-clause-block c =
    let first : IsKeptRows c.args.left_axes.now c.args.left.now c.args.left_kept.now c.args.paired.now c.in_ok-first.first.items = record { at = c.in_ok-first.ensures.at } in
    let second : IsPairedRows c.args.right_axes.now c.args.right.now c.args.right_kept.now c.args.paired.now c.in_ok-second.second.items = record { at = c.in_ok-second.ensures.at } in
    let size = c.in_ok-cells.ensures.size ∙ ap (λ n. n * c.elements-3.result) c.elements.ensures ∙ ap (λ n. elements c.args.left_kept.now * n) c.elements-3.ensures in
    let product : IsProduct c.in_ok-first.first.items c.in_ok-second.second.items (elements c.args.left_kept.now) (elements c.args.paired.now) (elements c.args.right_kept.now) c.in_ok-cells.cells.items =
    subst (λ xs. IsProduct xs c.in_ok-second.second.items (elements c.args.left_kept.now) (elements c.args.paired.now) (elements c.args.right_kept.now) c.in_ok-cells.cells.items) c.as_slice.ensures.value
    (subst (λ xs. IsProduct c.as_slice.result.now xs (elements c.args.left_kept.now) (elements c.args.paired.now) (elements c.args.right_kept.now) c.in_ok-cells.cells.items) c.as_slice-2.ensures.value
    (subst (λ n. IsProduct c.as_slice.result.now c.as_slice-2.result.now n (elements c.args.paired.now) (elements c.args.right_kept.now) c.in_ok-cells.cells.items) c.elements.ensures
    (subst (λ n. IsProduct c.as_slice.result.now c.as_slice-2.result.now c.elements.result n (elements c.args.right_kept.now) c.in_ok-cells.cells.items) c.elements-2.ensures
    (subst (λ n. IsProduct c.as_slice.result.now c.as_slice-2.result.now c.elements.result c.elements-2.result n c.in_ok-cells.cells.items) c.elements-3.ensures c.in_ok-cells.ensures.product)))) in
    contracted-filled c.args.left_axes.now c.args.right_axes.now c.args.left.now c.args.right.now c.args.left_kept.now c.args.right_kept.now c.args.paired.now c.in_ok-first.first.items c.in_ok-second.second.items c.in_ok-cells.cells.items
    c.requires.left_kept c.requires.right_kept c.requires.left_paired first second size product
