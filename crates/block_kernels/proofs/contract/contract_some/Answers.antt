use Rattle.std.proofs.Common.{arith, ◌≡◌, ◌∙◌, ◌*◌, ◌<◌, ◌++◌, sym, ap, subst, length, map, get_or, List, ℕ, Ok}
use Rattle.std.specs.Prelude.{All}
use Rattle.std.proofs.Math.Nat.{mul_comm}
use Rattle.nd_shape.specs.Shape.{elements, IsShape}
use Rattle.nd_grid.specs.Grid.{kept_shape}
use Rattle.block_kernels.proofs.Paired.{first-shape, last-shape, paired-shape, paired-parts}
use Rattle.block_kernels.proofs.contract.contract_some.Goals as goal
use Rattle.block_kernels.proofs.Broadcasts.{elements-append}

pub listed_dims-requires : goal.listed_dims-requires
listed_dims-requires c = subst (λ (ns : List ℕ). All (λ a. a < length ns) c.args.left_axes.now) (sym (c.dims-2.ensures.dims ∙ c.shape-2.ensures.value)) c.requires.left.inside

pub of-paired-requires : goal.of-paired-requires
of-paired-requires c =
    subst IsShape (sym (c.in_ok-listed_dims.ensures ∙ ap (λ ns. map (λ a. get_or ns a 0) c.args.left_axes.now) (c.dims-2.ensures.dims ∙ c.shape-2.ensures.value)))
    (paired-shape c.args.left.now.shape c.args.left_axes.now (kept_shape 0 c.args.right.now.shape c.args.right_axes.now) c.args.shape (subst IsShape c.shape-2.ensures.value c.dims-2.ensures.limits) c.requires.left c.requires.shape c.requires.some)

pub of-left_kept-requires : goal.of-left_kept-requires
of-left_kept-requires c =
    subst IsShape (sym (c.in_ok-kept_dims.ensures ∙ ap (λ ns. kept_shape 0 ns c.args.left_axes.now) (c.dims-3.ensures.dims ∙ c.shape-3.ensures.value)))
    (first-shape (kept_shape 0 c.args.left.now.shape c.args.left_axes.now) (kept_shape 0 c.args.right.now.shape c.args.right_axes.now) c.args.shape c.requires.shape c.dims.ensures.limits c.requires.some)

pub of-right_kept-requires : goal.of-right_kept-requires
of-right_kept-requires c =
    subst IsShape (sym (c.in_ok-kept_dims-2.ensures ∙ ap (λ ns. kept_shape 0 ns c.args.right_axes.now) (c.dims-4.ensures.dims ∙ c.shape-4.ensures.value)))
    (last-shape (kept_shape 0 c.args.left.now.shape c.args.left_axes.now) (kept_shape 0 c.args.right.now.shape c.args.right_axes.now) c.args.shape c.requires.shape c.dims.ensures.limits c.requires.some)

pub contract_cells-requires-clause-left_kept : goal.contract_cells-requires-clause-left_kept
contract_cells-requires-clause-left_kept c = c.of-left_kept.ensures ∙ c.in_ok-kept_dims.ensures ∙ ap (λ ns. kept_shape 0 ns c.args.left_axes.now) (c.dims-3.ensures.dims ∙ c.shape-3.ensures.value)

pub contract_cells-requires-clause-right_kept : goal.contract_cells-requires-clause-right_kept
contract_cells-requires-clause-right_kept c = c.of-right_kept.ensures ∙ c.in_ok-kept_dims-2.ensures ∙ ap (λ ns. kept_shape 0 ns c.args.right_axes.now) (c.dims-4.ensures.dims ∙ c.shape-4.ensures.value)

pub contract_cells-requires-clause-left_paired : goal.contract_cells-requires-clause-left_paired
contract_cells-requires-clause-left_paired c = c.of-paired.ensures ∙ c.in_ok-listed_dims.ensures ∙ ap (λ ns. map (λ a. get_or ns a 0) c.args.left_axes.now) (c.dims-2.ensures.dims ∙ c.shape-2.ensures.value)

pub contract_cells-requires-clause-right_paired : goal.contract_cells-requires-clause-right_paired
contract_cells-requires-clause-right_paired c = c.of-paired.ensures ∙ c.in_ok-listed_dims.ensures ∙ ap (λ ns. map (λ a. get_or ns a 0) c.args.left_axes.now) (c.dims-2.ensures.dims ∙ c.shape-2.ensures.value) ∙ c.requires.paired

pub contract_cells-requires-clause-left_small : goal.contract_cells-requires-clause-left_small
contract_cells-requires-clause-left_small c =
    let e : elements c.of-left_kept.result * elements c.of-paired.result ≡ elements c.args.left.now.shape =
    ap (λ xs. elements xs * elements c.of-paired.result) (c.of-left_kept.ensures ∙ c.in_ok-kept_dims.ensures ∙ ap (λ ns. kept_shape 0 ns c.args.left_axes.now) (c.dims-3.ensures.dims ∙ c.shape-3.ensures.value)) ∙ ap (λ xs. elements (kept_shape 0 c.args.left.now.shape c.args.left_axes.now) * elements xs) (c.of-paired.ensures ∙ c.in_ok-listed_dims.ensures ∙ ap (λ ns. map (λ a. get_or ns a 0) c.args.left_axes.now) (c.dims-2.ensures.dims ∙ c.shape-2.ensures.value)) ∙ paired-parts c.args.left.now.shape c.args.left_axes.now c.requires.left in
    omega (arith, e, c.dims-2.ensures.limits.product, ap elements c.shape-2.ensures.value)

pub contract_cells-requires-clause-right_small : goal.contract_cells-requires-clause-right_small
contract_cells-requires-clause-right_small c =
    let e : elements c.of-paired.result * elements c.of-right_kept.result ≡ elements c.args.right.now.shape =
    ap (λ xs. elements xs * elements c.of-right_kept.result) (c.of-paired.ensures ∙ c.in_ok-listed_dims.ensures ∙ ap (λ ns. map (λ a. get_or ns a 0) c.args.left_axes.now) (c.dims-2.ensures.dims ∙ c.shape-2.ensures.value) ∙ c.requires.paired) ∙ ap (λ xs. elements (map (λ a. get_or c.args.right.now.shape a 0) c.args.right_axes.now) * elements xs) (c.of-right_kept.ensures ∙ c.in_ok-kept_dims-2.ensures ∙ ap (λ ns. kept_shape 0 ns c.args.right_axes.now) (c.dims-4.ensures.dims ∙ c.shape-4.ensures.value))
    ∙ mul_comm (elements (map (λ a. get_or c.args.right.now.shape a 0) c.args.right_axes.now)) (elements (kept_shape 0 c.args.right.now.shape c.args.right_axes.now)) ∙ paired-parts c.args.right.now.shape c.args.right_axes.now c.requires.right in
    omega (arith, e, c.dims-4.ensures.limits.product, ap elements c.shape-4.ensures.value)

pub contract_cells-requires-clause-small : goal.contract_cells-requires-clause-small
contract_cells-requires-clause-small c =
    let e : elements c.of-left_kept.result * elements c.of-right_kept.result ≡ elements c.args.shape =
    ap (λ xs. elements xs * elements c.of-right_kept.result) (c.of-left_kept.ensures ∙ c.in_ok-kept_dims.ensures ∙ ap (λ ns. kept_shape 0 ns c.args.left_axes.now) (c.dims-3.ensures.dims ∙ c.shape-3.ensures.value)) ∙ ap (λ xs. elements (kept_shape 0 c.args.left.now.shape c.args.left_axes.now) * elements xs) (c.of-right_kept.ensures ∙ c.in_ok-kept_dims-2.ensures ∙ ap (λ ns. kept_shape 0 ns c.args.right_axes.now) (c.dims-4.ensures.dims ∙ c.shape-4.ensures.value)) ∙ sym (elements-append (kept_shape 0 c.args.left.now.shape c.args.left_axes.now) (kept_shape 0 c.args.right.now.shape c.args.right_axes.now)) ∙ ap elements c.requires.shape in
    omega (arith, e, c.dims.ensures.limits.product)

pub new-requires : goal.new-requires
new-requires c =
    c.in_ok-cells.ensures.size
    ∙ ap (λ xs. elements xs * elements c.of-right_kept.result) (c.of-left_kept.ensures ∙ c.in_ok-kept_dims.ensures ∙ ap (λ ns. kept_shape 0 ns c.args.left_axes.now) (c.dims-3.ensures.dims ∙ c.shape-3.ensures.value)) ∙ ap (λ xs. elements (kept_shape 0 c.args.left.now.shape c.args.left_axes.now) * elements xs) (c.of-right_kept.ensures ∙ c.in_ok-kept_dims-2.ensures ∙ ap (λ ns. kept_shape 0 ns c.args.right_axes.now) (c.dims-4.ensures.dims ∙ c.shape-4.ensures.value)) ∙ sym (elements-append (kept_shape 0 c.args.left.now.shape c.args.left_axes.now) (kept_shape 0 c.args.right.now.shape c.args.right_axes.now)) ∙ ap elements c.requires.shape

pub returns : goal.returns
returns c =
    c.in_ok-cells.ensures.block
    ∙ ap (λ (ns : List ℕ). Ok (record { shape = ns ++ c.of-right_kept.result; cells = c.in_ok-cells.cells.items })) (c.of-left_kept.ensures ∙ c.in_ok-kept_dims.ensures ∙ ap (λ ns. kept_shape 0 ns c.args.left_axes.now) (c.dims-3.ensures.dims ∙ c.shape-3.ensures.value))
    ∙ ap (λ (ns : List ℕ). Ok (record { shape = kept_shape 0 c.args.left.now.shape c.args.left_axes.now ++ ns; cells = c.in_ok-cells.cells.items })) (c.of-right_kept.ensures ∙ c.in_ok-kept_dims-2.ensures ∙ ap (λ ns. kept_shape 0 ns c.args.right_axes.now) (c.dims-4.ensures.dims ∙ c.shape-4.ensures.value))
    ∙ ap (λ (ns : List ℕ). Ok (record { shape = ns; cells = c.in_ok-cells.cells.items })) c.requires.shape
    ∙ ap Ok (sym c.new.ensures)
