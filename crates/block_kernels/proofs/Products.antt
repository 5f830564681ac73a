-- The shape of a product over paired axes.
use Rattle.std.proofs.Common.{◌≡◌, ℕ, zero, suc, List, [], ◌∷◌, ◌++◌, get_or, refl, ap, ◌∙◌, Ok}
use Rattle.nd_shape.specs.Block.{Array}
use Rattle.nd_grid.specs.Grid.{block_of, kept_shape}
use Rattle.nd_grid.proofs.Cells.{block-shape}
use Rattle.block_kernels.specs.Kernels.{nth}
use Rattle.block_kernels.specs.Inputs.{grids_of, shapes_of}
use Rattle.block_kernels.specs.Contracting.{contracted_at}

nth-shape : (blocks : List Array) (p : ℕ) → (nth (grids_of blocks) p).shape ≡ get_or (shapes_of blocks) p []
nth-shape [] p = refl
nth-shape (b ∷ bs) zero = refl
nth-shape (b ∷ bs) (suc p) = nth-shape bs p

pub product-shape : (la ra : List ℕ) (left right : ℕ) (blocks : List Array) (ns : List (List ℕ)) (b : Array) → shapes_of blocks ≡ ns → block_of (contracted_at la ra left right blocks) ≡ Ok b
    → b.shape ≡ kept_shape 0 (get_or ns left []) la ++ kept_shape 0 (get_or ns right []) ra
product-shape la ra left right blocks ns b same is =
    block-shape (contracted_at la ra left right blocks) b is
    ∙ ap (λ xs. kept_shape 0 xs la ++ kept_shape 0 (nth (grids_of blocks) right).shape ra) (nth-shape blocks left ∙ ap (λ (ys : List (List ℕ)). get_or ys left []) same)
    ∙ ap (λ xs. kept_shape 0 (get_or ns left []) la ++ kept_shape 0 xs ra) (nth-shape blocks right ∙ ap (λ (ys : List (List ℕ)). get_or ys right []) same)
