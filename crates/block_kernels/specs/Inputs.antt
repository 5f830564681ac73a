-- What the operations take: blocks that are shared, and operands by their places.
use Rattle.std.specs.Prelude.{ℕ, ◌<◌, ℤ, pos, List, [], ◌∷◌, map, slice_index_or}
use Rattle.std.specs.Arc.{arc_value}
use Rattle.std.specs.declared.sync.Arc.{Arc}
use Rattle.std.specs.declared.alloc.Global.{Global}
use Rattle.nd_shape.specs.Block.{Array}
use Rattle.nd_grid.specs.Grid.{Grid, grid_of}
use Rattle.block_kernels.specs.declared.spec.Operand.{Operand}
use Rattle.block_kernels.specs.declared.spec.Operand.TheVariants.{Input, Number}

-- the blocks that are shared in a list
abbrev pub blocks_of : {B : Type 0} → List (Arc B Global) → List B
blocks_of shared = map arc_value shared

-- the grids of blocks, and their shapes
abbrev pub grids_of : List Array → List Grid
grids_of blocks = map grid_of blocks

abbrev pub shapes_of : List Array → List (List ℕ)
shapes_of blocks = map (λ (b : Array). b.shape) blocks

-- the place of an operand that is an input
abbrev pub IsPlace : Operand → ℕ → Type 0
IsPlace (Input p) n = p < n
IsPlace (Number v) n = Unit {0}

-- the shape of an operand; a number has no axes
abbrev pub operand_shape : Operand → List (List ℕ) → List ℕ
operand_shape (Input p) inputs = slice_index_or inputs p []
operand_shape (Number v) inputs = []

-- the block that stands for a number
abbrev pub number_of : Operand → ℤ
number_of (Input p) = pos 0
number_of (Number v) = v

abbrev pub number_array : Operand → Array
number_array operand = record { shape = []; cells = number_of operand ∷ [] }
