-- What a block of a slice takes of each axis.
use Rattle.std.specs.Prelude.{◌≡◌, ℕ, List}
use Rattle.nd_shape.specs.declared.slice.Steps.{Steps}
use Rattle.chunk_layout.specs.Slices.{Taken}
use Rattle.lowering_laws.specs.Stages.{chunks_taken, steps_taken}

-- the chunks, and the steps within them
pub record AreTaken (pieces : List Taken) (numbers : List ℕ) (steps : List Steps) : Type 0 where
  pub numbers_are : numbers ≡ chunks_taken pieces
  pub steps_are : steps ≡ steps_taken pieces
