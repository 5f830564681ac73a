-- The lists and numbers of a statement or a call, while they are read.
use Rattle.std.specs.Prelude.{ℕ, ℤ, pos, List, [], ◌∷◌, ◌++◌, Option, Some, None, slice_index_or}
use Rattle.nd_shape.specs.declared.chunk.ChunkSpec.{ChunkSpec}
use Rattle.nd_shape.specs.declared.chunk.ChunkSpec.TheVariants.{Even as EvenChunks, List as ListedChunks}
use Rattle.nd_shape.specs.declared.slice.Part.{Part}
use Rattle.nd_shape.specs.declared.slice.Part.TheVariants.{At, Range as RangePart}
use Rattle.job_grammar.specs.declared.action.Action.{Action}
use Rattle.job_grammar.specs.declared.action.Action.TheVariants.{OpenDims, Dim, OpenChunks, Even, OpenSizes, Size, Sizes, OpenParts, OpenPart, Positive, Index, Bound, Range, PlainFold, FoldAxes, FoldSplit, ListAxis, LeftAxes, Value, Step}

pub record Given : Type 0 where
  -- lengths or axes, and the first axes of a tensordot
  pub dims : List ℕ
  pub left_axes : List ℕ
  -- chunks, and the sizes of the list among them that is read
  pub chunks : List ChunkSpec
  pub sizes : List ℕ
  -- parts of a slice; of the part that is read the bounds so far, and the number behind them
  pub parts : List Part
  pub bounds : List (Option ℤ)
  pub int : Option ℤ
  pub value : ℤ
  pub step : ℤ
  -- of a reduction or a concatenation
  pub axes : Option (List ℕ)
  pub split : ℕ
  pub axis : ℕ

abbrev pub nothing_given : Given
nothing_given = record { dims = []; left_axes = []; chunks = []; sizes = []; parts = []; bounds = []; int = None; value = pos 0; step = pos 0; axes = None; split = 4; axis = 0 }

abbrev pub int_or_zero : Option ℤ → ℤ
int_or_zero None = pos 0
int_or_zero (Some z) = z

abbrev pub bound_at : List (Option ℤ) → ℕ → Option ℤ
bound_at bounds k = slice_index_or bounds k None

-- a part of the bounds that were given
abbrev pub range_of : List (Option ℤ) → Part
range_of bounds = RangePart (bound_at bounds 0) (bound_at bounds 1) (bound_at bounds 2)

-- what an action does that speaks of these alone
abbrev pub given_after : Action → Given → Given
given_after OpenDims g = record g { dims = [] }
given_after OpenChunks g = record g { chunks = [] }
given_after OpenSizes g = record g { sizes = [] }
given_after Sizes g = record g { chunks = g.chunks ++ ListedChunks g.sizes ∷ []; sizes = [] }
given_after OpenParts g = record g { parts = [] }
given_after OpenPart g = record g { bounds = []; int = None }
given_after Index g = record g { parts = g.parts ++ At (int_or_zero g.int) ∷ [] }
given_after Bound g = record g { bounds = g.bounds ++ g.int ∷ []; int = None }
given_after Range g = record g { bounds = g.bounds ++ g.int ∷ []; parts = g.parts ++ range_of (g.bounds ++ g.int ∷ []) ∷ [] }
given_after PlainFold g = record g { axes = None; split = 4 }
given_after FoldAxes g = record g { axes = Some g.dims; dims = [] }
given_after LeftAxes g = record g { left_axes = g.dims; dims = [] }
given_after Value g = record g { value = int_or_zero g.int }
given_after Step g = record g { step = int_or_zero g.int }
given_after _ g = g

-- what an action does with a number
abbrev pub given_with : Action → ℕ → Given → Given
given_with Dim n g = record g { dims = g.dims ++ n ∷ [] }
given_with Even n g = record g { chunks = g.chunks ++ EvenChunks n ∷ [] }
given_with Size n g = record g { sizes = g.sizes ++ n ∷ [] }
given_with Positive n g = record g { int = Some (pos n) }
given_with FoldSplit n g = record g { split = n }
given_with ListAxis n g = record g { axis = n }
given_with _ n g = g
