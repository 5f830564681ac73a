-- How refusals are written.
use Rattle.std.specs.Prelude.{ℕ, List, ◌++◌, codes, decimal}
use Rattle.std.specs.Fmt.{signed_decimal}
use Rattle.nd_shape.specs.declared.error.ShapeError.{ShapeError}
use Rattle.nd_shape.specs.declared.error.ShapeError.TheVariants.{Misfit, BadAxis, BadIndex, ZeroStep, EmptyReduce, TooManyParts, BadSplit, Elements, OutOfMemory}
use Rattle.nd_shape.specs.declared.error.ChunkError.{ChunkError}
use Rattle.nd_shape.specs.declared.error.ChunkError.TheVariants.{AxisCount, SumDiffers, ZeroChunk, OutOfMemory as NoMemory}
use Rattle.nd_shape.specs.declared.shape.ShapeLimit.{ShapeLimit}
use Rattle.nd_shape.specs.declared.shape.ShapeLimit.TheVariants.{Axes, Elements as TooLarge}

abbrev pub limit_text : ShapeLimit → List ℕ
limit_text Axes = codes "axes"
limit_text TooLarge = codes "elements"

abbrev pub shape_error_text : ShapeError → List ℕ
shape_error_text (Misfit axis left right) = codes "shape: axis " ++ decimal axis ++ codes ": " ++ decimal left ++ codes " and " ++ decimal right
shape_error_text (BadAxis axis) = codes "shape: bad axis " ++ decimal axis
shape_error_text (BadIndex index len) = codes "shape: index " ++ signed_decimal index ++ codes " of length " ++ decimal len
shape_error_text ZeroStep = codes "shape: step 0"
shape_error_text (EmptyReduce axis) = codes "shape: empty axis " ++ decimal axis
shape_error_text (TooManyParts parts axes) = codes "shape: " ++ decimal parts ++ codes " parts for " ++ decimal axes ++ codes " axes"
shape_error_text (BadSplit split) = codes "shape: split_every " ++ decimal split
shape_error_text Elements = codes "limit elements"
shape_error_text OutOfMemory = codes "out of memory"

abbrev pub chunk_error_text : ChunkError → List ℕ
chunk_error_text (AxisCount given axes) = codes "chunks: " ++ decimal given ++ codes " given for " ++ decimal axes ++ codes " axes"
chunk_error_text (SumDiffers axis sum len) = codes "chunks: axis " ++ decimal axis ++ codes ": sum " ++ decimal sum ++ codes ", length " ++ decimal len
chunk_error_text (ZeroChunk axis) = codes "chunks: axis " ++ decimal axis ++ codes ": zero chunk"
chunk_error_text NoMemory = codes "out of memory"
