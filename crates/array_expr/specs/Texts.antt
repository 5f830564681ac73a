-- How refusals are written, and which refusal of a node a refusal to broadcast is.
use Rattle.std.specs.Prelude.{ℕ, List, ◌++◌, codes}
use Rattle.nd_shape.specs.declared.error.ShapeError.{ShapeError}
use Rattle.nd_shape.specs.declared.error.ShapeError.TheVariants.{Misfit, BadAxis, BadIndex, ZeroStep, EmptyReduce, TooManyParts, BadSplit, Elements, OutOfMemory}
use Rattle.nd_shape.specs.Texts.{shape_error_text, chunk_error_text}
use Rattle.array_expr.specs.declared.error.Quantity.{Quantity}
use Rattle.array_expr.specs.declared.error.Quantity.TheVariants.{Nodes, Axes, Elements as AllElements}
use Rattle.array_expr.specs.declared.error.NodeError.{NodeError}
use Rattle.array_expr.specs.declared.error.NodeError.TheVariants.{Shape, Chunks, Limit, OutOfMemory as OutOfRoom}

abbrev pub quantity_text : Quantity → List ℕ
quantity_text Nodes = codes "nodes"
quantity_text Axes = codes "axes"
quantity_text AllElements = codes "elements"

abbrev pub node_error_text : NodeError → List ℕ
node_error_text (Shape e) = shape_error_text e
node_error_text (Chunks e) = chunk_error_text e
node_error_text (Limit quantity) = codes "limit " ++ quantity_text quantity
node_error_text OutOfRoom = codes "out of memory"

-- too many elements are a limit, and no misfit of shapes
abbrev pub shape_error : ShapeError → NodeError
shape_error (Misfit axis left right) = Shape (Misfit axis left right)
shape_error (BadAxis axis) = Shape (BadAxis axis)
shape_error (BadIndex index len) = Shape (BadIndex index len)
shape_error ZeroStep = Shape ZeroStep
shape_error (EmptyReduce axis) = Shape (EmptyReduce axis)
shape_error (TooManyParts parts axes) = Shape (TooManyParts parts axes)
shape_error (BadSplit split) = Shape (BadSplit split)
shape_error Elements = Limit AllElements
shape_error OutOfMemory = OutOfRoom
