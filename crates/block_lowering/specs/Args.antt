-- What the operands and operations of elementwise stages mean.
use Rattle.std.specs.Prelude.{◌≡◌, ℕ, List, [], map, slice_set, Option, Some, None}
use Rattle.lowering_laws.specs.Stages as stages
use Rattle.block_lowering.specs.declared.points.Operation.{Operation}
use Rattle.block_lowering.specs.declared.points.Operation.TheVariants.{Two, Three}
use Rattle.block_lowering.specs.declared.points.Given.{Given}
use Rattle.block_lowering.specs.declared.points.Given.TheVariants.{Value, Array}

abbrev pub point_of : Operation → stages.Point
point_of (Two op) = stages.Pair op
point_of Three = stages.Choice

abbrev pub arg_of : Given → stages.Arg
arg_of (Value v) = stages.Literal v
arg_of (Array s) = stages.Blocks s

abbrev pub args_of : List Given → List stages.Arg
args_of args = map arg_of args

-- the layouts of operands
abbrev pub layouts_of : List Given → List (List (List ℕ))
layouts_of args = map stages.arg_layout (args_of args)

-- sizes that may be none
abbrev pub sizes_or_none : Option (List ℕ) → List ℕ
sizes_or_none None = []
sizes_or_none (Some sizes) = sizes

-- the common layout of operands, but for one axis
pub record AreCommon (common : List (List ℕ)) (axis : ℕ) (given : List (List ℕ)) : Type 0 where
  pub others : (sizes : List ℕ) → slice_set given axis sizes ≡ slice_set common axis sizes

-- what holds of each common layout of which these are the cuts, but for one axis
abbrev pub OfCommon : ℕ → List (List ℕ) → (List (List ℕ) → Type 0) → Type 0
OfCommon axis given P = (common : List (List ℕ)) → AreCommon common axis given → P common

-- the chunks that an operand has on an axis of the result, where it has the result's length there
abbrev pub sizes_given : List ℕ → ℕ → Given → List ℕ
sizes_given dims axis arg = stages.sizes_on dims axis (stages.arg_layout (arg_of arg))

-- cuts that may be none, of these sizes
abbrev pub HaveSizes : List ℕ → Option (List ℕ) → Type 0
HaveSizes sizes cuts = sizes_or_none cuts ≡ sizes
