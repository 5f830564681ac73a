-- Which limit a list of lengths passes. The axes are looked at first.
use Rattle.std.specs.Prelude.{◌≤◌, ◌<◌, ◌^◌, ◌⊎◌, ℕ, List, length, Any}
use Rattle.nd_shape.specs.declared.shape.ShapeLimit.{ShapeLimit}
use Rattle.nd_shape.specs.declared.shape.ShapeLimit.TheVariants.{Axes, Elements}
use Rattle.nd_shape.specs.Shape.{elements}

abbrev pub IsPassed : ShapeLimit → List ℕ → Type 0
IsPassed Axes dims = 8 < length dims
IsPassed Elements dims = (length dims ≤ 8) × (Any (λ n. 2 ^ 31 < n) dims ⊎ (2 ^ 31 < elements dims))
