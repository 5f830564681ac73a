-- Broadcasting, in the words of NumPy's page on it.
use Rattle.std.specs.Prelude.{◌≡◌, ℕ, ◌-◌, ◌<◌, ◌^◌, max, Bool, ◌||◌, cond, nat_eq, nat_lt, List, [], ◌∷◌, length, map, get_or, Option, Some, None}
use Rattle.std.specs.List.{range_with_len}
use Rattle.nd_shape.specs.declared.error.ShapeError.{ShapeError}
use Rattle.nd_shape.specs.declared.error.ShapeError.TheVariants.{Misfit, BadAxis, BadIndex, ZeroStep, EmptyReduce, TooManyParts, BadSplit, Elements, OutOfMemory}
use Rattle.nd_shape.specs.Shape.{elements}

-- the greatest number of axes
abbrev pub axes_of : List (List ℕ) → ℕ
axes_of [] = 0
axes_of (ns ∷ shapes) = max (length ns) (axes_of shapes)

-- the length of a shape on axis k of so many: shapes are aligned from the last axis, and 1 stands for an axis that a
-- shape hasn't
abbrev pub length_on : ℕ → ℕ → List ℕ → ℕ
length_on axes k ns = cond (nat_lt k (axes - length ns)) 1 (get_or ns (k - (axes - length ns)) 1)

abbrev pub lengths_on : List (List ℕ) → ℕ → List ℕ
lengths_on shapes k = map (length_on (axes_of shapes) k) shapes

-- two lengths agree where they are equal or one of them is 1
abbrev pub agrees : ℕ → ℕ → Bool
agrees m n = nat_eq m n || (nat_eq m 1 || nat_eq n 1)

-- the length that isn't 1, or 1
abbrev pub common : List ℕ → ℕ
common [] = 1
common (n ∷ ns) = cond (nat_eq n 1) (common ns) n

-- the first two lengths that don't agree
abbrev pub misfit_with : ℕ → List ℕ → Option (ℕ × ℕ)
misfit_with m [] = None
misfit_with m (n ∷ ns) = cond (agrees m n) (misfit_with m ns) (Some (m, n))

abbrev pub or_else : Option (ℕ × ℕ) → Option (ℕ × ℕ) → Option (ℕ × ℕ)
or_else None q = q
or_else (Some p) q = Some p

abbrev pub first_misfit : List ℕ → Option (ℕ × ℕ)
first_misfit [] = None
first_misfit (n ∷ ns) = or_else (misfit_with n ns) (first_misfit ns)

-- the shape of an operation on arrays of these shapes, element by element
abbrev pub broadcast : List (List ℕ) → List ℕ
broadcast shapes = map (λ k. common (lengths_on shapes k)) (range_with_len 0 (axes_of shapes))

-- they agree on every axis
pub record Agree (shapes : List (List ℕ)) : Type 0 where
  pub each : (k : ℕ) → k < axes_of shapes → first_misfit (lengths_on shapes k) ≡ None

-- the first axis on which two don't agree, and their lengths there
pub record IsMisfit (shapes : List (List ℕ)) (axis left right : ℕ) : Type 0 where
  pub inside : axis < axes_of shapes
  pub before : (k : ℕ) → k < axis → first_misfit (lengths_on shapes k) ≡ None
  pub here : first_misfit (lengths_on shapes axis) ≡ Some (left, right)

abbrev pub RefusesBroadcast : List (List ℕ) → ShapeError → Type 0
RefusesBroadcast shapes (Misfit axis left right) = IsMisfit shapes axis left right
RefusesBroadcast shapes Elements = Agree shapes × (2 ^ 31 < elements (broadcast shapes))
RefusesBroadcast shapes OutOfMemory = Unit {0}
RefusesBroadcast shapes (BadAxis axis) = ⊥
RefusesBroadcast shapes (BadIndex index len) = ⊥
RefusesBroadcast shapes ZeroStep = ⊥
RefusesBroadcast shapes (EmptyReduce axis) = ⊥
RefusesBroadcast shapes (TooManyParts parts axes) = ⊥
RefusesBroadcast shapes (BadSplit split) = ⊥

-- before the elements are counted
abbrev pub RefusesDims : List (List ℕ) → ShapeError → Type 0
RefusesDims shapes (Misfit axis left right) = IsMisfit shapes axis left right
RefusesDims shapes OutOfMemory = Unit {0}
RefusesDims shapes e = ⊥
