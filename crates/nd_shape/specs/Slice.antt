-- Slices of one axis, in the words of NumPy's page on basic slicing and of Python's page on sequence types.
use Rattle.std.specs.Prelude.{◌≡◌, ◌≢◌, ℕ, ◌<◌, ◌≤◌, ℤ, pos, negsuc, ◌+ℤ◌, ◌-ℤ◌, ◌*ℤ◌, ◌<ℤ◌, ◌≤ℤ◌, unsigned_abs, ◌⊎◌, Option, Some, None, unwrap_or}
use Rattle.std.specs.Int.{int_min, int_max}
use Rattle.nd_shape.specs.declared.slice.Part.{Part}
use Rattle.nd_shape.specs.declared.slice.Part.TheVariants.{At, Range}
use Rattle.nd_shape.specs.declared.slice.Steps.{Steps}
use Rattle.nd_shape.specs.declared.error.ShapeError.{ShapeError}
use Rattle.nd_shape.specs.declared.error.ShapeError.TheVariants.{BadIndex, ZeroStep}

-- an index below 0 counts from the end
abbrev pub from_end : ℕ → ℤ → ℤ
from_end n (pos i) = pos i
from_end n (negsuc i) = pos n +ℤ negsuc i

-- held to two bounds
abbrev pub clipped : ℤ → ℤ → ℤ → ℤ
clipped low high i = int_min high (int_max low i)

-- what a range may begin and end with: 0 to n where the step goes on, and -1 to n - 1 where it goes back
abbrev pub lowest : ℤ → ℤ
lowest (pos k) = pos 0
lowest (negsuc k) = negsuc 0

abbrev pub highest : ℕ → ℤ → ℤ
highest n (pos k) = pos n
highest n (negsuc k) = pos n -ℤ pos 1

-- where a range begins and ends; what is left out goes by the sign of the step
abbrev pub first_index : ℕ → ℤ → Option ℤ → ℤ
first_index n step (Some i) = clipped (lowest step) (highest n step) (from_end n i)
first_index n (pos k) None = pos 0
first_index n (negsuc k) None = pos n -ℤ pos 1

abbrev pub end_index : ℕ → ℤ → Option ℤ → ℤ
end_index n step (Some i) = clipped (lowest step) (highest n step) (from_end n i)
end_index n (pos k) None = pos n
end_index n (negsuc k) None = negsuc 0

-- a range that goes by this step hasn't reached its end yet
abbrev pub IsBefore : ℤ → ℤ → ℤ → Type 0
IsBefore (pos k) i end = i <ℤ end
IsBefore (negsuc k) i end = end <ℤ i

-- the elements of Python's range(first, end, step): first, first + step, .. for as long as the end isn't reached
pub record IsRange (first end step : ℤ) (steps : Steps) : Type 0 where
  pub step_is : steps.step ≡ step
  pub taken : (t : ℕ) → t < steps.count → IsBefore step (first +ℤ (step *ℤ pos t)) end
  pub ended : ¬ IsBefore step (first +ℤ (step *ℤ pos steps.count)) end
  pub start_is : 0 < steps.count → pos steps.start ≡ first
  pub empty : steps.count ≡ 0 → steps.start ≡ 0

-- one element
pub record IsIndex (n : ℕ) (i : ℤ) (steps : Steps) : Type 0 where
  pub inside : steps.start < n
  pub start_is : pos steps.start ≡ from_end n i
  pub step_is : steps.step ≡ pos 1
  pub count_is : steps.count ≡ 1

-- what a part takes of an axis of n
abbrev pub Resolves : ℕ → Part → Steps → Type 0
Resolves n (At i) steps = IsIndex n i steps
Resolves n (Range start stop step) steps =
    let k = unwrap_or step (pos 1) in (k ≢ pos 0) × IsRange (first_index n k start) (end_index n k stop) k steps

-- what Python refuses: an index that isn't there, and a step of 0
abbrev pub RefusesPart : ℕ → Part → ShapeError → Type 0
RefusesPart n (At i) (BadIndex index len) = (index ≡ i) × (len ≡ n) × ((from_end n i <ℤ pos 0) ⊎ (pos n ≤ℤ from_end n i))
RefusesPart n (Range start stop step) ZeroStep = step ≡ Some (pos 0)
RefusesPart n part e = ⊥

-- ---- the indexes

-- the index of the axis at place i of the slice
abbrev pub position : Steps → ℕ → ℤ
position steps i = pos steps.start +ℤ (steps.step *ℤ pos i)

abbrev pub coordinate : Steps → ℕ → ℕ
coordinate steps i = unsigned_abs (position steps i)

-- each index that a slice takes lies in the axis
pub record StepsFitAxis (steps : Steps) (n : ℕ) : Type 0 where
  pub low : (i : ℕ) → i < steps.count → pos 0 ≤ℤ position steps i
  pub high : (i : ℕ) → i < steps.count → position steps i <ℤ pos n
