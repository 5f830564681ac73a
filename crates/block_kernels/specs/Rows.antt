-- Rows: what the last axes of an array hold, for one index of its first axes.
use Rattle.std.specs.Prelude.{◌≡◌, ◌≢◌, ℕ, ◌+◌, ◌-◌, ◌*◌, ◌^◌, ◌<◌, ◌≤◌, ◌⊎◌, Bool, cond, List, length, take, drop, get_or, Option, Some, None, ℤ, pos}
use Rattle.nd_shape.specs.Shape.{elements}
use Rattle.nd_shape.specs.Index.{index_at}
use Rattle.nd_grid.specs.Grid.{Grid}
use Rattle.nd_grid.specs.Operation.{apply}
use Rattle.nd_grid.specs.declared.operation.Binary.{Binary}
use Rattle.nd_grid.specs.declared.formula.Fail.{Fail}
use Rattle.nd_grid.specs.declared.formula.Fail.TheVariants.{ZeroDivide, OutOfMemory}

-- the last axes, so many or all
abbrev pub tail : ℕ → List ℕ → List ℕ
tail n ns = drop (length ns - n) ns

-- what stands at a place
abbrev pub at_place : Grid → ℕ → Option ℤ
at_place g p = g.at (index_at g.shape p)

-- the list has what stands at the places from the first on, so many
pub record Fills (g : Grid) (first n : ℕ) (xs : List ℤ) : Type 0 where
  pub each : (r : ℕ) → r < n → at_place g (first + r) ≡ Some (get_or xs r (pos 0))

-- the place is the first, from this one on, at which nothing stands
pub record Misses (g : Grid) (first n z : ℕ) : Type 0 where
  pub inside : z < n
  pub here : at_place g (first + z) ≡ None
  pub before : (r : ℕ) → r < z → at_place g (first + r) ≢ None

-- the same of all places
pub record FillsAll (g : Grid) (n : ℕ) (xs : List ℤ) : Type 0 where
  pub each : (p : ℕ) → p < n → at_place g p ≡ Some (get_or xs p (pos 0))

pub record MissesFirst (g : Grid) (n z : ℕ) : Type 0 where
  pub inside : z < n
  pub here : at_place g z ≡ None
  pub before : (p : ℕ) → p < z → at_place g p ≢ None

-- the number of rows, where the rows go along all but the first k axes, and their length
abbrev pub row_count : List ℕ → ℕ → ℕ
row_count ns k = elements (take k ns)

abbrev pub row_length : List ℕ → ℕ → ℕ
row_length ns k = elements (drop k ns)

-- so many rows, and their length, of a shape with elements
pub record AreRows (ns : List ℕ) (k rows run : ℕ) : Type 0 where
  pub rows_is : rows ≡ row_count ns k
  pub run_is : run ≡ row_length ns k
  pub some : 0 < run
  pub all : rows * run ≡ elements ns
  pub small : rows * run ≤ 2 ^ 31

-- why not all of the first n elements are there
abbrev pub FailsWithin : Grid → ℕ → Fail → Type 0
FailsWithin g n (ZeroDivide z) = MissesFirst g n z
FailsWithin g n OutOfMemory = Unit {0}

-- why there is no block
abbrev pub FailsFirst : Grid → Fail → Type 0
FailsFirst g e = FailsWithin g (elements g.shape) e

-- ---- rows of operands

-- the element r of a row, or the one element that stands for all
abbrev pub item : List ℤ → Bool → ℕ → ℤ
item xs single r = get_or xs (cond single 0 r) (pos 0)

-- along the last axes an operand is as long as the result, or has one element
abbrev pub FitsRun : List ℕ → List ℕ → ℕ → Type 0
FitsRun ns bs k = (elements (tail (length bs - k) ns) ≡ 1) ⊎ (tail (length bs - k) ns ≡ drop k bs)

-- the row has an element for each number below n
abbrev pub HoldsItems : List ℤ → Bool → ℕ → Type 0
HoldsItems xs single n = cond single 1 n ≤ length xs

-- the operation on two rows, element by element
pub record Applied (op : Binary) (xs : List ℤ) (single : Bool) (ys : List ℤ) (single' : Bool) (out : List ℤ) : Type 0 where
  pub each : (i : ℕ) → i < length out → apply op (item xs single i) (item ys single' i) ≡ Some (get_or out i (pos 0))

-- it leaves nothing at this place first
pub record Refused (op : Binary) (xs : List ℤ) (single : Bool) (ys : List ℤ) (single' : Bool) (n z : ℕ) : Type 0 where
  pub inside : z < n
  pub here : apply op (item xs single z) (item ys single' z) ≡ None
  pub before : (i : ℕ) → i < z → apply op (item xs single i) (item ys single' i) ≢ None
