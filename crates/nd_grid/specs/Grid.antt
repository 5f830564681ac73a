-- Grids: a shape and what stands at each index, or nothing. Each operation on arrays is one
-- function from grids to a grid, by NumPy's and Dask's pages on it; whole arrays and blocks of them are compared by it.
use Rattle.std.specs.Prelude.{◌≡◌, ℕ, zero, suc, ◌+◌, ◌-◌, ◌<◌, Bool, true, cond, nat_eq, nat_lt, List, [], ◌∷◌, ◌++◌, length, drop, get_or, map, ℤ, pos, ◌+ℤ◌, ◌*ℤ◌, slice_set, Contains}
use Rattle.std.specs.Prelude.{Option, Some, None}
use Rattle.std.specs.Prelude.{Result, Ok, Err}
use Rattle.std.specs.List.{list_any, position_or_len, range_with_len}
use Rattle.nd_grid.specs.declared.operation.Binary.{Binary}
use Rattle.nd_grid.specs.declared.operation.Binary.TheVariants.{Mul}
use Rattle.nd_grid.specs.declared.operation.Fold.{Fold}
use Rattle.nd_grid.specs.declared.operation.Fold.TheVariants.{Sum}
use Rattle.nd_shape.specs.declared.slice.Steps.{Steps}
use Rattle.nd_grid.specs.Int64.{wrap}
use Rattle.nd_shape.specs.Shape.{elements}
use Rattle.nd_shape.specs.Index.{place, index_at, IsIn}
use Rattle.nd_shape.specs.Block.{Array}
use Rattle.nd_shape.specs.Region.{Box, moved}
use Rattle.nd_shape.specs.Slice.{coordinate, StepsFitAxis}
use Rattle.nd_shape.specs.Broadcast.{broadcast}
use Rattle.nd_grid.specs.Operation.{combine, pick_all, negated_element, folded}

pub record Grid : Type 0 where
  pub shape : List ℕ
  pub at : List ℕ → Option ℤ

-- what a block holds
abbrev pub grid_of : Array → Grid
grid_of a = record { shape = a.shape; at = λ i. Some (get_or a.cells (place a.shape i) (pos 0)) }

-- ---- a grid as a block

-- one more cell, or the place where there is none
abbrev pub with_cell : ℕ → List ℤ → Option ℤ → Result (List ℤ) ℕ
with_cell p xs None = Err p
with_cell p xs (Some x) = Ok (xs ++ x ∷ [])

abbrev pub then_cell : ℕ → Result (List ℤ) ℕ → Option ℤ → Result (List ℤ) ℕ
then_cell p (Err q) x = Err q
then_cell p (Ok xs) x = with_cell p xs x

-- the first n cells, or the first place that has none
unfoldable pub cells_up_to : (ℕ → Option ℤ) → ℕ → Result (List ℤ) ℕ
cells_up_to f zero = Ok []
cells_up_to f (suc n) = then_cell n (cells_up_to f n) (f n)

abbrev pub as_array : List ℕ → Result (List ℤ) ℕ → Result Array ℕ
as_array ns (Ok xs) = Ok (record { shape = ns; cells = xs })
as_array ns (Err p) = Err p

-- the block, or the first place in row-major order at which nothing stands
abbrev pub block_of : Grid → Result Array ℕ
block_of g = as_array g.shape (cells_up_to (λ p. g.at (index_at g.shape p)) (elements g.shape))

-- ---- element by element

abbrev pub under_along : List ℕ → List ℕ → List ℕ
under_along [] is = []
under_along (n ∷ ns) [] = []
under_along (n ∷ ns) (i ∷ is) = cond (nat_eq n 1) 0 i ∷ under_along ns is

-- the index in a shape that stands under an index of the shape that it is broadcast to
abbrev pub under : List ℕ → List ℕ → List ℕ
under ns is = under_along ns (drop (length is - length ns) is)

abbrev pub elementwise : Binary → Grid → Grid → Grid
elementwise op g h = record {
  shape = broadcast (g.shape ∷ h.shape ∷ []);
  at = λ i. combine op (g.at (under g.shape i)) (h.at (under h.shape i));
}

-- the second where the first isn't 0, else the third; all three are broadcast at once
abbrev pub chosen : Grid → Grid → Grid → Grid
chosen c g h = record {
  shape = broadcast (c.shape ∷ g.shape ∷ h.shape ∷ []);
  at = λ i. pick_all (c.at (under c.shape i)) (g.at (under g.shape i)) (h.at (under h.shape i));
}

abbrev pub negated : Grid → Grid
negated g = record { shape = g.shape; at = λ i. negated_element (g.at i) }

-- ---- slices and axes

abbrev pub is_among : ℕ → List ℕ → Bool
is_among k ks = list_any (nat_eq k) ks

-- from axis k on: what a slice leaves of the axes, and the operand's index under an index of the slice
abbrev pub sliced_shape : ℕ → List Steps → List ℕ → List ℕ
sliced_shape k [] dropped = []
sliced_shape k (s ∷ ss) dropped = cond (is_among k dropped) (sliced_shape (suc k) ss dropped) (s.count ∷ sliced_shape (suc k) ss dropped)

abbrev pub sliced_from : ℕ → List Steps → List ℕ → List ℕ → List ℕ
sliced_from k [] dropped is = []
sliced_from k (s ∷ ss) dropped is =
    cond (is_among k dropped) (s.start ∷ sliced_from (suc k) ss dropped is) (coordinate s (get_or is 0 0) ∷ sliced_from (suc k) ss dropped (drop 1 is))

-- an axis that an index was given for is dropped
abbrev pub sliced : List Steps → List ℕ → Grid → Grid
sliced steps dropped g = record { shape = sliced_shape 0 steps dropped; at = λ i. g.at (sliced_from 0 steps dropped i) }

-- the operand's index behind an index of the transpose
abbrev pub turned : List ℕ → List ℕ → List ℕ
turned axes i = map (λ a. get_or i (position_or_len (nat_eq a) axes) 0) (range_with_len 0 (length axes))

-- result axis k is the operand's axis k of the list
abbrev pub transposed : List ℕ → Grid → Grid
transposed axes g = record { shape = map (λ a. get_or g.shape a 0) axes; at = λ i. g.at (turned axes i) }

-- the list has each axis once
pub record IsTranspose (axes : List ℕ) (n : ℕ) : Type 0 where
  pub number : length axes ≡ n
  pub each : (a : ℕ) → a < n → Contains axes a

-- one after another along an axis
abbrev pub length_along : ℕ → List Grid → ℕ
length_along axis [] = 0
length_along axis (g ∷ gs) = get_or g.shape axis 0 + length_along axis gs

abbrev pub at_along : ℕ → List Grid → List ℕ → Option ℤ
at_along axis [] i = None
at_along axis (g ∷ gs) i =
    cond (nat_lt (get_or i axis 0) (get_or g.shape axis 0)) (g.at i) (at_along axis gs (slice_set i axis (get_or i axis 0 - get_or g.shape axis 0)))

abbrev pub first_shape : List Grid → List ℕ
first_shape [] = []
first_shape (g ∷ gs) = g.shape

abbrev pub concatenated : ℕ → List Grid → Grid
concatenated axis gs = record { shape = slice_set (first_shape gs) axis (length_along axis gs); at = at_along axis gs }

-- ---- reductions and products

-- from axis k on: the lengths of the axes that stay, of those that are folded, and the index made of one of each
abbrev pub kept_shape : ℕ → List ℕ → List ℕ → List ℕ
kept_shape k [] axes = []
kept_shape k (n ∷ ns) axes = cond (is_among k axes) (kept_shape (suc k) ns axes) (n ∷ kept_shape (suc k) ns axes)

abbrev pub folded_shape : ℕ → List ℕ → List ℕ → List ℕ
folded_shape k [] axes = []
folded_shape k (n ∷ ns) axes = cond (is_among k axes) (n ∷ folded_shape (suc k) ns axes) (folded_shape (suc k) ns axes)

abbrev pub merged : ℕ → List ℕ → List ℕ → List ℕ → List ℕ → List ℕ
merged k [] axes is rs = []
merged k (n ∷ ns) axes is rs =
    cond (is_among k axes) (get_or rs 0 0 ∷ merged (suc k) ns axes is (drop 1 rs)) (get_or is 0 0 ∷ merged (suc k) ns axes (drop 1 is) rs)

-- the elements along the listed axes are folded into one, in row-major order
abbrev pub reduced : Fold → List ℕ → Grid → Grid
reduced fold axes g = let box = folded_shape 0 g.shape axes in record {
  shape = kept_shape 0 g.shape axes;
  at = λ i. folded fold (map (λ p. g.at (merged 0 g.shape axes i (index_at box p))) (range_with_len 0 (elements box)));
}

-- from axis k on: the index whose coordinates on the listed axes are those of `rs`, in the order of the list, and
-- whose other coordinates are those of `is`
abbrev pub woven : ℕ → List ℕ → List ℕ → List ℕ → List ℕ → List ℕ
woven k [] axes is rs = []
woven k (n ∷ ns) axes is rs =
    cond (is_among k axes) (get_or rs (position_or_len (nat_eq k) axes) 0 ∷ woven (suc k) ns axes is rs) (get_or is 0 0 ∷ woven (suc k) ns axes (drop 1 is) rs)

-- the products over paired axes are summed; the axes that are left are those of the first, then of the second
abbrev pub contracted : List ℕ → List ℕ → Grid → Grid → Grid
contracted left_axes right_axes g h =
    let left = kept_shape 0 g.shape left_axes in
    let box = map (λ a. get_or g.shape a 0) left_axes in
    record {
      shape = left ++ kept_shape 0 h.shape right_axes;
      at = λ i. folded Sum (map (λ p. combine Mul (g.at (woven 0 g.shape left_axes i (index_at box p))) (h.at (woven 0 h.shape right_axes (drop (length left) i) (index_at box p)))) (range_with_len 0 (elements box)));
    }

-- ---- arrays without operands

-- one value everywhere
abbrev pub filled : List ℕ → ℤ → Grid
filled ns v = record { shape = ns; at = λ i. Some v }

-- b + s * p at the place p
abbrev pub ramp : List ℕ → ℤ → ℤ → Grid
ramp ns b s = record { shape = ns; at = λ i. Some (wrap (b +ℤ (s *ℤ pos (place ns i)))) }

-- ---- what slices ask

-- one Steps per axis, whose indexes lie in that axis; a dropped axis has one
abbrev pub SlicesFit : ℕ → List Steps → List ℕ → List ℕ → Type 0
SlicesFit k [] [] dropped = Unit {0}
SlicesFit k [] (n ∷ ns) dropped = ⊥
SlicesFit k (s ∷ ss) [] dropped = ⊥
SlicesFit k (s ∷ ss) (n ∷ ns) dropped = StepsFitAxis s n × (is_among k dropped ≡ true → s.count ≡ 1) × SlicesFit (suc k) ss ns dropped

-- ---- parts

-- what lies in a box
abbrev pub part : Box → Grid → Grid
part box g = record { shape = box.lengths; at = λ i. g.at (moved box.start i) }

-- the first holds what the second has in the box
pub record Holds (block whole : Grid) (box : Box) : Type 0 where
  pub shape : block.shape ≡ box.lengths
  pub at : (i : List ℕ) → IsIn box.lengths i → block.at i ≡ whole.at (moved box.start i)
