-- Regions that are widened by what elements use: what the private functions answer.
use Rattle.std.specs.Prelude.{◌≡◌, ◌+◌, ◌-◌, ◌<◌, ◌≤◌, ◌^◌, ◌⊎◌, ℕ, suc, min, max, List, [], ◌∷◌, length, map, All, slice_index, slice_get, get_or, drop, Bool, cond, Option, Some, None}
use Rattle.nd_shape.specs.Region.{Box, IsPart}
use Rattle.nd_shape.specs.Index.{IsIn}
use Rattle.nd_grid.specs.Grid.{is_among}
use Rattle.array_expr.specs.declared.expr.Node.{Node}
use Rattle.array_expr.specs.Node.{IsExpression, AreJoinable, joined, length_on_axis, shape_at}
use Rattle.input_regions.specs.Boxes.{IsInRegion, IsLeast}
use Rattle.input_regions.specs.Needed.{region_at}
use Rattle.input_regions.specs.Uses.{Uses}

-- each region is now the least box that has what it had and these indexes of its node
pub record Widens (Q : ℕ → List ℕ → Type 0) (old new : List (Option Box)) : Type 0 where
  pub count : length new ≡ length old
  pub each : (k : ℕ) → k < length old → IsLeast (λ j. IsInRegion (region_at old k) j ⊎ Q k j) (region_at new k)

-- a box with elements, whose indexes are small
pub record IsFull (box : Box) : Type 0 where
  pub sides : length box.lengths ≡ length box.start
  pub filled : (a : ℕ) → a < length box.start → 0 < slice_index box.lengths a
  pub ends : (a : ℕ) → a < length box.start → slice_index box.start a + slice_index box.lengths a ≤ 2 ^ 31

-- the boxes that there are have elements
pub record AreFull (regions : List (Option Box)) : Type 0 where
  pub each : (k : ℕ) (box : Box) → region_at regions k ≡ Some box → IsFull box

-- an index with as many axes as the box that there is, each coordinate small
pub record CanHave (region : Option Box) (i : List ℕ) : Type 0 where
  pub few : length i ≤ 8
  pub small : (a : ℕ) → a < length i → slice_index i a < 2 ^ 31
  pub axes : (box : Box) → region ≡ Some box → length box.start ≡ length i

-- a part with elements of an array, if there is one
pub record IsFilledPart (dims : List ℕ) (box : Box) : Type 0 where
  pub part : IsPart box dims
  pub filled : (a : ℕ) → a < length dims → 0 < slice_index box.lengths a

-- the regions that there are are parts of their nodes' arrays, and have elements
pub record AreFit (nodes : List Node) (regions : List (Option Box)) : Type 0 where
  pub each : (k : ℕ) (box : Box) → region_at regions k ≡ Some box → IsFilledPart (shape_at nodes k) box

-- one of two indexes of a node
abbrev pub IsEither : ℕ → List ℕ → List ℕ → ℕ → List ℕ → Type 0
IsEither of first last k j = (k ≡ of) × ((j ≡ first) ⊎ (j ≡ last))

-- each coordinate of an index is from that of a first one to that of a last one
abbrev pub IsFromTo : List ℕ → List ℕ → List ℕ → Type 0
IsFromTo [] [] [] = Unit {0}
IsFromTo [] [] (i ∷ is) = ⊥
IsFromTo [] (b ∷ bs) is = ⊥
IsFromTo (a ∷ ps) [] is = ⊥
IsFromTo (a ∷ ps) (b ∷ bs) [] = ⊥
IsFromTo (a ∷ ps) (b ∷ bs) (i ∷ is) = (a ≤ i) × (i ≤ b) × IsFromTo ps bs is

-- an element of node k is used by one whose index is from a first one to a last one
pub record IsUsed (first last : List ℕ) (uses : List ℕ → ℕ → List ℕ → Type 0) (k : ℕ) (j : List ℕ) : Type 0 where
  pub index : List ℕ
  pub inside : IsFromTo first last index
  pub is : uses index k j

-- from axis k on: the first or the last index of all along the listed axes, whose other coordinates are those of `is`
abbrev pub end_along : ℕ → List ℕ → List ℕ → List ℕ → Bool → List ℕ
end_along k [] axes is last = []
end_along k (n ∷ ns) axes is last =
    cond (is_among k axes) (cond last (n - 1) 0 ∷ end_along (suc k) ns axes is last) (get_or is 0 0 ∷ end_along (suc k) ns axes (drop 1 is) last)

-- a box that reaches to an index too, axis by axis
pub record Reaches (old : Box) (i : List ℕ) (new : Box) : Type 0 where
  pub starts : length new.start ≡ length i
  pub lengths : length new.lengths ≡ length i
  pub start : (a : ℕ) → a < length i → slice_index new.start a ≡ min (slice_index old.start a) (slice_index i a)
  pub end : (a : ℕ) → a < length i → slice_index new.start a + slice_index new.lengths a ≡ max (slice_index old.start a + slice_index old.lengths a) (slice_index i a + 1)

-- elements of an operand can be asked for
pub record CanAsk (nodes : List Node) (regions : List (Option Box)) (of : ℕ) : Type 0 where
  pub sound : IsExpression nodes
  pub there : of < length nodes
  pub room : of < length regions
  pub fit : AreFit nodes regions

-- elements of operands can be asked for
pub record CanAskAll (nodes : List Node) (regions : List (Option Box)) (of : List ℕ) : Type 0 where
  pub sound : IsExpression nodes
  pub there : All (λ k. k < length nodes) of
  pub room : All (λ k. k < length regions) of
  pub fit : AreFit nodes regions

-- the indexes from a first one to a last one lie in a concatenation, which is no longer than an axis may be
pub record IsJoinedRange (nodes : List Node) (of : List ℕ) (axis : ℕ) (first last : List ℕ) : Type 0 where
  pub joinable : AreJoinable (map (shape_at nodes) of) axis
  pub limit : length_on_axis axis (map (shape_at nodes) of) ≤ 2 ^ 31
  pub some : 0 < length of
  pub inside : (i : List ℕ) → IsFromTo first last i → IsIn (joined (map (shape_at nodes) of) axis) i

-- the regions are widened by what the elements of node k from a first to a last index use
pub record AsksOperands (nodes : List Node) (k : ℕ) (first last : List ℕ) (old new : List (Option Box)) : Type 0 where
  pub each : (node : Node) → slice_get nodes k ≡ Some node → Widens (IsUsed first last (Uses node.op node.taken (shape_at nodes))) old new

-- an element is used by one in the region of node k
pub record IsUsedBy (nodes : List Node) (region : Option Box) (node : Node) (k : ℕ) (j : List ℕ) : Type 0 where
  pub index : List ℕ
  pub inside : IsInRegion region index
  pub uses : Uses node.op node.taken (shape_at nodes) index k j

-- the regions are widened by what the region of node k uses
pub record AsksNode (nodes : List Node) (k : ℕ) (old new : List (Option Box)) : Type 0 where
  pub each : (node : Node) → slice_get nodes k ≡ Some node → Widens (IsUsedBy nodes (region_at old k) node) old new

-- the last index of a box
pub record IsLastOf (box : Box) (last : List ℕ) : Type 0 where
  pub axes : length last ≡ length box.start
  pub each : (a : ℕ) → a < length box.start → slice_index last a + 1 ≡ slice_index box.start a + slice_index box.lengths a

-- nothing of a box without elements
pub record IsAskedOf (box : Box) (region : Option Box) : Type 0 where
  pub empty : (a : ℕ) → a < length box.lengths → slice_index box.lengths a ≡ 0 → region ≡ None
  pub filled : ((a : ℕ) → a < length box.lengths → slice_index box.lengths a ≡ 0 → ⊥) → region ≡ Some box

-- no regions but the last of so many, which is what is asked for if that has elements
pub record IsWhatIsAsked (count : ℕ) (box : Box) (regions : List (Option Box)) : Type 0 where
  pub number : length regions ≡ count
  pub others : (k : ℕ) → k + 1 < count → region_at regions k ≡ None
  pub last : (k : ℕ) → k + 1 ≡ count → IsAskedOf box (region_at regions k)
