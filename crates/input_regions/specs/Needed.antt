-- Which region of each node a region of one node needs.
use Rattle.std.specs.Prelude.{◌≡◌, ◌+◌, ◌≤◌, ◌⊎◌, ℕ, List, length, slice_get, slice_index_or, Option, Some, None}
use Rattle.nd_shape.specs.Region.{Box}
use Rattle.array_expr.specs.declared.expr.Node.{Node}
use Rattle.array_expr.specs.Node.{shape_at}
use Rattle.input_regions.specs.Boxes.{IsInBox, IsInRegion, IsLeast}
use Rattle.input_regions.specs.Uses.{Uses}

-- the region of node k, or none
abbrev pub region_at : List (Option Box) → ℕ → Option Box
region_at regions k = slice_index_or regions k None

-- the element of node k at j is used by an element that lies in the region of one of the nodes from this one on
pub record IsUsedFrom (nodes : List Node) (regions : List (Option Box)) (from : ℕ) (k : ℕ) (j : List ℕ) : Type 0 where
  pub user : ℕ
  pub later : from ≤ user
  pub node : Node
  pub is : slice_get nodes user ≡ Some node
  pub index : List ℕ
  pub inside : IsInRegion (region_at regions user) index
  pub uses : Uses node.op node.taken (shape_at nodes) index k j

-- the element of node k at j is asked for
abbrev pub IsAsked : ℕ → Box → ℕ → List ℕ → Type 0
IsAsked n box k j = (k ≡ n) × IsInBox box j

-- The regions that a region of node n needs, one for each node up to n: the least box that has what is asked for, and all
-- that the elements in the regions of later nodes use. So a region is the least one step by step, from node n down: it is
-- made of the regions of the nodes that use it, each whole. Since a node uses earlier ones alone, there is one such list.
pub record AreNeeded (nodes : List Node) (n : ℕ) (box : Box) (regions : List (Option Box)) : Type 0 where
  pub count : length regions ≡ n + 1
  pub each : (k : ℕ) → k ≤ n → IsLeast (λ j. IsAsked n box k j ⊎ IsUsedFrom nodes regions 0 k j) (region_at regions k)
