-- How the dependencies of a task stand under new numbers.
use Rattle.std.specs.Prelude.{◌≡◌, ℕ, eqb, List, [], map, get_or, length, ◌≤◌, ◌<◌, slice_index}
use Rattle.std.specs.List.{IsDistinct, range_with_len}
use Rattle.task_graph.specs.Orders.{ascending, position}

-- where the dependency at a place stands, once the new numbers ascend
abbrev pub place_now : List ℕ → ℕ → ℕ
place_now keys p = position (ascending keys) (get_or keys p 0)

-- what belongs to the dependencies, in their new order
abbrev pub shapes_now : List ℕ → List (List ℕ) → List (List ℕ)
shapes_now keys inputs = map (λ k. get_or inputs (position keys k) []) (ascending keys)

-- the new numbers in order, and for each its place before
pub record AreOrdered (keys deps sources : List ℕ) : Type 0 where
  pub once : IsDistinct eqb keys
  pub few : length keys ≤ 262144
  pub deps_are : deps ≡ ascending keys
  pub few_deps : length deps ≤ 262144
  pub rising : (i j : ℕ) → i < j → j < length deps → slice_index deps i < slice_index deps j
  pub sources_are : sources ≡ map (position keys) deps

-- each key beside its place
pub record ArePlaced (keys : List ℕ) (pairs : List (ℕ × ℕ)) : Type 0 where
  pub keys_are : map (λ (p : ℕ × ℕ). p.0) pairs ≡ keys
  pub places_are : map (λ (p : ℕ × ℕ). p.1) pairs ≡ range_with_len 0 (length keys)
