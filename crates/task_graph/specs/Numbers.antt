-- New numbers of old keys.
use Rattle.std.specs.Prelude.{◌≡◌, ℕ, ◌<◌, ◌≤◌, eqb, cond, List, length, slice_index_or, Option, Some, None}
use Rattle.std.specs.List.{AllByRecursion, IsDistinct}
use Rattle.task_graph.specs.Orders.{is_in, position}

-- how many old keys there are, and those that are kept in the order of their new numbers
pub record Numbers : Type 0 where
  pub keys : ℕ
  pub order : List ℕ

-- the new number of an old key, or nothing where it isn't kept
abbrev pub number_of : List ℕ → ℕ → Option ℕ
number_of order k = cond (is_in order k) (Some (position order k)) None

-- each kept key once, and the new number of each old key
pub record AreNumbered (order : List ℕ) (places : List (Option ℕ)) : Type 0 where
  pub few : length places ≤ 32768
  pub each : (k : ℕ) → k < length places → slice_index_or places k None ≡ number_of order k
  pub below : AllByRecursion (λ k. k < length places) order
  pub once : IsDistinct eqb order

-- keys below a number, each once
pub record AreOnce (keys : ℕ) (order : List ℕ) : Type 0 where
  pub below : AllByRecursion (λ k. k < keys) order
  pub once : IsDistinct eqb order
