-- A world in which nothing names what isn't there, so that each event that is enabled can be handed to its core.
use Rattle.std.specs.Prelude.{◌≡◌, ℕ, true}
use Rattle.cluster_rules.specs.Worker.{has_any}
use Rattle.cluster_rules.specs.World.{World, shape_of, is_client}
use Rattle.cluster_rules.specs.Inside.{IsInsideWorld}

-- each key is one of the graph's, what is spilled is in memory, and messages wait only between the scheduler and clients that are there
pub record IsOrderly (w : World) : Type 0 where
  pub inside : IsInsideWorld (shape_of w) w
  pub spilled : (i k : ℕ) → w.spilled i k ≡ true → (w.workers i).mem k ≡ true
  pub to_client : (c : ℕ) → has_any (w.to_client c) ≡ true → is_client w c ≡ true
  pub from_client : (c : ℕ) → has_any (w.from_client c) ≡ true → is_client w c ≡ true
