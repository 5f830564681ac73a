-- Small plans are runnable.
use Rattle.std.proofs.Common.{ℕ, ◌+◌, ◌*◌, ◌≤◌, List, [], ◌∷◌, map, length, arith}
use Rattle.std.proofs.Math.Nat.{mul-le-mul}
use Rattle.std.specs.Prelude.{sum}
use Rattle.std.specs.List.{fold}
use Rattle.cluster_msgs.specs.declared.events.Item.{Item}
use Rattle.cluster_msgs.specs.declared.events.Item.TheVariants as item
use Rattle.node_states.specs.Order.{joins_of}

joins_at_most : (i : Item) → joins_of i ≤ 1
joins_at_most (item.Lose w at) = omega arith
joins_at_most (item.Suspect w at) = omega arith
joins_at_most (item.Join at) = omega arith

joins_from : (a : ℕ) (is : List Item) → fold ◌+◌ a (map joins_of is) ≤ a + length is
joins_from a [] = omega arith
joins_from a (i ∷ is) = omega (arith, joins_at_most i, joins_from (a + joins_of i) is)

-- no more workers join by a script than it has items
pub few_numbers : (workers : ℕ) (is : List Item) → workers ≤ 8 → length is ≤ 1000 → workers + sum (map joins_of is) ≤ 1024
few_numbers workers is few short = omega (arith, joins_from 0 is)

pub few_threads : (workers threads : ℕ) → workers ≤ 8 → threads ≤ 8 → workers * threads ≤ 64
few_threads workers threads a b = omega (arith, mul-le-mul a b)
