-- The plan of a run by words that can be followed.
use Rattle.std.proofs.Common.{◌≡◌, ◌+◌, List, [], ◌∷◌, map, refl, arith}
use Rattle.std.specs.Prelude.{sum}
use Rattle.small_facts.proofs.Lists.{fold_is_sum}
use Rattle.cluster_msgs.specs.Scripts.{removes_in, removes_of}
use Rattle.cluster_msgs.specs.declared.events.Item.{Item}
use Rattle.cluster_msgs.specs.declared.events.Item.TheVariants.{Lose, Suspect, Join}
use Rattle.node_states.specs.Order.{joins_of}
use Rattle.command_words.specs.Walks.{joins_in}

-- the items of a script that take a worker away, counted either way
pub removes-same : (items : List Item) → sum (map removes_of items) ≡ removes_in items
removes-same [] = refl
removes-same (Lose w at ∷ items) = omega (arith, fold_is_sum (0 + 1) (map removes_of items), removes-same items)
removes-same (Suspect w at ∷ items) = omega (arith, fold_is_sum (0 + 1) (map removes_of items), removes-same items)
removes-same (Join at ∷ items) = omega (arith, fold_is_sum (0 + 0) (map removes_of items), removes-same items)

-- the joins of a script, counted either way
pub joins-same : (items : List Item) → sum (map joins_of items) ≡ joins_in items
joins-same [] = refl
joins-same (Lose w at ∷ items) = omega (arith, fold_is_sum (0 + 0) (map joins_of items), joins-same items)
joins-same (Suspect w at ∷ items) = omega (arith, fold_is_sum (0 + 0) (map joins_of items), joins-same items)
joins-same (Join at ∷ items) = omega (arith, fold_is_sum (0 + 1) (map joins_of items), joins-same items)
