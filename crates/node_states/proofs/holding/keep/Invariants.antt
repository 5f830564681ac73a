use Rattle.node_states.specs.Stores.{GoesOn}
use Rattle.node_states.proofs.holding.keep.Given as goal

abbrev pub invariant-loop-keyed : goal.invariant-loop-keyed
invariant-loop-keyed g l = GoesOn (g.S.BlockStore.stock l.initial.store) (g.S.BlockStore.stock l.store)
