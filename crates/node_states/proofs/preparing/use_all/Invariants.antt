use Rattle.node_states.specs.Stores.{GoesOn}
use Rattle.node_states.proofs.preparing.use_all.Given as goal

abbrev pub invariant-loop-key : goal.invariant-loop-key
invariant-loop-key g l = GoesOn (g.S.BlockStore.stock l.initial.store) (g.S.BlockStore.stock l.store)
