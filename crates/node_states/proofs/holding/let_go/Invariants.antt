use Rattle.node_states.specs.Stores.{GoesOn}
use Rattle.node_states.proofs.holding.let_go.Given as goal

abbrev pub invariant-loop-instruction : goal.invariant-loop-instruction
invariant-loop-instruction g l = GoesOn (g.S.BlockStore.stock l.initial.store) (g.S.BlockStore.stock l.store)
