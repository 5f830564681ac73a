use Rattle.spill_store.proofs.Memories.{TakenOff}
use Rattle.spill_store.proofs.store.SpillStore.next_at.Given as goal

abbrev pub invariant-loop : goal.invariant-loop
invariant-loop g l = TakenOff l.self-inside.memory l.late
