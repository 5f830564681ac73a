use Rattle.std.proofs.Common.{length}
use Rattle.spill_store.proofs.Bytes.{Fed}
use Rattle.spill_store.proofs.block_bytes.digest_of.Given as goal

abbrev pub invariant-loop-rest : goal.invariant-loop-rest
invariant-loop-rest l = Fed l.cells l.rest l.hasher

abbrev pub decreases-loop-rest : goal.decreases-loop-rest
decreases-loop-rest l = length l.rest
