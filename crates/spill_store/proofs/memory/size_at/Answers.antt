use Rattle.std.proofs.Common.{sym, arith}
use Rattle.spill_store.proofs.Memories.{size_is_at, size_within}
use Rattle.spill_store.proofs.memory.size_at.Goals as goal

pub returns-in-Some-clause-within : goal.returns-in-Some-clause-within
returns-in-Some-clause-within c =
    omega (arith, c.size.ensures, size_is_at c.args.key c.in-Some.held.now c.args.blocks.now (sym c.in-Some.ensures), size_within c.args.key c.args.blocks.now)
