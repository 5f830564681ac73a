use Rattle.std.proofs.Common.{length, ap, arith}
use Rattle.spill_store.proofs.Bytes.{length-bytes}
use Rattle.spill_store.proofs.spilled.block_of.Goals as goal

pub new-requires : goal.new-requires
new-requires c = omega (arith, length-bytes c.in_ok-cells.cells.items, ap length c.in_ok-cells.ensures.bytes, c.requires)
