use Rattle.std.proofs.Common.{◌≡◌, length}
use Rattle.chunk_layout.proofs.Taking.{EachTakes}
use Rattle.block_table.proofs.layouts.parts.Given as goal

abbrev pub invariant-loop-cuts : goal.invariant-loop-cuts
invariant-loop-cuts l = record {
  count : length l.list.items ≡ l.cuts-index;
  each : EachTakes l.axes l.list.items;
}
