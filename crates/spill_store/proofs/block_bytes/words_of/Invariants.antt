use Rattle.std.proofs.Common.{◌≡◌, ◌<◌, ℕ, ℤ, take, map, FitsSigned, slice_index_or}
use Rattle.std.specs.Int.{w64}
use Rattle.spill_store.specs.Blocks.{cell_bytes}
use Rattle.spill_store.proofs.block_bytes.words_of.Given as goal

abbrev pub invariant-loop-cell : goal.invariant-loop-cell
invariant-loop-cell l = record {
  words : l.words.items ≡ map cell_bytes (take l.cell-index l.cells);
  fits : (k : ℕ) (d : ℤ) → k < l.cell-index → FitsSigned w64 (slice_index_or l.cells k d);
}
