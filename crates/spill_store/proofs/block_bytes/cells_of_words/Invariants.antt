use Rattle.std.proofs.Common.{◌≡◌, take, map, All, FitsSigned}
use Rattle.std.specs.Int.{w64}
use Rattle.spill_store.specs.Blocks.{cell_bytes}
use Rattle.spill_store.proofs.block_bytes.cells_of_words.Given as goal

abbrev pub invariant-loop-word : goal.invariant-loop-word
invariant-loop-word l = record {
  words : map cell_bytes l.cells.items ≡ take l.word-index l.words;
  fits : All (FitsSigned w64) l.cells.items;
}
