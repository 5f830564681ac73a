use Rattle.std.proofs.Common.{◌≡◌, ℕ, suc, ◌≤◌, take, get_or, length}
use Rattle.nd_shape.specs.Chunk.{total}
use Rattle.chunk_layout.proofs.cuts.starts_of.Given as goal

abbrev pub invariant-loop-size : goal.invariant-loop-size
invariant-loop-size l = record {
  end_is : l.end ≡ total (take l.size-index l.sizes);
  count : length l.starts.items ≡ suc l.size-index;
  at : (k : ℕ) → k ≤ l.size-index → get_or l.starts.items k 0 ≡ total (take k l.sizes);
}
