-- What a store of blocks on a disk keeps, and what fits the label of a run there.
use Rattle.std.specs.Prelude.{◌≡◌, ℕ, is_some, IfSome, IsTrue, nat_eq}
use Rattle.std.specs.Map.{lookup}
use Rattle.nd_shape.specs.Block.{Array}
use Rattle.io_edge.specs.Disk.{DiskView}
use Rattle.cluster_msgs.specs.Labels.{LabelFacts, BlockFits}
use Rattle.spill_store.specs.Store.{Kept, block_at, is_spilled}
use Rattle.node_states.specs.Stores.{Stock}

-- The keys whose block is in memory or on the disk alone, those whose block the disk has taken since it was put, and those of blocks that went there
-- and that it didn't tell of.
abbrev pub stock_of : {D : Type 0} → Kept D → Stock
stock_of s = record { kept = λ q. is_some (block_at s q); aside = is_spilled s; news = s.news }

-- Blocks that come back from such a disk fit the label as those do that were put there: the label asks of a block what its shape tells, and where the
-- run is told the disk tells what it holds.
pub record IsDiskFor (facts : LabelFacts Array) (v : DiskView) : Type 0 where
  pub shape : (a b : Array) → b.shape ≡ a.shape → facts.block_dims b ≡ facts.block_dims a
  pub told : IsTrue facts.told → IsTrue v.tells

-- the block of each key, in memory or on the disk alone, fits the key
pub record AllFit {D : Type 0} (facts : LabelFacts Array) (s : Kept D) : Type 0 where
  pub each : (q : ℕ) → IfSome (block_at s q) (BlockFits facts q)

-- the block of each key in memory fits the key
pub record MemoryFits {D : Type 0} (facts : LabelFacts Array) (s : Kept D) : Type 0 where
  pub each : (q : ℕ) → IfSome (lookup (nat_eq q) s.memory) (λ h. BlockFits facts q h.array)

-- what is kept fits, and goes on doing so when it comes back
pub record IsStored {D : Type 0} (facts : LabelFacts Array) (view : D → DiskView) (s : Kept D) : Type 0 where
  pub fit : AllFit facts s
  pub disk : IfSome s.shelf (λ h. IsDiskFor facts (view h.disk))
