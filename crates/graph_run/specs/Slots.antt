-- The blocks that are kept of the keys that were run.
use Rattle.std.specs.Prelude.{◌≡◌, ◌<◌, ◌≤◌, ◌+◌, ◌⊎◌, ℕ, List, Option, Some, None, IsSome, length, slice_index, slice_index_or}
use Rattle.std.specs.Option.{option_map}
use Rattle.std.specs.Arc.{arc_value}
use Rattle.std.specs.declared.sync.Arc.{Arc}
use Rattle.std.specs.declared.alloc.Global.{Global}

-- the block of a key, if it is kept
abbrev pub block_at : {B : Type 0} → List (Option (Arc B Global)) → ℕ → Option B
block_at slots k = option_map arc_value (slice_index_or slots k None)

-- once the keys below the next one were run, blocks are kept of exactly those of them that have a later use
pub record AreKept {B : Type 0} (last : List ℕ) (next : ℕ) (slots : List (Option (Arc B Global))) : Type 0 where
  pub counted : length slots ≡ length last
  pub kept : (k : ℕ) → k < next → next ≤ slice_index last k → IsSome (block_at slots k)
  pub gone : (k : ℕ) → k < next → slice_index last k < next → block_at slots k ≡ None
  pub ahead : (k : ℕ) → next ≤ k → block_at slots k ≡ None

-- each block that is kept now was kept before, or is the new one of this key
pub record IsKeeping {B : Type 0} (last : List ℕ) (key : ℕ) (block : B) (old new : List (Option (Arc B Global))) : Type 0 where
  pub next : AreKept last (key + 1) new
  pub known : (k : ℕ) (b : B) → block_at new k ≡ Some b → (block_at old k ≡ Some b) ⊎ ((k ≡ key) × (b ≡ block))
