-- The blocks that a disk has taken.
use Rattle.std.specs.Prelude.{◌≡◌, ◌≤◌, ℕ, nat_eq, List, Some, None, IfSome, IsTrue, false}
use Rattle.std.specs.Map.{lookup}
use Rattle.io_edge.specs.Cause.{Rose}
use Rattle.nd_shape.specs.Block.{Array}
use Rattle.io_edge.specs.Disk.{DiskView, HoldsAt}
use Rattle.spill_store.specs.Table.{ChangesAt}
use Rattle.spill_store.specs.Blocks.{block_bytes, DiffersByDigest, DiffersByLength, IsAlike}
use Rattle.spill_store.specs.declared.shelf.Taken.{Taken}
use Rattle.spill_store.specs.declared.shelf.Taken.TheVariants.{Yes, Refused, OutOfMemory}
use Rattle.spill_store.specs.declared.shelf.Fetched.{Fetched}
use Rattle.spill_store.specs.declared.shelf.Fetched.TheVariants.{Found, Absent, Lost}
use Rattle.spill_store.specs.declared.lost.LostBy.{LostBy}
use Rattle.spill_store.specs.declared.lost.LostBy.TheVariants.{Fault, Length, Digest}

-- a disk, and the blocks that it has taken and that are nowhere else
pub record Shelved (D : Type 0) : Type 0 where
  pub disk : D
  pub away : List (ℕ × Array)

-- each of these blocks is on the disk, where that tells what it holds
pub record AreThere (v : DiskView) (away : List (ℕ × Array)) : Type 0 where
  pub told : (k : ℕ) → IfSome (lookup (nat_eq k) away) (λ a. HoldsAt v k (block_bytes a))

-- the block that came back for this one
pub record ComesBack (v : DiskView) (a b : Array) : Type 0 where
  pub alike : IsAlike a b
  pub told : IsTrue v.tells → b ≡ a

-- why a block is lost, by a call that found the disk so and left it so
abbrev pub LosesBy : DiskView → DiskView → Array → LostBy → Type 0
LosesBy old new a Fault = Rose old.faults new.faults
LosesBy old new a (Length has needs) = DiffersByLength a has needs × (old.tells ≡ false)
LosesBy old new a (Digest kept found) = ((bytes : List ℕ) × DiffersByDigest a bytes kept found) × (old.tells ≡ false)

-- the disk tells what it told, and its faults don't fall
pub record Turns (old new : DiskView) : Type 0 where
  pub tells : new.tells ≡ old.tells
  pub later : old.faults ≤ new.faults

-- what came of putting a block on the disk
abbrev pub TakesBlock : {D : Type 0} → (D → DiskView) → ℕ → Array → Shelved D → Shelved D → Taken → Type 0
TakesBlock view key a old new Yes = ChangesAt key (Some a) old.away new.away × ((view new.disk).faults ≡ (view old.disk).faults)
TakesBlock view key a old new Refused = ChangesAt key None old.away new.away × Rose (view old.disk).faults (view new.disk).faults
TakesBlock view key a old new OutOfMemory = (new.away ≡ old.away) × ((view new.disk).faults ≡ (view old.disk).faults)

-- the block of a key that came from the disk
pub record FetchesBlock {D : Type 0} (view : D → DiskView) (key : ℕ) (b : Array) (old : Shelved D) : Type 0 where
  pub array : Array
  pub was : lookup (nat_eq key) old.away ≡ Some array
  pub comes : ComesBack (view old.disk) array b

-- the block of a key that didn't
pub record LosesBlock {D : Type 0} (view : D → DiskView) (key : ℕ) (by : LostBy) (old new : Shelved D) : Type 0 where
  pub array : Array
  pub was : lookup (nat_eq key) old.away ≡ Some array
  pub lost : LosesBy (view old.disk) (view new.disk) array by

-- what came of reading a block from the disk
abbrev pub Fetches : {D : Type 0} → (D → DiskView) → ℕ → Shelved D → Shelved D → Fetched → Type 0
Fetches view key old new (Found b) = FetchesBlock view key b old
Fetches view key old new Absent = lookup (nat_eq key) old.away ≡ None
Fetches view key old new (Lost by) = LosesBlock view key by old new
