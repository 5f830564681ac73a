-- Blocks as bytes, and what comes of the bytes that a disk gives for a block.
use Rattle.std.specs.Prelude.{◌≡◌, ◌≢◌, ◌*◌, ℕ, ℤ, List, length, All, FitsSigned}
use Rattle.std.specs.Int.{w64, cast_unsigned, to_le_bytes}
use Rattle.std.specs.List.{flat_map}
use Rattle.sha2.specs.Sha512.{sha512_256}
use Rattle.nd_shape.specs.Block.{Array}
use Rattle.nd_shape.specs.Shape.{elements}
use Rattle.spill_store.specs.declared.lost.LostBy.{LostBy}
use Rattle.spill_store.specs.declared.lost.LostBy.TheVariants.{Fault, Length, Digest}

-- an element as eight bytes, the lowest first
abbrev pub cell_bytes : ℤ → List ℕ
cell_bytes z = to_le_bytes w64 (cast_unsigned w64 z)

-- the bytes of a block on a disk: those of its elements, in row-major order
abbrev pub block_bytes : Array → List ℕ
block_bytes a = flat_map cell_bytes a.cells

-- how many bytes its elements take
abbrev pub size_of_block : Array → ℕ
size_of_block a = 8 * elements a.shape

-- a block of int64 elements, as many as its shape has
pub record IsBlock (a : Array) : Type 0 where
  pub count : length a.cells ≡ elements a.shape
  pub fits : All (FitsSigned w64) a.cells

-- The block b came from a disk in place of a: it has the shape of a, and its bytes have the digest of those of a. Where its
-- bytes are those of a, it is a.
pub record IsAlike (a b : Array) : Type 0 where
  pub shape : b.shape ≡ a.shape
  pub digest : sha512_256 (block_bytes b) ≡ sha512_256 (block_bytes a)
  pub same : block_bytes b ≡ block_bytes a → b ≡ a
  pub whole : IsBlock b

-- so many bytes are this block's, as far as their number and their digest tell
pub record IsOf (a : Array) (has : ℕ) (bytes : List ℕ) : Type 0 where
  pub count : has ≡ length bytes
  pub digest : sha512_256 bytes ≡ sha512_256 (block_bytes a)

-- a disk has so many bytes, and the block needs another number
pub record DiffersByLength (a : Array) (has needs : ℕ) : Type 0 where
  pub needs_are : needs ≡ size_of_block a
  pub differ : has ≢ needs

-- as many bytes as the block's have another digest
pub record DiffersByDigest (a : Array) (bytes kept found : List ℕ) : Type 0 where
  pub count : length bytes ≡ size_of_block a
  pub kept_is : kept ≡ sha512_256 (block_bytes a)
  pub found_is : found ≡ sha512_256 bytes
  pub differ : kept ≢ found

-- Why so many bytes aren't this block's: a disk has another number of them, or their digest is another.
abbrev pub DiffersIn : Array → ℕ → List ℕ → LostBy → Type 0
DiffersIn a has bytes Fault = ⊥
DiffersIn a has bytes (Length given needs) = (given ≡ has) × DiffersByLength a given needs
DiffersIn a has bytes (Digest kept found) = (has ≡ length bytes) × DiffersByDigest a bytes kept found

-- what is kept in memory of a block on the disk
pub record IsKeptOf (digest : List ℕ) (a : Array) : Type 0 where
  pub whole : IsBlock a
  pub digest_is : digest ≡ sha512_256 (block_bytes a)
