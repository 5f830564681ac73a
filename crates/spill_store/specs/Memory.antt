-- The blocks in memory, in the order of use.
use Rattle.std.specs.Prelude.{◌≡◌, ◌<◌, ◌+◌, ◌*◌, ℕ, nat_eq, List, ◌∷◌, ◌++◌, length, Some, Bool}
use Rattle.std.specs.List.{sum_by}
use Rattle.std.specs.Map.{lookup, values_of}
use Rattle.nd_shape.specs.Block.{Array}
use Rattle.spill_store.specs.Blocks.{size_of_block}
use Rattle.spill_store.specs.Table.{put_first, IsLast}

-- a block in memory, and whether the disk has taken it since it was put
pub record InMemory : Type 0 where
  pub array : Array
  pub taken : Bool

-- the bytes of the blocks in memory
abbrev pub bytes_in : List (ℕ × InMemory) → ℕ
bytes_in es = sum_by (λ h. size_of_block h.array) (values_of es)

-- more than one block is in memory, and they have more than six tenths of the limit
pub record IsCrowded (limit : ℕ) (es : List (ℕ × InMemory)) : Type 0 where
  pub much : 6 * limit < 10 * bytes_in es
  pub several : 1 < length es

-- this block is the key's, and the most recently used one from now on
pub record UsesBlock (key : ℕ) (a : Array) (old new : List (ℕ × InMemory)) : Type 0 where
  pub taken : Bool
  pub was : lookup (nat_eq key) old ≡ Some (record { array = a; taken = taken })
  pub now : new ≡ put_first key (record { array = a; taken = taken }) old

-- the block that was used least recently
pub record IsOldest (es : List (ℕ × InMemory)) (key : ℕ) (a : Array) : Type 0 where
  pub taken : Bool
  pub last : IsLast es key (record { array = a; taken = taken })

-- A block goes to the disk once so many more bytes come into memory: when those are gone that were used less recently, it and the others with these
-- bytes have more than six tenths of the limit.
pub record IsNextOut (limit coming : ℕ) (es : List (ℕ × InMemory)) (key : ℕ) (a : Array) : Type 0 where
  pub others : List (ℕ × InMemory)
  pub behind : List (ℕ × InMemory)
  pub taken : Bool
  pub order : es ≡ others ++ (key, record { array = a; taken = taken }) ∷ behind
  pub much : 6 * limit < 10 * (bytes_in others + size_of_block a + coming)
