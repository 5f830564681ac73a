-- The part of a file that holds a region of its array.
use Rattle.std.specs.Prelude.{◌≡◌, ◌<◌, ◌⊎◌, ◌+◌, ◌-◌, ◌*◌, ℕ, zero, suc, ℤ, pos, false, List, [], length, take, drop, get_or, replicate}
use Rattle.nd_shape.specs.Shape.{elements}
use Rattle.nd_shape.specs.Index.{IsIn, place}
use Rattle.nd_shape.specs.Block.{Array}
use Rattle.nd_shape.specs.Region.{Box, moved}
use Rattle.nd_rows.specs.Storage.{place_by, last_index}
use Rattle.npy_codec.specs.declared.head.Head.{Head}
use Rattle.npy_codec.specs.declared.error.NpyError.{NpyError}
use Rattle.npy_codec.specs.declared.error.NpyError.TheVariants.{NotNpy, Version, HeaderLimit, Truncated, HeaderText, Descr, ShapeLimit, ReadFault, OutOfMemory}
use Rattle.npy_codec.specs.Npy.{wide_cell}

-- the widths of elements that are read
abbrev pub IsWidth : ℕ → Type 0
IsWidth width = (width ≡ 1) ⊎ ((width ≡ 2) ⊎ ((width ≡ 4) ⊎ (width ≡ 8)))

-- what stands for a head where a list of heads has none
abbrev pub no_head : Head
no_head = record { shape = []; fortran = false; data_at = 0; width = 8; big = false }

-- ## Where an element stands

-- where the data's element of this number begins in the file, in bytes
abbrev pub number_at : Head → ℕ → ℕ
number_at head number = head.data_at + head.width * number

-- the data's element of this number
abbrev pub cell_at : List ℕ → Head → ℕ → ℤ
cell_at bytes head number = wide_cell head.width head.big (take head.width (drop (number_at head number) bytes))

-- the number of the element at an index, among the elements of the data
abbrev pub data_place : Head → List ℕ → ℕ
data_place head i = place_by head.fortran head.shape i

-- its offset in the file
abbrev pub offset_of : Head → List ℕ → ℕ
offset_of head i = number_at head (data_place head i)

-- the element of the file at an index of its array
abbrev pub element : List ℕ → Head → List ℕ → ℤ
element bytes head i = cell_at bytes head (data_place head i)

-- ## Regions

-- all indexes of an array with these lengths
abbrev pub whole : List ℕ → Box
whole dims = record { start = replicate (length dims) 0; lengths = dims }

-- the block has the elements of this region of the file's array
pub record HoldsRegion (bytes : List ℕ) (head : Head) (region : Box) (block : Array) : Type 0 where
  pub shape : block.shape ≡ region.lengths
  pub count : length block.cells ≡ elements region.lengths
  pub each : (i : List ℕ) → IsIn region.lengths i → get_or block.cells (place region.lengths i) (pos 0) ≡ element bytes head (moved region.start i)

-- the data bytes up to the end of this many elements, of which the last one stands there
abbrev pub bytes_up_to : ℕ → ℕ → ℕ → ℕ
bytes_up_to width zero at = 0
bytes_up_to width (suc count) at = width * (at + 1)

-- the data bytes up to the end of the region's last element, or 0 where it has none
abbrev pub needed : Head → Box → ℕ
needed head region = bytes_up_to head.width (elements region.lengths) (data_place head (last_index region.start region.lengths))

-- the file, of this many bytes, ends before the region's last run; both numbers count data bytes
pub record EndsInside (size : ℕ) (head : Head) (region : Box) (has needs : ℕ) : Type 0 where
  pub has_is : has ≡ size - head.data_at
  pub needs_is : needs ≡ needed head region
  pub short : has < needs

-- Why a region isn't given. Nothing is said where a read failed or memory ran out.
abbrev pub RegionRefusedAs : ℕ → Head → Box → NpyError → Type 0
RegionRefusedAs size head region (Truncated has needs) = EndsInside size head region has needs
RegionRefusedAs size head region ReadFault = Unit {0}
RegionRefusedAs size head region OutOfMemory = Unit {0}
RegionRefusedAs size head region (NotNpy at) = ⊥
RegionRefusedAs size head region (Version major minor) = ⊥
RegionRefusedAs size head region (HeaderLimit len) = ⊥
RegionRefusedAs size head region (HeaderText at) = ⊥
RegionRefusedAs size head region Descr = ⊥
RegionRefusedAs size head region ShapeLimit = ⊥
