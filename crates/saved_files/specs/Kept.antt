-- What is kept of each file that is being saved.
use Rattle.std.specs.Prelude.{◌≡◌, ◌≤◌, ◌+◌, ◌*◌, ℕ, List, length, Bool, false}
use Rattle.io_edge.specs.Content.{Content, overwritten, size_of, zeros}
use Rattle.nd_shape.specs.Shape.{elements}
use Rattle.npy_codec.specs.Npy.{header}
use Rattle.saved_files.specs.declared.open.OpenFile.{OpenFile}
use Rattle.saved_files.specs.Saving.{Saving}

-- what contracts see of an open file, by what its file tells
abbrev pub saving_of : {F : Type 0} → (F → List ℕ) → (F → Content) → (F → ℕ) → OpenFile F → Saving
saving_of named content faults f = record { name = named f.file; dims = f.head.shape; content = content f.file; faults = faults f.file }

-- a new file with room for this header and an array with these lengths, into which the header was written
abbrev pub begun_with : Bool → List ℕ → List ℕ → Content
begun_with tells dims front = overwritten (zeros tells (length front + 8 * elements dims)) 0 front

-- the file has room for its header and its data, which is `<i8` in row-major order and begins behind the header
pub record IsKept {F : Type 0} (content : F → Content) (f : OpenFile F) : Type 0 where
  pub rows : f.head.fortran ≡ false
  pub width : f.head.width ≡ 8
  pub little : f.head.big ≡ false
  pub begins : f.head.data_at ≡ length (header f.head.shape)
  pub near : f.head.data_at ≤ 512
  pub room : size_of (content f.file) ≡ length (header f.head.shape) + 8 * elements f.head.shape
