-- Which bytes are a file that holds an array of integers in one of seven types, and why other bytes are refused.
use Rattle.std.specs.Prelude.{◌≡◌, ◌≢◌, ◌≤◌, ◌<◌, ◌+◌, ◌-◌, ◌*◌, ◌^◌, ◌⊎◌, ℕ, Bool, true, false, cond, nat_eq, List, [], ◌∷◌, ◌++◌, length, take, drop, slice_index, codes, decimal}
use Rattle.nd_shape.specs.Shape.{elements, IsShape}
use Rattle.nd_shape.specs.Block.{Array}
use Rattle.npy_header.specs.Headers.{Fields, IsHeader}
use Rattle.npy_header.specs.Reading.{IsRefused}
use Rattle.npy_codec.specs.declared.head.Head.{Head}
use Rattle.npy_codec.specs.declared.error.NpyError.{NpyError}
use Rattle.npy_codec.specs.declared.error.NpyError.TheVariants.{NotNpy, Version, HeaderLimit, Truncated, HeaderText, Descr, ShapeLimit, ReadFault, OutOfMemory}
use Rattle.npy_codec.specs.Regions.{HoldsRegion, whole}

-- 93 4E 55 4D 50 59
abbrev pub magic : List ℕ
magic = 147 ∷ 78 ∷ 85 ∷ 77 ∷ 80 ∷ 89 ∷ []

-- ## The fixed bytes

-- the version is 1.0, 2.0 or 3.0
abbrev pub IsKnown : ℕ → ℕ → Type 0
IsKnown major minor = ((major ≡ 1) ⊎ ((major ≡ 2) ⊎ (major ≡ 3))) × (minor ≡ 0)

-- the magic, then one of the versions: eight bytes in all
pub record HasVersion (bytes : List ℕ) : Type 0 where
  pub begin : take 6 bytes ≡ magic
  pub long : 8 ≤ length bytes
  pub known : IsKnown (slice_index bytes 6) (slice_index bytes 7)

-- the header's length takes two bytes in version 1.0, else four
abbrev pub fixed_of : ℕ → ℕ
fixed_of major = cond (nat_eq major 1) 10 12

-- how many fixed bytes there are
abbrev pub fixed_len : List ℕ → ℕ
fixed_len bytes = fixed_of (slice_index bytes 6)

-- the length of the header in bytes, as the fixed bytes give it in little-endian order
abbrev pub text_len_of : ℕ → List ℕ → ℕ
text_len_of major bytes =
    slice_index bytes 8 + 256 * slice_index bytes 9
    + cond (nat_eq major 1) 0 (65536 * slice_index bytes 10 + 16777216 * slice_index bytes 11)

abbrev pub text_len_at : List ℕ → ℕ
text_len_at bytes = text_len_of (slice_index bytes 6) bytes

-- only version 3.0 may have characters past ASCII in its header
abbrev pub is_wide : List ℕ → Bool
is_wide bytes = nat_eq (slice_index bytes 6) 3

-- the fixed bytes are all there
pub record HasFixed (bytes : List ℕ) : Type 0 where
  pub version : HasVersion bytes
  pub long : fixed_len bytes ≤ length bytes

-- the longest header that is read
abbrev pub header_limit : ℕ
header_limit = 1048576

-- ## The header

abbrev pub text_of : List ℕ → List ℕ
text_of bytes = take (text_len_at bytes) (drop (fixed_len bytes) bytes)

pub record HasText (bytes : List ℕ) : Type 0 where
  pub fixed : HasFixed bytes
  pub limit : text_len_at bytes ≤ header_limit
  pub whole : fixed_len bytes + text_len_at bytes ≤ length bytes

-- the header says this
pub record Declares (bytes : List ℕ) (fields : Fields) : Type 0 where
  pub text : HasText bytes
  pub header : IsHeader (is_wide bytes) (text_of bytes) fields

-- ## The types of elements

-- how many bytes an element has, and whether they are in big-endian order
pub record CellType : Type 0 where
  pub width : ℕ
  pub big : Bool

-- the seven strings of `descr` with what they stand for: <i8, >i8, <i4, >i4, <i2, >i2 and |i1
pub data IsDescr : List ℕ → CellType → Type 0 where
  little_eight : IsDescr (60 ∷ 105 ∷ 56 ∷ []) (record { width = 8; big = false })
  big_eight : IsDescr (62 ∷ 105 ∷ 56 ∷ []) (record { width = 8; big = true })
  little_four : IsDescr (60 ∷ 105 ∷ 52 ∷ []) (record { width = 4; big = false })
  big_four : IsDescr (62 ∷ 105 ∷ 52 ∷ []) (record { width = 4; big = true })
  little_two : IsDescr (60 ∷ 105 ∷ 50 ∷ []) (record { width = 2; big = false })
  big_two : IsDescr (62 ∷ 105 ∷ 50 ∷ []) (record { width = 2; big = true })
  one : IsDescr (124 ∷ 105 ∷ 49 ∷ []) (record { width = 1; big = false })

-- ## Files

-- how many bytes the data of a head has
abbrev pub data_bytes : Head → ℕ
data_bytes head = head.width * elements head.shape

-- the file declares an array of this head, and has all of its data
pub record HasHead (bytes : List ℕ) (head : Head) : Type 0 where
  pub fields : Fields
  pub declares : Declares bytes fields
  pub descr : IsDescr fields.descr (record { width = head.width; big = head.big })
  pub limits : IsShape fields.shape
  pub shape : head.shape ≡ fields.shape
  pub fortran : head.fortran ≡ fields.fortran
  pub data_at : head.data_at ≡ fixed_len bytes + text_len_at bytes
  pub room : head.data_at + data_bytes head ≤ length bytes

-- the file of an array, which holds the widened numbers; bytes after its data are ignored
pub record IsNpy (bytes : List ℕ) (array : Array) : Type 0 where
  pub head : Head
  pub front : HasHead bytes head
  pub content : HoldsRegion bytes head (whole head.shape) array

-- ## Why a file is refused. Each case leaves the earlier ones out.

-- the first of six bytes that differs from the magic, or the end of a shorter file
pub record IsNotMagic (bytes : List ℕ) (at : ℕ) : Type 0 where
  pub within : at < 6
  pub same : take at bytes ≡ take at magic
  pub here : (length bytes ≡ at) ⊎ ((at < length bytes) × (slice_index bytes at ≢ slice_index magic at))

-- the file ends before its eighth byte
pub record IsShortVersion (bytes : List ℕ) (has needs : ℕ) : Type 0 where
  pub begin : take 6 bytes ≡ magic
  pub has_is : has ≡ length bytes
  pub needs_is : needs ≡ 8
  pub short : has < needs

pub record IsOtherVersion (bytes : List ℕ) (major minor : ℕ) : Type 0 where
  pub begin : take 6 bytes ≡ magic
  pub long : 8 ≤ length bytes
  pub major_is : major ≡ slice_index bytes 6
  pub minor_is : minor ≡ slice_index bytes 7
  pub other : IsKnown major minor → ⊥

-- the fixed bytes are not all there
pub record IsShortFixed (bytes : List ℕ) (has needs : ℕ) : Type 0 where
  pub version : HasVersion bytes
  pub has_is : has ≡ length bytes
  pub needs_is : needs ≡ fixed_len bytes
  pub short : has < needs

-- the header is longer than any that is read
pub record PassesHeaderLimit (bytes : List ℕ) (len : ℕ) : Type 0 where
  pub fixed : HasFixed bytes
  pub len_is : len ≡ text_len_at bytes
  pub passed : header_limit < len

-- the header is short; both count header bytes
pub record IsShortText (bytes : List ℕ) (has needs : ℕ) : Type 0 where
  pub fixed : HasFixed bytes
  pub limit : text_len_at bytes ≤ header_limit
  pub has_is : has ≡ length bytes - fixed_len bytes
  pub needs_is : needs ≡ text_len_at bytes
  pub short : has < needs

-- The header's bytes are no header of this version, and this offset in the file is the first for which no such header of any
-- length begins with the bytes up to and with it, or the offset behind the last of them.
pub record IsNoHeader (bytes : List ℕ) (at : ℕ) : Type 0 where
  pub text : HasText bytes
  pub before : ℕ
  pub offset : at ≡ fixed_len bytes + before
  pub refused : IsRefused (is_wide bytes) (text_of bytes) before

pub record HasOtherDescr (bytes : List ℕ) : Type 0 where
  pub fields : Fields
  pub declares : Declares bytes fields
  pub other : (type : CellType) → IsDescr fields.descr type → ⊥

-- more than eight axes, or a length or the number of elements above 2^31
pub record PassesShapeLimit (bytes : List ℕ) : Type 0 where
  pub fields : Fields
  pub declares : Declares bytes fields
  pub type : CellType
  pub descr : IsDescr fields.descr type
  pub passed : IsShape fields.shape → ⊥

-- the data is short; both count data bytes of the width
pub record IsShortData (bytes : List ℕ) (has needs : ℕ) : Type 0 where
  pub fields : Fields
  pub declares : Declares bytes fields
  pub type : CellType
  pub descr : IsDescr fields.descr type
  pub limits : IsShape fields.shape
  pub has_is : has ≡ length bytes - (fixed_len bytes + text_len_at bytes)
  pub needs_is : needs ≡ type.width * elements fields.shape
  pub short : has < needs

-- the last two are no refusals of the bytes
abbrev pub IsRefusedAs : List ℕ → NpyError → Type 0
IsRefusedAs bytes (NotNpy at) = IsNotMagic bytes at
IsRefusedAs bytes (Version major minor) = IsOtherVersion bytes major minor
IsRefusedAs bytes (HeaderLimit len) = PassesHeaderLimit bytes len
IsRefusedAs bytes (Truncated has needs) =
    IsShortVersion bytes has needs ⊎ (IsShortFixed bytes has needs ⊎ (IsShortText bytes has needs ⊎ IsShortData bytes has needs))
IsRefusedAs bytes (HeaderText at) = IsNoHeader bytes at
IsRefusedAs bytes Descr = HasOtherDescr bytes
IsRefusedAs bytes ShapeLimit = PassesShapeLimit bytes
IsRefusedAs bytes ReadFault = Unit {0}
IsRefusedAs bytes OutOfMemory = Unit {0}

-- how an error is printed
abbrev pub error_text : NpyError → List ℕ
error_text (NotNpy at) = codes "not npy at " ++ decimal at
error_text (Version major minor) = codes "version " ++ decimal major ++ codes "." ++ decimal minor
error_text (HeaderLimit len) = codes "header limit " ++ decimal len
error_text (Truncated has needs) = codes "truncated: has " ++ decimal has ++ codes ", needs " ++ decimal needs
error_text (HeaderText at) = codes "header at " ++ decimal at
error_text Descr = codes "descr"
error_text ShapeLimit = codes "shape limit"
error_text ReadFault = codes "read fault"
error_text OutOfMemory = codes "out of memory"
