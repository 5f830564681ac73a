-- What the parts of a file's front say: its fixed bytes by themselves, and its header by itself.
use Rattle.std.specs.Prelude.{◌≡◌, ◌≤◌, ◌+◌, ◌⊎◌, ℕ, Bool, List, length}
use Rattle.nd_shape.specs.Shape.{IsShape}
use Rattle.npy_header.specs.Headers.{Fields, IsHeader}
use Rattle.npy_header.specs.Refused.{IsRefused}
use Rattle.npy_codec.specs.declared.head.Head.{Head}
use Rattle.npy_codec.specs.declared.error.NpyError.{NpyError}
use Rattle.npy_codec.specs.declared.error.NpyError.TheVariants.{NotNpy, Version, HeaderLimit, Truncated, HeaderText, Descr, ShapeLimit, ReadFault, OutOfMemory}
use Rattle.npy_codec.specs.Files.{CellType, Declares, HasFixed, HasText, IsDescr, IsNotMagic, IsOtherVersion, IsShortFixed, IsShortVersion, PassesHeaderLimit, fixed_len, header_limit, is_wide, text_len_at}

abbrev pub IsFaultOrMemory : NpyError → Type 0
IsFaultOrMemory (NotNpy at) = ⊥
IsFaultOrMemory (Version major minor) = ⊥
IsFaultOrMemory (HeaderLimit len) = ⊥
IsFaultOrMemory (Truncated has needs) = ⊥
IsFaultOrMemory (HeaderText at) = ⊥
IsFaultOrMemory Descr = ⊥
IsFaultOrMemory ShapeLimit = ⊥
IsFaultOrMemory ReadFault = Unit {0}
IsFaultOrMemory OutOfMemory = Unit {0}

-- why the fixed bytes are refused
abbrev pub FixedRefusedAs : List ℕ → NpyError → Type 0
FixedRefusedAs front (NotNpy at) = IsNotMagic front at
FixedRefusedAs front (Version major minor) = IsOtherVersion front major minor
FixedRefusedAs front (HeaderLimit len) = PassesHeaderLimit front len
FixedRefusedAs front (Truncated has needs) = IsShortVersion front has needs ⊎ IsShortFixed front has needs
FixedRefusedAs front (HeaderText at) = ⊥
FixedRefusedAs front Descr = ⊥
FixedRefusedAs front ShapeLimit = ⊥
FixedRefusedAs front ReadFault = ⊥
FixedRefusedAs front OutOfMemory = ⊥

pub record IsHeadOfFields (fields : Fields) (data_at : ℕ) (head : Head) : Type 0 where
  pub descr : IsDescr fields.descr (record { width = head.width; big = head.big })
  pub limits : IsShape fields.shape
  pub shape : head.shape ≡ fields.shape
  pub fortran : head.fortran ≡ fields.fortran
  pub at : head.data_at ≡ data_at

abbrev pub FieldsRefusedAs : Fields → NpyError → Type 0
FieldsRefusedAs fields (NotNpy at) = ⊥
FieldsRefusedAs fields (Version major minor) = ⊥
FieldsRefusedAs fields (HeaderLimit len) = ⊥
FieldsRefusedAs fields (Truncated has needs) = ⊥
FieldsRefusedAs fields (HeaderText at) = ⊥
FieldsRefusedAs fields Descr = (type : CellType) → IsDescr fields.descr type → ⊥
FieldsRefusedAs fields ShapeLimit = (type : CellType) × IsDescr fields.descr type × (IsShape fields.shape → ⊥)
FieldsRefusedAs fields ReadFault = ⊥
FieldsRefusedAs fields OutOfMemory = Unit {0}

pub record IsHeadOfText (wide : Bool) (fixed : ℕ) (text : List ℕ) (head : Head) : Type 0 where
  pub fields : Fields
  pub header : IsHeader wide text fields
  pub declared : IsHeadOfFields fields (fixed + length text) head

pub record FieldsAreRefused (wide : Bool) (text : List ℕ) (error : NpyError) : Type 0 where
  pub fields : Fields
  pub header : IsHeader wide text fields
  pub refused : FieldsRefusedAs fields error

pub record IsNoHeaderText (wide : Bool) (fixed : ℕ) (text : List ℕ) (at : ℕ) : Type 0 where
  pub before : ℕ
  pub offset : at ≡ fixed + before
  pub refused : IsRefused wide text before

-- why a header is refused
abbrev pub TextRefusedAs : Bool → ℕ → List ℕ → NpyError → Type 0
TextRefusedAs wide fixed text (NotNpy at) = ⊥
TextRefusedAs wide fixed text (Version major minor) = ⊥
TextRefusedAs wide fixed text (HeaderLimit len) = ⊥
TextRefusedAs wide fixed text (Truncated has needs) = ⊥
TextRefusedAs wide fixed text (HeaderText at) = IsNoHeaderText wide fixed text at
TextRefusedAs wide fixed text Descr = FieldsAreRefused wide text Descr
TextRefusedAs wide fixed text ShapeLimit = FieldsAreRefused wide text ShapeLimit
TextRefusedAs wide fixed text ReadFault = ⊥
TextRefusedAs wide fixed text OutOfMemory = Unit {0}

-- the fixed bytes are there, so many of them, and say whether the header is wide and how long it is
pub record HasFront (wide : Bool) (fixed n : ℕ) (bytes : List ℕ) : Type 0 where
  pub there : HasFixed bytes
  pub wide_is : wide ≡ is_wide bytes
  pub fixed_is : fixed ≡ fixed_len bytes
  pub value : n ≡ text_len_at bytes
  pub limit : n ≤ header_limit

-- the header of a file declares this head; the data is not looked at
pub record DeclaresHead (bytes : List ℕ) (head : Head) : Type 0 where
  pub fields : Fields
  pub declares : Declares bytes fields
  pub declared : IsHeadOfFields fields (fixed_len bytes + text_len_at bytes) head
