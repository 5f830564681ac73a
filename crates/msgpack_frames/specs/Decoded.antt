-- What an answer says of the bytes.
use Rattle.std.specs.Prelude.{◌≡◌, ℕ, ◌<◌, ◌≤◌, ◌++◌, List, length, take, slice_index, Result, Err}
use Rattle.msgpack_frames.specs.declared.error.MpError.{MpError}
use Rattle.msgpack_frames.specs.declared.error.MpError.TheVariants as errors
use Rattle.msgpack_frames.specs.declared.form.Kind.TheVariants.{Str, Bin, Array, Map}
use Rattle.msgpack_frames.specs.declared.form.Form.{Form}
use Rattle.msgpack_frames.specs.declared.form.Form.TheVariants.{Nil, Bool as Truth, Small, Unsigned, Signed, Fixed, Sized, Float, Ext, Reserved}
use Rattle.msgpack_frames.specs.Data.{Data, IsWithin}
use Rattle.msgpack_frames.specs.Encoding.{Encodes}
use Rattle.msgpack_frames.specs.Forms.{form}
use Rattle.msgpack_frames.specs.Reading.{Gives, outcome}
use Rattle.msgpack_frames.specs.View.{view}
use Rattle.msgpack_frames.specs.declared.value.Value.{Value}

-- What was answered is what reading gives, unless memory ran out.
abbrev pub Answers : Result (Value × ℕ) MpError → Result (Data × ℕ) MpError → Type 0
Answers answer read = Gives (λ x. (view x.0, x.1)) answer read

-- The first n bytes are the value d, which keeps both limits.
abbrev pub IsFound : List ℕ → Data → ℕ → Type 0
IsFound bytes d n = (n ≤ length bytes) × Encodes d (take n bytes) × IsWithin d

abbrev pub IsOfText : Form → Type 0
IsOfText (Fixed Str n) = Unit {0}
IsOfText (Fixed Bin n) = ⊥
IsOfText (Fixed Array n) = ⊥
IsOfText (Fixed Map n) = ⊥
IsOfText (Sized Str s) = Unit {0}
IsOfText (Sized Bin s) = ⊥
IsOfText (Sized Array s) = ⊥
IsOfText (Sized Map s) = ⊥
IsOfText Nil = ⊥
IsOfText (Truth b) = ⊥
IsOfText (Small z) = ⊥
IsOfText (Unsigned s) = ⊥
IsOfText (Signed s) = ⊥
IsOfText Float = ⊥
IsOfText Ext = ⊥
IsOfText Reserved = ⊥

-- The byte at the offset begins what the refusal names.
abbrev pub IsPlace : List ℕ → MpError → Type 0
IsPlace bytes (errors.Float at) = (at < length bytes) × (form (slice_index bytes at) ≡ Float)
IsPlace bytes (errors.Ext at) = (at < length bytes) × (form (slice_index bytes at) ≡ Ext)
IsPlace bytes (errors.Reserved at) = (at < length bytes) × (form (slice_index bytes at) ≡ Reserved)
IsPlace bytes (errors.NotUtf8 at) = (at < length bytes) × IsOfText (form (slice_index bytes at))
IsPlace bytes errors.Short = Unit {0}
IsPlace bytes errors.Depth = Unit {0}
IsPlace bytes errors.Limit = Unit {0}
IsPlace bytes errors.OutOfMemory = ⊥

-- The bytes before the offset are refused by nothing: reading wants more.
abbrev pub IsFirst : List ℕ → MpError → Type 0
IsFirst bytes (errors.Float at) = outcome (take at bytes) ≡ Err errors.Short
IsFirst bytes (errors.Ext at) = outcome (take at bytes) ≡ Err errors.Short
IsFirst bytes (errors.Reserved at) = outcome (take at bytes) ≡ Err errors.Short
IsFirst bytes (errors.NotUtf8 at) = outcome (take at bytes) ≡ Err errors.Short
IsFirst bytes errors.Short = Unit {0}
IsFirst bytes errors.Depth = Unit {0}
IsFirst bytes errors.Limit = Unit {0}
IsFirst bytes errors.OutOfMemory = Unit {0}

-- Whatever follows, the refusal stays: only Short ends where more bytes come.
abbrev pub IsFinal : List ℕ → MpError → Type 0
IsFinal bytes errors.Short = (n : ℕ) → outcome (take n bytes) ≡ Err errors.Short
IsFinal bytes errors.OutOfMemory = Unit {0}
IsFinal bytes (errors.Float at) = (more : List ℕ) → outcome (bytes ++ more) ≡ Err (errors.Float at)
IsFinal bytes (errors.Ext at) = (more : List ℕ) → outcome (bytes ++ more) ≡ Err (errors.Ext at)
IsFinal bytes (errors.Reserved at) = (more : List ℕ) → outcome (bytes ++ more) ≡ Err (errors.Reserved at)
IsFinal bytes (errors.NotUtf8 at) = (more : List ℕ) → outcome (bytes ++ more) ≡ Err (errors.NotUtf8 at)
IsFinal bytes errors.Depth = (more : List ℕ) → outcome (bytes ++ more) ≡ Err errors.Depth
IsFinal bytes errors.Limit = (more : List ℕ) → outcome (bytes ++ more) ≡ Err errors.Limit

-- What a refusal promises, unless memory ran out: its byte begins what it names, nothing before that is
-- refused, it stays whatever follows, and where it is Short no front of the bytes is refused.
pub record IsFirstFault (bytes : List ℕ) (e : MpError) : Type 0 where
  pub place : IsPlace bytes e
  pub first : IsFirst bytes e
  pub final : IsFinal bytes e

abbrev pub Refuses : List ℕ → MpError → Type 0
Refuses bytes errors.OutOfMemory = Unit {0}
Refuses bytes e = IsFirstFault bytes e
