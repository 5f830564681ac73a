-- Reading from left to right: the value and the bytes after it, or the first refusal.
use Rattle.std.specs.Prelude.{◌≡◌, ℕ, zero, suc, ◌-◌, pos, List, [], ◌∷◌, length, take, drop, Bool, true, false, Option, Some, None, Result, Ok, Err, nat_lt, if◌then◌else◌}
use Rattle.std.specs.Int.{byte_len, from_be_bytes, cast_signed}
use Rattle.std.specs.Str.{is_utf8}
use Rattle.msgpack_frames.specs.declared.error.MpError.{MpError}
use Rattle.msgpack_frames.specs.declared.error.MpError.TheVariants as errors
use Rattle.msgpack_frames.specs.declared.form.Size.{Size}
use Rattle.msgpack_frames.specs.declared.form.Kind.{Kind}
use Rattle.msgpack_frames.specs.declared.form.Kind.TheVariants.{Str, Bin, Array, Map}
use Rattle.msgpack_frames.specs.declared.form.Form.{Form}
use Rattle.msgpack_frames.specs.declared.form.Form.TheVariants.{Nil, Bool as Truth, Small, Unsigned, Signed, Fixed, Sized, Float, Ext, Reserved}
use Rattle.msgpack_frames.specs.Data.{Data, nil, boolean, integer, text, binary, array, dictionary, Items, no_items, item, Pairs, no_pairs, pair, max_depth, max_len}
use Rattle.msgpack_frames.specs.Forms.{width, form}

infixl 10 ◌>>=◌
abbrev pub ◌>>=◌ : {A B E : Type 0} → Result A E → (A → Result B E) → Result B E
(Ok x) >>= f = f x
(Err e) >>= f = Err e

-- What a function returned, seen by view, is what reading gives, unless memory ran out.
abbrev pub Fails : {Y : Type 0} → MpError → Result Y MpError → Type 0
Fails errors.OutOfMemory read = Unit {0}
Fails e read = read ≡ Err e

abbrev pub Gives : {X Y : Type 0} → (X → Y) → Result X MpError → Result Y MpError → Type 0
Gives view (Ok x) read = read ≡ Ok (view x)
Gives view (Err e) read = Fails e read

-- What is read, and the bytes after it.
abbrev pub Read : Type 0 → Type 0
Read A = Result (A × List ℕ) MpError

abbrev pub number_at : Size → List ℕ → Read ℕ
number_at s bytes = if nat_lt (length bytes) (byte_len (width s)) then Err errors.Short
    else Ok (from_be_bytes (width s) (take (byte_len (width s)) bytes), drop (byte_len (width s)) bytes)

unfoldable pub unsigned_at : Size → List ℕ → Read Data
unsigned_at s bytes = do
  n ← number_at s bytes
  Ok (integer (pos n.0), n.1)

unfoldable pub signed_at : Size → List ℕ → Read Data
signed_at s bytes = do
  n ← number_at s bytes
  Ok (integer (cast_signed (width s) n.0), n.1)

-- a length that is within the limit
unfoldable pub len_at : Size → List ℕ → Read ℕ
len_at s bytes = do
  n ← number_at s bytes
  if nat_lt max_len n.0 then Err errors.Limit else Ok n

abbrev pub bytes_at : ℕ → List ℕ → Read (List ℕ)
bytes_at n bytes = if nat_lt (length bytes) n then Err errors.Short else Ok (take n bytes, drop n bytes)

unfoldable pub text_at : ℕ → ℕ → List ℕ → Read Data
text_at at n bytes = do
  t ← bytes_at n bytes
  if is_utf8 t.0 then Ok (text t.0, t.1) else Err (errors.NotUtf8 at)

unfoldable pub binary_at : ℕ → List ℕ → Read Data
binary_at n bytes = do
  t ← bytes_at n bytes
  Ok (binary t.0, t.1)

-- n values, each read by one
unfoldable pub items_at : (List ℕ → Read Data) → ℕ → List ℕ → Read Items
items_at one zero bytes = Ok (no_items, bytes)
items_at one (suc n) bytes = do
  first ← one bytes
  others ← items_at one n first.1
  Ok (item first.0 others.0, others.1)

unfoldable pub pairs_at : (List ℕ → Read Data) → ℕ → List ℕ → Read Pairs
pairs_at one zero bytes = Ok (no_pairs, bytes)
pairs_at one (suc n) bytes = do
  key ← one bytes
  value ← one key.1
  others ← pairs_at one n value.1
  Ok (pair key.0 value.0 others.0, others.1)

-- What reads a value inside: nothing where the limit of depth is reached.
abbrev pub Inner : Type 0
Inner = Option (List ℕ → Read Data)

unfoldable pub array_at : Inner → ℕ → List ℕ → Read Data
array_at None n bytes = Err errors.Depth
array_at (Some one) n bytes = do
  ds ← items_at one n bytes
  Ok (array ds.0, ds.1)

unfoldable pub map_at : Inner → ℕ → List ℕ → Read Data
map_at None n bytes = Err errors.Depth
map_at (Some one) n bytes = do
  ps ← pairs_at one n bytes
  Ok (dictionary ps.0, ps.1)

-- what has this length, of a form that begins at this offset
abbrev pub body_at : ℕ → Inner → Kind → ℕ → List ℕ → Read Data
body_at at inner Str n bytes = text_at at n bytes
body_at at inner Bin n bytes = binary_at n bytes
body_at at inner Array n bytes = array_at inner n bytes
body_at at inner Map n bytes = map_at inner n bytes

abbrev pub is_too_deep : Inner → Kind → Bool
is_too_deep None Array = true
is_too_deep None Map = true
is_too_deep None Str = false
is_too_deep None Bin = false
is_too_deep (Some one) kind = false

-- The first byte refuses a depth, before the length is looked at.
unfoldable pub sized_at : ℕ → Inner → Kind → Size → List ℕ → Read Data
sized_at at inner kind s bytes = if is_too_deep inner kind then Err errors.Depth else (do
  n ← len_at s bytes
  body_at at inner kind n.0 n.1)

-- the rest of a value whose first byte, at this offset, says this
abbrev pub formed_at : ℕ → Inner → Form → List ℕ → Read Data
formed_at at inner Nil bytes = Ok (nil, bytes)
formed_at at inner (Truth b) bytes = Ok (boolean b, bytes)
formed_at at inner (Small z) bytes = Ok (integer z, bytes)
formed_at at inner (Unsigned s) bytes = unsigned_at s bytes
formed_at at inner (Signed s) bytes = signed_at s bytes
formed_at at inner (Fixed kind n) bytes = body_at at inner kind n bytes
formed_at at inner (Sized kind s) bytes = sized_at at inner kind s bytes
formed_at at inner Float bytes = Err (errors.Float at)
formed_at at inner Ext bytes = Err (errors.Ext at)
formed_at at inner Reserved bytes = Err (errors.Reserved at)

unfoldable pub first_at : ℕ → Inner → List ℕ → Read Data
first_at total inner [] = Err errors.Short
first_at total inner (b ∷ bytes) = formed_at (total - length (b ∷ bytes)) inner (form b) bytes

-- What reads a value inside of one where this many arrays and maps may still be opened.
unfoldable pub inner : ℕ → ℕ → Inner
inner total zero = None
inner total (suc d) = Some (first_at total (inner total d))

-- The value at the front of bytes, which are the last of total ones.
unfoldable pub value_at : ℕ → ℕ → List ℕ → Read Data
value_at total d bytes = first_at total (inner total d) bytes

-- a value, and how many of this many bytes it takes
abbrev pub counted : ℕ → Read Data → Result (Data × ℕ) MpError
counted total read = do
  x ← read
  Ok (x.0, total - length x.1)

-- The value at the front, and how many bytes it takes.
unfoldable pub outcome : List ℕ → Result (Data × ℕ) MpError
outcome bytes = counted (length bytes) (value_at (length bytes) max_depth bytes)
