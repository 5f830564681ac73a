-- Which bytes are a value, by the MessagePack specification: a form for each row of its table, and no others.
use Rattle.std.specs.Prelude.{◌≡◌, ℕ, ◌<◌, ◌⊎◌, ℤ, pos, List, [], ◌∷◌, ◌++◌, length}
use Rattle.std.specs.Int.{to_be_bytes, cast_signed}
use Rattle.std.specs.Str.{IsUtf8}
use Rattle.msgpack_frames.specs.declared.form.Size.{Size}
use Rattle.msgpack_frames.specs.declared.form.Kind.{Kind}
use Rattle.msgpack_frames.specs.declared.form.Kind.TheVariants.{Str, Bin, Array, Map}
use Rattle.msgpack_frames.specs.declared.form.Form.{Form}
use Rattle.msgpack_frames.specs.declared.form.Form.TheVariants.{Nil, Bool as Truth, Small, Unsigned, Signed, Fixed, Sized}
use Rattle.msgpack_frames.specs.Data.{Data, nil, boolean, integer, text, binary, array, dictionary, Items, no_items, item, Pairs, no_pairs, pair, items_len, pairs_len}
use Rattle.msgpack_frames.specs.Forms.{width, bound, form}

-- One byte of this form.
abbrev pub IsByte : Form → List ℕ → Type 0
IsByte f bytes = (b : ℕ) × (form b ≡ f) × (bytes ≡ b ∷ [])

-- A byte of this form, and a number of this size, its highest byte first.
abbrev pub IsNumber : Form → Size → ℕ → List ℕ → Type 0
IsNumber f s n bytes = (b : ℕ) × (form b ≡ f) × (n < bound s) × (bytes ≡ b ∷ to_be_bytes (width s) n)

-- What a value of this kind and length begins with.
abbrev pub IsHead : Kind → ℕ → List ℕ → Type 0
IsHead kind n bytes = IsByte (Fixed kind n) bytes ⊎ ((s : Size) × IsNumber (Sized kind s) s n bytes)

abbrev pub EncodesInteger : ℤ → List ℕ → Type 0
EncodesInteger z bytes =
    IsByte (Small z) bytes
    ⊎ (((s : Size) × (n : ℕ) × IsNumber (Unsigned s) s n bytes × (z ≡ pos n))
    ⊎ ((s : Size) × (n : ℕ) × IsNumber (Signed s) s n bytes × (z ≡ cast_signed (width s) n)))

abbrev mutual
  pub Encodes : Data → List ℕ → Type 0
  Encodes nil bytes = IsByte Nil bytes
  Encodes (boolean b) bytes = IsByte (Truth b) bytes
  Encodes (integer z) bytes = EncodesInteger z bytes
  Encodes (text t) bytes = (head : List ℕ) × IsHead Str (length t) head × IsUtf8 t × (bytes ≡ head ++ t)
  Encodes (binary t) bytes = (head : List ℕ) × IsHead Bin (length t) head × (bytes ≡ head ++ t)
  Encodes (array ds) bytes = (head : List ℕ) × (body : List ℕ) × IsHead Array (items_len ds) head × EncodesItems ds body × (bytes ≡ head ++ body)
  Encodes (dictionary ps) bytes = (head : List ℕ) × (body : List ℕ) × IsHead Map (pairs_len ps) head × EncodesPairs ps body × (bytes ≡ head ++ body)

  pub EncodesItems : Items → List ℕ → Type 0
  EncodesItems no_items bytes = bytes ≡ []
  EncodesItems (item d ds) bytes = (front : List ℕ) × (rest : List ℕ) × Encodes d front × EncodesItems ds rest × (bytes ≡ front ++ rest)

  pub EncodesPairs : Pairs → List ℕ → Type 0
  EncodesPairs no_pairs bytes = bytes ≡ []
  EncodesPairs (pair k v ps) bytes = (key : List ℕ) × (value : List ℕ) × (rest : List ℕ) × Encodes k key × Encodes v value × EncodesPairs ps rest × (bytes ≡ key ++ (value ++ rest))
