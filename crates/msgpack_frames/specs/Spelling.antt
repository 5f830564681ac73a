-- The encoding that is written: the shortest one, with nonnegative numbers unsigned.
use Rattle.std.specs.Prelude.{◌≡◌, ℕ, zero, suc, ◌+◌, ◌-◌, ◌^◌, ◌<◌, ℤ, pos, negsuc, List, [], ◌∷◌, ◌++◌, length, true, false, Option, Some, None, Result, Ok, Err, nat_lt, if◌then◌else◌}
use Rattle.std.specs.Int.{to_be_bytes, cast_unsigned}
use Rattle.std.specs.Str.{IsUtf8}
use Rattle.msgpack_frames.specs.declared.error.MpError.{MpError}
use Rattle.msgpack_frames.specs.declared.error.MpError.TheVariants as errors
use Rattle.msgpack_frames.specs.declared.form.Size.{Size}
use Rattle.msgpack_frames.specs.declared.form.Size.TheVariants.{One, Two, Four, Eight}
use Rattle.msgpack_frames.specs.declared.form.Kind.{Kind}
use Rattle.msgpack_frames.specs.declared.form.Kind.TheVariants.{Str, Bin, Array, Map}
use Rattle.msgpack_frames.specs.Data.{Data, nil, boolean, integer, text, binary, array, dictionary, Items, no_items, item, Pairs, no_pairs, pair, items_len, pairs_len, depth, max_depth, max_len, IsInRange, IsShort}
use Rattle.msgpack_frames.specs.Forms.{width}

-- a first byte, and a number of this size behind it
unfoldable pub sized : ℕ → Size → ℕ → List ℕ
sized b s n = b ∷ to_be_bytes (width s) n

unfoldable pub head : Kind → ℕ → List ℕ
head Str n = if nat_lt n 32 then (0xa0 + n) ∷ [] else (if nat_lt n (2 ^ 8) then sized 0xd9 One n else (if nat_lt n (2 ^ 16) then sized 0xda Two n else sized 0xdb Four n))
head Bin n = if nat_lt n (2 ^ 8) then sized 0xc4 One n else (if nat_lt n (2 ^ 16) then sized 0xc5 Two n else sized 0xc6 Four n)
head Array n = if nat_lt n 16 then (0x90 + n) ∷ [] else (if nat_lt n (2 ^ 16) then sized 0xdc Two n else sized 0xdd Four n)
head Map n = if nat_lt n 16 then (0x80 + n) ∷ [] else (if nat_lt n (2 ^ 16) then sized 0xde Two n else sized 0xdf Four n)

unfoldable pub unsigned : ℕ → List ℕ
unsigned n = if nat_lt n (2 ^ 7) then n ∷ [] else (if nat_lt n (2 ^ 8) then sized 0xcc One n else (if nat_lt n (2 ^ 16) then sized 0xcd Two n else (if nat_lt n (2 ^ 32) then sized 0xce Four n else sized 0xcf Eight n)))

-- minus n, less 1
unfoldable pub negative : ℕ → List ℕ
negative n =
    if nat_lt n (2 ^ 5) then (0xff - n) ∷ [] else (if nat_lt n (2 ^ 7) then sized 0xd0 One (cast_unsigned (width One) (negsuc n))
    else (if nat_lt n (2 ^ 15) then sized 0xd1 Two (cast_unsigned (width Two) (negsuc n))
    else (if nat_lt n (2 ^ 31) then sized 0xd2 Four (cast_unsigned (width Four) (negsuc n)) else sized 0xd3 Eight (cast_unsigned (width Eight) (negsuc n)))))

abbrev pub number : ℤ → List ℕ
number (pos n) = unsigned n
number (negsuc n) = negative n

abbrev mutual
  pub spelling : Data → List ℕ
  spelling nil = 0xc0 ∷ []
  spelling (boolean false) = 0xc2 ∷ []
  spelling (boolean true) = 0xc3 ∷ []
  spelling (integer z) = number z
  spelling (text t) = head Str (length t) ++ t
  spelling (binary t) = head Bin (length t) ++ t
  spelling (array ds) = head Array (items_len ds) ++ items_spelling ds
  spelling (dictionary ps) = head Map (pairs_len ps) ++ pairs_spelling ps

  pub items_spelling : Items → List ℕ
  items_spelling no_items = []
  items_spelling (item d ds) = spelling d ++ items_spelling ds

  pub pairs_spelling : Pairs → List ℕ
  pairs_spelling no_pairs = []
  pairs_spelling (pair k v ps) = spelling k ++ (spelling v ++ pairs_spelling ps)

-- each number is in range, and each text is UTF-8
abbrev mutual
  pub IsValid : Data → Type 0
  IsValid nil = Unit {0}
  IsValid (boolean b) = Unit {0}
  IsValid (integer z) = IsInRange z
  IsValid (text t) = IsUtf8 t
  IsValid (binary t) = Unit {0}
  IsValid (array ds) = AreValid ds
  IsValid (dictionary ps) = PairsAreValid ps

  pub AreValid : Items → Type 0
  AreValid no_items = Unit {0}
  AreValid (item d ds) = IsValid d × AreValid ds

  pub PairsAreValid : Pairs → Type 0
  PairsAreValid no_pairs = Unit {0}
  PairsAreValid (pair k v ps) = IsValid k × IsValid v × PairsAreValid ps

-- Which limit a value breaks first, from left to right, where this many arrays and maps may still be opened.
abbrev pub first_fault : Option MpError → Option MpError → Option MpError
first_fault None later = later
first_fault (Some e) later = Some e

abbrev pub len_fault : ℕ → Option MpError
len_fault n = if nat_lt max_len n then Some errors.Limit else None

abbrev mutual
  pub fault_of : ℕ → Data → Option MpError
  fault_of k nil = None
  fault_of k (boolean b) = None
  fault_of k (integer z) = None
  fault_of k (text t) = len_fault (length t)
  fault_of k (binary t) = len_fault (length t)
  fault_of zero (array ds) = Some errors.Depth
  fault_of (suc k) (array ds) = first_fault (len_fault (items_len ds)) (items_fault k ds)
  fault_of zero (dictionary ps) = Some errors.Depth
  fault_of (suc k) (dictionary ps) = first_fault (len_fault (pairs_len ps)) (pairs_fault k ps)

  pub items_fault : ℕ → Items → Option MpError
  items_fault k no_items = None
  items_fault k (item d ds) = first_fault (fault_of k d) (items_fault k ds)

  pub pairs_fault : ℕ → Pairs → Option MpError
  pairs_fault k no_pairs = None
  pairs_fault k (pair key v ps) = first_fault (fault_of k key) (first_fault (fault_of k v) (pairs_fault k ps))

-- What a function returned tells of this fault, unless memory ran out.
abbrev pub Names : MpError → Option MpError → Type 0
Names errors.OutOfMemory fault = Unit {0}
Names e fault = fault ≡ Some e

abbrev pub Tells : {X : Type 0} → Result X MpError → Option MpError → Type 0
Tells (Ok x) fault = fault ≡ None
Tells (Err e) fault = Names e fault

-- Why a value has no encoding within the limits: the first limit that it breaks.
abbrev pub IsFaultOf : Data → MpError → Type 0
IsFaultOf d errors.Depth = (max_depth < depth d) × (fault_of max_depth d ≡ Some errors.Depth)
IsFaultOf d errors.Limit = (¬ (IsShort d)) × (fault_of max_depth d ≡ Some errors.Limit)
IsFaultOf d errors.OutOfMemory = Unit {0}
IsFaultOf d errors.Short = ⊥
IsFaultOf d (errors.Float at) = ⊥
IsFaultOf d (errors.Ext at) = ⊥
IsFaultOf d (errors.Reserved at) = ⊥
IsFaultOf d (errors.NotUtf8 at) = ⊥
