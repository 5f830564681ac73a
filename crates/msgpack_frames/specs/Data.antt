-- What a value stands for.
use Rattle.std.specs.Prelude.{ℕ, suc, ◌≤◌, ◌<◌, ◌^◌, max, ℤ, pos, negsuc, List, length, Bool}

mutual
  pub data Data : Type 0 where
    nil : Data
    boolean : Bool → Data
    integer : ℤ → Data
    text : List ℕ → Data
    binary : List ℕ → Data
    array : Items → Data
    dictionary : Pairs → Data

  pub data Items : Type 0 where
    no_items : Items
    item : Data → Items → Items

  pub data Pairs : Type 0 where
    no_pairs : Pairs
    pair : Data → Data → Pairs → Pairs

-- the numbers that MessagePack can hold
abbrev pub IsInRange : ℤ → Type 0
IsInRange (pos n) = n < 2 ^ 64
IsInRange (negsuc n) = n < 2 ^ 63

abbrev pub items_len : Items → ℕ
items_len no_items = 0
items_len (item d ds) = suc (items_len ds)

abbrev pub pairs_len : Pairs → ℕ
pairs_len no_pairs = 0
pairs_len (pair k v ps) = suc (pairs_len ps)

-- how many arrays and maps are open at once, at most
abbrev mutual
  pub depth : Data → ℕ
  depth nil = 0
  depth (boolean b) = 0
  depth (integer z) = 0
  depth (text t) = 0
  depth (binary t) = 0
  depth (array ds) = suc (items_depth ds)
  depth (dictionary ps) = suc (pairs_depth ps)

  pub items_depth : Items → ℕ
  items_depth no_items = 0
  items_depth (item d ds) = max (depth d) (items_depth ds)

  pub pairs_depth : Pairs → ℕ
  pairs_depth no_pairs = 0
  pairs_depth (pair k v ps) = max (max (depth k) (depth v)) (pairs_depth ps)

abbrev pub max_depth : ℕ
max_depth = 16

abbrev pub max_len : ℕ
max_len = 2 ^ 27

-- no length is above 2^27
abbrev mutual
  pub IsShort : Data → Type 0
  IsShort nil = Unit {0}
  IsShort (boolean b) = Unit {0}
  IsShort (integer z) = Unit {0}
  IsShort (text t) = length t ≤ max_len
  IsShort (binary t) = length t ≤ max_len
  IsShort (array ds) = (items_len ds ≤ max_len) × AreShort ds
  IsShort (dictionary ps) = (pairs_len ps ≤ max_len) × PairsAreShort ps

  pub AreShort : Items → Type 0
  AreShort no_items = Unit {0}
  AreShort (item d ds) = IsShort d × AreShort ds

  pub PairsAreShort : Pairs → Type 0
  PairsAreShort no_pairs = Unit {0}
  PairsAreShort (pair k v ps) = IsShort k × IsShort v × PairsAreShort ps

-- what is written and read: it keeps both limits
pub record IsWithin (d : Data) : Type 0 where
  pub shallow : depth d ≤ max_depth
  pub short : IsShort d
