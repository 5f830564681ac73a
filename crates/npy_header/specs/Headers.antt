-- The header of a .npy file: a Python dictionary with exactly the keys descr, fortran_order and shape, then spaces, then a
-- newline. This is the format of NEP 1, "A simple file format for NumPy arrays", read as a relation by cases between bytes and
-- what they say; between tokens there may be any number of spaces. A wide header is one of version 3.0, whose string of descr
-- may hold characters past ASCII in UTF-8; in versions 1.0 and 2.0 all is ASCII.
use Rattle.std.specs.Prelude.{◌≡◌, ◌≢◌, ℕ, ◌+◌, ◌-◌, ◌*◌, ◌≤◌, Bool, true, false, List, [], ◌∷◌, ◌++◌, ◌⊎◌}

-- what a header says
pub record Fields : Type 0 where
  pub descr : List ℕ
  pub fortran : Bool
  pub shape : List ℕ

abbrev pub blank : Fields
blank = record { descr = []; fortran = false; shape = [] }

-- ---- bytes: 32 is the space, 39 and 34 are the quotes, 40 and 41 the parentheses, 44 the comma, 58 the colon, 123 and 125
-- the braces, 10 the newline

abbrev pub AllBytes : (ℕ → Type 0) → List ℕ → Type 0
AllBytes P [] = Unit {0}
AllBytes P (b ∷ w) = P b × AllBytes P w

abbrev pub IsSpace : ℕ → Type 0
IsSpace b = b ≡ 32

abbrev pub AreSpaces : List ℕ → Type 0
AreSpaces w = AllBytes IsSpace w

pub data Quote : Type 0 where
  single : Quote
  double : Quote

abbrev pub quote_byte : Quote → ℕ
quote_byte single = 39
quote_byte double = 34

-- a byte within quotes: 32 to 126, neither that quote nor the backslash
pub record IsInside (q : Quote) (b : ℕ) : Type 0 where
  pub low : 32 ≤ b
  pub high : b ≤ 126
  pub no_quote : b ≢ quote_byte q
  pub no_backslash : b ≢ 92

-- ---- characters past ASCII

pub record Within (low high b : ℕ) : Type 0 where
  pub least : low ≤ b
  pub most : b ≤ high

abbrev pub Continues : ℕ → Type 0
Continues b = Within 128 191 b

-- the first two bytes of a character of three: neither a shorter form nor a surrogate
abbrev pub AreFrontOfThree : ℕ → ℕ → Type 0
AreFrontOfThree a b =
    ((a ≡ 224) × Within 160 191 b) ⊎ ((Within 225 236 a × Continues b) ⊎ (((a ≡ 237) × Within 128 159 b) ⊎ (Within 238 239 a × Continues b)))

-- the first two bytes of a character of four: neither a shorter form nor past U+10FFFF
abbrev pub AreFrontOfFour : ℕ → ℕ → Type 0
AreFrontOfFour a b = ((a ≡ 240) × Within 144 191 b) ⊎ ((Within 241 243 a × Continues b) ⊎ ((a ≡ 244) × Within 128 143 b))

-- the bytes of one character past ASCII in well-formed UTF-8
abbrev pub ArePastAscii : List ℕ → Type 0
ArePastAscii [] = ⊥
ArePastAscii (a ∷ []) = ⊥
ArePastAscii (a ∷ b ∷ []) = Within 194 223 a × Continues b
ArePastAscii (a ∷ b ∷ c ∷ []) = AreFrontOfThree a b × Continues c
ArePastAscii (a ∷ b ∷ c ∷ d ∷ []) = AreFrontOfFour a b × (Continues c × Continues d)
ArePastAscii (a ∷ b ∷ c ∷ d ∷ e ∷ w) = ⊥

-- what stands within quotes, character by character
pub data InString (wide : Bool) (q : Quote) : List ℕ → Type 0 where
  ends : InString wide q []
  ascii : (b : ℕ) (w : List ℕ) → IsInside q b → InString wide q w → InString wide q (b ∷ w)
  past : (c w : List ℕ) → wide ≡ true → ArePastAscii c → InString wide q w → InString wide q (c ++ w)

-- ---- numbers

pub record IsDigit (b : ℕ) : Type 0 where
  pub low : 48 ≤ b
  pub high : b ≤ 57

-- the number that digits write, behind those that wrote `so_far`
abbrev pub decimal : ℕ → List ℕ → ℕ
decimal so_far [] = so_far
decimal so_far (b ∷ w) = decimal (10 * so_far + (b - 48)) w

-- decimal digits without a leading zero, except 0 itself
abbrev pub IsNumber : ℕ → List ℕ → Type 0
IsNumber n [] = ⊥
IsNumber n (b ∷ w) = ((b ≡ 48) × (w ≡ []) × (n ≡ 0)) ⊎ (IsDigit b × (b ≢ 48) × AllBytes IsDigit w × (n ≡ decimal 0 (b ∷ w)))

-- ---- values

-- a key with what stands at it
pub data Entry : Type 0 where
  descr : List ℕ → Entry
  fortran : Bool → Entry
  shape : List ℕ → Entry

-- the letters of descr, fortran_order and shape
abbrev pub key_text : Entry → List ℕ
key_text (descr t) = 100 ∷ 101 ∷ 115 ∷ 99 ∷ 114 ∷ []
key_text (fortran b) = 102 ∷ 111 ∷ 114 ∷ 116 ∷ 114 ∷ 97 ∷ 110 ∷ 95 ∷ 111 ∷ 114 ∷ 100 ∷ 101 ∷ 114 ∷ []
key_text (shape ns) = 115 ∷ 104 ∷ 97 ∷ 112 ∷ 101 ∷ []

-- the letters of True and False
abbrev pub bool_text : Bool → List ℕ
bool_text true = 84 ∷ 114 ∷ 117 ∷ 101 ∷ []
bool_text false = 70 ∷ 97 ∷ 108 ∷ 115 ∷ 101 ∷ []

-- What stands behind the first number's comma: further numbers with commas between them, perhaps a last comma, and the
-- closing parenthesis.
abbrev pub AreAxes : List ℕ → List ℕ → Type 0
AreAxes [] w = w ≡ 41 ∷ []
AreAxes (n ∷ ns) w =
    (d s r : List ℕ) × IsNumber n d × AreSpaces s × (w ≡ d ++ (s ++ r))
    × (((ns ≡ []) × (r ≡ 41 ∷ [])) ⊎ ((s' r' : List ℕ) × AreSpaces s' × (r ≡ 44 ∷ (s' ++ r')) × AreAxes ns r'))

-- (), (n,), or two or more numbers with commas between them and perhaps a last one
abbrev pub IsTuple : List ℕ → List ℕ → Type 0
IsTuple [] w = (s : List ℕ) × AreSpaces s × (w ≡ 40 ∷ (s ++ 41 ∷ []))
IsTuple (n ∷ ns) w =
    (s d s' s'' r : List ℕ) × AreSpaces s × IsNumber n d × AreSpaces s' × AreSpaces s'' × AreAxes ns r
    × (w ≡ 40 ∷ (s ++ (d ++ (s' ++ 44 ∷ (s'' ++ r)))))

abbrev pub IsValue : Bool → Entry → List ℕ → Type 0
IsValue wide (descr t) w = (q : Quote) × InString wide q t × (w ≡ quote_byte q ∷ (t ++ quote_byte q ∷ []))
IsValue wide (fortran b) w = w ≡ bool_text b
IsValue wide (shape ns) w = IsTuple ns w

-- ---- the dictionary

-- a quoted key, a colon and its value
pub record IsItem (wide : Bool) (e : Entry) (w : List ℕ) : Type 0 where
  pub quote : Quote
  pub before : List ℕ
  pub after : List ℕ
  pub value : List ℕ
  pub before_ok : AreSpaces before
  pub after_ok : AreSpaces after
  pub value_ok : IsValue wide e value
  pub text : w ≡ quote_byte quote ∷ (key_text e ++ quote_byte quote ∷ (before ++ 58 ∷ (after ++ value)))

-- what stands behind an item: further ones with commas before them, or perhaps a last comma
abbrev pub AreMore : Bool → List Entry → List ℕ → Type 0
AreMore wide [] w = (w ≡ []) ⊎ ((s : List ℕ) × AreSpaces s × (w ≡ 44 ∷ s))
AreMore wide (e ∷ es) w =
    (s i s' r : List ℕ) × AreSpaces s × IsItem wide e i × AreSpaces s' × AreMore wide es r
    × (w ≡ 44 ∷ (s ++ (i ++ (s' ++ r))))

-- which keys are still to come
pub record Keys : Type 0 where
  pub descr : Bool
  pub fortran : Bool
  pub shape : Bool

abbrev pub all_keys : Keys
all_keys = record { descr = true; fortran = true; shape = true }

abbrev pub has : Keys → Entry → Bool
has k (descr t) = k.descr
has k (fortran b) = k.fortran
has k (shape ns) = k.shape

abbrev pub without : Keys → Entry → Keys
without k (descr t) = record k { descr = false }
without k (fortran b) = record k { fortran = false }
without k (shape ns) = record k { shape = false }

-- each of these keys once, in any order
abbrev pub EachOnce : Keys → List Entry → Type 0
EachOnce k [] = k ≡ record { descr = false; fortran = false; shape = false }
EachOnce k (e ∷ es) = (has k e ≡ true) × EachOnce (without k e) es

abbrev pub with_entry : Entry → Fields → Fields
with_entry (descr t) f = record f { descr = t }
with_entry (fortran b) f = record f { fortran = b }
with_entry (shape ns) f = record f { shape = ns }

abbrev pub with_entries : List Entry → Fields → Fields
with_entries [] f = f
with_entries (e ∷ es) f = with_entries es (with_entry e f)

pub record IsHeader (wide : Bool) (w : List ℕ) (f : Fields) : Type 0 where
  pub first : Entry
  pub others : List Entry
  pub spaces : List ℕ
  pub item : List ℕ
  pub behind : List ℕ
  pub more : List ℕ
  pub padding : List ℕ
  pub each_once : EachOnce all_keys (first ∷ others)
  pub fields : f ≡ with_entries (first ∷ others) blank
  pub spaces_ok : AreSpaces spaces
  pub item_ok : IsItem wide first item
  pub behind_ok : AreSpaces behind
  pub more_ok : AreMore wide others more
  pub padding_ok : AreSpaces padding
  pub text : w ≡ 123 ∷ (spaces ++ (item ++ (behind ++ (more ++ 125 ∷ (padding ++ 10 ∷ [])))))
