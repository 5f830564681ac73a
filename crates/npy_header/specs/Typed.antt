-- The grammar of headers by named parts, in which the next byte decides.
use Rattle.std.specs.Prelude.{ℕ, Bool, true, false, cond, ◌&&◌, ◌||◌, not, nat_eq, nat_lt, nat_le, List, [], ◌∷◌, Option, Some, None}
use Rattle.npy_header.specs.Headers.{Quote, single, double}

pub data HPart : Type 0 where
  start : HPart
  tail : HPart
  spaces : HPart
  descr_value : HPart
  fortran_value : HPart
  shape_value : HPart
  string : Quote → HPart
  tuple : HPart
  axes : HPart
  axis : HPart
  digits : HPart
  -- a later byte of a character, of these kinds
  later : ℕ → ℕ → HPart
  -- the keys that are still to come: descr, fortran_order, shape
  items : Bool → Bool → Bool → HPart
  key : Bool → Bool → Bool → Quote → HPart
  more : Bool → Bool → Bool → HPart

-- a byte of a kind, a part, or an action
pub data HSym : Type 0 where
  letter : ℕ → HSym
  sub : HPart → HSym
  act : ℕ → HSym

-- ---- actions: what follows is a number or a text; a text, a bool, a shape or a number is complete

abbrev pub first : ℕ
first = 0

abbrev pub begin : ℕ
begin = 1

abbrev pub copy : ℕ
copy = 2

abbrev pub is_true : ℕ
is_true = 3

abbrev pub is_false : ℕ
is_false = 4

abbrev pub open_shape : ℕ
open_shape = 5

abbrev pub number : ℕ
number = 6

-- ---- rules

abbrev pub quote_kind : Quote → ℕ
quote_kind single = 8
quote_kind double = 9

abbrev pub may_stand_in : Quote → ℕ → Bool
may_stand_in q k = nat_lt k 30 && (not (nat_eq k 1) && not (nat_eq k (quote_kind q)))

abbrev pub letters : List ℕ → List HSym → List HSym
letters [] s = s
letters (k ∷ ks) s = letter k ∷ letters ks s

-- d escr, f ortran_order, s hape
abbrev pub descr_rest : List ℕ
descr_rest = 11 ∷ 12 ∷ 13 ∷ 14 ∷ []

abbrev pub fortran_rest : List ℕ
fortran_rest = 16 ∷ 14 ∷ 17 ∷ 14 ∷ 18 ∷ 19 ∷ 20 ∷ 16 ∷ 14 ∷ 10 ∷ 11 ∷ 14 ∷ []

abbrev pub shape_rest : List ℕ
shape_rest = 21 ∷ 18 ∷ 22 ∷ 11 ∷ []

-- the rest of an item and what follows it
abbrev pub item_rest : List ℕ → Quote → HPart → HPart → List HSym
item_rest rest q value then = letters rest (letter (quote_kind q) ∷ sub spaces ∷ letter 6 ∷ sub spaces ∷ sub value ∷ sub spaces ∷ sub then ∷ [])

abbrev pub if_kind : ℕ → ℕ → List HSym → Option (List HSym) → Option (List HSym)
if_kind j k rule none = cond (nat_eq k j) (Some rule) none

abbrev pub on_items : Bool → Bool → Bool → ℕ → Option (List HSym)
on_items d f s k = cond (d || (f || s)) (if_kind 8 k (sub (key d f s single) ∷ []) (if_kind 9 k (sub (key d f s double) ∷ []) None)) None

abbrev pub on_key : Bool → Bool → Bool → Quote → ℕ → Option (List HSym)
on_key d f s q k =
    cond (d && nat_eq k 10) (Some (item_rest descr_rest q descr_value (more false f s)))
    (cond (f && nat_eq k 15) (Some (item_rest fortran_rest q fortran_value (more d false s)))
    (cond (s && nat_eq k 12) (Some (item_rest shape_rest q shape_value (more d f false))) None))

abbrev pub on_more : Bool → Bool → Bool → ℕ → Option (List HSym)
on_more d f s k = if_kind 7 k (sub spaces ∷ cond (d || (f || s)) (sub (items d f s) ∷ []) []) None

-- the characters past ASCII that a wide string holds, by their first byte
abbrev pub on_past : Quote → ℕ → Option (List HSym)
on_past q k =
    if_kind 33 k (sub (later 30 32) ∷ sub (string q) ∷ [])
    (if_kind 34 k (sub (later 32 32) ∷ sub (later 30 32) ∷ sub (string q) ∷ [])
    (if_kind 35 k (sub (later 30 32) ∷ sub (later 30 32) ∷ sub (string q) ∷ [])
    (if_kind 36 k (sub (later 30 31) ∷ sub (later 30 32) ∷ sub (string q) ∷ [])
    (if_kind 37 k (sub (later 31 32) ∷ sub (later 30 32) ∷ sub (later 30 32) ∷ sub (string q) ∷ [])
    (if_kind 38 k (sub (later 30 32) ∷ sub (later 30 32) ∷ sub (later 30 32) ∷ sub (string q) ∷ [])
    (if_kind 39 k (sub (later 30 30) ∷ sub (later 30 32) ∷ sub (later 30 32) ∷ sub (string q) ∷ []) None))))))

abbrev pub on_part : Bool → HPart → ℕ → Option (List HSym)
on_part wide start k = if_kind 2 k (sub spaces ∷ sub (items true true true) ∷ letter 3 ∷ sub tail ∷ []) None
on_part wide tail k = if_kind 0 k (sub tail ∷ []) (if_kind 1 k [] None)
on_part wide spaces k = if_kind 0 k (sub spaces ∷ []) None
on_part wide descr_value k =
    if_kind 8 k (act begin ∷ sub (string single) ∷ act copy ∷ letter 8 ∷ [])
    (if_kind 9 k (act begin ∷ sub (string double) ∷ act copy ∷ letter 9 ∷ []) None)
on_part wide fortran_value k = if_kind 23 k (letters (14 ∷ 24 ∷ 11 ∷ []) (act is_true ∷ [])) (if_kind 25 k (letters (18 ∷ 26 ∷ 12 ∷ 11 ∷ []) (act is_false ∷ [])) None)
on_part wide shape_value k = if_kind 4 k (act open_shape ∷ sub spaces ∷ sub tuple ∷ []) None
on_part wide (string q) k = cond (may_stand_in q k) (Some (sub (string q) ∷ [])) (cond wide (on_past q k) None)
on_part wide (later low high) k = cond (nat_le low k && nat_le k high) (Some []) None
on_part wide tuple k =
    if_kind 5 k [] (if_kind 27 k (act first ∷ act number ∷ sub spaces ∷ letter 7 ∷ sub spaces ∷ sub axes ∷ [])
    (if_kind 28 k (act first ∷ sub digits ∷ act number ∷ sub spaces ∷ letter 7 ∷ sub spaces ∷ sub axes ∷ []) None))
on_part wide axes k = if_kind 5 k [] (if_kind 27 k (act first ∷ act number ∷ sub spaces ∷ sub axis ∷ []) (if_kind 28 k (act first ∷ sub digits ∷ act number ∷ sub spaces ∷ sub axis ∷ []) None))
on_part wide axis k = if_kind 7 k (sub spaces ∷ sub axes ∷ []) (if_kind 5 k [] None)
on_part wide digits k = cond (nat_eq k 27 || nat_eq k 28) (Some (sub digits ∷ [])) None
on_part wide (items d f s) k = on_items d f s k
on_part wide (key d f s q) k = on_key d f s q k
on_part wide (more d f s) k = on_more d f s k

abbrev pub other_part : HPart → Option (List HSym)
other_part spaces = Some []
other_part (string q) = Some []
other_part digits = Some []
other_part (more d f s) = cond (d || (f || s)) None (Some [])
other_part start = None
other_part tail = None
other_part descr_value = None
other_part fortran_value = None
other_part shape_value = None
other_part tuple = None
other_part axes = None
other_part axis = None
other_part (later low high) = None
other_part (items d f s) = None
other_part (key d f s q) = None

-- the parts in the order of their numbers
unfoldable pub parts : List HPart
parts =
    start ∷ tail ∷ spaces ∷ descr_value ∷ fortran_value ∷ shape_value ∷ string single ∷ string double ∷ tuple ∷ axes ∷ axis ∷ digits
    ∷ items true true true ∷ items true true false ∷ items true false true ∷ items true false false
    ∷ items false true true ∷ items false true false ∷ items false false true
    ∷ key true true true single ∷ key true true true double ∷ key true true false single ∷ key true true false double
    ∷ key true false true single ∷ key true false true double ∷ key true false false single ∷ key true false false double
    ∷ key false true true single ∷ key false true true double ∷ key false true false single ∷ key false true false double
    ∷ key false false true single ∷ key false false true double
    ∷ more true true false ∷ more true false true ∷ more true false false ∷ more false true true ∷ more false true false
    ∷ more false false true ∷ more false false false
    ∷ later 30 32 ∷ later 30 31 ∷ later 31 32 ∷ later 32 32 ∷ later 30 30 ∷ []
