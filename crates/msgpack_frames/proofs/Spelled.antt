-- What is written is an encoding, and none is shorter.
use Rattle.std.proofs.Common.{◌≡◌, ℕ, suc, ◌+◌, ◌-◌, ◌^◌, ◌<◌, ◌≤◌, pos, negsuc, SFits, Bool, true, false, ltb, List, [], ◌∷◌, ◌++◌, length, refl, sym, ap, subst, arith, inl, inr}
use Rattle.std.specs.Int.{byte_len, to_be_bytes, cast_unsigned, cast_signed}
use Rattle.std.proofs.lemmas.Bool.{cond_both, ltb-true, ltb-false, lt-ltb, le-ltb}
use Rattle.std.proofs.lemmas.Int.{ints, to_z-of_z}
use Rattle.std.proofs.lemmas.List.{length-append}
use Rattle.small_facts.proofs.Numbers.{same_pos}
use Rattle.msgpack_frames.specs.declared.form.Size.{Size}
use Rattle.msgpack_frames.specs.declared.form.Size.TheVariants.{One, Two, Four, Eight}
use Rattle.msgpack_frames.specs.declared.form.Kind.{Kind}
use Rattle.msgpack_frames.specs.declared.form.Kind.TheVariants.{Str, Bin, Array, Map}
use Rattle.msgpack_frames.specs.declared.form.Form.{Form}
use Rattle.msgpack_frames.specs.declared.form.Form.TheVariants.{Nil, Bool as Truth, Small, Unsigned, Signed, Fixed, Sized}
use Rattle.msgpack_frames.specs.Data.{Data, nil, boolean, integer, text, binary, array, dictionary, Items, no_items, item, Pairs, no_pairs, pair, items_len, pairs_len, max_len, IsShort, AreShort, PairsAreShort}
use Rattle.msgpack_frames.specs.Forms.{form, width, bound}
use Rattle.msgpack_frames.specs.Encoding.{IsHead, EncodesInteger, Encodes, EncodesItems, EncodesPairs}
use Rattle.msgpack_frames.specs.Spelling.{sized, head, unsigned, negative, spelling, items_spelling, pairs_spelling, IsValid, AreValid, PairsAreValid}
use Rattle.msgpack_frames.proofs.Numbers.{wide}
use Rattle.msgpack_frames.proofs.Lengths.{IsListed, listed, fixed_len}

-- ---- first bytes

fixed_map : (n : ℕ) → n < 16 → form (0x80 + n) ≡ Fixed Map n
unfolding form
fixed_map n lt = rw (le-ltb (0x80 + n) 0x80 (omega arith), lt-ltb (0x80 + n) 0x90 (omega arith)) (ap (Fixed Map) (omega arith))

fixed_array : (n : ℕ) → n < 16 → form (0x90 + n) ≡ Fixed Array n
unfolding form
fixed_array n lt = rw (le-ltb (0x90 + n) 0x80 (omega arith), le-ltb (0x90 + n) 0x90 (omega arith), lt-ltb (0x90 + n) 0xa0 (omega arith)) (ap (Fixed Array) (omega arith))

fixed_str : (n : ℕ) → n < 32 → form (0xa0 + n) ≡ Fixed Str n
unfolding form
fixed_str n lt = rw (le-ltb (0xa0 + n) 0x80 (omega arith), le-ltb (0xa0 + n) 0x90 (omega arith), le-ltb (0xa0 + n) 0xa0 (omega arith), lt-ltb (0xa0 + n) 0xc0 (omega arith)) (ap (Fixed Str) (omega arith))

small_pos : (n : ℕ) → n < 128 → form n ≡ Small (pos n)
unfolding form
small_pos n lt = rw (lt-ltb n 0x80 lt) refl

small_byte : (b n : ℕ) → 0xe0 ≤ b → b < 0x100 → n ≡ 0xff - b → form b ≡ Small (negsuc n)
unfolding form
small_byte b n le lt e = rw (le-ltb b 0x80 (omega arith), le-ltb b 0x90 (omega arith), le-ltb b 0xa0 (omega arith), le-ltb b 0xc0 (omega arith), le-ltb b 0xc1 (omega arith), le-ltb b 0xc2 (omega arith), le-ltb b 0xc3 (omega arith), le-ltb b 0xc4 (omega arith), le-ltb b 0xc5 (omega arith), le-ltb b 0xc6 (omega arith), le-ltb b 0xc7 (omega arith), le-ltb b 0xca (omega arith), le-ltb b 0xcc (omega arith), le-ltb b 0xcd (omega arith), le-ltb b 0xce (omega arith), le-ltb b 0xcf (omega arith), le-ltb b 0xd0 (omega arith), le-ltb b 0xd1 (omega arith), le-ltb b 0xd2 (omega arith), le-ltb b 0xd3 (omega arith), le-ltb b 0xd4 (omega arith), le-ltb b 0xd9 (omega arith), le-ltb b 0xda (omega arith), le-ltb b 0xdb (omega arith), le-ltb b 0xdc (omega arith), le-ltb b 0xdd (omega arith), le-ltb b 0xde (omega arith), le-ltb b 0xdf (omega arith), le-ltb b 0xe0 (omega arith), lt-ltb b 0x100 lt, e) refl

-- ---- what is written is an encoding

sized_head : (b : ℕ) (kind : Kind) (s : Size) (n : ℕ) → form b ≡ Sized kind s → n < bound s → IsHead kind n (sized b s n)
unfolding sized
sized_head b kind s n f lt = inr (s, (b, f, lt, refl))

head_encodes : (kind : Kind) (n : ℕ) → n ≤ max_len → IsHead kind n (head kind n)
unfolding head form
head_encodes Str n le =
    let P = IsHead Str n in
    cond_both (ltb n 32) _ _ P (λ e. inl (0xa0 + n, fixed_str n (ltb-true n 32 e), refl)) (λ e.
    cond_both (ltb n (2 ^ 8)) _ _ P (λ e. sized_head 0xd9 Str One n refl (ltb-true n (2 ^ 8) e)) (λ e.
    cond_both (ltb n (2 ^ 16)) _ _ P (λ e. sized_head 0xda Str Two n refl (ltb-true n (2 ^ 16) e)) (λ e. sized_head 0xdb Str Four n refl (omega arith))))
head_encodes Bin n le =
    let P = IsHead Bin n in
    cond_both (ltb n (2 ^ 8)) _ _ P (λ e. sized_head 0xc4 Bin One n refl (ltb-true n (2 ^ 8) e)) (λ e.
    cond_both (ltb n (2 ^ 16)) _ _ P (λ e. sized_head 0xc5 Bin Two n refl (ltb-true n (2 ^ 16) e)) (λ e. sized_head 0xc6 Bin Four n refl (omega arith)))
head_encodes Array n le =
    let P = IsHead Array n in
    cond_both (ltb n 16) _ _ P (λ e. inl (0x90 + n, fixed_array n (ltb-true n 16 e), refl)) (λ e.
    cond_both (ltb n (2 ^ 16)) _ _ P (λ e. sized_head 0xdc Array Two n refl (ltb-true n (2 ^ 16) e)) (λ e. sized_head 0xdd Array Four n refl (omega arith)))
head_encodes Map n le =
    let P = IsHead Map n in
    cond_both (ltb n 16) _ _ P (λ e. inl (0x80 + n, fixed_map n (ltb-true n 16 e), refl)) (λ e.
    cond_both (ltb n (2 ^ 16)) _ _ P (λ e. sized_head 0xde Map Two n refl (ltb-true n (2 ^ 16) e)) (λ e. sized_head 0xdf Map Four n refl (omega arith)))

sized_unsigned : (b : ℕ) (s : Size) (n : ℕ) → form b ≡ Unsigned s → n < bound s → EncodesInteger (pos n) (sized b s n)
unfolding sized
sized_unsigned b s n f lt = inr (inl (s, n, (b, f, lt, refl), refl))

sized_signed : (b : ℕ) (s : Size) (n : ℕ) → form b ≡ Signed s → SFits (width s) (negsuc n) → cast_unsigned (width s) (negsuc n) < bound s → EncodesInteger (negsuc n) (sized b s (cast_unsigned (width s) (negsuc n)))
unfolding sized
sized_signed b s n f fits lt = inr (inr (s, cast_unsigned (width s) (negsuc n), (b, f, lt, refl), sym (to_z-of_z (width s) (negsuc n) fits)))

unsigned_encodes : (n : ℕ) → n < 2 ^ 64 → EncodesInteger (pos n) (unsigned n)
unfolding unsigned form
unsigned_encodes n lt =
    let P = EncodesInteger (pos n) in
    cond_both (ltb n (2 ^ 7)) _ _ P (λ e. inl (n, small_pos n (ltb-true n (2 ^ 7) e), refl)) (λ e.
    cond_both (ltb n (2 ^ 8)) _ _ P (λ e. sized_unsigned 0xcc One n refl (ltb-true n (2 ^ 8) e)) (λ e.
    cond_both (ltb n (2 ^ 16)) _ _ P (λ e. sized_unsigned 0xcd Two n refl (ltb-true n (2 ^ 16) e)) (λ e.
    cond_both (ltb n (2 ^ 32)) _ _ P (λ e. sized_unsigned 0xce Four n refl (ltb-true n (2 ^ 32) e)) (λ e. sized_unsigned 0xcf Eight n refl lt))))

negative_encodes : (n : ℕ) → n < 2 ^ 63 → EncodesInteger (negsuc n) (negative n)
unfolding negative form
negative_encodes n lt =
    let P = EncodesInteger (negsuc n) in
    cond_both (ltb n (2 ^ 5)) _ _ P (λ e. let k = ltb-true n (2 ^ 5) e in inl (0xff - n, small_byte (0xff - n) n (omega arith) (omega arith) (omega arith), refl)) (λ e.
    cond_both (ltb n (2 ^ 7)) _ _ P (λ e. sized_signed 0xd0 One n refl (record { sfits = ltb-true n (2 ^ 7) e }) (omega arith)) (λ e.
    cond_both (ltb n (2 ^ 15)) _ _ P (λ e. sized_signed 0xd1 Two n refl (record { sfits = ltb-true n (2 ^ 15) e }) (omega arith)) (λ e.
    cond_both (ltb n (2 ^ 31)) _ _ P (λ e. sized_signed 0xd2 Four n refl (record { sfits = ltb-true n (2 ^ 31) e }) (omega arith)) (λ e. sized_signed 0xd3 Eight n refl (record { sfits = lt }) (omega arith)))))

nil_encodes : Encodes nil (spelling nil)
unfolding form
nil_encodes = (0xc0, refl, refl)

boolean_encodes : (b : Bool) → Encodes (boolean b) (spelling (boolean b))
unfolding form
boolean_encodes false = (0xc2, refl, refl)
boolean_encodes true = (0xc3, refl, refl)

mutual
  pub encodes : (d : Data) → IsValid d → IsShort d → Encodes d (spelling d)
  encodes nil valid short = nil_encodes
  encodes (boolean b) valid short = boolean_encodes b
  encodes (integer (pos n)) valid short = unsigned_encodes n valid
  encodes (integer (negsuc n)) valid short = negative_encodes n valid
  encodes (text t) valid short = (head Str (length t), head_encodes Str (length t) short, valid, refl)
  encodes (binary t) valid short = (head Bin (length t), head_encodes Bin (length t) short, refl)
  encodes (array ds) valid short = (head Array (items_len ds), items_spelling ds, head_encodes Array (items_len ds) short.0, items_encode ds valid short.1, refl)
  encodes (dictionary ps) valid short = (head Map (pairs_len ps), pairs_spelling ps, head_encodes Map (pairs_len ps) short.0, pairs_encode ps valid short.1, refl)

  items_encode : (ds : Items) → AreValid ds → AreShort ds → EncodesItems ds (items_spelling ds)
  items_encode no_items valid short = refl
  items_encode (item d ds) valid short = (spelling d, items_spelling ds, encodes d valid.0 short.0, items_encode ds valid.1 short.1, refl)

  pairs_encode : (ps : Pairs) → PairsAreValid ps → PairsAreShort ps → EncodesPairs ps (pairs_spelling ps)
  pairs_encode no_pairs valid short = refl
  pairs_encode (pair k v ps) valid short = (spelling k, spelling v, pairs_spelling ps, encodes k valid.0 short.0, encodes v valid.1 short.1, pairs_encode ps valid.2 short.2, refl)

-- ---- none is shorter

sized_len : (b : ℕ) (s : Size) (n : ℕ) → length (sized b s n) ≡ suc (byte_len (width s))
unfolding sized
sized_len b s n = ap suc ((wide s).len n)

-- how long a number is at least
record IsLong (n len : ℕ) : Type 0 where
  one : 1 ≤ len
  two : 2 ^ 8 ≤ n → 3 ≤ len
  four : 2 ^ 16 ≤ n → 5 ≤ len
  eight : 2 ^ 32 ≤ n → 9 ≤ len

long_behind : (b : ℕ) (s : Size) (m n : ℕ) → n < bound s → IsLong n (length (b ∷ to_be_bytes (width s) m))
long_behind b One m n lt = record { one = omega arith; two = λ le. absurd (omega arith); four = λ le. absurd (omega arith); eight = λ le. absurd (omega arith) }
long_behind b Two m n lt = record { one = omega arith; two = λ le. omega arith; four = λ le. absurd (omega arith); eight = λ le. absurd (omega arith) }
long_behind b Four m n lt = record { one = omega arith; two = λ le. omega arith; four = λ le. omega arith; eight = λ le. absurd (omega arith) }
long_behind b Eight m n lt = record { one = omega arith; two = λ le. omega arith; four = λ le. omega arith; eight = λ le. omega arith }

-- the bytes of a head whose length is n
head_long : (kind : Kind) (n : ℕ) (other : List ℕ) → IsHead kind n other → IsLong n (length other)
head_long kind n other (inl h) =
    let small : n < 32 = fixed_len h.0 kind n h.1 in
    rw h.2 (record { one = omega arith; two = λ le. absurd (omega arith); four = λ le. absurd (omega arith); eight = λ le. absurd (omega arith) })
head_long kind n other (inr h) = rw h.1.3 (long_behind h.1.0 h.0 n n h.1.2)

-- a length that stands in no first byte takes another byte, and that of an array or a map two
head_two : (kind : Kind) (n : ℕ) (other : List ℕ) → 32 ≤ n → IsHead kind n other → 2 ≤ length other
head_two kind n other le (inl h) = let small = fixed_len h.0 kind n h.1 in absurd (omega arith)
head_two kind n other le (inr h) = rw h.1.3 (omega (arith, (wide h.0).len n, size_some h.0))
  where
    size_some : (s : Size) → 1 ≤ byte_len (width s)
    size_some One = omega arith
    size_some Two = omega arith
    size_some Four = omega arith
    size_some Eight = omega arith

bin_two : (n : ℕ) (other : List ℕ) → IsHead Bin n other → 2 ≤ length other
bin_two n other (inl h) = absurd (listed h.0 (Fixed Bin n) h.1)
bin_two n other (inr h) = rw h.1.3 (omega (arith, (wide h.0).len n, size_some h.0))
  where
    size_some : (s : Size) → 1 ≤ byte_len (width s)
    size_some One = omega arith
    size_some Two = omega arith
    size_some Four = omega arith
    size_some Eight = omega arith

array_size : (s : Size) → IsListed (Sized Array s) → 2 ≤ byte_len (width s)
array_size One h = absurd h
array_size Two h = omega arith
array_size Four h = omega arith
array_size Eight h = omega arith

array_three : (n : ℕ) (other : List ℕ) → 16 ≤ n → IsHead Array n other → 3 ≤ length other
array_three n other le (inl h) = let small : n < 16 = listed h.0 (Fixed Array n) h.1 in absurd (omega arith)
array_three n other le (inr h) = rw h.1.3 (omega (arith, (wide h.0).len n, array_size h.0 (listed h.1.0 (Sized Array h.0) h.1.1)))

map_size : (s : Size) → IsListed (Sized Map s) → 2 ≤ byte_len (width s)
map_size One h = absurd h
map_size Two h = omega arith
map_size Four h = omega arith
map_size Eight h = omega arith

map_three : (n : ℕ) (other : List ℕ) → 16 ≤ n → IsHead Map n other → 3 ≤ length other
map_three n other le (inl h) = let small : n < 16 = listed h.0 (Fixed Map n) h.1 in absurd (omega arith)
map_three n other le (inr h) = rw h.1.3 (omega (arith, (wide h.0).len n, map_size h.0 (listed h.1.0 (Sized Map h.0) h.1.1)))

head_shortest : (kind : Kind) (n : ℕ) (other : List ℕ) → IsHead kind n other → length (head kind n) ≤ length other
unfolding head
head_shortest Str n other h =
    let P = λ (l : List ℕ). length l ≤ length other in
    let long = head_long Str n other h in
    cond_both (ltb n 32) _ _ P (λ e. long.one) (λ e.
    let two = head_two Str n other (ltb-false n 32 e) h in
    cond_both (ltb n (2 ^ 8)) _ _ P (λ e. omega (arith, sized_len 0xd9 One n)) (λ e.
    let three = long.two (ltb-false n (2 ^ 8) e) in
    cond_both (ltb n (2 ^ 16)) _ _ P (λ e. omega (arith, sized_len 0xda Two n)) (λ e. omega (arith, sized_len 0xdb Four n, long.four (ltb-false n (2 ^ 16) e)))))
head_shortest Bin n other h =
    let P = λ (l : List ℕ). length l ≤ length other in
    let long = head_long Bin n other h in
    let two = bin_two n other h in
    cond_both (ltb n (2 ^ 8)) _ _ P (λ e. omega (arith, sized_len 0xc4 One n)) (λ e.
    let three = long.two (ltb-false n (2 ^ 8) e) in
    cond_both (ltb n (2 ^ 16)) _ _ P (λ e. omega (arith, sized_len 0xc5 Two n)) (λ e. omega (arith, sized_len 0xc6 Four n, long.four (ltb-false n (2 ^ 16) e))))
head_shortest Array n other h =
    let P = λ (l : List ℕ). length l ≤ length other in
    let long = head_long Array n other h in
    cond_both (ltb n 16) _ _ P (λ e. long.one) (λ e.
    let three = array_three n other (ltb-false n 16 e) h in
    cond_both (ltb n (2 ^ 16)) _ _ P (λ e. omega (arith, sized_len 0xdc Two n)) (λ e. omega (arith, sized_len 0xdd Four n, long.four (ltb-false n (2 ^ 16) e))))
head_shortest Map n other h =
    let P = λ (l : List ℕ). length l ≤ length other in
    let long = head_long Map n other h in
    cond_both (ltb n 16) _ _ P (λ e. long.one) (λ e.
    let three = map_three n other (ltb-false n 16 e) h in
    cond_both (ltb n (2 ^ 16)) _ _ P (λ e. omega (arith, sized_len 0xde Two n)) (λ e. omega (arith, sized_len 0xdf Four n, long.four (ltb-false n (2 ^ 16) e))))

-- a signed number of a size, as n or as minus n, less 1
signed_pos : (s : Size) (m n : ℕ) → m < bound s → pos n ≡ cast_signed (width s) m → n < bound s
signed_pos One m n lt e = omega (arith, ints)
signed_pos Two m n lt e = omega (arith, ints)
signed_pos Four m n lt e = omega (arith, ints)
signed_pos Eight m n lt e = omega (arith, ints)

signed_neg : (s : Size) (m n : ℕ) → m < bound s → negsuc n ≡ cast_signed (width s) m → n + n < bound s
signed_neg One m n lt e = omega (arith, ints)
signed_neg Two m n lt e = omega (arith, ints)
signed_neg Four m n lt e = omega (arith, ints)
signed_neg Eight m n lt e = omega (arith, ints)

-- what isn't in one byte takes two
two_behind : (b : ℕ) (s : Size) (m : ℕ) → 2 ≤ length (b ∷ to_be_bytes (width s) m)
two_behind b One m = omega arith
two_behind b Two m = omega arith
two_behind b Four m = omega arith
two_behind b Eight m = omega arith

pos_not_negsuc : (n m : ℕ) → negsuc n ≡ pos m → ⊥
pos_not_negsuc n m e = cc

unsigned_long : (n : ℕ) (other : List ℕ) → EncodesInteger (pos n) other → IsLong n (length other) × (2 ^ 7 ≤ n → 2 ≤ length other)
unsigned_long n other (inl h) =
    let small : n < 128 = listed h.0 (Small (pos n)) h.1 in
    rw h.2 (record { one = omega arith; two = λ le. absurd (omega arith); four = λ le. absurd (omega arith); eight = λ le. absurd (omega arith) }, λ le. absurd (omega arith))
unsigned_long n other (inr (inl h)) =
    let same = same_pos n h.1 h.3 in
    rw h.2.3 (long_behind h.2.0 h.0 h.1 n (subst (λ (k : ℕ). k < bound h.0) (sym same) h.2.2), λ le. two_behind h.2.0 h.0 h.1)
unsigned_long n other (inr (inr h)) =
    rw h.2.3 (long_behind h.2.0 h.0 h.1 n (signed_pos h.0 h.1 n h.2.2 h.3), λ le. two_behind h.2.0 h.0 h.1)

negative_long : (n : ℕ) (other : List ℕ) → EncodesInteger (negsuc n) other → IsLong (n + n) (length other) × (2 ^ 5 ≤ n → 2 ≤ length other)
negative_long n other (inl h) =
    let small : n < 32 = listed h.0 (Small (negsuc n)) h.1 in
    rw h.2 (record { one = omega arith; two = λ le. absurd (omega arith); four = λ le. absurd (omega arith); eight = λ le. absurd (omega arith) }, λ le. absurd (omega arith))
negative_long n other (inr (inl h)) = absurd (pos_not_negsuc n h.1 h.3)
negative_long n other (inr (inr h)) =
    rw h.2.3 (long_behind h.2.0 h.0 h.1 (n + n) (signed_neg h.0 h.1 n h.2.2 h.3), λ le. two_behind h.2.0 h.0 h.1)

unsigned_shortest : (n : ℕ) (other : List ℕ) → EncodesInteger (pos n) other → length (unsigned n) ≤ length other
unfolding unsigned
unsigned_shortest n other h =
    let P = λ (l : List ℕ). length l ≤ length other in
    let long = unsigned_long n other h in
    cond_both (ltb n (2 ^ 7)) _ _ P (λ e. long.0.one) (λ e.
    let two = long.1 (ltb-false n (2 ^ 7) e) in
    cond_both (ltb n (2 ^ 8)) _ _ P (λ e. omega (arith, sized_len 0xcc One n)) (λ e.
    let three = long.0.two (ltb-false n (2 ^ 8) e) in
    cond_both (ltb n (2 ^ 16)) _ _ P (λ e. omega (arith, sized_len 0xcd Two n)) (λ e.
    let five = long.0.four (ltb-false n (2 ^ 16) e) in
    cond_both (ltb n (2 ^ 32)) _ _ P (λ e. omega (arith, sized_len 0xce Four n)) (λ e. omega (arith, sized_len 0xcf Eight n, long.0.eight (ltb-false n (2 ^ 32) e))))))

negative_shortest : (n : ℕ) (other : List ℕ) → EncodesInteger (negsuc n) other → length (negative n) ≤ length other
unfolding negative
negative_shortest n other h =
    let P = λ (l : List ℕ). length l ≤ length other in
    let long = negative_long n other h in
    cond_both (ltb n (2 ^ 5)) _ _ P (λ e. long.0.one) (λ e.
    let two = long.1 (ltb-false n (2 ^ 5) e) in
    cond_both (ltb n (2 ^ 7)) _ _ P (λ e. omega (arith, sized_len 0xd0 One (cast_unsigned (width One) (negsuc n)))) (λ e.
    let three = long.0.two (omega (arith, ltb-false n (2 ^ 7) e)) in
    cond_both (ltb n (2 ^ 15)) _ _ P (λ e. omega (arith, sized_len 0xd1 Two (cast_unsigned (width Two) (negsuc n)))) (λ e.
    let five = long.0.four (omega (arith, ltb-false n (2 ^ 15) e)) in
    cond_both (ltb n (2 ^ 31)) _ _ P (λ e. omega (arith, sized_len 0xd2 Four (cast_unsigned (width Four) (negsuc n)))) (λ e. omega (arith, sized_len 0xd3 Eight (cast_unsigned (width Eight) (negsuc n)), long.0.eight (omega (arith, ltb-false n (2 ^ 31) e)))))))

one_byte : (f : Form) (first : ℕ) (other : List ℕ) → (b : ℕ) × (form b ≡ f) × (other ≡ b ∷ []) → length (first ∷ []) ≤ length other
one_byte f first other h = rw h.2 (omega arith)

-- two parts that are no longer each
both_shorter : (a b c d other : List ℕ) → length a ≤ length c → length b ≤ length d → other ≡ c ++ d → length (a ++ b) ≤ length other
both_shorter a b c d other first second e = rw e (omega (arith, length-append a b, length-append c d))

mutual
  pub shortest : (d : Data) (other : List ℕ) → Encodes d other → length (spelling d) ≤ length other
  shortest nil other h = one_byte Nil 0xc0 other h
  shortest (boolean true) other h = one_byte (Truth true) 0xc3 other h
  shortest (boolean false) other h = one_byte (Truth false) 0xc2 other h
  shortest (integer (pos n)) other h = unsigned_shortest n other h
  shortest (integer (negsuc n)) other h = negative_shortest n other h
  shortest (text t) other h = both_shorter (head Str (length t)) t h.0 t other (head_shortest Str (length t) h.0 h.1) (omega arith) h.3
  shortest (binary t) other h = both_shorter (head Bin (length t)) t h.0 t other (head_shortest Bin (length t) h.0 h.1) (omega arith) h.2
  shortest (array ds) other h = both_shorter (head Array (items_len ds)) (items_spelling ds) h.0 h.1 other (head_shortest Array (items_len ds) h.0 h.2) (items_shortest ds h.1 h.3) h.4
  shortest (dictionary ps) other h = both_shorter (head Map (pairs_len ps)) (pairs_spelling ps) h.0 h.1 other (head_shortest Map (pairs_len ps) h.0 h.2) (pairs_shortest ps h.1 h.3) h.4

  items_shortest : (ds : Items) (other : List ℕ) → EncodesItems ds other → length (items_spelling ds) ≤ length other
  items_shortest no_items other h = omega arith
  items_shortest (item d ds) other h = both_shorter (spelling d) (items_spelling ds) h.0 h.1 other (shortest d h.0 h.2) (items_shortest ds h.1 h.3) h.4

  pairs_shortest : (ps : Pairs) (other : List ℕ) → EncodesPairs ps other → length (pairs_spelling ps) ≤ length other
  pairs_shortest no_pairs other h = omega arith
  pairs_shortest (pair k v ps) other h =
      both_shorter (spelling k) (spelling v ++ pairs_spelling ps) h.0 (h.1 ++ h.2) other (shortest k h.0 h.3) (both_shorter (spelling v) (pairs_spelling ps) h.1 h.2 (h.1 ++ h.2) (shortest v h.1 h.4) (pairs_shortest ps h.2 h.5) refl) h.6
