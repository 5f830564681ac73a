-- What is encoded so is read, whatever follows it.
use Rattle.std.proofs.Common.{◌≡◌, ℕ, suc, ◌-◌, ◌<◌, ◌≤◌, true, false, List, ◌∷◌, ◌++◌, length, Some, None, Ok, refl, ap, ◌∙◌, append_assoc, arith, inl, inr}
use Rattle.std.specs.Int.{to_be_bytes}
use Rattle.std.specs.Str.{is_utf8}
use Rattle.std.proofs.lemmas.Bool.{le-ltb}
use Rattle.std.proofs.lemmas.Str.{is_utf8-from_IsUtf8}
use Rattle.msgpack_frames.specs.declared.form.Size.{Size}
use Rattle.msgpack_frames.specs.declared.form.Kind.{Kind}
use Rattle.msgpack_frames.specs.declared.form.Kind.TheVariants.{Str, Bin, Array, Map}
use Rattle.msgpack_frames.specs.declared.form.Form.{Form}
use Rattle.msgpack_frames.specs.declared.form.Form.TheVariants.{Nil, Bool as Truth, Small, Unsigned, Signed, Fixed, Sized}
use Rattle.msgpack_frames.specs.Data.{Data, nil, boolean, integer, text, binary, array, dictionary, Items, no_items, item, Pairs, no_pairs, pair, items_len, pairs_len, depth, items_depth, pairs_depth, max_len, IsShort, AreShort, PairsAreShort}
use Rattle.msgpack_frames.specs.Forms.{form, width, bound}
use Rattle.msgpack_frames.specs.Encoding.{IsHead, EncodesInteger, Encodes, EncodesItems, EncodesPairs}
use Rattle.msgpack_frames.specs.Reading.{Inner, unsigned_at, signed_at, len_at, text_at, binary_at, items_at, pairs_at, array_at, map_at, body_at, is_too_deep, sized_at, formed_at, inner, value_at}
use Rattle.msgpack_frames.proofs.Numbers.{number_again, bytes_again}
use Rattle.msgpack_frames.proofs.Depths.{inner-some, value_at-cons}

byte_again : (total k b : ℕ) (f : Form) (rest : List ℕ) → form b ≡ f → value_at total k (b ∷ rest) ≡ formed_at (total - length (b ∷ rest)) (inner total k) f rest
byte_again total k b f rest e = value_at-cons total k b rest ∙ ap (λ (g : Form). formed_at (total - length (b ∷ rest)) (inner total k) g rest) e

len_again : (s : Size) (n : ℕ) (rest : List ℕ) → n < bound s → n ≤ max_len → len_at s (to_be_bytes (width s) n ++ rest) ≡ Ok (n, rest)
unfolding len_at
len_again s n rest lt le = rw (number_again s n rest lt, le-ltb max_len n le) refl

sized_again : (at : ℕ) (i : Inner) (kind : Kind) (s : Size) (n : ℕ) (rest : List ℕ) → n < bound s → n ≤ max_len → is_too_deep i kind ≡ false → sized_at at i kind s (to_be_bytes (width s) n ++ rest) ≡ body_at at i kind n rest
unfolding sized_at
sized_again at i kind s n rest lt le shallow = rw (shallow, len_again s n rest lt le) refl

head_again : (total k : ℕ) (kind : Kind) (n : ℕ) (head rest : List ℕ) → IsHead kind n head → n ≤ max_len → is_too_deep (inner total k) kind ≡ false
    → value_at total k (head ++ rest) ≡ body_at (total - length (head ++ rest)) (inner total k) kind n rest
head_again total k kind n head rest (inl h) le shallow = rw h.2 (byte_again total k h.0 (Fixed kind n) rest h.1)
head_again total k kind n head rest (inr h) le shallow =
    rw h.1.3 (byte_again total k h.1.0 (Sized kind h.0) (to_be_bytes (width h.0) n ++ rest) h.1.1 ∙ sized_again _ (inner total k) kind h.0 n rest h.1.2 le shallow)

integer_again : (total k : ℕ) (z : _) (front rest : List ℕ) → EncodesInteger z front → value_at total k (front ++ rest) ≡ Ok (integer z, rest)
unfolding unsigned_at signed_at
integer_again total k z front rest (inl h) = rw h.2 (byte_again total k h.0 (Small z) rest h.1)
integer_again total k z front rest (inr (inl h)) =
    rw (h.2.3, h.3) (byte_again total k h.2.0 (Unsigned h.0) (to_be_bytes (width h.0) h.1 ++ rest) h.2.1 ∙ rw (number_again h.0 h.1 rest h.2.2) refl)
integer_again total k z front rest (inr (inr h)) =
    rw (h.2.3, h.3) (byte_again total k h.2.0 (Signed h.0) (to_be_bytes (width h.0) h.1 ++ rest) h.2.1 ∙ rw (number_again h.0 h.1 rest h.2.2) refl)

text_again : (at : ℕ) (t rest : List ℕ) → is_utf8 t ≡ true → text_at at (length t) (t ++ rest) ≡ Ok (text t, rest)
unfolding text_at
text_again at t rest e = rw (bytes_again (length t) t rest refl, e) refl

binary_again : (t rest : List ℕ) → binary_at (length t) (t ++ rest) ≡ Ok (binary t, rest)
unfolding binary_at
binary_again t rest = rw (bytes_again (length t) t rest refl) refl

plain : (i : Inner) → is_too_deep i Str ≡ false
plain None = refl
plain (Some one) = refl

plain_bytes : (i : Inner) → is_too_deep i Bin ≡ false
plain_bytes None = refl
plain_bytes (Some one) = refl

open_at : (total k : ℕ) (kind : Kind) → 0 < k → is_too_deep (inner total k) kind ≡ false
open_at total k kind lt = rw (inner-some total k lt) refl

array_again : (total k : ℕ) (ds : Items) (body rest : List ℕ) → 0 < k → items_at (value_at total (k - 1)) (items_len ds) (body ++ rest) ≡ Ok (ds, rest)
    → array_at (inner total k) (items_len ds) (body ++ rest) ≡ Ok (array ds, rest)
unfolding array_at
array_again total k ds body rest lt h = rw (inner-some total k lt, h) refl

map_again : (total k : ℕ) (ps : Pairs) (body rest : List ℕ) → 0 < k → pairs_at (value_at total (k - 1)) (pairs_len ps) (body ++ rest) ≡ Ok (ps, rest)
    → map_at (inner total k) (pairs_len ps) (body ++ rest) ≡ Ok (dictionary ps, rest)
unfolding map_at
map_again total k ps body rest lt h = rw (inner-some total k lt, h) refl

module _ (total : ℕ) where
  mutual
    unfolding items_at pairs_at

    pub value_again : (k : ℕ) (v : Data) (front rest : List ℕ) → Encodes v front → depth v ≤ k → IsShort v → value_at total k (front ++ rest) ≡ Ok (v, rest)
    value_again k nil front rest h le short = rw h.2 (byte_again total k h.0 Nil rest h.1)
    value_again k (boolean b) front rest h le short = rw h.2 (byte_again total k h.0 (Truth b) rest h.1)
    value_again k (integer z) front rest h le short = integer_again total k z front rest h
    value_again k (text t) front rest h le short =
        ap (λ (x : List ℕ). value_at total k (x ++ rest)) h.3 ∙ ap (value_at total k) (append_assoc h.0 t rest)
        ∙ head_again total k Str (length t) h.0 (t ++ rest) h.1 short (plain (inner total k)) ∙ text_again _ t rest (is_utf8-from_IsUtf8 t h.2)
    value_again k (binary t) front rest h le short =
        ap (λ (x : List ℕ). value_at total k (x ++ rest)) h.2 ∙ ap (value_at total k) (append_assoc h.0 t rest)
        ∙ head_again total k Bin (length t) h.0 (t ++ rest) h.1 short (plain_bytes (inner total k)) ∙ binary_again t rest
    value_again k (array ds) front rest h le short =
        let some : 0 < k = omega arith in
        ap (λ (x : List ℕ). value_at total k (x ++ rest)) h.4 ∙ ap (value_at total k) (append_assoc h.0 h.1 rest)
        ∙ head_again total k Array (items_len ds) h.0 (h.1 ++ rest) h.2 short.0 (open_at total k Array some)
        ∙ array_again total k ds h.1 rest some (items_again (k - 1) ds h.1 rest h.3 (omega arith) short.1)
    value_again k (dictionary ps) front rest h le short =
        let some : 0 < k = omega arith in
        ap (λ (x : List ℕ). value_at total k (x ++ rest)) h.4 ∙ ap (value_at total k) (append_assoc h.0 h.1 rest)
        ∙ head_again total k Map (pairs_len ps) h.0 (h.1 ++ rest) h.2 short.0 (open_at total k Map some)
        ∙ map_again total k ps h.1 rest some (pairs_again (k - 1) ps h.1 rest h.3 (omega arith) short.1)

    items_again : (k : ℕ) (ds : Items) (front rest : List ℕ) → EncodesItems ds front → items_depth ds ≤ k → AreShort ds → items_at (value_at total k) (items_len ds) (front ++ rest) ≡ Ok (ds, rest)
    items_again k no_items front rest h le short = rw h refl
    items_again k (item d ds) front rest h le short =
        ap (λ (x : List ℕ). items_at (value_at total k) (suc (items_len ds)) (x ++ rest)) h.4 ∙ ap (items_at (value_at total k) (suc (items_len ds))) (append_assoc h.0 h.1 rest)
        ∙ rw (value_again k d h.0 (h.1 ++ rest) h.2 (omega arith) short.0, items_again k ds h.1 rest h.3 (omega arith) short.1) refl

    pairs_again : (k : ℕ) (ps : Pairs) (front rest : List ℕ) → EncodesPairs ps front → pairs_depth ps ≤ k → PairsAreShort ps → pairs_at (value_at total k) (pairs_len ps) (front ++ rest) ≡ Ok (ps, rest)
    pairs_again k no_pairs front rest h le short = rw h refl
    pairs_again k (pair key v ps) front rest h le short =
        ap (λ (x : List ℕ). pairs_at (value_at total k) (suc (pairs_len ps)) (x ++ rest)) h.6
        ∙ ap (pairs_at (value_at total k) (suc (pairs_len ps))) (append_assoc h.0 (h.1 ++ h.2) rest ∙ ap (λ (x : List ℕ). h.0 ++ x) (append_assoc h.1 h.2 rest))
        ∙ rw (value_again k key h.0 (h.1 ++ (h.2 ++ rest)) h.3 (omega arith) short.0, value_again k v h.1 (h.2 ++ rest) h.4 (omega arith) short.1, pairs_again k ps h.2 rest h.5 (omega arith) short.2) refl
