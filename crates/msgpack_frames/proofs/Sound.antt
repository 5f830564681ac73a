-- What is read is encoded so, and keeps both limits.
use Rattle.std.proofs.Common.{◌≡◌, ℕ, zero, suc, ◌<◌, ◌≤◌, cond, ltb, pos, List, [], ◌∷◌, ◌++◌, Some, None, Ok, Err, refl, sym, ap, subst, ◌∙◌, append_assoc, arith, inl, inr}
use Rattle.std.specs.Int.{cast_signed, to_be_bytes}
use Rattle.std.specs.Str.{is_utf8}
use Rattle.std.proofs.lemmas.Bool.{ltb-false}
use Rattle.std.proofs.lemmas.Str.{IsUtf8-from_is_utf8}
use Rattle.msgpack_frames.specs.declared.error.MpError.TheVariants as errors
use Rattle.msgpack_frames.specs.declared.form.Size.{Size}
use Rattle.msgpack_frames.specs.declared.form.Kind.{Kind}
use Rattle.msgpack_frames.specs.declared.form.Kind.TheVariants.{Str, Bin, Array, Map}
use Rattle.msgpack_frames.specs.declared.form.Form.{Form}
use Rattle.msgpack_frames.specs.declared.form.Form.TheVariants.{Nil, Bool as Truth, Small, Unsigned, Signed, Fixed, Sized, Float, Ext, Reserved}
use Rattle.msgpack_frames.specs.Data.{Data, nil, boolean, integer, text, binary, array, dictionary, Items, no_items, item, Pairs, no_pairs, pair, items_len, pairs_len, depth, items_depth, pairs_depth, max_len, IsShort, AreShort, PairsAreShort}
use Rattle.msgpack_frames.specs.Forms.{form, width, bound}
use Rattle.msgpack_frames.specs.Encoding.{IsHead, Encodes, EncodesItems, EncodesPairs}
use Rattle.msgpack_frames.specs.Reading.{◌>>=◌, Read, Inner, number_at, unsigned_at, signed_at, len_at, bytes_at, text_at, binary_at, items_at, pairs_at, array_at, map_at, body_at, is_too_deep, sized_at, formed_at, first_at, inner, value_at}
use Rattle.msgpack_frames.proofs.Numbers.{IsBytes, IsBytes-rest, bind_ok, guard_ok, guard_held, ok_is, number_takes, bytes_take}
use Rattle.msgpack_frames.proofs.Lengths.{fixed_len}

-- what was read from the front of bytes, with at most d arrays and maps open
pub record Takes (d : ℕ) (bytes : List ℕ) (v : Data) (rest : List ℕ) : Type 0 where
  pub front : List ℕ
  pub encodes : Encodes v front
  pub parts : bytes ≡ front ++ rest
  pub shallow : depth v ≤ d
  pub short : IsShort v
  pub rest_fits : IsBytes rest

pub record TakesItems (d n : ℕ) (bytes : List ℕ) (ds : Items) (rest : List ℕ) : Type 0 where
  pub front : List ℕ
  pub encodes : EncodesItems ds front
  pub parts : bytes ≡ front ++ rest
  pub count : items_len ds ≡ n
  pub shallow : items_depth ds ≤ d
  pub short : AreShort ds
  pub rest_fits : IsBytes rest

pub record TakesPairs (d n : ℕ) (bytes : List ℕ) (ps : Pairs) (rest : List ℕ) : Type 0 where
  pub front : List ℕ
  pub encodes : EncodesPairs ps front
  pub parts : bytes ≡ front ++ rest
  pub count : pairs_len ps ≡ n
  pub shallow : pairs_depth ps ≤ d
  pub short : PairsAreShort ps
  pub rest_fits : IsBytes rest

abbrev pub SoundReader : ℕ → (List ℕ → Read Data) → Type 0
SoundReader d one = (bytes : List ℕ) (x : Data × List ℕ) → IsBytes bytes → one bytes ≡ Ok x → Takes d bytes x.0 x.1

abbrev pub Sound : ℕ → Inner → Type 0
Sound d None = Unit {0}
Sound d (Some one) = (e : ℕ) × (d ≡ suc e) × SoundReader e one

items_take : (one : List ℕ → Read Data) (d : ℕ) → SoundReader d one → (n : ℕ) (bytes : List ℕ) (x : Items × List ℕ) → IsBytes bytes → items_at one n bytes ≡ Ok x → TakesItems d n bytes x.0 x.1
unfolding items_at
items_take one d sound zero bytes x fits e =
    subst (λ (y : Items × List ℕ). TakesItems d 0 bytes y.0 y.1) (ok_is (no_items, bytes) x e)
    (record { front = []; encodes = refl; parts = refl; count = refl; shallow = omega arith; short = tt; rest_fits = fits })
items_take one d sound (suc n) bytes x fits e =
    let a = bind_ok (one bytes) (λ first. items_at one n first.1 >>= λ others. Ok (item first.0 others.0, others.1)) x e in
    let b = bind_ok (items_at one n a.0.1) (λ others. Ok (item a.0.0 others.0, others.1)) x a.2 in
    let p = sound bytes a.0 fits a.1 in
    let q = items_take one d sound n a.0.1 b.0 p.rest_fits b.1 in
    subst (λ (y : Items × List ℕ). TakesItems d (suc n) bytes y.0 y.1) (ok_is (item a.0.0 b.0.0, b.0.1) x b.2)
    (record {
      front = p.front ++ q.front;
      encodes = (p.front, q.front, p.encodes, q.encodes, refl);
      parts = p.parts ∙ ap (λ (t : List ℕ). p.front ++ t) q.parts ∙ sym (append_assoc p.front q.front b.0.1);
      count = ap suc q.count;
      shallow = omega (arith, p.shallow, q.shallow);
      short = (p.short, q.short);
      rest_fits = q.rest_fits;
    })

pairs_take : (one : List ℕ → Read Data) (d : ℕ) → SoundReader d one → (n : ℕ) (bytes : List ℕ) (x : Pairs × List ℕ) → IsBytes bytes → pairs_at one n bytes ≡ Ok x → TakesPairs d n bytes x.0 x.1
unfolding pairs_at
pairs_take one d sound zero bytes x fits e =
    subst (λ (y : Pairs × List ℕ). TakesPairs d 0 bytes y.0 y.1) (ok_is (no_pairs, bytes) x e)
    (record { front = []; encodes = refl; parts = refl; count = refl; shallow = omega arith; short = tt; rest_fits = fits })
pairs_take one d sound (suc n) bytes x fits e =
    let a = bind_ok (one bytes) (λ key. one key.1 >>= λ value. pairs_at one n value.1 >>= λ others. Ok (pair key.0 value.0 others.0, others.1)) x e in
    let b = bind_ok (one a.0.1) (λ value. pairs_at one n value.1 >>= λ others. Ok (pair a.0.0 value.0 others.0, others.1)) x a.2 in
    let c = bind_ok (pairs_at one n b.0.1) (λ others. Ok (pair a.0.0 b.0.0 others.0, others.1)) x b.2 in
    let p = sound bytes a.0 fits a.1 in
    let q = sound a.0.1 b.0 p.rest_fits b.1 in
    let r = pairs_take one d sound n b.0.1 c.0 q.rest_fits c.1 in
    subst (λ (y : Pairs × List ℕ). TakesPairs d (suc n) bytes y.0 y.1) (ok_is (pair a.0.0 b.0.0 c.0.0, c.0.1) x c.2)
    (record {
      front = p.front ++ (q.front ++ r.front);
      encodes = (p.front, q.front, r.front, p.encodes, q.encodes, r.encodes, refl);
      parts = p.parts ∙ ap (λ (t : List ℕ). p.front ++ t) (q.parts ∙ ap (λ (t : List ℕ). q.front ++ t) r.parts ∙ sym (append_assoc q.front r.front c.0.1)) ∙ sym (append_assoc p.front (q.front ++ r.front) c.0.1);
      count = ap suc r.count;
      shallow = omega (arith, p.shallow, q.shallow, r.shallow);
      short = (p.short, q.short, r.short);
      rest_fits = r.rest_fits;
    })

module _ (at d n : ℕ) (head bytes : List ℕ) (x : Data × List ℕ) (small : n ≤ max_len) (fits : IsBytes bytes) where
  text_takes : IsHead Str n head → text_at at n bytes ≡ Ok x → Takes d (head ++ bytes) x.0 x.1
  unfolding text_at
  text_takes h e =
      let a = bind_ok (bytes_at n bytes) (λ t. cond (is_utf8 t.0) (Ok (text t.0, t.1)) (Err (errors.NotUtf8 at))) x e in
      let g = guard_held (is_utf8 a.0.0) (errors.NotUtf8 at) (Ok (text a.0.0, a.0.1)) x a.2 in
      let p = bytes_take n bytes a.0.0 a.0.1 fits a.1 in
      subst (λ (y : Data × List ℕ). Takes d (head ++ bytes) y.0 y.1) (ok_is (text a.0.0, a.0.1) x g.1)
      (record {
        front = head ++ a.0.0;
        encodes = (head, subst (λ (k : ℕ). IsHead Str k head) (sym p.1) h, IsUtf8-from_is_utf8 a.0.0 g.0, refl);
        parts = ap (λ (t : List ℕ). head ++ t) p.0 ∙ sym (append_assoc head a.0.0 a.0.1);
        shallow = omega arith;
        short = omega (arith, p.1);
        rest_fits = p.2;
      })

  binary_takes : IsHead Bin n head → binary_at n bytes ≡ Ok x → Takes d (head ++ bytes) x.0 x.1
  unfolding binary_at
  binary_takes h e =
      let a = bind_ok (bytes_at n bytes) (λ t. Ok (binary t.0, t.1)) x e in
      let p = bytes_take n bytes a.0.0 a.0.1 fits a.1 in
      subst (λ (y : Data × List ℕ). Takes d (head ++ bytes) y.0 y.1) (ok_is (binary a.0.0, a.0.1) x a.2)
      (record {
        front = head ++ a.0.0;
        encodes = (head, subst (λ (k : ℕ). IsHead Bin k head) (sym p.1) h, refl);
        parts = ap (λ (t : List ℕ). head ++ t) p.0 ∙ sym (append_assoc head a.0.0 a.0.1);
        shallow = omega arith;
        short = omega (arith, p.1);
        rest_fits = p.2;
      })

  array_takes : (i : Inner) → Sound d i → IsHead Array n head → array_at i n bytes ≡ Ok x → Takes d (head ++ bytes) x.0 x.1
  unfolding array_at
  array_takes None sound h e = absurd cc
  array_takes (Some one) sound h e =
      let a = bind_ok (items_at one n bytes) (λ ds. Ok (array ds.0, ds.1)) x e in
      let p = items_take one sound.0 sound.2 n bytes a.0 fits a.1 in
      subst (λ (y : Data × List ℕ). Takes d (head ++ bytes) y.0 y.1) (ok_is (array a.0.0, a.0.1) x a.2)
      (record {
        front = head ++ p.front;
        encodes = (head, p.front, subst (λ (k : ℕ). IsHead Array k head) (sym p.count) h, p.encodes, refl);
        parts = ap (λ (t : List ℕ). head ++ t) p.parts ∙ sym (append_assoc head p.front a.0.1);
        shallow = omega (arith, p.shallow, sound.1);
        short = (omega (arith, p.count), p.short);
        rest_fits = p.rest_fits;
      })

  map_takes : (i : Inner) → Sound d i → IsHead Map n head → map_at i n bytes ≡ Ok x → Takes d (head ++ bytes) x.0 x.1
  unfolding map_at
  map_takes None sound h e = absurd cc
  map_takes (Some one) sound h e =
      let a = bind_ok (pairs_at one n bytes) (λ ps. Ok (dictionary ps.0, ps.1)) x e in
      let p = pairs_take one sound.0 sound.2 n bytes a.0 fits a.1 in
      subst (λ (y : Data × List ℕ). Takes d (head ++ bytes) y.0 y.1) (ok_is (dictionary a.0.0, a.0.1) x a.2)
      (record {
        front = head ++ p.front;
        encodes = (head, p.front, subst (λ (k : ℕ). IsHead Map k head) (sym p.count) h, p.encodes, refl);
        parts = ap (λ (t : List ℕ). head ++ t) p.parts ∙ sym (append_assoc head p.front a.0.1);
        shallow = omega (arith, p.shallow, sound.1);
        short = (omega (arith, p.count), p.short);
        rest_fits = p.rest_fits;
      })

  body_takes : (i : Inner) → Sound d i → (kind : Kind) → IsHead kind n head → body_at at i kind n bytes ≡ Ok x → Takes d (head ++ bytes) x.0 x.1
  body_takes i sound Str h e = text_takes h e
  body_takes i sound Bin h e = binary_takes h e
  body_takes i sound Array h e = array_takes i sound h e
  body_takes i sound Map h e = map_takes i sound h e

pub len_takes : (s : Size) (bytes : List ℕ) (x : ℕ × List ℕ) → IsBytes bytes → len_at s bytes ≡ Ok x → (bytes ≡ to_be_bytes (width s) x.0 ++ x.1) × (x.0 < bound s) × (x.0 ≤ max_len) × IsBytes x.1
unfolding len_at
len_takes s bytes x fits e =
    let c = bind_ok (number_at s bytes) (λ n. cond (ltb max_len n.0) (Err errors.Limit) (Ok n)) x e in
    let l = guard_ok (ltb max_len c.0.0) errors.Limit (Ok c.0) x c.2 in
    let p = number_takes s bytes c.0.0 c.0.1 fits c.1 in
    subst (λ (y : ℕ × List ℕ). (bytes ≡ to_be_bytes (width s) y.0 ++ y.1) × (y.0 < bound s) × (y.0 ≤ max_len) × IsBytes y.1) (ok_is c.0 x l.1) (p.0, p.1, ltb-false _ _ l.0, p.2)

module _ (at d b : ℕ) (i : Inner) (sound : Sound d i) (bytes : List ℕ) (x : Data × List ℕ) (fits : IsBytes bytes) where
  whole : (v : Data) → Encodes v (b ∷ []) → depth v ≤ d → IsShort v → (v, bytes) ≡ x → Takes d (b ∷ bytes) x.0 x.1
  whole v encodes shallow short e =
      subst (λ (y : Data × List ℕ). Takes d (b ∷ bytes) y.0 y.1) e
      (record { front = b ∷ []; encodes = encodes; parts = refl; shallow = shallow; short = short; rest_fits = fits })

  unsigned_takes : (s : Size) → form b ≡ Unsigned s → unsigned_at s bytes ≡ Ok x → Takes d (b ∷ bytes) x.0 x.1
  unfolding unsigned_at
  unsigned_takes s f e =
      let a = bind_ok (number_at s bytes) (λ n. Ok (integer (pos n.0), n.1)) x e in
      let p = number_takes s bytes a.0.0 a.0.1 fits a.1 in
      subst (λ (y : Data × List ℕ). Takes d (b ∷ bytes) y.0 y.1) (ok_is (integer (pos a.0.0), a.0.1) x a.2)
      (record {
        front = b ∷ to_be_bytes (width s) a.0.0;
        encodes = inr (inl (s, a.0.0, (b, f, p.1, refl), refl));
        parts = ap (λ (t : List ℕ). b ∷ t) p.0;
        shallow = omega arith;
        short = tt;
        rest_fits = p.2;
      })

  signed_takes : (s : Size) → form b ≡ Signed s → signed_at s bytes ≡ Ok x → Takes d (b ∷ bytes) x.0 x.1
  unfolding signed_at
  signed_takes s f e =
      let a = bind_ok (number_at s bytes) (λ n. Ok (integer (cast_signed (width s) n.0), n.1)) x e in
      let p = number_takes s bytes a.0.0 a.0.1 fits a.1 in
      subst (λ (y : Data × List ℕ). Takes d (b ∷ bytes) y.0 y.1) (ok_is (integer (cast_signed (width s) a.0.0), a.0.1) x a.2)
      (record {
        front = b ∷ to_be_bytes (width s) a.0.0;
        encodes = inr (inr (s, a.0.0, (b, f, p.1, refl), refl));
        parts = ap (λ (t : List ℕ). b ∷ t) p.0;
        shallow = omega arith;
        short = tt;
        rest_fits = p.2;
      })

  sized_takes : (kind : Kind) (s : Size) → form b ≡ Sized kind s → sized_at at i kind s bytes ≡ Ok x → Takes d (b ∷ bytes) x.0 x.1
  unfolding sized_at
  sized_takes kind s f e =
      let g = guard_ok (is_too_deep i kind) errors.Depth (len_at s bytes >>= λ n. body_at at i kind n.0 n.1) x e in
      let a = bind_ok (len_at s bytes) (λ n. body_at at i kind n.0 n.1) x g.1 in
      let p = len_takes s bytes a.0 fits a.1 in
      subst (λ (t : List ℕ). Takes d (b ∷ t) x.0 x.1) (sym p.0)
      (body_takes at d a.0.0 (b ∷ to_be_bytes (width s) a.0.0) a.0.1 x p.2 p.3 i sound kind (inr (s, (b, f, p.1, refl))) a.2)

  formed_takes : (f : Form) → form b ≡ f → formed_at at i f bytes ≡ Ok x → Takes d (b ∷ bytes) x.0 x.1
  formed_takes Nil f e = whole nil (b, f, refl) (omega arith) tt (ok_is (nil, bytes) x e)
  formed_takes (Truth t) f e = whole (boolean t) (b, f, refl) (omega arith) tt (ok_is (boolean t, bytes) x e)
  formed_takes (Small z) f e = whole (integer z) (inl (b, f, refl)) (omega arith) tt (ok_is (integer z, bytes) x e)
  formed_takes (Unsigned s) f e = unsigned_takes s f e
  formed_takes (Signed s) f e = signed_takes s f e
  formed_takes (Fixed kind n) f e = body_takes at d n (b ∷ []) bytes x (omega (arith, fixed_len b kind n f)) fits i sound kind (inl (b, f, refl)) e
  formed_takes (Sized kind s) f e = sized_takes kind s f e
  formed_takes Float f e = absurd cc
  formed_takes Ext f e = absurd cc
  formed_takes Reserved f e = absurd cc

pub first_takes : (total d : ℕ) (i : Inner) → Sound d i → SoundReader d (first_at total i)
unfolding first_at
first_takes total d i sound [] x fits e = absurd cc
first_takes total d i sound (b ∷ bytes) x fits e = formed_takes _ d b i sound bytes x (IsBytes-rest b bytes fits) (form b) refl e

pub inner_sound : (total d : ℕ) → Sound d (inner total d)
unfolding inner
inner_sound total zero = tt
inner_sound total (suc d) = (d, refl, first_takes total d (inner total d) (inner_sound total d))

pub value_takes : (total d : ℕ) → SoundReader d (value_at total d)
unfolding value_at
value_takes total d = first_takes total d (inner total d) (inner_sound total d)
