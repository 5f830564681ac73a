-- A number that is read is the number that was written.
use Rattle.std.proofs.Common.{◌≡◌, ℕ, suc, ◌+◌, ◌%◌, ◌^◌, ◌<◌, ◌≤◌, Bool, true, false, cond, ltb, List, [], ◌∷◌, ◌++◌, length, get_or, take, drop, Result, Ok, Err, refl, sym, ap, arith, inl, inr}
use Rattle.std.specs.Int.{Width, byte_len, from_be_bytes, to_be_bytes}
use Rattle.std.proofs.lemmas.Bool.{cases_lt, ltb-false, le-ltb}
use Rattle.std.proofs.lemmas.List.{take_at, drop_at, take-append-drop, length-append, length-take, get_or-drop, get_or-take, get_or_past}
use Rattle.std.proofs.lemmas.Nat.{be_bytes_2, be_bytes_4, be_bytes_8, from_be_bytes-to_be_bytes_2, from_be_bytes-to_be_bytes_4, from_be_bytes-to_be_bytes_8}
use Rattle.msgpack_frames.specs.declared.error.MpError.TheVariants as errors
use Rattle.msgpack_frames.specs.declared.form.Size.{Size}
use Rattle.msgpack_frames.specs.declared.form.Size.TheVariants.{One, Two, Four, Eight}
use Rattle.msgpack_frames.specs.Forms.{width, bound}
use Rattle.msgpack_frames.specs.Reading.{◌>>=◌, number_at, bytes_at}

abbrev pub IsBytes : List ℕ → Type 0
IsBytes bytes = (i : ℕ) → get_or bytes i 0 < 256

pub IsBytes-drop : (n : ℕ) (bytes : List ℕ) → IsBytes bytes → IsBytes (drop n bytes)
IsBytes-drop n bytes h i = rw get_or-drop (h (n + i))

pub IsBytes-take : (n : ℕ) (bytes : List ℕ) → IsBytes bytes → IsBytes (take n bytes)
IsBytes-take n bytes h i =
    elim (cases_lt i n) [
      | inl lt ↦ rw (get_or-take n bytes i 0 lt) (h i)
      | inr le ↦ rw (get_or_past (take n bytes) i 0 (omega (arith, length-take n bytes))) (omega arith)
    ]

pub IsBytes-rest : (b : ℕ) (bytes : List ℕ) → IsBytes (b ∷ bytes) → IsBytes bytes
IsBytes-rest b bytes h i = h (suc i)

-- the value of a step that did not fail
pub bind_ok : {A B E : Type 0} (r : Result A E) (f : A → Result B E) (y : B) → (r >>= f) ≡ Ok y → (x : A) × (r ≡ Ok x) × (f x ≡ Ok y)
bind_ok (Ok x) f y e = (x, refl, e)
bind_ok (Err d) f y e = absurd cc

-- a test that did not fail
pub guard_ok : {A E : Type 0} (b : Bool) (d : E) (x : Result A E) (y : A) → cond b (Err d) x ≡ Ok y → (b ≡ false) × (x ≡ Ok y)
guard_ok true d x y e = absurd cc
guard_ok false d x y e = (refl, e)

pub guard_held : {A E : Type 0} (b : Bool) (d : E) (x : Result A E) (y : A) → cond b x (Err d) ≡ Ok y → (b ≡ true) × (x ≡ Ok y)
guard_held true d x y e = (refl, e)
guard_held false d x y e = absurd cc

abbrev done : {A E : Type 0} → A → Result A E
done x = Ok x

pub ok_is : {A E : Type 0} (x y : A) → done {E = E} x ≡ done y → x ≡ y
ok_is x y e = cc

-- what numbers of a size are
pub record IsWide (w : Width) (limit : ℕ) : Type 0 where
  pub len : (n : ℕ) → length (to_be_bytes w n) ≡ byte_len w
  pub back : (bytes : List ℕ) → length bytes ≡ byte_len w → IsBytes bytes → to_be_bytes w (from_be_bytes w bytes) ≡ bytes
  pub again : (n : ℕ) → n < limit → from_be_bytes w (to_be_bytes w n) ≡ n
  pub below : (bytes : List ℕ) → IsBytes bytes → from_be_bytes w bytes < limit

byte_back : (bytes : List ℕ) → length bytes ≡ 1 → IsBytes bytes → to_be_bytes (width One) (from_be_bytes (width One) bytes) ≡ bytes
byte_back [] len fits = absurd (omega arith)
byte_back (b ∷ []) len fits = let e : b % 256 ≡ b = omega (arith, fits 0) in ap (λ (n : ℕ). n ∷ []) e
byte_back (b ∷ c ∷ bytes) len fits = absurd (omega arith)

byte_again : (n : ℕ) → n < 2 ^ 8 → from_be_bytes (width One) (to_be_bytes (width One) n) ≡ n
byte_again n lt = omega arith

pub wide : (s : Size) → IsWide (width s) (bound s)
wide One = record {
  len = λ n. refl;
  back = byte_back;
  again = byte_again;
  below = λ bytes fits. fits 0;
}
wide Two = record {
  len = λ n. refl;
  back = λ bytes len fits. be_bytes_2 bytes _ len fits refl;
  again = λ n lt. from_be_bytes-to_be_bytes_2 n lt;
  below = λ bytes fits. omega (arith, fits 0, fits 1);
}
wide Four = record {
  len = λ n. refl;
  back = λ bytes len fits. be_bytes_4 bytes _ len fits refl;
  again = λ n lt. from_be_bytes-to_be_bytes_4 n lt;
  below = λ bytes fits. omega (arith, fits 0, fits 1, fits 2, fits 3);
}
wide Eight = record {
  len = λ n. refl;
  back = λ bytes len fits. be_bytes_8 bytes _ len fits refl;
  again = λ n lt. from_be_bytes-to_be_bytes_8 n lt;
  below = λ bytes fits. omega (arith, fits 0, fits 1, fits 2, fits 3, fits 4, fits 5, fits 6, fits 7);
}

pub number_takes : (s : Size) (bytes : List ℕ) (n : ℕ) (rest : List ℕ) → IsBytes bytes → number_at s bytes ≡ Ok (n, rest) → (bytes ≡ to_be_bytes (width s) n ++ rest) × (n < bound s) × IsBytes rest
number_takes s bytes n rest fits e =
    let w = width s in
    let g = guard_ok (ltb (length bytes) (byte_len w)) errors.Short (Ok (from_be_bytes w (take (byte_len w) bytes), drop (byte_len w) bytes)) (n, rest) e in
    let long : byte_len w ≤ length bytes = ltb-false _ _ g.0 in
    let same = ok_is (from_be_bytes w (take (byte_len w) bytes), drop (byte_len w) bytes) (n, rest) g.1 in
    let n-is : from_be_bytes w (take (byte_len w) bytes) ≡ n = ap (λ (p : ℕ × List ℕ). p.0) same in
    let rest-is : drop (byte_len w) bytes ≡ rest = ap (λ (p : ℕ × List ℕ). p.1) same in
    let front : to_be_bytes w n ≡ take (byte_len w) bytes = rw (← n-is) ((wide s).back (take (byte_len w) bytes) (omega (arith, length-take (byte_len w) bytes)) (IsBytes-take (byte_len w) bytes fits)) in (
      rw (front, ← rest-is) (sym (take-append-drop (byte_len w) bytes)),
      rw (← n-is) ((wide s).below (take (byte_len w) bytes) (IsBytes-take (byte_len w) bytes fits)),
      rw (← rest-is) (IsBytes-drop (byte_len w) bytes fits),
    )

pub number_again : (s : Size) (n : ℕ) (rest : List ℕ) → n < bound s → number_at s (to_be_bytes (width s) n ++ rest) ≡ Ok (n, rest)
number_again s n rest lt =
    let w = width s in
    let len = (wide s).len n in
    let long : ltb (length (to_be_bytes w n ++ rest)) (byte_len w) ≡ false = le-ltb _ _ (omega (arith, length-append (to_be_bytes w n) rest)) in
    rw (long, take_at (to_be_bytes w n) rest (byte_len w) len, drop_at (to_be_bytes w n) rest (byte_len w) len, (wide s).again n lt) refl

pub bytes_take : (n : ℕ) (bytes t rest : List ℕ) → IsBytes bytes → bytes_at n bytes ≡ Ok (t, rest) → (bytes ≡ t ++ rest) × (length t ≡ n) × IsBytes rest
bytes_take n bytes t rest fits e =
    let g = guard_ok (ltb (length bytes) n) errors.Short (Ok (take n bytes, drop n bytes)) (t, rest) e in
    let long : n ≤ length bytes = ltb-false _ _ g.0 in
    let same = ok_is (take n bytes, drop n bytes) (t, rest) g.1 in
    let t-is : take n bytes ≡ t = ap (λ (p : List ℕ × List ℕ). p.0) same in
    let rest-is : drop n bytes ≡ rest = ap (λ (p : List ℕ × List ℕ). p.1) same in
    (rw (← t-is, ← rest-is) (sym (take-append-drop n bytes)), omega (arith, length-take n bytes, ap length t-is), rw (← rest-is) (IsBytes-drop n bytes fits))

pub bytes_again : (n : ℕ) (t rest : List ℕ) → length t ≡ n → bytes_at n (t ++ rest) ≡ Ok (t, rest)
bytes_again n t rest len =
    let long : ltb (length (t ++ rest)) n ≡ false = le-ltb _ _ (omega (arith, length-append t rest)) in
    rw (long, take_at t rest n len, drop_at t rest n len) refl
