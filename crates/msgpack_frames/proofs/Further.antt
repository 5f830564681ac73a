-- What more bytes change: nothing, where reading did not end for want of bytes.
use Rattle.std.proofs.Common.{◌≡◌, ℕ, zero, suc, ◌+◌, ◌-◌, ◌≤◌, Bool, true, false, cond, ltb, pos, List, [], ◌∷◌, ◌++◌, length, take, drop, Some, None, Result, Ok, Err, refl, ap, arith}
use Rattle.std.specs.Int.{byte_len, from_be_bytes, cast_signed}
use Rattle.std.specs.Str.{is_utf8}
use Rattle.std.proofs.lemmas.Bool.{ltb-false, le-ltb}
use Rattle.std.proofs.lemmas.List.{length-append, take-append-le, drop-append-le}
use Rattle.msgpack_frames.specs.declared.error.MpError.{MpError}
use Rattle.msgpack_frames.specs.declared.error.MpError.TheVariants as errors
use Rattle.msgpack_frames.specs.declared.form.Size.{Size}
use Rattle.msgpack_frames.specs.declared.form.Kind.{Kind}
use Rattle.msgpack_frames.specs.declared.form.Kind.TheVariants.{Str, Bin, Array, Map}
use Rattle.msgpack_frames.specs.declared.form.Form.{Form}
use Rattle.msgpack_frames.specs.declared.form.Form.TheVariants.{Nil, Bool as Truth, Small, Unsigned, Signed, Fixed, Sized, Float, Ext, Reserved}
use Rattle.msgpack_frames.specs.Data.{Data, integer, text, binary, array, dictionary, item, pair, max_depth, max_len}
use Rattle.msgpack_frames.specs.Forms.{form, width}
use Rattle.msgpack_frames.specs.Reading.{◌>>=◌, Read, Inner, number_at, unsigned_at, signed_at, len_at, bytes_at, text_at, binary_at, items_at, pairs_at, array_at, map_at, body_at, is_too_deep, sized_at, formed_at, first_at, inner, value_at, counted, outcome}

-- what was read, with more bytes behind the rest
abbrev pub extended : {A : Type 0} → Read A → List ℕ → Read A
extended (Ok x) more = Ok (x.0, x.1 ++ more)
extended (Err e) more = Err e

-- r, read with more bytes behind, is r'
abbrev pub Goes : {A : Type 0} → Read A → Read A → List ℕ → Type 0
Goes r r' more = (r ≡ Err errors.Short → ⊥) → r' ≡ extended r more

abbrev pub failed : {A : Type 0} → MpError → Result A MpError
failed e = Err e

pub err_is : {A : Type 0} (d e : MpError) → failed {A = A} d ≡ failed e → d ≡ e
err_is d e same = cc

module _ (more : List ℕ) where
  binds : {A B : Type 0} (r r' : Read A) (f f' : (A × List ℕ) → Read B) → Goes r r' more → ((x : A × List ℕ) → Goes (f x) (f' (x.0, x.1 ++ more)) more) → Goes (r >>= f) (r' >>= f') more
  binds (Ok x) r' f f' h k going = rw (h (λ e. absurd cc)) (k x going)
  binds (Err e) r' f f' h k going = rw (h (λ same. going (ap (λ (d : MpError). Err d) (err_is e errors.Short same)))) refl

  tests : {A : Type 0} (b : Bool) (r r' s s' : Read A) → Goes r r' more → Goes s s' more → Goes (cond b r s) (cond b r' s') more
  tests true r r' s s' h k = h
  tests false r r' s s' h k = k

  -- a fixed number of bytes
  cuts : {A : Type 0} (f : List ℕ → A) (n : ℕ) (bytes : List ℕ)
      → Goes (cond (ltb (length bytes) n) (Err errors.Short) (Ok (f (take n bytes), drop n bytes))) (cond (ltb (length (bytes ++ more)) n) (Err errors.Short) (Ok (f (take n (bytes ++ more)), drop n (bytes ++ more)))) more
  cuts f n bytes = cuts_by f n bytes (ltb (length bytes) n) refl
    where
      cuts_by : {A : Type 0} (f : List ℕ → A) (n : ℕ) (bytes : List ℕ) (b : Bool) → ltb (length bytes) n ≡ b
          → Goes (cond b (Err errors.Short) (Ok (f (take n bytes), drop n bytes))) (cond (ltb (length (bytes ++ more)) n) (Err errors.Short) (Ok (f (take n (bytes ++ more)), drop n (bytes ++ more)))) more
      cuts_by f n bytes true e going = absurd (going refl)
      cuts_by f n bytes false e going =
          let le : n ≤ length bytes = ltb-false _ _ e in
          let long : ltb (length (bytes ++ more)) n ≡ false = le-ltb _ _ (omega (arith, length-append bytes more)) in
          rw (long, take-append-le n bytes more le, drop-append-le n bytes more le) refl

  number_goes : (s : Size) (bytes : List ℕ) → Goes (number_at s bytes) (number_at s (bytes ++ more)) more
  number_goes s bytes = cuts (from_be_bytes (width s)) (byte_len (width s)) bytes

  bytes_go : (n : ℕ) (bytes : List ℕ) → Goes (bytes_at n bytes) (bytes_at n (bytes ++ more)) more
  bytes_go n bytes = cuts (λ t. t) n bytes

  unsigned_goes : (s : Size) (bytes : List ℕ) → Goes (unsigned_at s bytes) (unsigned_at s (bytes ++ more)) more
  unfolding unsigned_at
  unsigned_goes s bytes = binds (number_at s bytes) (number_at s (bytes ++ more)) (λ n. Ok (integer (pos n.0), n.1)) (λ n. Ok (integer (pos n.0), n.1)) (number_goes s bytes) (λ x going. refl)

  signed_goes : (s : Size) (bytes : List ℕ) → Goes (signed_at s bytes) (signed_at s (bytes ++ more)) more
  unfolding signed_at
  signed_goes s bytes = binds (number_at s bytes) (number_at s (bytes ++ more)) (λ n. Ok (integer (cast_signed (width s) n.0), n.1)) (λ n. Ok (integer (cast_signed (width s) n.0), n.1)) (number_goes s bytes) (λ x going. refl)

  len_goes : (s : Size) (bytes : List ℕ) → Goes (len_at s bytes) (len_at s (bytes ++ more)) more
  unfolding len_at
  len_goes s bytes =
      binds (number_at s bytes) (number_at s (bytes ++ more)) (λ n. cond (ltb max_len n.0) (Err errors.Limit) (Ok n)) (λ n. cond (ltb max_len n.0) (Err errors.Limit) (Ok n)) (number_goes s bytes)
      (λ x. tests (ltb max_len x.0) (Err errors.Limit) (Err errors.Limit) (Ok x) (Ok (x.0, x.1 ++ more)) (λ going. refl) (λ going. refl))

  text_goes : (at n : ℕ) (bytes : List ℕ) → Goes (text_at at n bytes) (text_at at n (bytes ++ more)) more
  unfolding text_at
  text_goes at n bytes =
      binds (bytes_at n bytes) (bytes_at n (bytes ++ more)) (λ t. cond (is_utf8 t.0) (Ok (text t.0, t.1)) (Err (errors.NotUtf8 at))) (λ t. cond (is_utf8 t.0) (Ok (text t.0, t.1)) (Err (errors.NotUtf8 at))) (bytes_go n bytes)
      (λ x. tests (is_utf8 x.0) (Ok (text x.0, x.1)) (Ok (text x.0, x.1 ++ more)) (Err (errors.NotUtf8 at)) (Err (errors.NotUtf8 at)) (λ going. refl) (λ going. refl))

  binary_goes : (n : ℕ) (bytes : List ℕ) → Goes (binary_at n bytes) (binary_at n (bytes ++ more)) more
  unfolding binary_at
  binary_goes n bytes = binds (bytes_at n bytes) (bytes_at n (bytes ++ more)) (λ t. Ok (binary t.0, t.1)) (λ t. Ok (binary t.0, t.1)) (bytes_go n bytes) (λ x going. refl)

  -- one reads as one' does with more bytes behind
  abbrev Alike : (List ℕ → Read Data) → (List ℕ → Read Data) → Type 0
  Alike one one' = (bytes : List ℕ) → Goes (one bytes) (one' (bytes ++ more)) more

  abbrev AlikeInner : Inner → Inner → Type 0
  AlikeInner None None = Unit {0}
  AlikeInner None (Some one') = ⊥
  AlikeInner (Some one) None = ⊥
  AlikeInner (Some one) (Some one') = Alike one one'

  items_go : (one one' : List ℕ → Read Data) → Alike one one' → (n : ℕ) (bytes : List ℕ) → Goes (items_at one n bytes) (items_at one' n (bytes ++ more)) more
  unfolding items_at
  items_go one one' h zero bytes = λ going. refl
  items_go one one' h (suc n) bytes =
      binds (one bytes) (one' (bytes ++ more)) (λ first. items_at one n first.1 >>= λ others. Ok (item first.0 others.0, others.1)) (λ first. items_at one' n first.1 >>= λ others. Ok (item first.0 others.0, others.1)) (h bytes)
      (λ x. binds (items_at one n x.1) (items_at one' n (x.1 ++ more)) (λ others. Ok (item x.0 others.0, others.1)) (λ others. Ok (item x.0 others.0, others.1)) (items_go one one' h n x.1) (λ y going. refl))

  pairs_go : (one one' : List ℕ → Read Data) → Alike one one' → (n : ℕ) (bytes : List ℕ) → Goes (pairs_at one n bytes) (pairs_at one' n (bytes ++ more)) more
  unfolding pairs_at
  pairs_go one one' h zero bytes = λ going. refl
  pairs_go one one' h (suc n) bytes =
      binds (one bytes) (one' (bytes ++ more)) (λ key. one key.1 >>= λ value. pairs_at one n value.1 >>= λ others. Ok (pair key.0 value.0 others.0, others.1)) (λ key. one' key.1 >>= λ value. pairs_at one' n value.1 >>= λ others. Ok (pair key.0 value.0 others.0, others.1)) (h bytes)
      (λ x. binds (one x.1) (one' (x.1 ++ more)) (λ value. pairs_at one n value.1 >>= λ others. Ok (pair x.0 value.0 others.0, others.1)) (λ value. pairs_at one' n value.1 >>= λ others. Ok (pair x.0 value.0 others.0, others.1)) (h x.1)
      (λ y. binds (pairs_at one n y.1) (pairs_at one' n (y.1 ++ more)) (λ others. Ok (pair x.0 y.0 others.0, others.1)) (λ others. Ok (pair x.0 y.0 others.0, others.1)) (pairs_go one one' h n y.1) (λ z going. refl)))

  array_goes : (i i' : Inner) → AlikeInner i i' → (n : ℕ) (bytes : List ℕ) → Goes (array_at i n bytes) (array_at i' n (bytes ++ more)) more
  unfolding array_at
  array_goes None None h n bytes = λ going. refl
  array_goes None (Some one') h n bytes = λ going. absurd h
  array_goes (Some one) None h n bytes = λ going. absurd h
  array_goes (Some one) (Some one') h n bytes = binds (items_at one n bytes) (items_at one' n (bytes ++ more)) (λ ds. Ok (array ds.0, ds.1)) (λ ds. Ok (array ds.0, ds.1)) (items_go one one' h n bytes) (λ x going. refl)

  map_goes : (i i' : Inner) → AlikeInner i i' → (n : ℕ) (bytes : List ℕ) → Goes (map_at i n bytes) (map_at i' n (bytes ++ more)) more
  unfolding map_at
  map_goes None None h n bytes = λ going. refl
  map_goes None (Some one') h n bytes = λ going. absurd h
  map_goes (Some one) None h n bytes = λ going. absurd h
  map_goes (Some one) (Some one') h n bytes = binds (pairs_at one n bytes) (pairs_at one' n (bytes ++ more)) (λ ps. Ok (dictionary ps.0, ps.1)) (λ ps. Ok (dictionary ps.0, ps.1)) (pairs_go one one' h n bytes) (λ x going. refl)

  body_goes : (at : ℕ) (i i' : Inner) → AlikeInner i i' → (kind : Kind) (n : ℕ) (bytes : List ℕ) → Goes (body_at at i kind n bytes) (body_at at i' kind n (bytes ++ more)) more
  body_goes at i i' h Str n bytes = text_goes at n bytes
  body_goes at i i' h Bin n bytes = binary_goes n bytes
  body_goes at i i' h Array n bytes = array_goes i i' h n bytes
  body_goes at i i' h Map n bytes = map_goes i i' h n bytes

  same_depth : (i i' : Inner) → AlikeInner i i' → (kind : Kind) → is_too_deep i' kind ≡ is_too_deep i kind
  same_depth None None h kind = refl
  same_depth None (Some one') h kind = absurd h
  same_depth (Some one) None h kind = absurd h
  same_depth (Some one) (Some one') h kind = refl

  sized_goes : (at : ℕ) (i i' : Inner) → AlikeInner i i' → (kind : Kind) (s : Size) (bytes : List ℕ) → Goes (sized_at at i kind s bytes) (sized_at at i' kind s (bytes ++ more)) more
  unfolding sized_at
  sized_goes at i i' h kind s bytes =
      rw (same_depth i i' h kind)
      (tests (is_too_deep i kind) (Err errors.Depth) (Err errors.Depth) (len_at s bytes >>= λ n. body_at at i kind n.0 n.1) (len_at s (bytes ++ more) >>= λ n. body_at at i' kind n.0 n.1) (λ going. refl)
      (binds (len_at s bytes) (len_at s (bytes ++ more)) (λ n. body_at at i kind n.0 n.1) (λ n. body_at at i' kind n.0 n.1) (len_goes s bytes) (λ n. body_goes at i i' h kind n.0 n.1)))

  formed_goes : (at : ℕ) (i i' : Inner) → AlikeInner i i' → (f : Form) (bytes : List ℕ) → Goes (formed_at at i f bytes) (formed_at at i' f (bytes ++ more)) more
  formed_goes at i i' h Nil bytes = λ going. refl
  formed_goes at i i' h (Truth b) bytes = λ going. refl
  formed_goes at i i' h (Small z) bytes = λ going. refl
  formed_goes at i i' h (Unsigned s) bytes = unsigned_goes s bytes
  formed_goes at i i' h (Signed s) bytes = signed_goes s bytes
  formed_goes at i i' h (Fixed kind n) bytes = body_goes at i i' h kind n bytes
  formed_goes at i i' h (Sized kind s) bytes = sized_goes at i i' h kind s bytes
  formed_goes at i i' h Float bytes = λ going. refl
  formed_goes at i i' h Ext bytes = λ going. refl
  formed_goes at i i' h Reserved bytes = λ going. refl

  first_goes : (total : ℕ) (i i' : Inner) → AlikeInner i i' → Alike (first_at total i) (first_at (total + length more) i')
  unfolding first_at
  first_goes total i i' h [] = λ going. absurd (going refl)
  first_goes total i i' h (b ∷ bytes) =
      let place : (total + length more) - length ((b ∷ bytes) ++ more) ≡ total - length (b ∷ bytes) = omega (arith, length-append (b ∷ bytes) more) in
      rw place (formed_goes (total - length (b ∷ bytes)) i i' h (form b) bytes)

  inner_goes : (total d : ℕ) → AlikeInner (inner total d) (inner (total + length more) d)
  unfolding inner
  inner_goes total zero = tt
  inner_goes total (suc d) = first_goes total (inner total d) (inner (total + length more) d) (inner_goes total d)

  value_goes : (total d : ℕ) → Alike (value_at total d) (value_at (total + length more) d)
  unfolding value_at
  value_goes total d = first_goes total (inner total d) (inner (total + length more) d) (inner_goes total d)

  counted_goes : (r r' : Read Data) (n : ℕ) → Goes r r' more → (counted n r ≡ Err errors.Short → ⊥) → counted (n + length more) r' ≡ counted n r
  counted_goes (Ok x) r' n h going =
      let k : (n + length more) - length (x.1 ++ more) ≡ n - length x.1 = omega (arith, length-append x.1 more) in
      rw (h (λ e. absurd cc), k) refl
  counted_goes (Err e) r' n h going = rw (h (λ same. going (ap (λ (d : MpError). Err d) (err_is e errors.Short same)))) refl

  pub outcome_goes : (bytes : List ℕ) → (outcome bytes ≡ Err errors.Short → ⊥) → outcome (bytes ++ more) ≡ outcome bytes
  unfolding outcome
  outcome_goes bytes going =
      rw (length-append bytes more) (counted_goes (value_at (length bytes) max_depth bytes) (value_at (length bytes + length more) max_depth (bytes ++ more)) (length bytes) (value_goes (length bytes) max_depth bytes) going)
