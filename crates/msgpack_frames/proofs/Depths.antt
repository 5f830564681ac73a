-- Reading, a level at a time.
use Rattle.std.proofs.Common.{◌≡◌, ℕ, zero, suc, ◌-◌, ◌<◌, List, [], ◌∷◌, length, get_or, take, drop, Some, None, Result, Ok, Err, eqb, refl, sym, ap, arith}
use Rattle.std.proofs.lemmas.List.{take_rest}
use Rattle.std.proofs.Math.Dec.{eqb-suc-zero}
use Rattle.msgpack_frames.specs.declared.error.MpError.{MpError}
use Rattle.msgpack_frames.specs.declared.error.MpError.TheVariants as errors
use Rattle.msgpack_frames.specs.declared.form.Kind.TheVariants.{Array, Map}
use Rattle.msgpack_frames.specs.Data.{array, dictionary, Items, Pairs}
use Rattle.msgpack_frames.specs.Forms.{form}
use Rattle.msgpack_frames.specs.Reading.{◌>>=◌, Fails, items_at, pairs_at, array_at, map_at, is_too_deep, first_at, formed_at, inner, value_at}

pub inner-none : (total d : ℕ) → d ≡ 0 → inner total d ≡ None
unfolding inner
inner-none total zero e = refl
inner-none total (suc d) e = absurd (omega arith)

pub inner-some : (total d : ℕ) → 0 < d → inner total d ≡ Some (value_at total (d - 1))
unfolding inner value_at
inner-some total zero lt = absurd (omega arith)
inner-some total (suc d) lt = let e : suc d - 1 ≡ d = omega arith in rw e refl

pub array_beyond : (total d : ℕ) → eqb d 0 ≡ is_too_deep (inner total d) Array
unfolding inner
array_beyond total zero = refl
array_beyond total (suc d) = eqb-suc-zero d

pub map_beyond : (total d : ℕ) → eqb d 0 ≡ is_too_deep (inner total d) Map
unfolding inner
map_beyond total zero = refl
map_beyond total (suc d) = eqb-suc-zero d

pub value_at-nil : (total d : ℕ) → value_at total d [] ≡ Err errors.Short
unfolding value_at first_at
value_at-nil total d = refl

pub value_at-cons : (total d b : ℕ) (bytes : List ℕ) → value_at total d (b ∷ bytes) ≡ formed_at (total - length (b ∷ bytes)) (inner total d) (form b) bytes
unfolding value_at first_at
value_at-cons total d b bytes = refl

pub value_at-front : (total d b : ℕ) (bytes rest : List ℕ) → bytes ≡ b ∷ rest → value_at total d bytes ≡ formed_at (total - length bytes) (inner total d) (form b) rest
value_at-front total d b bytes rest e = rw e (value_at-cons total d b rest)

pub front_and_rest : (bytes : List ℕ) → 0 < length bytes → bytes ≡ get_or bytes 0 0 ∷ take (length bytes - 1) (drop 1 bytes)
front_and_rest [] lt = absurd (omega arith)
front_and_rest (b ∷ bytes) lt = ap (λ (r : List ℕ). b ∷ r) (sym (take_rest (b ∷ bytes) 1))

-- what a step refuses, the whole refuses
pub bind_fails : {A B : Type 0} (e : MpError) (r : Result A MpError) (f : A → Result B MpError) → Fails e r → Fails e (r >>= f)
bind_fails errors.OutOfMemory r f h = tt
bind_fails e r f h = rw h refl

module _ (total d n : ℕ) (bytes : List ℕ) where
  pub array_too_deep : d ≡ 0 → array_at (inner total d) n bytes ≡ Err errors.Depth
  unfolding array_at
  array_too_deep e = rw (inner-none total d e) refl

  pub array_fails : (e : MpError) → 0 < d → Fails e (items_at (value_at total (d - 1)) n bytes) → Fails e (array_at (inner total d) n bytes)
  unfolding array_at
  array_fails e lt h = rw (inner-some total d lt) (bind_fails e (items_at (value_at total (d - 1)) n bytes) (λ ds. Ok (array ds.0, ds.1)) h)

  pub array_read : (ds : Items) (rest : List ℕ) → 0 < d → items_at (value_at total (d - 1)) n bytes ≡ Ok (ds, rest) → array_at (inner total d) n bytes ≡ Ok (array ds, rest)
  unfolding array_at
  array_read ds rest lt h = rw (inner-some total d lt, h) refl

  pub map_too_deep : d ≡ 0 → map_at (inner total d) n bytes ≡ Err errors.Depth
  unfolding map_at
  map_too_deep e = rw (inner-none total d e) refl

  pub map_fails : (e : MpError) → 0 < d → Fails e (pairs_at (value_at total (d - 1)) n bytes) → Fails e (map_at (inner total d) n bytes)
  unfolding map_at
  map_fails e lt h = rw (inner-some total d lt) (bind_fails e (pairs_at (value_at total (d - 1)) n bytes) (λ ps. Ok (dictionary ps.0, ps.1)) h)

  pub map_read : (ps : Pairs) (rest : List ℕ) → 0 < d → pairs_at (value_at total (d - 1)) n bytes ≡ Ok (ps, rest) → map_at (inner total d) n bytes ≡ Ok (dictionary ps, rest)
  unfolding map_at
  map_read ps rest lt h = rw (inner-some total d lt, h) refl
