-- Reading items and pairs one after the other, as a loop does.
use Rattle.std.proofs.Common.{◌≡◌, ℕ, suc, ◌-◌, ◌+◌, ◌≤◌, ◌<◌, List, [], ◌∷◌, ◌++◌, Ok, Err, refl, sym, ap, ◌∙◌, arith}
use Rattle.msgpack_frames.specs.declared.error.MpError.{MpError}
use Rattle.msgpack_frames.specs.declared.error.MpError.TheVariants as errors
use Rattle.msgpack_frames.specs.declared.value.Value.{Value}
use Rattle.msgpack_frames.specs.Data.{Data, Items, no_items, item, Pairs, no_pairs, pair}
use Rattle.msgpack_frames.specs.View.{view, items_view, pairs_view}
use Rattle.msgpack_frames.specs.Reading.{◌>>=◌, Fails, Read, items_at, pairs_at}

abbrev pub items_before : List Value → Items → Items
items_before [] rest = rest
items_before (v ∷ vs) rest = item (view v) (items_before vs rest)

abbrev pub pairs_before : List (Value × Value) → Pairs → Pairs
pairs_before [] rest = rest
pairs_before (p ∷ ps) rest = pair (view p.0) (view p.1) (pairs_before ps rest)

-- what was read before, and what is still read
abbrev pub items_after : List Value → Read Items → Read Items
items_after vs read = read >>= λ x. Ok (items_before vs x.0, x.1)

abbrev pub pairs_after : List (Value × Value) → Read Pairs → Read Pairs
pairs_after ps read = read >>= λ x. Ok (pairs_before ps x.0, x.1)

items_before-push : (vs : List Value) (v : Value) (rest : Items) → items_before vs (item (view v) rest) ≡ items_before (vs ++ v ∷ []) rest
items_before-push [] v rest = refl
items_before-push (w ∷ vs) v rest = ap (item (view w)) (items_before-push vs v rest)

pairs_before-push : (ps : List (Value × Value)) (p : Value × Value) (rest : Pairs) → pairs_before ps (pair (view p.0) (view p.1) rest) ≡ pairs_before (ps ++ p ∷ []) rest
pairs_before-push [] p rest = refl
pairs_before-push (q ∷ ps) p rest = ap (pair (view q.0) (view q.1)) (pairs_before-push ps p rest)

pub items_before-none : (vs : List Value) → items_before vs no_items ≡ items_view vs
items_before-none [] = refl
items_before-none (v ∷ vs) = ap (item (view v)) (items_before-none vs)

pub pairs_before-none : (ps : List (Value × Value)) → pairs_before ps no_pairs ≡ pairs_view ps
pairs_before-none [] = refl
pairs_before-none (p ∷ ps) = ap (pair (view p.0) (view p.1)) (pairs_before-none ps)

pub items_after-none : (read : Read Items) → items_after [] read ≡ read
items_after-none (Ok x) = refl
items_after-none (Err e) = refl

pub pairs_after-none : (read : Read Pairs) → pairs_after [] read ≡ read
pairs_after-none (Ok x) = refl
pairs_after-none (Err e) = refl

regroup : (vs : List Value) (v : Value) (read : Read Items) → items_after vs (read >>= λ x. Ok (item (view v) x.0, x.1)) ≡ items_after (vs ++ v ∷ []) read
regroup vs v (Ok x) = ap (λ (ds : Items). Ok (ds, x.1)) (items_before-push vs v x.0)
regroup vs v (Err e) = refl

regroup_pair : (ps : List (Value × Value)) (p : Value × Value) (read : Read Pairs) → pairs_after ps (read >>= λ x. Ok (pair (view p.0) (view p.1) x.0, x.1)) ≡ pairs_after (ps ++ p ∷ []) read
regroup_pair ps p (Ok x) = ap (λ (qs : Pairs). Ok (qs, x.1)) (pairs_before-push ps p x.0)
regroup_pair ps p (Err e) = refl

module _ (one : List ℕ → Read Data) (count i : ℕ) (bytes : List ℕ) where
  pub item_more : (vs : List Value) (v : Value) (after : List ℕ) (whole : Read Items) → i < count → one bytes ≡ Ok (view v, after)
      → items_after vs (items_at one (count - i) bytes) ≡ whole → items_after (vs ++ v ∷ []) (items_at one (count - (i + 1)) after) ≡ whole
  unfolding items_at
  item_more vs v after whole lt h so_far =
      let k : count - i ≡ suc (count - (i + 1)) = omega arith in
      let step : items_after vs (items_at one (count - i) bytes) ≡ items_after (vs ++ v ∷ []) (items_at one (count - (i + 1)) after) = rw (k, h) (regroup vs v (items_at one (count - (i + 1)) after)) in
      sym step ∙ so_far

  pub item_fails : (e : MpError) (vs : List Value) (whole : Read Items) → i < count → Fails e (one bytes) → items_after vs (items_at one (count - i) bytes) ≡ whole → Fails e whole
  unfolding items_at
  item_fails errors.OutOfMemory vs whole lt h so_far = tt
  item_fails e vs whole lt h so_far =
      let k : count - i ≡ suc (count - (i + 1)) = omega arith in
      let step : items_after vs (items_at one (count - i) bytes) ≡ Err e = rw (k, h) refl in
      sym so_far ∙ step

  pub items_done : (vs : List Value) (whole : Read Items) → count ≤ i → items_after vs (items_at one (count - i) bytes) ≡ whole → whole ≡ Ok (items_view vs, bytes)
  unfolding items_at
  items_done vs whole le so_far =
      let k : count - i ≡ 0 = omega arith in
      let step : items_after vs (items_at one (count - i) bytes) ≡ Ok (items_view vs, bytes) = rw k (ap (λ (ds : Items). Ok (ds, bytes)) (items_before-none vs)) in
      sym so_far ∙ step

  pub pair_more : (ps : List (Value × Value)) (p : Value × Value) (middle after : List ℕ) (whole : Read Pairs) → i < count → one bytes ≡ Ok (view p.0, middle) → one middle ≡ Ok (view p.1, after)
      → pairs_after ps (pairs_at one (count - i) bytes) ≡ whole → pairs_after (ps ++ p ∷ []) (pairs_at one (count - (i + 1)) after) ≡ whole
  unfolding pairs_at
  pair_more ps p middle after whole lt h g so_far =
      let k : count - i ≡ suc (count - (i + 1)) = omega arith in
      let step : pairs_after ps (pairs_at one (count - i) bytes) ≡ pairs_after (ps ++ p ∷ []) (pairs_at one (count - (i + 1)) after) = rw (k, h, g) (regroup_pair ps p (pairs_at one (count - (i + 1)) after)) in
      sym step ∙ so_far

  pub key_fails : (e : MpError) (ps : List (Value × Value)) (whole : Read Pairs) → i < count → Fails e (one bytes) → pairs_after ps (pairs_at one (count - i) bytes) ≡ whole → Fails e whole
  unfolding pairs_at
  key_fails errors.OutOfMemory ps whole lt h so_far = tt
  key_fails e ps whole lt h so_far =
      let k : count - i ≡ suc (count - (i + 1)) = omega arith in
      let step : pairs_after ps (pairs_at one (count - i) bytes) ≡ Err e = rw (k, h) refl in
      sym so_far ∙ step

  pub value_fails : (e : MpError) (key : Data) (middle : List ℕ) (ps : List (Value × Value)) (whole : Read Pairs) → i < count → one bytes ≡ Ok (key, middle) → Fails e (one middle)
      → pairs_after ps (pairs_at one (count - i) bytes) ≡ whole → Fails e whole
  unfolding pairs_at
  value_fails errors.OutOfMemory key middle ps whole lt g h so_far = tt
  value_fails e key middle ps whole lt g h so_far =
      let k : count - i ≡ suc (count - (i + 1)) = omega arith in
      let step : pairs_after ps (pairs_at one (count - i) bytes) ≡ Err e = rw (k, g, h) refl in
      sym so_far ∙ step

  pub pairs_done : (ps : List (Value × Value)) (whole : Read Pairs) → count ≤ i → pairs_after ps (pairs_at one (count - i) bytes) ≡ whole → whole ≡ Ok (pairs_view ps, bytes)
  unfolding pairs_at
  pairs_done ps whole le so_far =
      let k : count - i ≡ 0 = omega arith in
      let step : pairs_after ps (pairs_at one (count - i) bytes) ≡ Ok (pairs_view ps, bytes) = rw k (ap (λ (qs : Pairs). Ok (qs, bytes)) (pairs_before-none ps)) in
      sym so_far ∙ step
