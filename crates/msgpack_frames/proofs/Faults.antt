-- The first limit that a value breaks, a level at a time.
use Rattle.std.proofs.Common.{◌≡◌, ℕ, zero, suc, ◌-◌, ◌<◌, ◌≤◌, max, ltb, List, [], ◌∷◌, ◌++◌, length, Option, None, Some, Result, refl, sym, ap, subst, ◌∙◌, append_assoc, arith}
use Rattle.std.proofs.lemmas.Bool.{cond_both, ltb-true, ltb-false}
use Rattle.msgpack_frames.specs.declared.error.MpError.{MpError}
use Rattle.msgpack_frames.specs.declared.error.MpError.TheVariants as errors
use Rattle.msgpack_frames.specs.declared.form.Kind.TheVariants.{Array as ArrayKind, Map as MapKind}
use Rattle.msgpack_frames.specs.declared.value.Value.{Value}
use Rattle.msgpack_frames.specs.Data.{Data, nil, boolean, integer, text, binary, array, dictionary, Items, no_items, item, Pairs, no_pairs, pair, items_len, pairs_len, depth, items_depth, pairs_depth, max_depth, max_len, IsShort, AreShort, PairsAreShort, IsWithin}
use Rattle.msgpack_frames.specs.Spelling.{head, spelling, items_spelling, pairs_spelling, first_fault, len_fault, fault_of, items_fault, pairs_fault, Names, Tells, IsFaultOf}
use Rattle.msgpack_frames.specs.View.{items_view, pairs_view}

pub items_len-view : (vs : List Value) → items_len (items_view vs) ≡ length vs
items_len-view [] = refl
items_len-view (v ∷ vs) = ap suc (items_len-view vs)

pub pairs_len-view : (ps : List (Value × Value)) → pairs_len (pairs_view ps) ≡ length ps
pairs_len-view [] = refl
pairs_len-view (p ∷ ps) = ap suc (pairs_len-view ps)

array_fault : (k : ℕ) (ds : Items) → 0 < k → fault_of k (array ds) ≡ first_fault (len_fault (items_len ds)) (items_fault (k - 1) ds)
array_fault zero ds lt = absurd (omega arith)
array_fault (suc k) ds lt = let e : suc k - 1 ≡ k = omega arith in rw e refl

map_fault : (k : ℕ) (ps : Pairs) → 0 < k → fault_of k (dictionary ps) ≡ first_fault (len_fault (pairs_len ps)) (pairs_fault (k - 1) ps)
map_fault zero ps lt = absurd (omega arith)
map_fault (suc k) ps lt = let e : suc k - 1 ≡ k = omega arith in rw e refl

-- what has already failed fails the whole
names_first : (e : MpError) (f g : Option MpError) → Names e f → Names e (first_fault f g)
names_first errors.OutOfMemory f g h = tt
names_first e f g h = rw h refl

module _ (k n : ℕ) (vs : List Value) (some : 0 < k) (len : n ≡ length vs) where
  pub array_begins : (e : MpError) → Names e (len_fault n) → Names e (fault_of k (array (items_view vs)))
  array_begins e h = rw (array_fault k (items_view vs) some, items_len-view vs, ← len) (names_first e (len_fault n) (items_fault (k - 1) (items_view vs)) h)

  pub array_goes : {X : Type 0} (r : Result X MpError) → len_fault n ≡ None → Tells r (items_fault (k - 1) (items_view vs)) → Tells r (fault_of k (array (items_view vs)))
  array_goes r none h = rw (array_fault k (items_view vs) some, items_len-view vs, ← len, none) h

  pub array_spelled : (old begun new : List ℕ) → begun ≡ old ++ head ArrayKind n → new ≡ begun ++ items_spelling (items_view vs) → new ≡ old ++ spelling (array (items_view vs))
  array_spelled old begun new b e = e ∙ ap (λ (t : List ℕ). t ++ items_spelling (items_view vs)) (b ∙ ap (λ (m : ℕ). old ++ head ArrayKind m) (len ∙ sym (items_len-view vs))) ∙ append_assoc old (head ArrayKind (items_len (items_view vs))) (items_spelling (items_view vs))

module _ (k n : ℕ) (ps : List (Value × Value)) (some : 0 < k) (len : n ≡ length ps) where
  pub map_begins : (e : MpError) → Names e (len_fault n) → Names e (fault_of k (dictionary (pairs_view ps)))
  map_begins e h = rw (map_fault k (pairs_view ps) some, pairs_len-view ps, ← len) (names_first e (len_fault n) (pairs_fault (k - 1) (pairs_view ps)) h)

  pub map_goes : {X : Type 0} (r : Result X MpError) → len_fault n ≡ None → Tells r (pairs_fault (k - 1) (pairs_view ps)) → Tells r (fault_of k (dictionary (pairs_view ps)))
  map_goes r none h = rw (map_fault k (pairs_view ps) some, pairs_len-view ps, ← len, none) h

  pub map_spelled : (old begun new : List ℕ) → begun ≡ old ++ head MapKind n → new ≡ begun ++ pairs_spelling (pairs_view ps) → new ≡ old ++ spelling (dictionary (pairs_view ps))
  map_spelled old begun new b e = e ∙ ap (λ (t : List ℕ). t ++ pairs_spelling (pairs_view ps)) (b ∙ ap (λ (m : ℕ). old ++ head MapKind m) (len ∙ sym (pairs_len-view ps))) ∙ append_assoc old (head MapKind (pairs_len (pairs_view ps))) (pairs_spelling (pairs_view ps))

-- ---- what a fault means

-- with shallow for what keeps the limit of depth, deep for what breaks it, and short for what keeps the limit of length
abbrev pub Means : Type 0 → Type 0 → Type 0 → Option MpError → Type 0
Means shallow deep short None = shallow × short
Means shallow deep short (Some errors.Depth) = deep
Means shallow deep short (Some errors.Limit) = short → ⊥
Means shallow deep short (Some errors.Short) = ⊥
Means shallow deep short (Some (errors.Float at)) = ⊥
Means shallow deep short (Some (errors.Ext at)) = ⊥
Means shallow deep short (Some (errors.Reserved at)) = ⊥
Means shallow deep short (Some (errors.NotUtf8 at)) = ⊥
Means shallow deep short (Some errors.OutOfMemory) = ⊥

-- a part, in a whole that is deep or long where the part is
means_within : (S S' D D' H H' : Type 0) (f : Option MpError) → (S → H → S' × H') → (D → D') → (H' → H) → Means S D H f → Means S' D' H' f
means_within S S' D D' H H' None keeps deep short m = keeps m.0 m.1
means_within S S' D D' H H' (Some errors.Depth) keeps deep short m = deep m
means_within S S' D D' H H' (Some errors.Limit) keeps deep short m = λ h. m (short h)
means_within S S' D D' H H' (Some errors.Short) keeps deep short m = m
means_within S S' D D' H H' (Some (errors.Float at)) keeps deep short m = m
means_within S S' D D' H H' (Some (errors.Ext at)) keeps deep short m = m
means_within S S' D D' H H' (Some (errors.Reserved at)) keeps deep short m = m
means_within S S' D D' H H' (Some (errors.NotUtf8 at)) keeps deep short m = m
means_within S S' D D' H H' (Some errors.OutOfMemory) keeps deep short m = m

-- two parts, the first one first
means_both : (SA SB S DA DB D HA HB H : Type 0) (f g : Option MpError) → (SA → SB → S) → (DA → D) → (DB → D) → (HA → HB → H) → (H → HA × HB)
    → Means SA DA HA f → Means SB DB HB g → Means S D H (first_fault f g)
means_both SA SB S DA DB D HA HB H None g shallow first second short parts m n = means_within SB S DB D HB H g (λ s h. (shallow m.0 s, short m.1 h)) second (λ h. (parts h).1) n
means_both SA SB S DA DB D HA HB H (Some errors.Depth) g shallow first second short parts m n = first m
means_both SA SB S DA DB D HA HB H (Some errors.Limit) g shallow first second short parts m n = λ h. m (parts h).0
means_both SA SB S DA DB D HA HB H (Some errors.Short) g shallow first second short parts m n = m
means_both SA SB S DA DB D HA HB H (Some (errors.Float at)) g shallow first second short parts m n = m
means_both SA SB S DA DB D HA HB H (Some (errors.Ext at)) g shallow first second short parts m n = m
means_both SA SB S DA DB D HA HB H (Some (errors.Reserved at)) g shallow first second short parts m n = m
means_both SA SB S DA DB D HA HB H (Some (errors.NotUtf8 at)) g shallow first second short parts m n = m
means_both SA SB S DA DB D HA HB H (Some errors.OutOfMemory) g shallow first second short parts m n = m

len_means : (n : ℕ) (deep : Type 0) → Means (Unit {0}) deep (n ≤ max_len) (len_fault n)
len_means n deep = cond_both (ltb max_len n) (Some errors.Limit) None (Means (Unit {0}) deep (n ≤ max_len)) (λ e. λ h. omega (arith, ltb-true max_len n e)) (λ e. (tt, ltb-false max_len n e))

plain_means : (k n : ℕ) → Means (0 ≤ k) (k < 0) (n ≤ max_len) (len_fault n)
plain_means k n = means_within (Unit {0}) (0 ≤ k) ⊥ (k < 0) (n ≤ max_len) (n ≤ max_len) (len_fault n) (λ s h. (omega arith, h)) (λ d. absurd d) (λ h. h) (len_means n ⊥)

mutual
  pub means : (k : ℕ) (d : Data) → Means (depth d ≤ k) (k < depth d) (IsShort d) (fault_of k d)
  means k nil = (omega arith, tt)
  means k (boolean b) = (omega arith, tt)
  means k (integer z) = (omega arith, tt)
  means k (text t) = plain_means k (length t)
  means k (binary t) = plain_means k (length t)
  means zero (array ds) = omega arith
  means (suc k) (array ds) =
      means_both (Unit {0}) (items_depth ds ≤ k) (suc (items_depth ds) ≤ suc k) ⊥ (k < items_depth ds) (suc k < suc (items_depth ds)) (items_len ds ≤ max_len) (AreShort ds) ((items_len ds ≤ max_len) × AreShort ds)
      (len_fault (items_len ds)) (items_fault k ds) (λ u s. omega arith) (λ d. absurd d) (λ d. omega arith) (λ n h. (n, h)) (λ h. (h.0, h.1)) (len_means (items_len ds) ⊥) (items_mean k ds)
  means zero (dictionary ps) = omega arith
  means (suc k) (dictionary ps) =
      means_both (Unit {0}) (pairs_depth ps ≤ k) (suc (pairs_depth ps) ≤ suc k) ⊥ (k < pairs_depth ps) (suc k < suc (pairs_depth ps)) (pairs_len ps ≤ max_len) (PairsAreShort ps) ((pairs_len ps ≤ max_len) × PairsAreShort ps)
      (len_fault (pairs_len ps)) (pairs_fault k ps) (λ u s. omega arith) (λ d. absurd d) (λ d. omega arith) (λ n h. (n, h)) (λ h. (h.0, h.1)) (len_means (pairs_len ps) ⊥) (pairs_mean k ps)

  items_mean : (k : ℕ) (ds : Items) → Means (items_depth ds ≤ k) (k < items_depth ds) (AreShort ds) (items_fault k ds)
  items_mean k no_items = (omega arith, tt)
  items_mean k (item d ds) =
      means_both (depth d ≤ k) (items_depth ds ≤ k) (items_depth (item d ds) ≤ k) (k < depth d) (k < items_depth ds) (k < items_depth (item d ds)) (IsShort d) (AreShort ds) (AreShort (item d ds))
      (fault_of k d) (items_fault k ds) (λ a b. omega arith) (λ a. omega arith) (λ a. omega arith) (λ a b. (a, b)) (λ h. (h.0, h.1)) (means k d) (items_mean k ds)

  pairs_mean : (k : ℕ) (ps : Pairs) → Means (pairs_depth ps ≤ k) (k < pairs_depth ps) (PairsAreShort ps) (pairs_fault k ps)
  pairs_mean k no_pairs = (omega arith, tt)
  pairs_mean k (pair key v ps) =
      means_both (depth key ≤ k) (max (depth v) (pairs_depth ps) ≤ k) (pairs_depth (pair key v ps) ≤ k) (k < depth key) (k < max (depth v) (pairs_depth ps)) (k < pairs_depth (pair key v ps)) (IsShort key) (IsShort v × PairsAreShort ps) (PairsAreShort (pair key v ps))
      (fault_of k key) (first_fault (fault_of k v) (pairs_fault k ps)) (λ a b. omega arith) (λ a. omega arith) (λ a. omega arith) (λ a b. (a, b.0, b.1)) (λ h. (h.0, (h.1, h.2))) (means k key)
      (means_both (depth v ≤ k) (pairs_depth ps ≤ k) (max (depth v) (pairs_depth ps) ≤ k) (k < depth v) (k < pairs_depth ps) (k < max (depth v) (pairs_depth ps)) (IsShort v) (PairsAreShort ps) (IsShort v × PairsAreShort ps)
      (fault_of k v) (pairs_fault k ps) (λ a b. omega arith) (λ a. omega arith) (λ a. omega arith) (λ a b. (a, b)) (λ h. (h.0, h.1)) (means k v) (pairs_mean k ps))

pub no_fault : (d : Data) → fault_of max_depth d ≡ None → IsWithin d
no_fault d e = let m = subst (Means (depth d ≤ max_depth) (max_depth < depth d) (IsShort d)) e (means max_depth d) in record { shallow = m.0; short = m.1 }

pub is_fault : (d : Data) (e : MpError) → Names e (fault_of max_depth d) → IsFaultOf d e
is_fault d errors.OutOfMemory h = tt
is_fault d errors.Depth h = (subst (Means (depth d ≤ max_depth) (max_depth < depth d) (IsShort d)) h (means max_depth d), h)
is_fault d errors.Limit h = (subst (Means (depth d ≤ max_depth) (max_depth < depth d) (IsShort d)) h (means max_depth d), h)
is_fault d errors.Short h = subst (Means (depth d ≤ max_depth) (max_depth < depth d) (IsShort d)) h (means max_depth d)
is_fault d (errors.Float at) h = subst (Means (depth d ≤ max_depth) (max_depth < depth d) (IsShort d)) h (means max_depth d)
is_fault d (errors.Ext at) h = subst (Means (depth d ≤ max_depth) (max_depth < depth d) (IsShort d)) h (means max_depth d)
is_fault d (errors.Reserved at) h = subst (Means (depth d ≤ max_depth) (max_depth < depth d) (IsShort d)) h (means max_depth d)
is_fault d (errors.NotUtf8 at) h = subst (Means (depth d ≤ max_depth) (max_depth < depth d) (IsShort d)) h (means max_depth d)
