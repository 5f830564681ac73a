-- Where the elements of a region are stored: rows, and the array's bounds.
use Rattle.std.proofs.Common.{◌≡◌, ◌≢◌, ℕ, zero, suc, ◌+◌, ◌*◌, ◌/◌, ◌%◌, ◌<◌, ◌≤◌, ◌^◌, List, [], ◌∷◌, ◌++◌, length, take, drop, set, get_or, refl, ap, sym, ◌∙◌, arith, subst}
use Rattle.std.proofs.lemmas.Nat.{div-add-mod', div_below, mod_below}
use Rattle.std.proofs.lemmas.List.{take_more, take_more_set, take_all, drop_more, drop-set-lt, length-take-le}
use Rattle.std.proofs.Common.{append_assoc}
use Rattle.std.proofs.Math.Nat.{mul-pos}
use Rattle.small_facts.proofs.Numbers.{product_left, factor_within, below_product_right}
use Rattle.nd_shape.specs.Shape.{elements, IsShape}
use Rattle.nd_shape.specs.Index.{IsIn, place, index_at}
use Rattle.nd_shape.specs.Region.{Box, IsPart, moved}
use Rattle.nd_shape.proofs.Places.{index_at-in, IsIn-length, elements-zero}
use Rattle.nd_rows.specs.Storage.{Walk, IsRow, spot, count_of}
use Rattle.nd_rows.proofs.Ends.{place-snoc, moved-snoc, index_at-snoc, length-moved}
use Rattle.nd_shape.proofs.Axes.{IsIn-at}
use Rattle.nd_shape.proofs.Elements.{elements-push}

abbrev pub walk : List ℕ → List ℕ → List ℕ → Walk
walk dims start lengths = record { dims = dims; region = record { start = start; lengths = lengths } }

-- ---- one more axis

spot-snoc : (D S L : List ℕ) (d s l p t : ℕ) → length S ≡ length D → length L ≡ length D → p < elements L → t < l →
    spot (walk (D ++ d ∷ []) (S ++ s ∷ []) (L ++ l ∷ [])) (p * l + t) ≡ spot (walk D S L) p * d + (s + t)
spot-snoc D S L d s l p t sl ll p_in t_in =
    let il : length (index_at L p) ≡ length L = IsIn-length L (index_at L p) (index_at-in L p p_in) in
    let ml : length (moved S (index_at L p)) ≡ length S = length-moved S (index_at L p) (il ∙ ll ∙ sym sl) in
    ap (λ i. place (D ++ d ∷ []) (moved (S ++ s ∷ []) i)) (index_at-snoc L l p t p_in t_in)
    ∙ ap (place (D ++ d ∷ [])) (moved-snoc S (index_at L p) s t (il ∙ ll ∙ sym sl))
    ∙ place-snoc D (moved S (index_at L p)) d (s + t) (ml ∙ sl)

row_within : (rows row k q : ℕ) → k < rows → q < row → k * row + q < rows * row
row_within zero row k q a b = absurd (omega arith)
row_within (suc rows) row zero q a b = omega arith
row_within (suc rows) row (suc k) q a b = let h : k * row + q < rows * row = row_within rows row k q (omega arith) b in omega (arith, h)

-- a whole axis makes the rows longer
row_full : (D S L : List ℕ) (d row : ℕ) → length S ≡ length D → length L ≡ length D → 0 < d → IsRow (walk D S L) row →
    IsRow (walk (D ++ d ∷ []) (S ++ 0 ∷ []) (L ++ d ∷ [])) (row * d)
row_full D S L d row sl ll some h =
    let w : elements L ≡ h.rows * row = h.whole in
    record {
      some = mul-pos h.some some;
      rows = h.rows;
      whole = elements-push L d ∙ ap (λ x. x * d) w ∙ omega arith;
      together = λ k r k_in r_in.
          let rd : r / d < row = div_below r d row some r_in in
          let rm : r % d < d = mod_below r d some in
          let re : r / d * d + r % d ≡ r = div-add-mod' r d in
          let inside : k * row + r / d < elements L = subst (λ x. k * row + r / d < x) (sym w) (row_within h.rows row k (r / d) k_in rd) in
          let start_in : k * row < elements L = omega arith in
          let a = spot-snoc D S L d 0 d (k * row + r / d) (r % d) sl ll inside rm in
          let b = spot-snoc D S L d 0 d (k * row) 0 sl ll start_in some in
          let e : spot (walk D S L) (k * row + r / d) ≡ spot (walk D S L) (k * row) + r / d = h.together k (r / d) k_in rd in
          let f = spot (walk (D ++ d ∷ []) (S ++ 0 ∷ []) (L ++ d ∷ [])) in
          let x : k * (row * d) + r ≡ (k * row + r / d) * d + r % d = omega (arith, re) in
          let y : k * (row * d) ≡ (k * row) * d + 0 = omega arith in
          ap f x ∙ a ∙ ap (λ v. v * d + (0 + r % d)) e ∙ spread (spot (walk D S L) (k * row)) (r / d) d (r % d) r re ∙ ap (λ v. v + r) (sym b ∙ ap f (sym y));
      longest = λ inside same.
          let f = spot (walk (D ++ d ∷ []) (S ++ 0 ∷ []) (L ++ d ∷ [])) in
          let few : row * d < elements L * d = subst (λ x. row * d < x) (elements-push L d) inside in
          let row_in : row < elements L = fewer row (elements L) d few in
          let a : f (row * d + 0) ≡ spot (walk D S L) row * d + (0 + 0) = spot-snoc D S L d 0 d row 0 sl ll row_in some in
          let b : f (0 * d + 0) ≡ spot (walk D S L) 0 * d + (0 + 0) = spot-snoc D S L d 0 d 0 0 sl ll (omega arith) some in
          let x : row * d + 0 ≡ row * d = omega arith in
          let y : 0 * d + 0 ≡ 0 = omega arith in
          let e : spot (walk D S L) row * d + (0 + 0) ≡ spot (walk D S L) 0 * d + (0 + 0) + row * d =
          sym a ∙ ap f x ∙ same ∙ ap (λ v. v + row * d) (ap f (sym y) ∙ b) in
          h.longest row_in (one_factor (spot (walk D S L) row) (spot (walk D S L) 0) row d some e);
    }
  where
    fewer : (a b d : ℕ) → a * d < b * d → a < b
    fewer a zero d h = absurd (omega (arith, h))
    fewer zero (suc b) d h = omega arith
    fewer (suc a) (suc b) d h = let r = fewer a b d (omega (arith, h)) in omega (arith, r)

    cancelled : (a b d : ℕ) → 0 < d → a * d ≡ b * d → a ≡ b
    cancelled zero zero d p e = refl
    cancelled zero (suc b) d p e = absurd (omega (arith, e))
    cancelled (suc a) zero d p e = absurd (omega (arith, e))
    cancelled (suc a) (suc b) d p e = ap (λ x. suc x) (cancelled a b d p (omega (arith, e)))

    sum_factor : (b r d : ℕ) → b * d + r * d ≡ (b + r) * d
    sum_factor zero r d = omega arith
    sum_factor (suc b) r d = let i = sum_factor b r d in omega (arith, i)

    one_factor : (a b r d : ℕ) → 0 < d → a * d + (0 + 0) ≡ b * d + (0 + 0) + r * d → a ≡ b + r
    one_factor a b r d p e = let s = sum_factor b r d in cancelled a (b + r) d p (omega (arith, e, s))

    spread : (v q d t r : ℕ) → q * d + t ≡ r → (v + q) * d + (0 + t) ≡ v * d + (0 + 0) + r
    spread v q d t r e = omega (arith, e)

-- another axis begins them anew
row_other : (D S L : List ℕ) (d s l : ℕ) → length S ≡ length D → length L ≡ length D → 0 < l → l < d →
    IsRow (walk (D ++ d ∷ []) (S ++ s ∷ []) (L ++ l ∷ [])) l
row_other D S L d s l sl ll some part = record {
  some = some;
  rows = elements L;
  whole = elements-push L l;
  together = λ k r k_in r_in.
      let f = spot (walk (D ++ d ∷ []) (S ++ s ∷ []) (L ++ l ∷ [])) in
      let a = spot-snoc D S L d s l k r sl ll k_in r_in in
      let b = spot-snoc D S L d s l k 0 sl ll k_in some in
      let y : k * l ≡ k * l + 0 = omega arith in
      a ∙ arranged (spot (walk D S L) k * d) s r ∙ ap (λ v. v + r) (sym b ∙ ap f (sym y));
  longest = λ inside same.
      let f = spot (walk (D ++ d ∷ []) (S ++ s ∷ []) (L ++ l ∷ [])) in
      let few : l < elements L * l = subst (λ x. l < x) (elements-push L l) inside in
      let more : 1 < elements L = several (elements L) l few in
      let a : f (1 * l + 0) ≡ spot (walk D S L) 1 * d + (s + 0) = spot-snoc D S L d s l 1 0 sl ll more some in
      let b : f (0 * l + 0) ≡ spot (walk D S L) 0 * d + (s + 0) = spot-snoc D S L d s l 0 0 sl ll (omega (arith, more)) some in
      let x : 1 * l + 0 ≡ l = omega arith in
      let y : 0 * l + 0 ≡ 0 = omega arith in
      let e : spot (walk D S L) 1 * d + (s + 0) ≡ spot (walk D S L) 0 * d + (s + 0) + l =
      sym a ∙ ap f x ∙ same ∙ ap (λ v. v + l) (ap f (sym y) ∙ b) in
      between (spot (walk D S L) 1) (spot (walk D S L) 0) d l some part (omega (arith, e));
}
  where
    several : (n l : ℕ) → l < n * l → 1 < n
    several zero l h = absurd (omega (arith, h))
    several (suc zero) l h = absurd (omega (arith, h))
    several (suc (suc n)) l h = omega arith

    between : (a b d l : ℕ) → 0 < l → l < d → a * d ≡ b * d + l → ⊥
    between zero b d l p q e = omega (arith, e)
    between (suc a) zero d l p q e = omega (arith, e)
    between (suc a) (suc b) d l p q e = between a b d l p q (omega (arith, e))

    arranged : (v s r : ℕ) → v + (s + r) ≡ v + (s + 0) + r
    arranged v s r = omega arith

pub row_none : IsRow (walk [] [] []) 1
row_none = record { some = omega arith; rows = 1; whole = refl; together = λ k r k_in r_in. omega arith; longest = λ inside same. omega (arith, inside) }

-- ---- along the axes, for loops

pub axis_positive : (ns : List ℕ) (k : ℕ) → k < length ns → 0 < elements ns → 0 < get_or ns k 0
axis_positive ns k h some = grind (arith, elements-zero ns k h)

pub elements-take : (ns : List ℕ) (k : ℕ) → 0 < elements ns → elements (take k ns) ≤ elements ns
elements-take ns zero some = omega arith
elements-take [] (suc k) some = omega arith
elements-take (n ∷ ns) (suc k) some =
    let p : 0 < elements ns = below_product_right n (elements ns) 0 some in
    times n (elements (take k ns)) (elements ns) (elements-take ns k p)
  where
    times : (n a b : ℕ) → a ≤ b → n * a ≤ n * b
    times zero a b h = omega arith
    times (suc n) a b h = let r = times n a b h in omega (arith, r)

-- what a loop over the axes knows of the first ones
abbrev pub walk_to : ℕ → List ℕ → List ℕ → List ℕ → Walk
walk_to k D S L = walk (take k D) (take k S) (take k L)

same_lengths : (D S : List ℕ) (k : ℕ) → k ≤ length D → length S ≡ length D → length (take k S) ≡ length (take k D)
same_lengths D S k h e = length-take-le k S (omega arith) ∙ sym (length-take-le k D h)

pub longer_row : (D S L : List ℕ) (k row : ℕ) → IsPart (record { start = S; lengths = L }) D → k < length D → 0 < elements L → get_or L k 0 ≡ get_or D k 0 → IsRow (walk_to k D S L) row → IsRow (walk_to (k + 1) D S L) (row * get_or D k 0)
longer_row D S L k row part h some full is_row =
    let sl : length S ≡ length D = part.starts in
    let ll : length L ≡ length D = part.lengths in
    let k_start : k < length S = omega arith in
    let k_lengths : k < length L = omega arith in
    let e : get_or S k 0 + get_or L k 0 ≤ get_or D k 0 = part.ends k h in
    let z : get_or S k 0 ≡ 0 = omega (arith, full) in
    let p : 0 < get_or D k 0 = subst (λ x. 0 < x) full (axis_positive L k k_lengths some) in
    let r = row_full (take k D) (take k S) (take k L) (get_or D k 0) row (same_lengths D S k (omega arith) sl) (same_lengths D L k (omega arith) ll) p is_row in
    rw (take_more D k 0 h, take_more S k 0 k_start, take_more L k 0 k_lengths, z, full) r

pub new_row : (D S L : List ℕ) (k : ℕ) → IsPart (record { start = S; lengths = L }) D → k < length D → 0 < elements L → get_or L k 0 ≢ get_or D k 0 → IsRow (walk_to (k + 1) D S L) (get_or L k 0)
new_row D S L k part h some other =
    let sl : length S ≡ length D = part.starts in
    let ll : length L ≡ length D = part.lengths in
    let k_start : k < length S = omega arith in
    let k_lengths : k < length L = omega arith in
    let e : get_or S k 0 + get_or L k 0 ≤ get_or D k 0 = part.ends k h in
    let less : get_or L k 0 < get_or D k 0 = omega (arith, e, other) in
    let r = row_other (take k D) (take k S) (take k L) (get_or D k 0) (get_or S k 0) (get_or L k 0) (same_lengths D S k (omega arith) sl) (same_lengths D L k (omega arith) ll) (axis_positive L k k_lengths some) less in
    rw (take_more D k 0 h, take_more S k 0 k_start, take_more L k 0 k_lengths) r

pub row_fits : (w : Walk) (row : ℕ) → 0 < count_of w → IsRow w row → row ≤ count_of w
row_fits w row some h = let e : count_of w ≡ h.rows * row = h.whole in subst (λ x. row ≤ x) (sym e) (factor_within h.rows row (subst (λ x. 0 < x) e some))

-- ---- bounds

pub moved_small : (box : Box) (dims is : List ℕ) → IsPart box dims → IsShape dims → IsIn box.lengths is → (k : ℕ) → k < length box.start → get_or box.start k 0 + get_or is k 0 < 2 ^ 64
moved_small box dims is part shape inside k h =
    let a : length box.start ≡ length dims = part.starts in
    let b : length box.lengths ≡ length dims = part.lengths in
    let k_dims : k < length dims = omega arith in
    let i : get_or is k 0 < get_or box.lengths k 0 = IsIn-at box.lengths is k inside (omega arith) in
    let e : get_or box.start k 0 + get_or box.lengths k 0 ≤ get_or dims k 0 = part.ends k k_dims in
    let l : get_or dims k 0 ≤ 2 ^ 31 = shape.lengths k 0 k_dims in
    omega arith

pub moved-in : (start lengths dims is : List ℕ) → IsPart (record { start = start; lengths = lengths }) dims → IsIn lengths is → IsIn dims (moved start is)
moved-in [] [] [] [] part h = tt
moved-in [] [] [] (i ∷ is) part h = absurd h
moved-in [] [] (d ∷ dims) is part h = let e : 0 ≡ length (d ∷ dims) = part.starts in absurd (omega arith)
moved-in [] (l ∷ ls) [] is part h = let e : length (l ∷ ls) ≡ 0 = part.lengths in absurd (omega arith)
moved-in [] (l ∷ ls) (d ∷ dims) is part h = let e : 0 ≡ length (d ∷ dims) = part.starts in absurd (omega arith)
moved-in (s ∷ ss) ls [] is part h = let e : length (s ∷ ss) ≡ 0 = part.starts in absurd (omega arith)
moved-in (s ∷ ss) [] (d ∷ dims) is part h = let e : 0 ≡ length (d ∷ dims) = part.lengths in absurd (omega arith)
moved-in (s ∷ ss) (l ∷ ls) (d ∷ dims) [] part h = absurd h
moved-in (s ∷ ss) (l ∷ ls) (d ∷ dims) (i ∷ is) part h =
    let e : s + l ≤ d = part.ends 0 (omega arith) in
    let a : length (s ∷ ss) ≡ length (d ∷ dims) = part.starts in
    let b : length (l ∷ ls) ≡ length (d ∷ dims) = part.lengths in
    let rest : IsPart (record { start = ss; lengths = ls }) dims = record { starts = omega arith; lengths = omega arith; ends = λ k k_in. part.ends (suc k) (omega arith) } in
    let i_in : i < l = h.0 in
    (omega arith, moved-in ss ls dims is rest h.1)

-- ---- moving an index in place

pub moved_step : (ss ix res : List ℕ) (k : ℕ) → k < length ss → k < length ix → take k ix ++ moved (drop k ss) (drop k ix) ≡ res →
    take (k + 1) (set ix k (get_or ix k 0 + get_or ss k 0)) ++ moved (drop (k + 1) ss) (drop (k + 1) (set ix k (get_or ix k 0 + get_or ss k 0))) ≡ res
moved_step ss ix res k hs hx e =
    let ds : drop k ss ≡ get_or ss k 0 ∷ drop (k + 1) ss = drop_more ss k 0 hs in
    let di : drop k ix ≡ get_or ix k 0 ∷ drop (k + 1) ix = drop_more ix k 0 hx in
    let v = get_or ix k 0 + get_or ss k 0 in
    let c : get_or ss k 0 + get_or ix k 0 ≡ v = omega arith in
    let e1 : take k ix ++ (v ∷ moved (drop (k + 1) ss) (drop (k + 1) ix)) ≡ res = rw (ds, di, c) at e in
    rw (drop-set-lt (k + 1) ix k v (omega arith), take_more_set ix k v hx, append_assoc) e1

pub longer_fits : (D S L : List ℕ) (k row : ℕ) → IsPart (record { start = S; lengths = L }) D → k < length D → 0 < elements L → get_or L k 0 ≡ get_or D k 0 → IsRow (walk_to k D S L) row → row * get_or D k 0 ≤ elements L
longer_fits D S L k row part h some full is_row =
    let r = longer_row D S L k row part h some full is_row in
    let t : elements (take (k + 1) L) ≤ elements L = elements-take L (k + 1) some in
    let p : 0 < elements (take (k + 1) L) = positive_take L (k + 1) some in
    let f : row * get_or D k 0 ≤ elements (take (k + 1) L) = row_fits (walk_to (k + 1) D S L) (row * get_or D k 0) p r in
    omega arith
  where
    positive_take : (ns : List ℕ) (k : ℕ) → 0 < elements ns → 0 < elements (take k ns)
    positive_take ns zero some = omega arith
    positive_take [] (suc k) some = omega arith
    positive_take (n ∷ ns) (suc k) some = times n (elements (take k ns)) (product_left n (elements ns) some) (positive_take ns k (below_product_right n (elements ns) 0 some))
      where
        times : (m n : ℕ) → 0 < m → 0 < n → 0 < m * n
        times zero n h p = absurd (omega arith)
        times (suc m) n h p = omega arith

pub all_axes : (D S L : List ℕ) (k row : ℕ) → IsPart (record { start = S; lengths = L }) D → k ≡ length D → IsRow (walk_to k D S L) row → IsRow (walk D S L) row
all_axes D S L k row part h is_row =
    let a : length S ≡ length D = part.starts in
    let b : length L ≡ length D = part.lengths in
    let r : IsRow (walk (take k D) (take k S) (take k L)) row = is_row in
    rw (take_all k D (omega arith), take_all k S (omega arith), take_all k L (omega arith)) at r
