-- How many elements are kept and paired, and that both make shapes.
use Rattle.std.proofs.Common.{◌≡◌, ℕ, zero, suc, ◌+◌, ◌*◌, ◌^◌, ◌<◌, ◌≤◌, cond, Bool, true, false, List, [], ◌∷◌, ◌++◌, length, map, get_or, ap, sym, subst, refl, ◌∙◌, arith}
use Rattle.std.specs.Prelude.{nat_eq, ◌||◌}
use Rattle.std.specs.List.{IsDistinct, list_any}
use Rattle.std.proofs.Math.Nat.{mul_comm, mul_left_comm}
use Rattle.std.proofs.lemmas.List.{get_or-map, length-map, get_or_default, length-append, get_or_append_left, get_or-append-add}
use Rattle.std.proofs.lemmas.Map.Steps.{length-le_from_distinct_below}
use Rattle.small_facts.proofs.Every.{unequal_to_each}
use Rattle.small_facts.proofs.Numbers.{product_turned, unequal_over, unequal_above, equal_plus_none, product_left, below_product_right}
use Rattle.nd_shape.specs.Shape.{elements, IsShape}
use Rattle.nd_grid.specs.Grid.{is_among, kept_shape}
use Rattle.block_kernels.specs.WellFormed.{AreAxes}
use Rattle.nd_grid.proofs.Woven.{among-contains}
use Rattle.block_kernels.proofs.Reducing.{factor-small}
use Rattle.block_kernels.proofs.Broadcasts.{elements-append}

axes-rest : (n x : ℕ) (xs : List ℕ) → AreAxes (x ∷ xs) n → AreAxes xs n
axes-rest n x xs a = record {
  inside = λ k d h. a.inside (suc k) d (omega arith);
  once = λ j k less h. a.once (suc j) (suc k) (omega arith) (omega arith);
}

distinct-axes : (n : ℕ) (xs : List ℕ) → AreAxes xs n → IsDistinct nat_eq xs
unfolding IsDistinct
distinct-axes n [] a = tt
distinct-axes n (x ∷ xs) a = (unequal_to_each x xs (λ c. a.once 0 (suc c.0) (omega arith) (omega (arith, c.1)) (sym (get_or_default xs c.0 0 x c.1 ∙ c.2))), distinct-axes n xs (axes-rest n x xs a))

below-all : (n : ℕ) (xs : List ℕ) → AreAxes xs n → (q : ℕ) → list_any (nat_eq q) xs ≡ true → q < n
below-all n xs a q h = let c = among-contains xs q h in omega (arith, a.inside c.0 q c.1, c.2)

-- an axis before the first is none of these
kept-above : (m a : ℕ) (ns axes : List ℕ) → a < m → kept_shape m ns (a ∷ axes) ≡ kept_shape m ns axes
kept-above m a [] axes h = refl
kept-above m a (n ∷ ns) axes h =
    ap (λ b. cond (b || is_among m axes) (kept_shape (suc m) ns (a ∷ axes)) (n ∷ kept_shape (suc m) ns (a ∷ axes))) (unequal_over m a h)
    ∙ ap (λ xs. cond (is_among m axes) xs (n ∷ xs)) (kept-above (suc m) a ns axes (omega arith))

-- one more axis takes its length out of what is kept
kept-one : (k a : ℕ) (ns axes : List ℕ) → a < length ns → is_among (k + a) axes ≡ false → get_or ns a 0 * elements (kept_shape k ns ((k + a) ∷ axes)) ≡ elements (kept_shape k ns axes)
kept-one k a [] axes h f = absurd (omega arith)
kept-one k zero (n ∷ ns) axes h f =
    let z : k + 0 ≡ k = omega arith in
    let gone : is_among k axes ≡ false = ap (λ m. is_among m axes) (sym z) ∙ f in
    ap (λ b. n * elements (cond (b || is_among k axes) (kept_shape (suc k) ns ((k + 0) ∷ axes)) (n ∷ kept_shape (suc k) ns ((k + 0) ∷ axes)))) (equal_plus_none k)
    ∙ ap (λ xs. n * elements xs) (kept-above (suc k) (k + 0) ns axes (omega arith))
    ∙ ap (λ b. elements (cond b (kept_shape (suc k) ns axes) (n ∷ kept_shape (suc k) ns axes))) (sym gone)
kept-one k (suc a) (n ∷ ns) axes h f =
    let s : k + suc a ≡ suc k + a = omega arith in
    let rest : get_or ns a 0 * elements (kept_shape (suc k) ns ((k + suc a) ∷ axes)) ≡ elements (kept_shape (suc k) ns axes) =
    subst (λ m. get_or ns a 0 * elements (kept_shape (suc k) ns (m ∷ axes)) ≡ elements (kept_shape (suc k) ns axes)) (sym s) (kept-one (suc k) a ns axes (omega arith) (ap (λ m. is_among m axes) (sym s) ∙ f)) in
    ap (λ b. get_or ns a 0 * elements (cond (b || is_among k axes) (kept_shape (suc k) ns ((k + suc a) ∷ axes)) (n ∷ kept_shape (suc k) ns ((k + suc a) ∷ axes)))) (unequal_above k a)
    ∙ by_case (is_among k axes) rest
  where
    by_case : (b : Bool) → get_or ns a 0 * elements (kept_shape (suc k) ns ((k + suc a) ∷ axes)) ≡ elements (kept_shape (suc k) ns axes)
        → get_or ns a 0 * elements (cond b (kept_shape (suc k) ns ((k + suc a) ∷ axes)) (n ∷ kept_shape (suc k) ns ((k + suc a) ∷ axes))) ≡ elements (cond b (kept_shape (suc k) ns axes) (n ∷ kept_shape (suc k) ns axes))
    by_case true e = e
    by_case false e = mul_left_comm (get_or ns a 0) n (elements (kept_shape (suc k) ns ((k + suc a) ∷ axes))) ∙ ap (λ x. n * x) e

kept-none : (k : ℕ) (ns : List ℕ) → kept_shape k ns [] ≡ ns
kept-none k [] = refl
kept-none k (n ∷ ns) = ap (λ xs. n ∷ xs) (kept-none (suc k) ns)

-- the first of a list of axes isn't there again
fresh : (n a : ℕ) (axes : List ℕ) → AreAxes (a ∷ axes) n → is_among a axes ≡ false
fresh n a axes h = by_case (is_among a axes) refl
  where
    by_case : (b : Bool) → is_among a axes ≡ b → is_among a axes ≡ false
    by_case false e = e
    by_case true e = let c = among-contains axes a e in absurd (h.once 0 (suc c.0) (omega arith) (omega (arith, c.1)) (sym (get_or_default axes c.0 0 a c.1 ∙ c.2)))

pub paired-parts : (ns axes : List ℕ) → AreAxes axes (length ns) → elements (kept_shape 0 ns axes) * elements (map (λ a. get_or ns a 0) axes) ≡ elements ns
paired-parts ns [] h = let one : elements (kept_shape 0 ns []) * 1 ≡ elements (kept_shape 0 ns []) = omega arith in one ∙ ap elements (kept-none 0 ns)
paired-parts ns (a ∷ axes) h =
    let z : 0 + a ≡ a = omega arith in
    let one : get_or ns a 0 * elements (kept_shape 0 ns (a ∷ axes)) ≡ elements (kept_shape 0 ns axes) =
    subst (λ m. get_or ns a 0 * elements (kept_shape 0 ns (m ∷ axes)) ≡ elements (kept_shape 0 ns axes)) z
    (kept-one 0 a ns axes (h.inside 0 0 (omega arith)) (ap (λ m. is_among m axes) z ∙ fresh (length ns) a axes h)) in
    product_turned (elements (kept_shape 0 ns (a ∷ axes))) (get_or ns a 0) (elements (map (λ m. get_or ns m 0) axes)) (elements (kept_shape 0 ns axes)) one ∙ paired-parts ns axes (axes-rest (length ns) a axes h)

-- where a shape has elements, its first and its last axes make shapes
pub first-shape : (ns ms shape : List ℕ) → ns ++ ms ≡ shape → IsShape shape → 0 < elements shape → IsShape ns
first-shape ns ms shape e s some =
    let size : elements ns * elements ms ≡ elements shape = sym (elements-append ns ms) ∙ ap elements e in
    let both : length ns + length ms ≡ length shape = sym (length-append ns ms) ∙ ap length e in
    let pm : 0 < elements ms = below_product_right (elements ns) (elements ms) 0 (subst (λ x. 0 < x) (sym size) some) in
    record {
      axes = omega (arith, s.axes);
      lengths = λ k d h. subst (λ x. x ≤ 2 ^ 31) (ap (λ xs. get_or xs k d) (sym e) ∙ get_or_append_left ns ms d k h) (s.lengths k d (omega arith));
      product = factor-small (elements ms) (elements ns) (2 ^ 31) pm (subst (λ x. x ≤ 2 ^ 31) (sym size ∙ mul_comm (elements ns) (elements ms)) s.product);
    }

pub last-shape : (ns ms shape : List ℕ) → ns ++ ms ≡ shape → IsShape shape → 0 < elements shape → IsShape ms
last-shape ns ms shape e s some =
    let size : elements ns * elements ms ≡ elements shape = sym (elements-append ns ms) ∙ ap elements e in
    let both : length ns + length ms ≡ length shape = sym (length-append ns ms) ∙ ap length e in
    let pn : 0 < elements ns = product_left (elements ns) (elements ms) (subst (λ x. 0 < x) (sym size) some) in
    record {
      axes = omega (arith, s.axes);
      lengths = λ k d h. subst (λ x. x ≤ 2 ^ 31) (ap (λ xs. get_or xs (length ns + k) d) (sym e) ∙ get_or-append-add ns ms k d) (s.lengths (length ns + k) d (omega arith));
      product = factor-small (elements ns) (elements ms) (2 ^ 31) pn (subst (λ x. x ≤ 2 ^ 31) (sym size) s.product);
    }

pub paired-shape : (ns axes ms shape : List ℕ) → IsShape ns → AreAxes axes (length ns) → kept_shape 0 ns axes ++ ms ≡ shape → 0 < elements shape → IsShape (map (λ a. get_or ns a 0) axes)
paired-shape ns axes ms shape s a e some =
    let size : elements (kept_shape 0 ns axes) * elements ms ≡ elements shape = sym (elements-append (kept_shape 0 ns axes) ms) ∙ ap elements e in
    let pk : 0 < elements (kept_shape 0 ns axes) = product_left (elements (kept_shape 0 ns axes)) (elements ms) (subst (λ x. 0 < x) (sym size) some) in
    let few : length axes ≤ length ns = length-le_from_distinct_below axes (length ns) (distinct-axes (length ns) axes a) (below-all (length ns) axes a) in
    record {
      axes = omega (arith, length-map axes (λ a. get_or ns a 0), s.axes);
      lengths = λ k d h.
          let inside : k < length axes = omega (arith, length-map axes (λ a. get_or ns a 0)) in
          subst (λ x. x ≤ 2 ^ 31) (sym (get_or-map (λ a. get_or ns a 0) axes k 0 d inside)) (s.lengths (get_or axes k 0) 0 (a.inside k 0 inside));
      product = factor-small (elements (kept_shape 0 ns axes)) (elements (map (λ a. get_or ns a 0) axes)) (2 ^ 31) pk (subst (λ x. x ≤ 2 ^ 31) (sym (paired-parts ns axes a)) s.product);
    }
