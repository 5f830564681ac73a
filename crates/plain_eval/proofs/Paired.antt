-- How many elements are kept and paired.
use Rattle.std.proofs.Common.{◌≡◌, ℕ, zero, suc, ◌+◌, ◌*◌, ◌^◌, ◌<◌, ◌≤◌, cond, Bool, true, false, List, [], ◌∷◌, ◌++◌, length, map, get_or, ap, sym, subst, refl, ◌∙◌, arith}
use Rattle.std.specs.Prelude.{◌||◌}
use Rattle.std.proofs.Math.Nat.{mul_assoc, mul_left_comm}
use Rattle.std.proofs.lemmas.List.{get_or-map, length-map, get_or_default}
use Rattle.std.proofs.lemmas.Map.Steps.{length-le_from_distinct_below}
use Rattle.small_facts.proofs.Numbers.{product_turned, unequal_over, unequal_above, equal_plus_none}
use Rattle.nd_shape.specs.declared.shape.ShapeLimit.{ShapeLimit}
use Rattle.nd_shape.specs.Shape.{elements, IsShape}
use Rattle.nd_shape.specs.Limits.{IsPassed}
use Rattle.nd_grid.specs.Grid.{is_among, kept_shape}
use Rattle.array_expr.specs.Axes.{AreAxes}
use Rattle.plain_eval.proofs.Fitting.{axes-rest, distinct-axes, below-all}
use Rattle.plain_eval.proofs.Products.{passed_none}
use Rattle.nd_grid.proofs.Woven.{among-contains}

-- an axis before the first is none of these
kept-above : (m a : ℕ) (ns axes : List ℕ) → a < m → kept_shape m ns (a ∷ axes) ≡ kept_shape m ns axes
kept-above m a [] axes h = refl
kept-above m a (n ∷ ns) axes h =
    ap (λ b. cond (b || is_among m axes) (kept_shape (suc m) ns (a ∷ axes)) (n ∷ kept_shape (suc m) ns (a ∷ axes))) (unequal_over m a h)
    ∙ ap (λ xs. cond (is_among m axes) xs (n ∷ xs)) (kept-above (suc m) a ns axes (omega arith))

-- one more axis takes its length out of what is kept
kept-one : (k a : ℕ) (ns axes : List ℕ) → a < length ns → is_among (k + a) axes ≡ false → get_or ns a 0 * elements (kept_shape k ns ((k + a) ∷ axes)) ≡ elements (kept_shape k ns axes)
kept-one k a [] axes h f = absurd (omega arith)
kept-one k zero (n ∷ ns) axes h f =
    let z : k + 0 ≡ k = omega arith in
    let gone : is_among k axes ≡ false = ap (λ m. is_among m axes) (sym z) ∙ f in
    ap (λ b. n * elements (cond (b || is_among k axes) (kept_shape (suc k) ns ((k + 0) ∷ axes)) (n ∷ kept_shape (suc k) ns ((k + 0) ∷ axes)))) (equal_plus_none k)
    ∙ ap (λ xs. n * elements xs) (kept-above (suc k) (k + 0) ns axes (omega arith))
    ∙ ap (λ b. elements (cond b (kept_shape (suc k) ns axes) (n ∷ kept_shape (suc k) ns axes))) (sym gone)
kept-one k (suc a) (n ∷ ns) axes h f =
    let s : k + suc a ≡ suc k + a = omega arith in
    let rest : get_or ns a 0 * elements (kept_shape (suc k) ns ((k + suc a) ∷ axes)) ≡ elements (kept_shape (suc k) ns axes) =
    subst (λ m. get_or ns a 0 * elements (kept_shape (suc k) ns (m ∷ axes)) ≡ elements (kept_shape (suc k) ns axes)) (sym s) (kept-one (suc k) a ns axes (omega arith) (ap (λ m. is_among m axes) (sym s) ∙ f)) in
    ap (λ b. get_or ns a 0 * elements (cond (b || is_among k axes) (kept_shape (suc k) ns ((k + suc a) ∷ axes)) (n ∷ kept_shape (suc k) ns ((k + suc a) ∷ axes)))) (unequal_above k a)
    ∙ by_case (is_among k axes) rest
  where
    by_case : (b : Bool) → get_or ns a 0 * elements (kept_shape (suc k) ns ((k + suc a) ∷ axes)) ≡ elements (kept_shape (suc k) ns axes)
        → get_or ns a 0 * elements (cond b (kept_shape (suc k) ns ((k + suc a) ∷ axes)) (n ∷ kept_shape (suc k) ns ((k + suc a) ∷ axes))) ≡ elements (cond b (kept_shape (suc k) ns axes) (n ∷ kept_shape (suc k) ns axes))
    by_case true e = e
    by_case false e = mul_left_comm (get_or ns a 0) n (elements (kept_shape (suc k) ns ((k + suc a) ∷ axes))) ∙ ap (λ x. n * x) e

pub kept-none : (k : ℕ) (ns : List ℕ) → kept_shape k ns [] ≡ ns
kept-none k [] = refl
kept-none k (n ∷ ns) = ap (λ xs. n ∷ xs) (kept-none (suc k) ns)

-- the first of a list of axes isn't there again
fresh : (n a : ℕ) (axes : List ℕ) → AreAxes n (a ∷ axes) → is_among a axes ≡ false
fresh n a axes h = by_case (is_among a axes) refl
  where
    by_case : (b : Bool) → is_among a axes ≡ b → is_among a axes ≡ false
    by_case false e = e
    by_case true e = let c = among-contains axes a e in absurd (h.distinct 0 (suc c.0) (omega arith) (omega (arith, c.1)) (sym (get_or_default axes c.0 0 a c.1 ∙ c.2)))

pub paired-parts : (ns axes : List ℕ) → AreAxes (length ns) axes → elements (kept_shape 0 ns axes) * elements (map (λ a. get_or ns a 0) axes) ≡ elements ns
paired-parts ns [] h = let one : elements (kept_shape 0 ns []) * 1 ≡ elements (kept_shape 0 ns []) = omega arith in one ∙ ap elements (kept-none 0 ns)
paired-parts ns (a ∷ axes) h =
    let z : 0 + a ≡ a = omega arith in
    let one : get_or ns a 0 * elements (kept_shape 0 ns (a ∷ axes)) ≡ elements (kept_shape 0 ns axes) =
    subst (λ m. get_or ns a 0 * elements (kept_shape 0 ns (m ∷ axes)) ≡ elements (kept_shape 0 ns axes)) z
    (kept-one 0 a ns axes (h.inside 0 (omega arith)) (ap (λ m. is_among m axes) z ∙ fresh (length ns) a axes h)) in
    product_turned (elements (kept_shape 0 ns (a ∷ axes))) (get_or ns a 0) (elements (map (λ m. get_or ns m 0) axes)) (elements (kept_shape 0 ns axes)) one ∙ paired-parts ns axes (axes-rest (length ns) a axes h)

pub paired_passed : (ns axes : List ℕ) (limit : ShapeLimit) → IsShape ns → AreAxes (length ns) axes → IsPassed limit (map (λ a. get_or ns a 0) axes) → elements (kept_shape 0 ns axes) ≡ 0
paired_passed ns axes limit s h p =
    let few : length axes ≤ length ns = length-le_from_distinct_below axes (length ns) (distinct-axes (length ns) axes h) (below-all (length ns) axes h) in
    passed_none ns (map (λ a. get_or ns a 0) axes) (elements (kept_shape 0 ns axes)) limit s (omega (arith, length-map axes (λ a. get_or ns a 0)))
    (λ k d b. let inside : k < length axes = omega (arith, length-map axes (λ a. get_or ns a 0)) in subst (λ x. x ≤ 2 ^ 31) (sym (get_or-map (λ a. get_or ns a 0) axes k 0 d inside)) (s.lengths (get_or axes k 0) 0 (h.inside k inside)))
    (paired-parts ns axes h) p

pub elements-append : (xs ys : List ℕ) → elements (xs ++ ys) ≡ elements xs * elements ys
elements-append [] ys = omega arith
elements-append (x ∷ xs) ys = ap (λ e. x * e) (elements-append xs ys) ∙ sym (mul_assoc x (elements xs) (elements ys))
