-- Indexes of a product's operands lie in them.
use Rattle.std.proofs.Common.{◌≡◌, ℕ, ◌+◌, ◌<◌, ◌≤◌, true, List, ◌++◌, length, drop, map, get_or, ap, sym, subst, ◌∙◌, arith}
use Rattle.std.specs.Prelude.{nat_eq}
use Rattle.std.specs.List.{position_or_len}
use Rattle.std.proofs.lemmas.List.{length-map}
use Rattle.small_facts.proofs.Lists.{map_get_at}
use Rattle.nd_shape.specs.Index.{IsIn}
use Rattle.nd_shape.proofs.Places.{IsIn-length}
use Rattle.nd_shape.proofs.Axes.{IsIn-at}
use Rattle.nd_grid.specs.Grid.{is_among, kept_shape, woven}
use Rattle.nd_grid.proofs.Turning.{position-at}
use Rattle.array_expr.specs.Node.{CanContract}
use Rattle.plain_eval.proofs.Woven.{begins-front, begins-all, begins-length, woven-in}
use Rattle.nd_grid.proofs.Woven.{in-rest, among-contains, among-place}

rest-below : (ls axes rs : List ℕ) (p : ℕ) → p < length axes → IsIn (map (λ a. get_or ls a 0) axes) rs → get_or rs p 0 < get_or ls (get_or axes p 0) 0
rest-below ls axes rs p h i = subst (λ n. get_or rs p 0 < n) (map_get_at ls axes p h) (IsIn-at (map (λ a. get_or ls a 0) axes) rs p i (omega (arith, length-map axes (λ a. get_or ls a 0))))

left-rest : (ls axes rs : List ℕ) → IsIn (map (λ a. get_or ls a 0) axes) rs → (j : ℕ) → is_among j axes ≡ true → get_or rs (position_or_len (nat_eq j) axes) 0 < get_or ls j 0
left-rest ls axes rs i j m =
    subst (λ a. get_or rs (position_or_len (nat_eq j) axes) 0 < get_or ls a 0) (position-at axes j (among-contains axes j m)) (rest-below ls axes rs (position_or_len (nat_eq j) axes) (among-place axes j m) i)

right-rest : (ls ms left_axes right_axes rs : List ℕ) → CanContract ls ms left_axes right_axes → IsIn (map (λ a. get_or ls a 0) left_axes) rs → (j : ℕ) → is_among j right_axes ≡ true → get_or rs (position_or_len (nat_eq j) right_axes) 0 < get_or ms j 0
right-rest ls ms left_axes right_axes rs c i j m =
    let p : ℕ = position_or_len (nat_eq j) right_axes in
    let below : position_or_len (nat_eq j) right_axes < length left_axes = omega (arith, among-place right_axes j m, c.number) in
    subst (λ a. get_or rs (position_or_len (nat_eq j) right_axes) 0 < get_or ms a 0) (position-at right_axes j (among-contains right_axes j m))
    (subst (λ n. get_or rs (position_or_len (nat_eq j) right_axes) 0 < n) (c.pairs (position_or_len (nat_eq j) right_axes) below) (rest-below ls left_axes rs (position_or_len (nat_eq j) right_axes) below i))

pub left-in : (ls axes ms is rs : List ℕ) → IsIn (kept_shape 0 ls axes ++ ms) is → IsIn (map (λ a. get_or ls a 0) axes) rs → IsIn ls (woven 0 ls axes is rs)
left-in ls axes ms is rs h i =
    woven-in 0 ls axes is rs (begins-front (kept_shape 0 ls axes) ms is h) (λ j b m.
    let z : 0 + j ≡ j = omega arith in
    subst (λ k. get_or rs (position_or_len (nat_eq k) axes) 0 < get_or ls j 0) (sym z) (left-rest ls axes rs i j (ap (λ k. is_among k axes) (sym z) ∙ m)))

pub left-kept : (ns ms is : List ℕ) → IsIn (ns ++ ms) is → length ns ≤ length is
left-kept ns ms is h = begins-length ns is (begins-front ns ms is h)

pub right-kept : (ns ms is : List ℕ) → IsIn (ns ++ ms) is → length ms ≤ length (drop (length ns) is)
right-kept ns ms is h = let e = IsIn-length ms (drop (length ns) is) (in-rest ns ms is h) in omega (arith, e)

pub right-in : (ls ms left_axes right_axes ns is rs : List ℕ) → CanContract ls ms left_axes right_axes → IsIn (ns ++ kept_shape 0 ms right_axes) is → IsIn (map (λ a. get_or ls a 0) left_axes) rs → IsIn ms (woven 0 ms right_axes (drop (length ns) is) rs)
right-in ls ms left_axes right_axes ns is rs c h i =
    woven-in 0 ms right_axes (drop (length ns) is) rs (begins-all (kept_shape 0 ms right_axes) (drop (length ns) is) (in-rest ns (kept_shape 0 ms right_axes) is h)) (λ j b m.
    let z : 0 + j ≡ j = omega arith in
    subst (λ k. get_or rs (position_or_len (nat_eq k) right_axes) 0 < get_or ms j 0) (sym z) (right-rest ls ms left_axes right_axes rs c i j (ap (λ k. is_among k right_axes) (sym z) ∙ m)))
