-- What a formula makes at an index is the same over arrays that agree on what the element uses.
use Rattle.std.proofs.Common.{◌≡◌, ℕ, suc, ◌+◌, ◌-◌, ◌<◌, ◌≤◌, List, [], ◌∷◌, ◌++◌, length, get_or, set, take, drop, map, cond, Bool, true, false, refl, ap, sym, ◌∙◌, arith, inl, inr, ◌⊎◌, Option, ℤ}
use Rattle.std.specs.Prelude.{nat_lt, nat_eq}
use Rattle.std.specs.List.{range_with_len, position_or_len}
use Rattle.std.proofs.lemmas.List.{get_or-set_same, set-set, set-get_or, length-set}
use Rattle.std.proofs.Math.Nat.{sub-zero}
use Rattle.std.proofs.lemmas.Bool.{ltb-true, ltb-false}
use Rattle.small_facts.proofs.Ranges.{map_range_same}
use Rattle.nd_shape.specs.Shape.{elements}
use Rattle.nd_shape.specs.Index.{IsIn, index_at}
use Rattle.nd_shape.proofs.Places.{index_at-in}
use Rattle.nd_grid.specs.declared.operation.Binary.{Binary}
use Rattle.nd_grid.specs.declared.operation.Binary.TheVariants.{Mul}
use Rattle.nd_grid.specs.declared.operation.Fold.{Fold}
use Rattle.nd_grid.specs.declared.operation.Fold.TheVariants.{Sum}
use Rattle.nd_grid.specs.Operation.{combine, pick_all, folded}
use Rattle.nd_grid.specs.Grid.{Grid, under, is_among, kept_shape, folded_shape, merged, woven, at_along, reduced, contracted}
use Rattle.nd_grid.proofs.Merging.{merged-in}
use Rattle.array_expr.specs.Node.{CanContract, folded_axes}
use Rattle.plain_eval.proofs.Contracting.{left-in, right-in, left-kept, right-kept}
use Rattle.input_regions.specs.Uses.{IsAlong, IsInBranch, before_operand, kept_number}
use Rattle.nd_grid.proofs.Woven.{in-rest}

-- ---- broadcasting

pub under-same : (a b : Grid) (dims i : List ℕ) → a.shape ≡ dims → b.shape ≡ dims → a.at (under dims i) ≡ b.at (under dims i) → a.at (under a.shape i) ≡ b.at (under b.shape i)
under-same a b dims i sa sb h = ap (λ ns. a.at (under ns i)) sa ∙ h ∙ sym (ap (λ ns. b.at (under ns i)) sb)

pub pair-same : (op : Binary) (x y z w : Option ℤ) → x ≡ z → y ≡ w → combine op x y ≡ combine op z w
pair-same op x y z w e f = ap (λ v. combine op v y) e ∙ ap (combine op z) f

pub three-same : (x y z u v w : Option ℤ) → x ≡ u → y ≡ v → z ≡ w → pick_all x y z ≡ pick_all u v w
three-same x y z u v w e f g = ap (λ t. pick_all t y z) e ∙ ap (λ t. pick_all u t z) f ∙ ap (pick_all u v) g

-- ---- along folded axes

pub merged-kept : (k : ℕ) (ns axes is rs : List ℕ) → IsIn (kept_shape k ns axes) is → kept_shape k (merged k ns axes is rs) axes ≡ is
merged-kept k [] axes [] rs h = refl
merged-kept k [] axes (i ∷ is) rs h = absurd h
merged-kept k (n ∷ ns) axes is rs h = by_case (λ js qs g. merged-kept (suc k) ns axes js qs g) (is_among k axes) refl h
  where
    read : (b : Bool) (m : ℕ) (ms : List ℕ) → is_among k axes ≡ b → kept_shape k (m ∷ ms) axes ≡ cond b (kept_shape (suc k) ms axes) (m ∷ kept_shape (suc k) ms axes)
    read b m ms same = ap (λ x. cond x (kept_shape (suc k) ms axes) (m ∷ kept_shape (suc k) ms axes)) same

    whole : ((js qs : List ℕ) → IsIn (kept_shape (suc k) ns axes) js → kept_shape (suc k) (merged (suc k) ns axes js qs) axes ≡ js) → (is : List ℕ) → IsIn (n ∷ kept_shape (suc k) ns axes) is → get_or is 0 0 ∷ kept_shape (suc k) (merged (suc k) ns axes (drop 1 is) rs) axes ≡ is
    whole rest [] g = absurd g
    whole rest (i ∷ is) g = ap (λ js. i ∷ js) (rest is rs g.1)

    by_case : ((js qs : List ℕ) → IsIn (kept_shape (suc k) ns axes) js → kept_shape (suc k) (merged (suc k) ns axes js qs) axes ≡ js) → (b : Bool) → is_among k axes ≡ b → IsIn (cond b (kept_shape (suc k) ns axes) (n ∷ kept_shape (suc k) ns axes)) is
        → kept_shape k (cond b (get_or rs 0 0 ∷ merged (suc k) ns axes is (drop 1 rs)) (get_or is 0 0 ∷ merged (suc k) ns axes (drop 1 is) rs)) axes ≡ is
    by_case rest true same g = read true (get_or rs 0 0) (merged (suc k) ns axes is (drop 1 rs)) same ∙ rest is (drop 1 rs) g
    by_case rest false same g = read false (get_or is 0 0) (merged (suc k) ns axes (drop 1 is) rs) same ∙ whole rest is g

-- the fold along these axes of an array of this shape
fold_of : Fold → List ℕ → List ℕ → Grid → List ℕ → Option ℤ
fold_of fold dims axes g i = folded fold (map (λ p. g.at (merged 0 dims axes i (index_at (folded_shape 0 dims axes) p))) (range_with_len 0 (elements (folded_shape 0 dims axes))))

pub fold-same : (fold : Fold) (of : ℕ) (ax : Option (List ℕ)) (a b : Grid) (dims i : List ℕ) → a.shape ≡ dims → b.shape ≡ dims → IsIn (kept_shape 0 dims (folded_axes ax (length dims))) i
    → ((j : List ℕ) → IsAlong of dims (folded_axes ax (length dims)) i of j → a.at j ≡ b.at j) → (reduced fold (folded_axes ax (length a.shape)) a).at i ≡ (reduced fold (folded_axes ax (length b.shape)) b).at i
unfolding fold_of
fold-same fold of ax a b dims i sa sb inside h =
    let axes = folded_axes ax (length dims) in
    ap (λ ns. fold_of fold ns (folded_axes ax (length ns)) a i) sa
    ∙ ap (folded fold) (map_range_same (λ p. a.at (merged 0 dims axes i (index_at (folded_shape 0 dims axes) p))) (λ p. b.at (merged 0 dims axes i (index_at (folded_shape 0 dims axes) p))) (elements (folded_shape 0 dims axes)) (λ p c.
    h (merged 0 dims axes i (index_at (folded_shape 0 dims axes) p)) (record {
      operand = refl;
      inside = merged-in 0 dims axes i (index_at (folded_shape 0 dims axes) p) inside (index_at-in (folded_shape 0 dims axes) p c);
      same = merged-kept 0 dims axes i (index_at (folded_shape 0 dims axes) p) inside;
    })))
    ∙ sym (ap (λ ns. fold_of fold ns (folded_axes ax (length ns)) b i) sb)

-- ---- along paired axes

pub woven-kept : (k : ℕ) (ns axes is rs : List ℕ) → length (kept_shape k ns axes) ≤ length is → kept_shape k (woven k ns axes is rs) axes ≡ take (length (kept_shape k ns axes)) is
woven-kept k [] axes is rs h = refl
woven-kept k (n ∷ ns) axes is rs h = by_case (λ js g. woven-kept (suc k) ns axes js rs g) (is_among k axes) refl h
  where
    at : ℕ
    at = get_or rs (position_or_len (nat_eq k) axes) 0

    read : (b : Bool) (m : ℕ) (ms : List ℕ) → is_among k axes ≡ b → kept_shape k (m ∷ ms) axes ≡ cond b (kept_shape (suc k) ms axes) (m ∷ kept_shape (suc k) ms axes)
    read b m ms same = ap (λ x. cond x (kept_shape (suc k) ms axes) (m ∷ kept_shape (suc k) ms axes)) same

    whole : ((js : List ℕ) → length (kept_shape (suc k) ns axes) ≤ length js → kept_shape (suc k) (woven (suc k) ns axes js rs) axes ≡ take (length (kept_shape (suc k) ns axes)) js) → (is : List ℕ) → suc (length (kept_shape (suc k) ns axes)) ≤ length is
        → get_or is 0 0 ∷ kept_shape (suc k) (woven (suc k) ns axes (drop 1 is) rs) axes ≡ take (suc (length (kept_shape (suc k) ns axes))) is
    whole rest [] g = absurd (omega (arith, g))
    whole rest (i ∷ is) g = ap (λ js. i ∷ js) (rest is (omega (arith, g)))

    by_case : ((js : List ℕ) → length (kept_shape (suc k) ns axes) ≤ length js → kept_shape (suc k) (woven (suc k) ns axes js rs) axes ≡ take (length (kept_shape (suc k) ns axes)) js) → (b : Bool) → is_among k axes ≡ b
        → length (cond b (kept_shape (suc k) ns axes) (n ∷ kept_shape (suc k) ns axes)) ≤ length is
        → kept_shape k (cond b (get_or rs (position_or_len (nat_eq k) axes) 0 ∷ woven (suc k) ns axes is rs) (get_or is 0 0 ∷ woven (suc k) ns axes (drop 1 is) rs)) axes ≡ take (length (cond b (kept_shape (suc k) ns axes) (n ∷ kept_shape (suc k) ns axes))) is
    by_case rest true same g = read true (get_or rs (position_or_len (nat_eq k) axes) 0) (woven (suc k) ns axes is rs) same ∙ rest is g
    by_case rest false same g = read false (get_or is 0 0) (woven (suc k) ns axes (drop 1 is) rs) same ∙ whole rest is g

-- the product over paired axes of arrays of these shapes
product_of : List ℕ → List ℕ → List ℕ → List ℕ → Grid → Grid → List ℕ → Option ℤ
product_of ls ms left_axes right_axes g h i =
    folded Sum (map (λ p. combine Mul (g.at (woven 0 ls left_axes i (index_at (map (λ a. get_or ls a 0) left_axes) p))) (h.at (woven 0 ms right_axes (drop (length (kept_shape 0 ls left_axes)) i) (index_at (map (λ a. get_or ls a 0) left_axes) p))))
    (range_with_len 0 (elements (map (λ a. get_or ls a 0) left_axes))))

rest-taken : (ns is : List ℕ) → IsIn ns is → take (length ns) is ≡ is
rest-taken [] [] h = refl
rest-taken [] (i ∷ is) h = absurd h
rest-taken (n ∷ ns) [] h = absurd h
rest-taken (n ∷ ns) (i ∷ is) h = ap (λ js. i ∷ js) (rest-taken ns is h.1)

pub product-same : (left right : ℕ) (left_axes right_axes : List ℕ) (a b c d : Grid) (ls ms i : List ℕ) → a.shape ≡ ls → b.shape ≡ ls → c.shape ≡ ms → d.shape ≡ ms → CanContract ls ms left_axes right_axes
    → IsIn (kept_shape 0 ls left_axes ++ kept_shape 0 ms right_axes) i
    → ((j : List ℕ) → IsAlong left ls left_axes (take (kept_number ls left_axes) i) left j → a.at j ≡ b.at j) → ((j : List ℕ) → IsAlong right ms right_axes (drop (kept_number ls left_axes) i) right j → c.at j ≡ d.at j)
    → (contracted left_axes right_axes a c).at i ≡ (contracted left_axes right_axes b d).at i
unfolding product_of
product-same left right left_axes right_axes a b c d ls ms i sa sb sc sd can inside h k =
    let box = map (λ x. get_or ls x 0) left_axes in
    let rest = drop (kept_number ls left_axes) i in
    ap (λ ns. product_of ns c.shape left_axes right_axes a c i) sa ∙ ap (λ ns. product_of ls ns left_axes right_axes a c i) sc
    ∙ ap (folded Sum) (map_range_same
    (λ p. combine Mul (a.at (woven 0 ls left_axes i (index_at box p))) (c.at (woven 0 ms right_axes rest (index_at box p))))
    (λ p. combine Mul (b.at (woven 0 ls left_axes i (index_at box p))) (d.at (woven 0 ms right_axes rest (index_at box p)))) (elements box) (λ p e.
    let rs = index_at box p in
    let r : IsIn (map (λ x. get_or ls x 0) left_axes) (index_at (map (λ x. get_or ls x 0) left_axes) p) = index_at-in (map (λ x. get_or ls x 0) left_axes) p e in
    let back : IsIn (kept_shape 0 ms right_axes) (drop (kept_number ls left_axes) i) = in-rest (kept_shape 0 ls left_axes) (kept_shape 0 ms right_axes) i inside in
    pair-same Mul (a.at (woven 0 ls left_axes i rs)) (c.at (woven 0 ms right_axes rest rs)) (b.at (woven 0 ls left_axes i rs)) (d.at (woven 0 ms right_axes rest rs))
    (h (woven 0 ls left_axes i rs) (record {
      operand = refl;
      inside = left-in ls left_axes (kept_shape 0 ms right_axes) i rs inside r;
      same = woven-kept 0 ls left_axes i rs (left-kept (kept_shape 0 ls left_axes) (kept_shape 0 ms right_axes) i inside);
    }))
    (k (woven 0 ms right_axes rest rs) (record {
      operand = refl;
      inside = right-in ls ms left_axes right_axes (kept_shape 0 ls left_axes) i rs can inside r;
      same = woven-kept 0 ms right_axes rest rs (right-kept (kept_shape 0 ls left_axes) (kept_shape 0 ms right_axes) i inside) ∙ rest-taken (kept_shape 0 ms right_axes) (drop (kept_number ls left_axes) i) back;
    }))))
    ∙ sym (ap (λ ns. product_of ns d.shape left_axes right_axes b d i) sb ∙ ap (λ ns. product_of ls ns left_axes right_axes b d i) sd)

-- ---- concatenations

lt-cases : (m n : ℕ) → ((nat_lt m n ≡ true) × (m < n)) ⊎ ((nat_lt m n ≡ false) × (n ≤ m))
lt-cases m n = by (nat_lt m n) refl
  where
    by : (b : Bool) → nat_lt m n ≡ b → ((nat_lt m n ≡ true) × (m < n)) ⊎ ((nat_lt m n ≡ false) × (n ≤ m))
    by true e = inl (e, ltb-true m n e)
    by false e = inr (e, ltb-false m n e)

pub joined-same : (axis : ℕ) (shape : ℕ → List ℕ) (a b : ℕ → Grid) (of i : List ℕ) → ((k : ℕ) → (a k).shape ≡ shape k) → ((k : ℕ) → (b k).shape ≡ shape k) → axis < length i
    → ((branch k : ℕ) (j : List ℕ) → branch < length of → IsInBranch shape axis of branch i k j → (a k).at j ≡ (b k).at j) → at_along axis (map a of) i ≡ at_along axis (map b of) i
joined-same axis shape a b [] i sa sb there h = refl
joined-same axis shape a b (n ∷ of) i sa sb there h =
    ap (λ ns. cond (nat_lt (get_or i axis 0) (get_or ns axis 0)) ((a n).at i) (at_along axis (map a of) (set i axis (get_or i axis 0 - get_or ns axis 0)))) (sa n)
    ∙ by_case (joined-same axis shape a b of (set i axis (get_or i axis 0 - get_or (shape n) axis 0)) sa sb (omega (arith, there, length-set i axis (get_or i axis 0 - get_or (shape n) axis 0)))) (lt-cases (get_or i axis 0) (get_or (shape n) axis 0))
    ∙ sym (ap (λ ns. cond (nat_lt (get_or i axis 0) (get_or ns axis 0)) ((b n).at i) (at_along axis (map b of) (set i axis (get_or i axis 0 - get_or ns axis 0)))) (sb n))
  where
    here : get_or i axis 0 < get_or (shape n) axis 0 → (a n).at i ≡ (b n).at i
    here l = h 0 n i (omega arith) (record {
      operand = refl;
      low = omega arith;
      high = omega (arith, l);
      same = sym (ap (set i axis) (sub-zero (get_or i axis 0)) ∙ set-get_or i axis 0);
    })

    less_both : (x y z : ℕ) → x - y - z ≡ x - (y + z)
    less_both x y z = omega arith

    later : get_or (shape n) axis 0 ≤ get_or i axis 0 → (branch k : ℕ) (j : List ℕ) → branch < length of → IsInBranch shape axis of branch (set i axis (get_or i axis 0 - get_or (shape n) axis 0)) k j → (a k).at j ≡ (b k).at j
    later l branch k j c u =
        let at : get_or (set i axis (get_or i axis 0 - get_or (shape n) axis 0)) axis 0 ≡ get_or i axis 0 - get_or (shape n) axis 0 = get_or-set_same i axis (get_or i axis 0 - get_or (shape n) axis 0) 0 there in
        h (suc branch) k j (omega (arith, c)) (record {
          operand = u.operand;
          low = omega (arith, u.low, at, l);
          high = omega (arith, u.high, at, l);
          same = u.same ∙ set-set i axis (get_or i axis 0 - get_or (shape n) axis 0) (get_or (set i axis (get_or i axis 0 - get_or (shape n) axis 0)) axis 0 - before_operand shape axis of branch)
              ∙ ap (λ x. set i axis (x - before_operand shape axis of branch)) at ∙ ap (set i axis) (less_both (get_or i axis 0) (get_or (shape n) axis 0) (before_operand shape axis of branch));
        })

    by_case : (((branch k : ℕ) (j : List ℕ) → branch < length of → IsInBranch shape axis of branch (set i axis (get_or i axis 0 - get_or (shape n) axis 0)) k j → (a k).at j ≡ (b k).at j)
        → at_along axis (map a of) (set i axis (get_or i axis 0 - get_or (shape n) axis 0)) ≡ at_along axis (map b of) (set i axis (get_or i axis 0 - get_or (shape n) axis 0)))
        → ((nat_lt (get_or i axis 0) (get_or (shape n) axis 0) ≡ true) × (get_or i axis 0 < get_or (shape n) axis 0)) ⊎ ((nat_lt (get_or i axis 0) (get_or (shape n) axis 0) ≡ false) × (get_or (shape n) axis 0 ≤ get_or i axis 0))
        → cond (nat_lt (get_or i axis 0) (get_or (shape n) axis 0)) ((a n).at i) (at_along axis (map a of) (set i axis (get_or i axis 0 - get_or (shape n) axis 0)))
        ≡ cond (nat_lt (get_or i axis 0) (get_or (shape n) axis 0)) ((b n).at i) (at_along axis (map b of) (set i axis (get_or i axis 0 - get_or (shape n) axis 0)))
    by_case rest (inl l) =
        ap (λ x. cond x ((a n).at i) (at_along axis (map a of) (set i axis (get_or i axis 0 - get_or (shape n) axis 0)))) l.0 ∙ here l.1
        ∙ sym (ap (λ x. cond x ((b n).at i) (at_along axis (map b of) (set i axis (get_or i axis 0 - get_or (shape n) axis 0)))) l.0)
    by_case rest (inr l) =
        ap (λ x. cond x ((a n).at i) (at_along axis (map a of) (set i axis (get_or i axis 0 - get_or (shape n) axis 0)))) l.0 ∙ rest (later l.1)
        ∙ sym (ap (λ x. cond x ((b n).at i) (at_along axis (map b of) (set i axis (get_or i axis 0 - get_or (shape n) axis 0)))) l.0)
