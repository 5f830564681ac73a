-- The places of a slice or a transpose along its last axis lie at equal distances.
use Rattle.std.proofs.Common.{◌≡◌, ℕ, zero, suc, ◌+◌, ◌-◌, ◌*◌, ◌<◌, ◌≤◌, cond, Bool, true, false, List, [], ◌∷◌, ◌++◌, length, map, take, drop, get_or, refl, ap, sym, subst, ◌∙◌, arith, ℤ, pos, negsuc, ◌+ℤ◌, ◌*ℤ◌, ◌≤ℤ◌}
use Rattle.std.specs.Prelude.{nat_eq, unsigned_abs}
use Rattle.std.specs.List.{position_or_len, range_with_len}
use Rattle.std.proofs.lemmas.Int.{ints}
use Rattle.nd_shape.specs.Shape.{elements}
use Rattle.nd_shape.specs.Index.{IsIn, place, index_at}
use Rattle.nd_shape.specs.Slice.{StepsFitAxis, position, coordinate}
use Rattle.nd_shape.specs.declared.slice.Steps.{Steps}
use Rattle.nd_shape.proofs.Places.{index_at-in}
use Rattle.nd_grid.specs.Grid.{is_among, SlicesFit, sliced_shape, sliced_from, turned}
use Rattle.block_kernels.specs.Rows.{row_count, row_length}
use Rattle.block_kernels.specs.Gathers.{IsSpot, IsRow, IsEven}
use Rattle.block_kernels.proofs.RunLemmas.{in-row}
use Rattle.block_kernels.proofs.Slopes.{last-index}

-- ---- numbers at equal distances

even-const : (n c : ℕ) → IsEven n (λ r. c)
even-const n c r h b = omega arith

even-id : (n : ℕ) → IsEven n (λ r. r)
even-id n r h b = omega arith

line : (f f0 f1 g g0 g1 c r : ℕ) → f + r * f0 ≡ f0 + r * f1 → g + r * g0 ≡ g0 + r * g1 → (f * c + g) + r * (f0 * c + g0) ≡ (f0 * c + g0) + r * (f1 * c + g1)
line f f0 f1 g g0 g1 c r ef eg =
    let m : (f + r * f0) * c ≡ (f0 + r * f1) * c = ap (λ k. k * c) ef in
    omega (arith, m, eg)

even-sum : (n c : ℕ) (f g : ℕ → ℕ) → IsEven n f → IsEven n g → IsEven n (λ r. f r * c + g r)
even-sum n c f g ef eg r h b = line (f r) (f 0) (f 1) (g r) (g 0) (g 1) c r (ef r h b) (eg r h b)

even-same : (n : ℕ) (f g : ℕ → ℕ) → ((r : ℕ) → r < n → f r ≡ g r) → IsEven n g → IsEven n f
even-same n f g e eg r h b =
    let h0 : 0 < n = omega arith in
    ap (λ x. x + r * f 0) (e r h) ∙ ap (λ x. g r + r * x) (e 0 h0) ∙ eg r h b ∙ ap (λ x. x + r * g 1) (sym (e 0 h0)) ∙ ap (λ x. f 0 + r * x) (sym (e 1 b))

-- ---- slices

coordinate-is : (z : ℤ) → pos 0 ≤ℤ z → pos (unsigned_abs z) ≡ z
coordinate-is (pos m) h = refl
coordinate-is (negsuc m) h = absurd (omega (arith, ints, h))

up-at : (c start k i : ℕ) → pos c ≡ pos start +ℤ (pos k *ℤ pos i) → c ≡ start + k * i
up-at c start k i e = omega (arith, ints, e)

down-at : (c start k i : ℕ) → pos c ≡ pos start +ℤ (negsuc k *ℤ pos i) → c + suc k * i ≡ start
down-at c start k i e = omega (arith, ints, e)

up-line : (cr c0 c1 start k r : ℕ) → cr ≡ start + k * r → c0 ≡ start + k * 0 → c1 ≡ start + k * 1 → cr + r * c0 ≡ c0 + r * c1
up-line cr c0 c1 start k r er e0 e1 =
    let m0 : r * c0 ≡ r * (start + k * 0) = ap (λ x. r * x) e0 in
    let m1 : r * c1 ≡ r * (start + k * 1) = ap (λ x. r * x) e1 in
    omega (arith, er, e0, m0, m1)

down-line : (cr c0 c1 start k r : ℕ) → cr + suc k * r ≡ start → c0 + suc k * 0 ≡ start → c1 + suc k * 1 ≡ start → cr + r * c0 ≡ c0 + r * c1
down-line cr c0 c1 start k r er e0 e1 =
    let m0 : r * (c0 + suc k * 0) ≡ r * start = ap (λ x. r * x) e0 in
    let m1 : r * (c1 + suc k * 1) ≡ r * start = ap (λ x. r * x) e1 in
    omega (arith, er, e0, m0, m1)

step-line : (step : ℤ) (cr c0 c1 start r : ℕ) → pos cr ≡ pos start +ℤ (step *ℤ pos r) → pos c0 ≡ pos start +ℤ (step *ℤ pos 0) → pos c1 ≡ pos start +ℤ (step *ℤ pos 1) → cr + r * c0 ≡ c0 + r * c1
step-line (pos k) cr c0 c1 start r er e0 e1 = up-line cr c0 c1 start k r (up-at cr start k r er) (up-at c0 start k 0 e0) (up-at c1 start k 1 e1)
step-line (negsuc k) cr c0 c1 start r er e0 e1 = down-line cr c0 c1 start k r (down-at cr start k r er) (down-at c0 start k 0 e0) (down-at c1 start k 1 e1)

even-coordinate : (n m : ℕ) (s : Steps) → StepsFitAxis s m → n ≤ s.count → IsEven n (coordinate s)
even-coordinate n m s f le r h b =
    let at : (i : ℕ) → i < n → pos (coordinate s i) ≡ position s i = λ i g. coordinate-is (position s i) (f.low i (omega arith)) in
    let h0 : 0 < n = omega arith in
    step-line s.step (coordinate s r) (coordinate s 0) (coordinate s 1) s.start r (at r h) (at 0 h0) (at 1 b)

none-in : (is : List ℕ) (r : ℕ) → IsIn [] (is ++ r ∷ []) → ⊥
none-in [] r h = h
none-in (i ∷ is) r h = h

-- one axis before the others
taken-axis : (n k m : ℕ) (s : Steps) (ss : List Steps) (ns d is : List ℕ) (gone : Bool) → StepsFitAxis s m
    → ((js : List ℕ) → ((r : ℕ) → r < n → IsIn (sliced_shape (suc k) ss d) (js ++ r ∷ [])) → IsEven n (λ r. place ns (sliced_from (suc k) ss d (js ++ r ∷ []))))
    → ((r : ℕ) → r < n → IsIn (cond gone (sliced_shape (suc k) ss d) (s.count ∷ sliced_shape (suc k) ss d)) (is ++ r ∷ []))
    → IsEven n (λ r. place (m ∷ ns) (cond gone (s.start ∷ sliced_from (suc k) ss d (is ++ r ∷ [])) (coordinate s (get_or (is ++ r ∷ []) 0 0) ∷ sliced_from (suc k) ss d (drop 1 (is ++ r ∷ [])))))
taken-axis n k m s ss ns d is true f rest inside = even-sum n (elements ns) (λ r. s.start) (λ r. place ns (sliced_from (suc k) ss d (is ++ r ∷ []))) (even-const n s.start) (rest is inside)
taken-axis n k m s ss ns d (i ∷ is) false f rest inside =
    even-sum n (elements ns) (λ r. coordinate s i) (λ r. place ns (sliced_from (suc k) ss d (is ++ r ∷ []))) (even-const n (coordinate s i)) (rest is (λ r h. (inside r h).1))
taken-axis n k m s ss ns d [] false f rest inside =
    even-sum n (elements ns) (coordinate s) (λ r. place ns (sliced_from (suc k) ss d [])) (even-coordinate n m s f (whole n (λ r h. (inside r h).0))) (even-const n _)
  where
    whole : (n : ℕ) → ((r : ℕ) → r < n → r < s.count) → n ≤ s.count
    whole zero h = omega arith
    whole (suc n) h = let b : n < s.count = h n (omega arith) in omega arith

taken-even : (n k : ℕ) (ss : List Steps) (ns d is : List ℕ) → SlicesFit k ss ns d → ((r : ℕ) → r < n → IsIn (sliced_shape k ss d) (is ++ r ∷ [])) → IsEven n (λ r. place ns (sliced_from k ss d (is ++ r ∷ [])))
taken-even n k [] [] d is f inside = λ r h b. absurd (none-in is r (inside r h))
taken-even n k [] (m ∷ ns) d is f inside = absurd f
taken-even n k (s ∷ ss) [] d is f inside = absurd f
taken-even n k (s ∷ ss) (m ∷ ns) d is f inside = taken-axis n k m s ss ns d is (is_among k d) f.0 (λ js. taken-even n (suc k) ss ns d js f.2) inside

-- ---- transposes

even-item : (n : ℕ) (is : List ℕ) (m : ℕ) → IsEven n (λ r. get_or (is ++ r ∷ []) m 0)
even-item n [] zero = even-id n
even-item n [] (suc m) = even-const n 0
even-item n (i ∷ is) zero = even-const n i
even-item n (i ∷ is) (suc m) = even-item n is m

turned-from : (n k : ℕ) (axes ns is : List ℕ) → IsEven n (λ r. place ns (map (λ a. get_or (is ++ r ∷ []) (position_or_len (nat_eq a) axes) 0) (range_with_len k (length ns))))
turned-from n k axes [] is = even-const n 0
turned-from n k axes (m ∷ ns) is =
    even-sum n (elements ns) (λ r. get_or (is ++ r ∷ []) (position_or_len (nat_eq k) axes) 0) (λ r. place ns (map (λ a. get_or (is ++ r ∷ []) (position_or_len (nat_eq a) axes) 0) (range_with_len (k + 1) (length ns))))
    (even-item n is (position_or_len (nat_eq k) axes)) (turned-from n (k + 1) axes ns is)

turned-even : (n : ℕ) (axes ns is : List ℕ) → length axes ≡ length ns → IsEven n (λ r. place ns (turned axes (is ++ r ∷ [])))
turned-even n axes ns is e = subst (λ m. IsEven n (λ r. place ns (map (λ a. get_or (is ++ r ∷ []) (position_or_len (nat_eq a) axes) 0) (range_with_len 0 m)))) (sym e) (turned-from n 0 axes ns is)

-- ---- rows

one-row : (k q : ℕ) (f : ℕ → ℕ) → IsEven (row_length [] k) f
one-row zero q f = λ r h b. absurd (omega arith)
one-row (suc k) q f = λ r h b. absurd (omega arith)

pub taken-row : (ss : List Steps) (ns d bs : List ℕ) (k q : ℕ) → SlicesFit 0 ss ns d → sliced_shape 0 ss d ≡ bs → k ≡ length bs - 1 → q < row_count bs k → IsEven (row_length bs k) (λ r. place ns (sliced_from 0 ss d (index_at bs (q * row_length bs k + r))))
taken-row ss ns d [] k q f e hk hq = one-row k q _
taken-row ss ns d (b ∷ bs) k q f e hk hq =
    even-same (row_length (b ∷ bs) k) _ (λ r. place ns (sliced_from 0 ss d (index_at (take k (b ∷ bs)) q ++ r ∷ [])))
    (λ r h. ap (λ i. place ns (sliced_from 0 ss d i)) (last-index (b ∷ bs) k q r (omega arith) hk hq h))
    (taken-even (row_length (b ∷ bs) k) 0 ss ns d (index_at (take k (b ∷ bs)) q) f (λ r h.
    subst (λ ms. IsIn ms (index_at (take k (b ∷ bs)) q ++ r ∷ [])) (sym e) (subst (IsIn (b ∷ bs)) (last-index (b ∷ bs) k q r (omega arith) hk hq h) (index_at-in (b ∷ bs) _ (in-row (b ∷ bs) k q r hq h)))))

pub turned-row : (axes ns bs : List ℕ) (k q : ℕ) → length axes ≡ length ns → k ≡ length bs - 1 → q < row_count bs k → IsEven (row_length bs k) (λ r. place ns (turned axes (index_at bs (q * row_length bs k + r))))
turned-row axes ns [] k q e hk hq = one-row k q _
turned-row axes ns (b ∷ bs) k q e hk hq =
    even-same (row_length (b ∷ bs) k) _ (λ r. place ns (turned axes (index_at (take k (b ∷ bs)) q ++ r ∷ [])))
    (λ r h. ap (λ i. place ns (turned axes i)) (last-index (b ∷ bs) k q r (omega arith) hk hq h))
    (turned-even (row_length (b ∷ bs) k) axes ns (index_at (take k (b ∷ bs)) q) e)

-- a row by its first place and its second
pub even-place : (n : ℕ) (f : ℕ → ℕ) (first second r : ℕ) → IsEven n f → r < n → first ≡ f 0 → (1 < n → second ≡ f 1) → IsSpot first second r (f r)
even-place n f first second zero e h a b = ap (λ x. x + 0 * first) (sym a) ∙ omega arith
even-place n f first second (suc r) e h a b =
    let two : 1 < n = omega arith in
    ap (λ x. f (suc r) + suc r * x) a ∙ e (suc r) h two ∙ ap (λ x. x + suc r * f 1) (sym a) ∙ ap (λ x. first + suc r * x) (sym (b two))

pub even-row : (n len : ℕ) (f : ℕ → ℕ) (first second : ℕ) → IsEven n f → first ≡ f 0 → (1 < n → second ≡ f 1) → ((r : ℕ) → r < n → f r < len) → IsRow len first second n
even-row n len f first second e a b below = record { place = f; below = below; spot = λ r h. even-place n f first second r e h a b }
